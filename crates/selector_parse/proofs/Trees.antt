-- Selectors as the grammar sees them, by lists.
use Rattle.std.proofs.Common.{max, Vec, Global, ◌≡◌, ◌<◌, ◌≤◌, length, get_or, ℕ, List, [], ◌∷◌, ◌++◌, refl, ap, sym, ◌∙◌, map}
use Rattle.selector_parse.specs.declared.part.PartKind.{PartKind}
use Rattle.selector_parse.specs.declared.part.PartKind.TheVariants.{Blank, Comment, Combinator, Element, Id, Class, Attribute, PseudoClass, PseudoElement, Nesting}
use Rattle.selector_parse.specs.declared.part.Part.{Part}
use Rattle.selector_parse.specs.declared.part.Complex.{Complex}
use Rattle.selector_parse.specs.declared.part.Args.TheVariants.{Absent as NoArgs, Plain as PlainArgs, List as ListArgs}
use Rattle.selector_parse.specs.declared.part.Args.TheFolds.{the_lemmas}
use Rattle.selector_parse.specs.declared.part.Selectors.{Selectors}
use Rattle.selector_parse.specs.declared.part.Args.TheViews.{out-Part, out-Complex, out-Selectors, out-roll-Complex, roll-Complex, roll-Selectors}
use Rattle.selector_parse.specs.declared.part.Args.TheFolds.{fold_out-Part, fold_out-Complex, fold_out-Selectors}
use Rattle.selector_parse.specs.Tree.{Tree, none, comma, Arguments, absent, text, list, bare, made, in_turn, after_commas, args_step, complex_step, part_step, selectors_step, args_of, part_before, complex_before, tree_of}
use Rattle.selector_parse.specs.Row.{complex_parts, list_parts, followed}
use Rattle.selector_parse.specs.Normal.{normal_part, args_normal, complex_normal, part_normal, selectors_normal, normal_of_args, normal_of_part, normal_of_complex, all_of, joined}
use Rattle.std.proofs.lemmas.List.Recursion.{max_bounds, max_push}
use Rattle.selector_parse.specs.Worth.{deepest, args_depth, complex_depth, part_depth, selectors_depth, depth_of_part, depth_of_complex}

pub part_out : (p : Part) (rest : Tree) → part_before p rest ≡ made (out-Part p).kind (out-Part p).at (out-Part p).text (args_of (out-Part p).args) rest
part_out p rest = ap (λ f. f rest) (fold_out-Part Arguments (Tree → Tree) (Tree → Tree) Tree args_step complex_step part_step selectors_step p)

pub complex_out : (c : Complex) (rest : Tree) → complex_before c rest ≡ in_turn (map part_before (out-Complex c).parts.items) rest
complex_out c rest = ap (λ f. f rest) (fold_out-Complex Arguments (Tree → Tree) (Tree → Tree) Tree args_step complex_step part_step selectors_step c)

pub selectors_out : (s : Selectors) → tree_of s ≡ list_parts (out-Selectors s).list.items
selectors_out s = fold_out-Selectors Arguments (Tree → Tree) (Tree → Tree) Tree args_step complex_step part_step selectors_step s

bare-followed : (k : PartKind) (at : ℕ) (t : List ℕ) (q r : Tree) → followed (bare k at t q) r ≡ bare k at t (followed q r)
bare-followed Blank at t q r = refl
bare-followed Comment at t q r = refl
bare-followed Combinator at t q r = refl
bare-followed Element at t q r = refl
bare-followed Id at t q r = refl
bare-followed Class at t q r = refl
bare-followed Attribute at t q r = refl
bare-followed PseudoClass at t q r = refl
bare-followed PseudoElement at t q r = refl
bare-followed Nesting at t q r = refl

made-followed : (k : PartKind) (at : ℕ) (t : List ℕ) (a : Arguments) (q r : Tree) → followed (made k at t a q) r ≡ made k at t a (followed q r)
made-followed k at t absent q r = bare-followed k at t q r
made-followed k at t (text s) q r = refl
made-followed k at t (list inner) q r = refl

pub part-followed : (p : Part) (q r : Tree) → followed (part_before p q) r ≡ part_before p (followed q r)
part-followed p q r = ap (λ x. followed x r) (part_out p q) ∙ made-followed (out-Part p).kind (out-Part p).at (out-Part p).text (args_of (out-Part p).args) q r ∙ sym (part_out p (followed q r))

parts-followed : (ps : List Part) (q r : Tree) → followed (in_turn (map part_before ps) q) r ≡ in_turn (map part_before ps) (followed q r)
parts-followed [] q r = refl
parts-followed (p ∷ ps) q r = part-followed p (in_turn (map part_before ps) q) r ∙ ap (part_before p) (parts-followed ps q r)

parts-append : (ps qs : List Part) (r : Tree) → in_turn (map part_before (ps ++ qs)) r ≡ in_turn (map part_before ps) (in_turn (map part_before qs) r)
parts-append [] qs r = refl
parts-append (p ∷ ps) qs r = ap (part_before p) (parts-append ps qs r)

-- one part more
pub parts-push : (ps : List Part) (p : Part) → complex_parts (ps ++ p ∷ []) ≡ followed (complex_parts ps) (part_before p none)
parts-push ps p = parts-append ps (p ∷ []) none ∙ sym (parts-followed ps none (part_before p none))

pub complex-followed : (c : Complex) (q r : Tree) → followed (complex_before c q) r ≡ complex_before c (followed q r)
complex-followed c q r = ap (λ x. followed x r) (complex_out c q) ∙ parts-followed (out-Complex c).parts.items q r ∙ sym (complex_out c (followed q r))

-- one complex selector more
commas-push : (cs : List Complex) (c : Complex) → after_commas (map complex_before (cs ++ c ∷ [])) ≡ followed (after_commas (map complex_before cs)) (comma (complex_before c none))
commas-push [] c = refl
commas-push (d ∷ cs) c = ap comma (ap (complex_before d) (commas-push cs c) ∙ sym (complex-followed d (after_commas (map complex_before cs)) (comma (complex_before c none))))

pub list-push : (d : Complex) (cs : List Complex) (c : Complex) → list_parts ((d ∷ cs) ++ c ∷ []) ≡ followed (list_parts (d ∷ cs)) (comma (complex_before c none))
list-push d cs c = ap (complex_before d) (commas-push cs c) ∙ sym (complex-followed d (after_commas (map complex_before cs)) (comma (complex_before c none)))

-- the arguments of each kind
pub args_absent : args_of NoArgs ≡ absent
args_absent = search the_lemmas

pub args_plain : (t : List ℕ) → args_of (PlainArgs t) ≡ text t
args_plain t = search the_lemmas

pub args_list : (s : Selectors) → args_of (ListArgs s) ≡ list (tree_of s)
args_list s = search the_lemmas

pub tree_roll : (cs : Vec Complex Global) → tree_of (roll-Selectors (record { list = cs })) ≡ list_parts cs.items
tree_roll cs = search the_lemmas

pub complex_roll : (ps : Vec Part Global) → complex_before (roll-Complex (record { parts = ps })) none ≡ complex_parts ps.items
complex_roll ps = complex_out (roll-Complex (record { parts = ps })) none ∙ ap (λ c. in_turn (map part_before c.parts.items) none) (out-roll-Complex (record { parts = ps }))

-- how deep lists stand with one item more
pub deepest-push : {A : Type 0} (f : A → ℕ) (xs : List A) (x : A) → deepest (map f (xs ++ x ∷ [])) ≡ max (deepest (map f xs)) (f x)
deepest-push f xs x = max_push (λ xs. deepest (map f xs)) f refl (λ _ _. refl) xs x

pub deepest-nil : {A : Type 0} (f : A → ℕ) (xs : List A) → xs ≡ [] → deepest (map f xs) ≡ 0
deepest-nil f xs e = ap (λ xs. deepest (map f xs)) e

-- no item is deeper
pub deepest_item : {A : Type 0} (f : A → ℕ) (xs : List A) (k : ℕ) (d : A) → k < length xs → f (get_or xs k d) ≤ deepest (map f xs)
deepest_item f xs k d l = max_bounds (λ xs. deepest (map f xs)) f refl (λ _ _. refl) xs k d l

pub complex_depth_out : (c : Complex) → depth_of_complex c ≡ deepest (map depth_of_part (out-Complex c).parts.items)
complex_depth_out c = fold_out-Complex ℕ ℕ ℕ ℕ args_depth complex_depth part_depth selectors_depth c

pub complex_deep : (ps : Vec Part Global) → depth_of_complex (roll-Complex (record { parts = ps })) ≡ deepest (map depth_of_part ps.items)
complex_deep ps = search the_lemmas

-- normal forms by their layers
pub normal_out : (p : Part) → normal_of_part p ≡ normal_part (out-Part p).kind (out-Part p).text (normal_of_args (out-Part p).args)
normal_out p = fold_out-Part (List ℕ) (List ℕ) (List ℕ) (List ℕ) args_normal complex_normal part_normal selectors_normal p

pub normal_complex : (c : Complex) → normal_of_complex c ≡ all_of (map normal_of_part (out-Complex c).parts.items)
normal_complex c = fold_out-Complex (List ℕ) (List ℕ) (List ℕ) (List ℕ) args_normal complex_normal part_normal selectors_normal c

pub normal_plain : (t : List ℕ) → normal_of_args (PlainArgs t) ≡ 40 ∷ (t ++ 41 ∷ [])
normal_plain t = search the_lemmas

pub normal_list : (s : Selectors) → normal_of_args (ListArgs s) ≡ 40 ∷ (joined (map normal_of_complex (out-Selectors s).list.items) ++ 41 ∷ [])
normal_list s = search the_lemmas
