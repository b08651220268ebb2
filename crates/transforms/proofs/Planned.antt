-- Edit calls that aren't refused.
use Rattle.std.proofs.Common.{◌≡◌, ◌≢◌, ℕ, suc, ◌+◌, ◌<◌, List, [], ◌∷◌, ◌++◌, Bool, true, false, ◌||◌, length, Option, Some, None, Result, Ok, Err, refl, ap, sym, ◌∙◌, subst, arith, nat_eq, eq-eqb, remove}
use Rattle.std.specs.Prelude.{not, IsSome, if◌then◌else◌, MatchResult}
use Rattle.std.specs.List.{list_any, position_or_len}
use Rattle.std.specs.declared.alloc.AllocError.{AllocError}
use Rattle.std.proofs.lemmas.Bool.{lt-ltb, ne_eqb, true≢false, false≢true}
use Rattle.css_text.specs.declared.stop.Stop.{Stop}
use Rattle.css_text.specs.declared.stop.Stop.TheVariants.{Fault, Memory}
use Rattle.css_tree.specs.declared.node.Field.{Field}
use Rattle.css_tree.specs.Changes.{takes_field}
use Rattle.node_rows.specs.Nodes.{Node, text_of, parent_of, children_of, place_of, path, holds, unlinked}
use Rattle.node_rows.specs.Sound.{IsSound}
use Rattle.node_rows.specs.Marks.{mark}
use Rattle.node_rows.proofs.Climb.{rooted, outside, path-chain, path-step}
use Rattle.node_rows.proofs.Edits.{Relinked-writes, parent-inside}
use Rattle.node_store.specs.declared.fault.TreeFault.{TreeFault}
use Rattle.node_store.specs.declared.fault.TreeFault.TheVariants.{NoSuchNode, WrongKind, IsRoot, SameNode, Loose, Cycle}
use Rattle.node_store.specs.declared.item.Edit.{Edit}
use Rattle.node_store.specs.declared.item.Edit.TheVariants.{Set, Insert, Remove}
use Rattle.node_store.specs.Forest.{Forest, IsForest}
use Rattle.node_store.specs.Edits.{changes, is_loose, removed_from, apply_all}
use Rattle.node_store.proofs.Shapes.{marked-same}
use Rattle.edit_calls.specs.Plans.{plan, is_unknown, is_top, where_changing, setting, removing, without, beside, inserting_after}
use Rattle.edit_calls.specs.Answers.{Makes, Answers}
use Rattle.plugin_api.specs.Alone.{EditedAlone}
use Rattle.plugin_api.specs.Effect.{changing}
use Rattle.plugin_api.proofs.AloneLemmas.{alone_by, alone_unmade}
use Rattle.transforms.specs.Fronts.{MakesFront, IsUnrefused}

-- a call whose plan isn't refused
pub unrefused-plan : (p : Result (List Edit) TreeFault) (es : List Edit) (before after : Forest) (r : Result (Unit {0}) (Stop TreeFault)) → p ≡ Ok es → Answers p before after r → IsUnrefused r
unrefused-plan p es before after (Ok _) e a = tt
unrefused-plan p es before after (Err (Memory _)) e a = tt
unrefused-plan p es before after (Err (Fault f)) e a = absurd (let j : Ok es ≡ Err f = sym e ∙ a.0 in cc)

made_as : (p : Result (List Edit) TreeFault) (es fs : List Edit) (before after : Forest) → p ≡ Ok es → p ≡ Ok fs → Makes before after fs → EditedAlone before after es
made_as p es fs before after e g m = let same : fs ≡ es = (let j : Ok fs ≡ Ok es = sym g ∙ e in cc) in subst (EditedAlone before after) same (alone_by before after fs m.met m.made)

pub front : (p : Result (List Edit) TreeFault) (es : List Edit) (before after : Forest) (r : Result (Unit {0}) (Stop TreeFault)) (s : Result (Unit {0}) AllocError) → p ≡ Ok es → Answers p before after r
    → MatchResult s (λ x. r ≡ Ok x) (λ e. r ≡ Err (Memory e)) → MakesFront before after es s
front p es before after (Ok _) (Ok _) e a h = made_as p es a.0 before after e a.1 a.2
front p es before after (Ok _) (Err _) e a h = absurd cc
front p es before after (Err (Fault f)) s e a h = absurd (let j : Ok es ≡ Err f = sym e ∙ a.0 in cc)
front p es before after (Err (Memory d)) (Ok _) e a h = absurd cc
front p es before after (Err (Memory d)) (Err _) e a h = ([], es, refl, alone_unmade before after a.1)

-- a test that doesn't hold
skip : (b : Bool) (f : TreeFault) (rs : List (Bool × TreeFault)) (es : List Edit) → b ≡ false → plan ((b, f) ∷ rs) es ≡ plan rs es
skip true f rs es e = absurd (true≢false e)
skip false f rs es e = refl

known : (ns : List Node) (n : ℕ) → n < length ns → is_unknown ns n ≡ false
known ns n h = ap not (lt-ltb n (length ns) h)

pub some_of : (o : Option ℕ) → IsSome o → (p : ℕ) × (o ≡ Some p)
some_of None h = absurd (false≢true h)
some_of (Some p) h = (p, refl)

not_first : (ns : List Node) (n p : ℕ) → IsSound ns → parent_of ns n ≡ Some p → nat_eq n 0 ≡ false
not_first ns n p s e = ne_eqb n 0 (λ z. let j : Some p ≡ None = sym e ∙ (ap (parent_of ns) z ∙ s.root) in cc)

pub removing-plan : (f : Forest) (n : ℕ) → IsForest f → IsSome (parent_of f.nodes n) → removing f.nodes n ≡ Ok (Remove n ∷ [])
removing-plan f n k h =
    let ns : List Node = f.nodes in
    let es : List Edit = Remove n ∷ [] in
    let p = some_of (parent_of ns n) h in
    let r2 : List (Bool × TreeFault) = (is_top ns n, Loose) ∷ [] in
    let r1 : List (Bool × TreeFault) = (nat_eq n 0, IsRoot) ∷ r2 in
    skip (is_unknown ns n) NoSuchNode r1 es (known ns n (parent-inside ns n p.0 p.1))
    ∙ (skip (nat_eq n 0) IsRoot r2 es (not_first ns n p.0 k.sound p.1) ∙ skip (is_top ns n) Loose [] es (ap is_loose p.1))

changing-one : (ns : List Node) (e : Edit) (b : Bool) → changes ns e ≡ b → where_changing ns e ≡ changing ns (e ∷ [])
changing-one ns e true h = rw h refl
changing-one ns e false h = rw h refl

pub setting-plan : (ns : List Node) (n : ℕ) (field : Field) (t : List ℕ) → IsSome (parent_of ns n) → takes_field field (text_of ns n) ≡ true → setting ns n field t ≡ Ok (changing ns (Set field n t ∷ []))
setting-plan ns n field t h k =
    let e : Edit = Set field n t in
    let es : List Edit = where_changing ns e in
    let p = some_of (parent_of ns n) h in
    let r1 : List (Bool × TreeFault) = (not (takes_field field (text_of ns n)), WrongKind) ∷ [] in
    skip (is_unknown ns n) NoSuchNode r1 es (known ns n (parent-inside ns n p.0 p.1))
    ∙ (skip (not (takes_field field (text_of ns n))) WrongKind [] es (ap not k) ∙ ap Ok (changing-one ns e (changes ns e) refl))

-- no node stands above its own parent
pub above : (ns : List Node) (n p : ℕ) → IsSound ns → parent_of ns n ≡ Some p → holds ns n p ≡ false
above ns n p s e =
    let b : p < length ns = s.below n p e in
    let r = rooted ns s p b in
    ap (list_any (nat_eq n)) (path-chain ns s p b r) ∙ outside n p e r

pub apart : (ns : List Node) (n p : ℕ) → IsSound ns → parent_of ns n ≡ Some p → p ≢ n
apart ns n p s e z =
    let t : holds ns n n ≡ true = ap (list_any (nat_eq n)) (path-step ns s n p (parent-inside ns n p e) e) ∙ ap (λ b. b || list_any (nat_eq n) (path ns p)) (eq-eqb n n refl) in
    false≢true (sym (subst (λ m. holds ns n m ≡ false) z (above ns n p s e)) ∙ t)

-- the children of others stay where n is taken out
without-lists : (ns : List Node) (n p q : ℕ) → IsSound ns → parent_of ns n ≡ Some p → q ≢ p → children_of (without ns n) q ≡ children_of ns q
without-lists ns n p q s e d =
    let us : List Node = unlinked ns p (place_of ns p n) n in
    let writes = Relinked-writes ns p n (remove (children_of ns p) (place_of ns p n)) None (s.below n p e) (parent-inside ns n p e) in
    let es : Option ℕ → List Edit = λ o. if is_loose o then [] else Remove n ∷ [] in
    let taken : without ns n ≡ mark us p = ap (λ o. apply_all ns (es o)) e ∙ ap (removed_from ns n) e in
    ap (λ ms. children_of ms q) taken ∙ ((marked-same us p).links.lists q ∙ writes.list_other q d)

neither : (a b : Bool) → a ≡ false → b ≡ false → (a || b) ≡ false
neither a b g h = ap (λ x. x || b) g ∙ h

one_more : (k : ℕ) → k + 1 ≡ suc k
one_more k = omega arith

-- a child goes directly behind its parent
pub behind-plan : (f : Forest) (rule child p : ℕ) → IsForest f → parent_of f.nodes child ≡ Some rule → parent_of f.nodes rule ≡ Some p
    → inserting_after f.nodes rule child ≡ Ok (Remove child ∷ Insert child p (suc (place_of f.nodes p rule)) ∷ [])
behind-plan f rule child p k c e =
    let ns : List Node = f.nodes in
    let s = k.sound in
    let es : List Edit = beside ns (parent_of ns rule) rule child 1 in
    let r5 : List (Bool × TreeFault) = (holds ns child rule, Cycle) ∷ [] in
    let r4 : List (Bool × TreeFault) = (is_top ns rule, Loose) ∷ r5 in
    let r3 : List (Bool × TreeFault) = (nat_eq rule child, SameNode) ∷ r4 in
    let r2 : List (Bool × TreeFault) = (nat_eq rule 0 || nat_eq child 0, IsRoot) ∷ r3 in
    let r1 : List (Bool × TreeFault) = (is_unknown ns child, NoSuchNode) ∷ r2 in
    let taken : Option ℕ → List Edit = λ o. if is_loose o then [] else Remove child ∷ [] in
    let at : ℕ = place_of (without ns child) p rule in
    let place : at ≡ place_of ns p rule = ap (position_or_len (nat_eq rule)) (without-lists ns child rule p s c (apart ns rule p s e)) in
    skip (is_unknown ns rule) NoSuchNode r1 es (known ns rule (s.below child rule c))
    ∙ (skip (is_unknown ns child) NoSuchNode r2 es (known ns child (parent-inside ns child rule c))
    ∙ (skip (nat_eq rule 0 || nat_eq child 0) IsRoot r3 es (neither (nat_eq rule 0) (nat_eq child 0) (not_first ns rule p s e) (not_first ns child rule s c))
    ∙ (skip (nat_eq rule child) SameNode r4 es (ne_eqb rule child (apart ns child rule s c))
    ∙ (skip (is_top ns rule) Loose r5 es (ap is_loose e)
    ∙ (skip (holds ns child rule) Cycle [] es (above ns child rule s c)
    ∙ ap Ok (ap (λ o. beside ns o rule child 1) e ∙ (ap (λ o. taken o ++ Insert child p (at + 1) ∷ []) c ∙ ap (λ i. Remove child ∷ Insert child p i ∷ []) (one_more at ∙ ap suc place))))))))
