-- The text of selectors, by lists.
use Rattle.std.proofs.Common.{map, eqb, ◌<◌, ◌+◌, zero, suc, length, get_or, subst, arith, lit<, ◌≡◌, ℕ, Bool, true, false, String, List, [], ◌∷◌, ◌++◌, refl, ap, sym, ◌∙◌, append-nil, append_assoc}
use Rattle.std.specs.Str.{chars}
use Rattle.std.specs.String.{string_bytes}
use Rattle.std.proofs.lemmas.Str.{chars-append, chars_from_encodes, IsUtf8-string_bytes, encodes-chars, encodes-append, encode_ascii}
use Rattle.std.specs.Prelude.{◌||◌}
use Rattle.std.specs.List.Sorted.{IsSortedBy}
use Rattle.std.proofs.lemmas.Bool.{eqb-true, true≢false}
use Rattle.selector_parse.specs.Forms.{is_symbol}
use Rattle.selector_parse.specs.Normal.{normal_part}
use lib.Utf8.{encode, encodes, scalars}
use Rattle.selector_parse.specs.declared.part.PartKind.{PartKind}
use Rattle.selector_parse.specs.declared.part.PartKind.TheVariants.{Blank, Comment, Combinator, Element, Id, Class, Attribute, PseudoClass, PseudoElement, Nesting}
use Rattle.selector_parse.specs.declared.part.Part.{Part}
use Rattle.selector_parse.specs.declared.part.Complex.{Complex}
use Rattle.selector_parse.specs.declared.part.Args.TheViews.{out-Part, out-Complex}
use Rattle.selector_parse.specs.Tree.{none, written, Arguments, absent, text, list, bare, made, args_of, part_before, complex_before}
use Rattle.selector_parse.specs.Row.{complex_parts, rest_list, comma_unless, rest_joined, enclosed}
use Rattle.selector_parse.proofs.Rows.{followed-written}
use Rattle.selector_parse.proofs.Trees.{part_out, complex_out, part-followed, complex-followed}

bare_written : (k : PartKind) (at : ℕ) (t : List ℕ) → written (bare k at t none) ≡ t ++ []
bare_written Blank at t = refl
bare_written Comment at t = refl
bare_written Combinator at t = refl
bare_written Element at t = refl
bare_written Id at t = refl
bare_written Class at t = refl
bare_written Attribute at t = refl
bare_written PseudoClass at t = refl
bare_written PseudoElement at t = refl
bare_written Nesting at t = refl

made_written : (k : PartKind) (at : ℕ) (t : List ℕ) (a : Arguments) → written (made k at t a none) ≡ t ++ enclosed a
made_written k at t absent = bare_written k at t
made_written k at t (text s) = refl
made_written k at t (list inner) = refl

-- the text of a part
pub part_written : (p : Part) → written (part_before p none) ≡ (out-Part p).text ++ enclosed (args_of (out-Part p).args)
part_written p = ap written (part_out p none) ∙ made_written (out-Part p).kind (out-Part p).at (out-Part p).text (args_of (out-Part p).args)

pub parts_cons : (p : Part) (ps : List Part) → written (complex_parts (p ∷ ps)) ≡ written (part_before p none) ++ written (complex_parts ps)
parts_cons p ps = ap written (sym (part-followed p none (complex_parts ps))) ∙ followed-written (part_before p none) (complex_parts ps)

pub list_cons : (b : Bool) (c : Complex) (cs : List Complex) → written (rest_list b (c ∷ cs)) ≡ comma_unless b ++ (written (complex_parts (out-Complex c).parts.items) ++ written (rest_list false cs))
list_cons b c cs = go b ∙ ap (λ x. comma_unless b ++ (written x ++ written (rest_list false cs))) (complex_out c none)
  where
    go : (b : Bool) → written (rest_list b (c ∷ cs)) ≡ comma_unless b ++ (written (complex_before c none) ++ written (rest_list false cs))
    go true = ap written (sym (complex-followed c none (rest_list false cs))) ∙ followed-written (complex_before c none) (rest_list false cs)
    go false = ap (λ x. 44 ∷ x) (ap written (sym (complex-followed c none (rest_list false cs))) ∙ followed-written (complex_before c none) (rest_list false cs))

pub nothing_left : (b : Bool) → written (rest_list b []) ≡ []
nothing_left true = refl
nothing_left false = refl

-- more characters after a text
pub push_chars : {Z : Type 0} (s : String Z) (t new bytes : List ℕ) → chars bytes ≡ t → new ≡ string_bytes s ++ bytes → chars new ≡ chars (string_bytes s) ++ t
push_chars s t new bytes e f = ap chars f ∙ chars-append (string_bytes s) bytes (IsUtf8-string_bytes s) ∙ ap (λ x. chars (string_bytes s) ++ x) e

one_char : (c : ℕ) → scalars (c ∷ []) ≡ true → chars (encode c) ≡ c ∷ []
one_char c e = sym (chars_from_encodes (c ∷ []) (encode c) (c ∷ [], (e, append-nil (encode c))) (append-nil (encode c)))

pub push_open : {Z : Type 0} (s : String Z) (new : List ℕ) → new ≡ string_bytes s ++ encode 40 → chars new ≡ chars (string_bytes s) ++ 40 ∷ []
push_open s new e = push_chars s (40 ∷ []) new (encode 40) (one_char 40 refl) e

pub push_close : {Z : Type 0} (s : String Z) (new : List ℕ) → new ≡ string_bytes s ++ encode 41 → chars new ≡ chars (string_bytes s) ++ 41 ∷ []
push_close s new e = push_chars s (41 ∷ []) new (encode 41) (one_char 41 refl) e

pub push_comma : {Z : Type 0} (s : String Z) (new : List ℕ) → new ≡ string_bytes s ++ encode 44 → chars new ≡ chars (string_bytes s) ++ 44 ∷ []
push_comma s new e = push_chars s (44 ∷ []) new (encode 44) (one_char 44 refl) e

-- arguments after a text
pub enclose : (s m n o t : List ℕ) → m ≡ s ++ 40 ∷ [] → n ≡ m ++ t → o ≡ n ++ 41 ∷ [] → o ≡ s ++ 40 ∷ (t ++ 41 ∷ [])
enclose s m n o t e f g = g ∙ ap (λ x. x ++ 41 ∷ []) (f ∙ ap (λ x. x ++ t) e) ∙ append_assoc (s ++ 40 ∷ []) t (41 ∷ []) ∙ append_assoc s (40 ∷ []) (t ++ 41 ∷ [])

-- the sign of a combinator
sign_is : (c : ℕ) (P : ℕ → Type 0) (a b d e : Bool) → eqb c 32 ≡ a → eqb c 62 ≡ b → eqb c 43 ≡ d → eqb c 126 ≡ e → (a || ((b || d) || e)) ≡ true → P 32 → P 62 → P 43 → P 126 → P c
sign_is c P true b d e i j k l h w x y z = subst P (sym (eqb-true c 32 i)) w
sign_is c P false true d e i j k l h w x y z = subst P (sym (eqb-true c 62 j)) x
sign_is c P false false true e i j k l h w x y z = subst P (sym (eqb-true c 43 k)) y
sign_is c P false false false true i j k l h w x y z = subst P (sym (eqb-true c 126 l)) z
sign_is c P false false false false i j k l h w x y z = absurd (true≢false (sym h))

pub push_sign : {Z : Type 0} (s : String Z) (new : List ℕ) (c : ℕ) → (eqb c 32 || is_symbol c) ≡ true → new ≡ string_bytes s ++ encode c → chars new ≡ chars (string_bytes s) ++ c ∷ []
push_sign s new c h e = push_chars s (c ∷ []) new (encode c) (sign_is c (λ c. chars (encode c) ≡ c ∷ []) (eqb c 32) (eqb c 62) (eqb c 43) (eqb c 126) refl refl refl refl h (one_char 32 refl) (one_char 62 refl) (one_char 43 refl) (one_char 126 refl)) e

-- texts by their first
pub joined_cons : (b : Bool) (x : List ℕ) (xs : List (List ℕ)) → rest_joined b (x ∷ xs) ≡ comma_unless b ++ (x ++ rest_joined false xs)
joined_cons true x xs = refl
joined_cons false x xs = refl

pub joined_nil : (b : Bool) → rest_joined b [] ≡ []
joined_nil true = refl
joined_nil false = refl

-- bytes of a text that is known by its characters
pub bytes_by : {Z : Type 0} (s : String Z) (t : List ℕ) → chars (string_bytes s) ≡ t → string_bytes s ≡ encodes t
bytes_by s t e = sym (encodes-chars (string_bytes s) (IsUtf8-string_bytes s)) ∙ ap encodes e

pub map-append : {A B : Type 0} (f : A → B) (xs ys : List A) → map f (xs ++ ys) ≡ map f xs ++ map f ys
map-append f [] ys = refl
map-append f (x ∷ xs) ys = ap (λ z. f x ∷ z) (map-append f xs ys)

get_map : {A B : Type 0} (f : A → B) (xs : List A) (k : ℕ) (d : B) (e : A) → k < length xs → get_or (map f xs) k d ≡ f (get_or xs k e)
get_map f [] k d e l = absurd (omega arith)
get_map f (x ∷ xs) zero d e l = refl
get_map f (x ∷ xs) (suc k) d e l = get_map f xs k d e (omega arith)

len_map : {A B : Type 0} (f : A → B) (xs : List A) → length (map f xs) ≡ length xs
len_map f [] = refl
len_map f (x ∷ xs) = ap suc (len_map f xs)

-- texts sorted by a key
sorted_go : {A B : Type 0} (f : A → B) (lt : B → B → Bool) (ys : List A) → IsSortedBy (λ x y. lt (f x) (f y)) ys → (k : ℕ) (d : B) → k + 1 < length ys → lt (get_or (map f ys) (k + 1) d) (get_or (map f ys) k d) ≡ false
sorted_go f lt [] h k d n = absurd (omega arith)
sorted_go f lt (y ∷ ys) h k d n = ap (λ z. lt z (get_or (map f (y ∷ ys)) k d)) (get_map f (y ∷ ys) (k + 1) d y n) ∙ ap (λ z. lt (f (get_or (y ∷ ys) (k + 1) y)) z) (get_map f (y ∷ ys) k d y (omega arith)) ∙ h k y (omega arith) n

pub sorted_map : {A B : Type 0} (f : A → B) (lt : B → B → Bool) (xs : List A) → IsSortedBy (λ x y. lt (f x) (f y)) xs → IsSortedBy lt (map f xs)
sorted_map f lt xs h = λ k d l m. let e = len_map f xs in sorted_go f lt xs h k d (omega arith)

-- one comma more, in bytes
comma_encodes : (b : Bool) → encodes (comma_unless b) ≡ comma_unless b
comma_encodes true = refl
comma_encodes false = ap (λ x. x ++ []) (encode_ascii 44 (lit< tt))

pub comma_bytes : {Z : Type 0} (s new : String Z) (b : Bool) → chars (string_bytes new) ≡ chars (string_bytes s) ++ comma_unless b → string_bytes new ≡ string_bytes s ++ comma_unless b
comma_bytes s new b e = bytes_by new (chars (string_bytes s) ++ comma_unless b) e ∙ encodes-append (chars (string_bytes s)) (comma_unless b)
    ∙ ap (λ x. x ++ encodes (comma_unless b)) (encodes-chars (string_bytes s) (IsUtf8-string_bytes s)) ∙ ap (λ x. string_bytes s ++ x) (comma_encodes b)

pub normal_other : (k : PartKind) (t a : List ℕ) → (k ≡ Blank → ⊥) → (k ≡ Comment → ⊥) → (k ≡ Combinator → ⊥) → normal_part k t a ≡ t ++ a
normal_other Blank t a n m o = absurd (n refl)
normal_other Comment t a n m o = absurd (m refl)
normal_other Combinator t a n m o = absurd (o refl)
normal_other Element t a n m o = refl
normal_other Id t a n m o = refl
normal_other Class t a n m o = refl
normal_other Attribute t a n m o = refl
normal_other PseudoClass t a n m o = refl
normal_other PseudoElement t a n m o = refl
normal_other Nesting t a n m o = refl
