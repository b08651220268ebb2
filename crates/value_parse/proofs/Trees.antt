-- The parts of a list, as the grammar sees them, by lists.
use Rattle.std.proofs.Common.{◌≡◌, ℕ, Bool, true, false, String, List, [], ◌∷◌, ◌++◌, refl, ap, sym, ◌∙◌, append-nil, append_assoc}
use Rattle.std.specs.Str.{chars}
use Rattle.std.specs.String.{string_bytes}
use Rattle.std.proofs.lemmas.Bool.{true≢false, false≢true}
use Rattle.std.proofs.lemmas.Str.{chars-append, chars_from_encodes, IsUtf8-string_bytes}
use lib.Utf8.{encode, scalars}
use Rattle.css_text.specs.ValueParts.{ValueForm, plain, function, ValueParts, none, value, ending, written, followed}
use Rattle.css_text.proofs.ValueRows.{followed-written}
use Rattle.value_parse.specs.declared.part.ValuePart.{ValuePart}
use Rattle.value_parse.specs.declared.part.ValuePart.TheViews.{out-ValuePart}
use Rattle.value_parse.specs.declared.part.ValuePart.TheFolds.{fold_out-ValuePart}
use Rattle.value_parse.specs.Tree.{form_of, is_function, part_step, before, parts_before, parts_of}

-- one part before others
pub before_out : (p : ValuePart) (rest : ValueParts)
    → before p rest ≡ value (form_of (out-ValuePart p).kind) (out-ValuePart p).at (out-ValuePart p).text (parts_of (out-ValuePart p).inner.items) (out-ValuePart p).closed rest
before_out p rest = ap (λ f. f rest) (fold_out-ValuePart (ValueParts → ValueParts) part_step p)

pub before-followed : (p : ValuePart) (q r : ValueParts) → followed (before p q) r ≡ before p (followed q r)
before-followed p q r = ap (λ x. followed x r) (before_out p q) ∙ sym (before_out p (followed q r))

pub parts_before-followed : (ps : List ValuePart) (q r : ValueParts) → followed (parts_before ps q) r ≡ parts_before ps (followed q r)
parts_before-followed [] q r = refl
parts_before-followed (p ∷ ps) q r = before-followed p (parts_before ps q) r ∙ ap (before p) (parts_before-followed ps q r)

parts_before-append : (ps qs : List ValuePart) (r : ValueParts) → parts_before (ps ++ qs) r ≡ parts_before ps (parts_before qs r)
parts_before-append [] qs r = refl
parts_before-append (p ∷ ps) qs r = ap (before p) (parts_before-append ps qs r)

-- one part more
pub parts_of-push : (ps : List ValuePart) (p : ValuePart) → parts_of (ps ++ p ∷ []) ≡ followed (parts_of ps) (before p none)
parts_of-push ps p = parts_before-append ps (p ∷ []) none ∙ sym (parts_before-followed ps none (before p none))

-- the text of a list by its first part
pub written_cons : (p : ValuePart) (ps : List ValuePart) → written (parts_of (p ∷ ps)) ≡ written (before p none) ++ written (parts_of ps)
written_cons p ps = ap written (sym (before-followed p none (parts_of ps))) ∙ followed-written (before p none) (parts_of ps)

plain_go : (form : ValueForm) (at : ℕ) (t : List ℕ) (inner : ValueParts) (closed : Bool) → is_function form ≡ false → written (value form at t inner closed none) ≡ t
plain_go (plain k) at t inner closed e = append-nil t
plain_go function at t inner closed e = absurd (true≢false e)

function_go : (form : ValueForm) (at : ℕ) (t : List ℕ) (inner : ValueParts) (closed : Bool) → is_function form ≡ true → written (value form at t inner closed none) ≡ t ++ 40 ∷ (written inner ++ ending closed)
function_go (plain k) at t inner closed e = absurd (false≢true e)
function_go function at t inner closed e = ap (λ x. t ++ 40 ∷ (written inner ++ x)) (append-nil (ending closed))

-- the text of a part
pub plain_written : (p : ValuePart) → is_function (form_of (out-ValuePart p).kind) ≡ false → written (before p none) ≡ (out-ValuePart p).text
plain_written p e = ap written (before_out p none) ∙ plain_go (form_of (out-ValuePart p).kind) (out-ValuePart p).at (out-ValuePart p).text (parts_of (out-ValuePart p).inner.items) (out-ValuePart p).closed e

pub function_written : (p : ValuePart) → is_function (form_of (out-ValuePart p).kind) ≡ true
    → written (before p none) ≡ (out-ValuePart p).text ++ 40 ∷ (written (parts_of (out-ValuePart p).inner.items) ++ ending (out-ValuePart p).closed)
function_written p e = ap written (before_out p none) ∙ function_go (form_of (out-ValuePart p).kind) (out-ValuePart p).at (out-ValuePart p).text (parts_of (out-ValuePart p).inner.items) (out-ValuePart p).closed e

-- more characters behind a text
pub push_chars : {Z : Type 0} (s : String Z) (t new bytes : List ℕ) → chars bytes ≡ t → new ≡ string_bytes s ++ bytes → chars new ≡ chars (string_bytes s) ++ t
push_chars s t new bytes e f = ap chars f ∙ chars-append (string_bytes s) bytes (IsUtf8-string_bytes s) ∙ ap (λ x. chars (string_bytes s) ++ x) e

-- one parenthesis more
parenthesis : (c : ℕ) → scalars (c ∷ []) ≡ true → chars (encode c) ≡ c ∷ []
parenthesis c e = sym (chars_from_encodes (c ∷ []) (encode c) (c ∷ [], (e, append-nil (encode c))) (append-nil (encode c)))

pub push_open : {Z : Type 0} (s : String Z) (new : List ℕ) → new ≡ string_bytes s ++ encode 40 → chars new ≡ chars (string_bytes s) ++ 40 ∷ []
push_open s new e = push_chars s (40 ∷ []) new (encode 40) (parenthesis 40 refl) e

pub push_close : {Z : Type 0} (s : String Z) (new : List ℕ) → new ≡ string_bytes s ++ encode 41 → chars new ≡ chars (string_bytes s) ++ 41 ∷ []
push_close s new e = push_chars s (41 ∷ []) new (encode 41) (parenthesis 41 refl) e

-- a Function's text behind a text
pub function_done : (p : ValuePart) (s n m k new : List ℕ) → is_function (form_of (out-ValuePart p).kind) ≡ true → n ≡ s ++ (out-ValuePart p).text → m ≡ n ++ 40 ∷ []
    → k ≡ m ++ written (parts_of (out-ValuePart p).inner.items) → new ≡ k ++ ending (out-ValuePart p).closed → new ≡ s ++ written (before p none)
function_done p s n m k new b e f g h =
    let t = (out-ValuePart p).text in
    let i = written (parts_of (out-ValuePart p).inner.items) in
    let z = ending (out-ValuePart p).closed in
    h ∙ ap (λ x. x ++ z) (g ∙ ap (λ x. x ++ i) (f ∙ ap (λ x. x ++ 40 ∷ []) e)) ∙ append_assoc ((s ++ t) ++ 40 ∷ []) i z ∙ append_assoc (s ++ t) (40 ∷ []) (i ++ z) ∙ append_assoc s t (40 ∷ (i ++ z))
    ∙ ap (λ x. s ++ x) (sym (function_written p b))
