-- Values with shorter words.
use Rattle.std.proofs.Common.{String, ◌≡◌, ℕ, List, [], ◌∷◌, ◌++◌, Bool, true, false, ◌&&◌, ◌||◌, length, Option, Some, None, refl, ap, sym, ◌∙◌, append-nil, append_assoc, nat_eq}
use Rattle.std.specs.Prelude.{◌==◌, if◌then◌else◌, Result, Ok, Err, is_ok, OnOk, IfOk}
use Rattle.std.specs.declared.alloc.AllocError.{AllocError}
use Rattle.std.specs.Str.{chars}
use Rattle.std.specs.String.{string_bytes}
use Rattle.std.proofs.lemmas.Str.{chars_from_encodes, IsUtf8-encode}
use Rattle.std.specs.Char.{IsScalar}
use lib.Utf8.{encode}
use Rattle.css_text.specs.declared.lexer.PieceKind.TheVariants.{Word}
use Rattle.node_rows.proofs.Climb.{same_from_eqb}
use Rattle.value_parse.proofs.Trees.{push_chars}
use Rattle.std.proofs.lemmas.Bool.{true≢false, false≢true}
use Rattle.css_text.specs.ValueParts.{ValueForm, plain, function, ValueParts, none, value, ending, written, followed}
use Rattle.css_text.proofs.ValueRows.{followed-written}
use Rattle.value_parse.specs.declared.part.ValuePart.{ValuePart}
use Rattle.value_parse.specs.declared.part.ValuePart.TheViews.{out-ValuePart}
use Rattle.value_parse.specs.Tree.{form_of, is_function, before, parts_of}
use Rattle.value_parse.proofs.Trees.{before_out, before-followed}
use Rattle.plugin_api.specs.Effect.{halved, kept_first, shortened_or, short_word, short_plain, shortened}
use Rattle.transforms.specs.Hex.{is_pair, is_paired, firsts, is_word, short_own}

kept_some : (b : Bool) (c : ℕ) (t : List ℕ) → kept_first c (if b then Some t else None) ≡ (if b then Some (c ∷ t) else None)
kept_some true c t = refl
kept_some false c t = refl

halved_pair : (b p : Bool) (c : ℕ) (o : Option (List ℕ)) (t : List ℕ) → o ≡ (if p then Some t else None) → (if b then kept_first c o else None) ≡ (if b && p then Some (c ∷ t) else None)
halved_pair false p c o t h = refl
halved_pair true p c o t h = ap (kept_first c) h ∙ kept_some p c t

-- digits in pairs
halved-pairs : (cs : List ℕ) → halved cs ≡ (if is_paired cs then Some (firsts cs) else None)
halved-pairs [] = refl
halved-pairs (c ∷ []) = refl
halved-pairs (c ∷ d ∷ cs) = halved_pair (is_pair c d) (is_paired cs) c (halved cs) (firsts cs) (halved-pairs cs)

long_word : (l p : Bool) (c : ℕ) (cs : List ℕ) (o : Option (List ℕ)) (t : List ℕ) → c ≡ 35 → o ≡ (if p then Some t else None) → (l && p) ≡ true → (if l then shortened_or (c ∷ cs) o else c ∷ cs) ≡ 35 ∷ t
long_word false p c cs o t e h b = absurd (false≢true b)
long_word true false c cs o t e h b = absurd (false≢true b)
long_word true true c cs o t e h b = ap (shortened_or (c ∷ cs)) h

other_word : (l p : Bool) (c : ℕ) (cs : List ℕ) (o : Option (List ℕ)) (t : List ℕ) → o ≡ (if p then Some t else None) → (l && p) ≡ false → (if l then shortened_or (c ∷ cs) o else c ∷ cs) ≡ c ∷ cs
other_word false p c cs o t h b = refl
other_word true false c cs o t h b = ap (shortened_or (c ∷ cs)) h
other_word true true c cs o t h b = absurd (true≢false b)

pub unmarked : (b l : Bool) (t s : List ℕ) → b ≡ false → (if b && l then t else s) ≡ s
unmarked true l t s h = absurd (true≢false h)
unmarked false l t s h = refl

word_by : (m l : Bool) (c : ℕ) (cs : List ℕ) → (m ≡ true → c ≡ 35) → (m && (l && is_paired cs)) ≡ true → (if m && l then shortened_or (c ∷ cs) (halved cs) else c ∷ cs) ≡ 35 ∷ firsts cs
word_by false l c cs e b = absurd (false≢true b)
word_by true l c cs e b = long_word l (is_paired cs) c cs (halved cs) (firsts cs) (e refl) (halved-pairs cs) b

word_not : (m l : Bool) (c : ℕ) (cs : List ℕ) → (m && (l && is_paired cs)) ≡ false → (if m && l then shortened_or (c ∷ cs) (halved cs) else c ∷ cs) ≡ c ∷ cs
word_not false l c cs b = refl
word_not true l c cs b = other_word l (is_paired cs) c cs (halved cs) (firsts cs) (halved-pairs cs) b

-- a word by its first character and the rest
pub word_is_long : (w : List ℕ) (c : ℕ) (cs : List ℕ) → w ≡ c ∷ cs → (c == 35 && ((nat_eq (length cs) 6 || nat_eq (length cs) 8) && is_paired cs)) ≡ true → short_word w ≡ 35 ∷ firsts cs
word_is_long w c cs e b = ap short_word e ∙ word_by (c == 35) (nat_eq (length cs) 6 || nat_eq (length cs) 8) c cs (same_from_eqb c 35) b

pub word_is_other : (w : List ℕ) (c : ℕ) (cs : List ℕ) → w ≡ c ∷ cs → (c == 35 && ((nat_eq (length cs) 6 || nat_eq (length cs) 8) && is_paired cs)) ≡ false → short_word w ≡ w
word_is_other w c cs e b = ap short_word e ∙ (word_not (c == 35) (nat_eq (length cs) 6 || nat_eq (length cs) 8) c cs b ∙ sym e)

pub word_is_empty : (w : List ℕ) → w ≡ [] → short_word w ≡ w
word_is_empty w e = ap short_word e ∙ sym e

pub ruleset word_steps = (word_is_long, word_is_other, word_is_empty)

-- a text behind a text
pub on_str : {Z : Type 0} (s : String Z) (r : Result (Unit {0}) AllocError) (new w t : List ℕ) → t ≡ chars w → new ≡ (if is_ok r then string_bytes s ++ w else string_bytes s) → OnOk r (chars new ≡ chars (string_bytes s) ++ t)
on_str s (Ok _) new w t e h = push_chars s t new w (sym e) h
on_str s (Err _) new w t e h = tt

-- a character's bytes spell it
pub char-spelled : (c : ℕ) → IsScalar c → chars (encode c) ≡ c ∷ []
char-spelled c s = sym (chars_from_encodes (c ∷ []) (encode c) (IsUtf8-encode c s) (append-nil (encode c)))

pub push_hash : {Z : Type 0} (s : String Z) (new : List ℕ) → new ≡ string_bytes s ++ encode 35 → chars new ≡ chars (string_bytes s) ++ 35 ∷ []
push_hash s new e = push_chars s (35 ∷ []) new (encode 35) (sym (chars_from_encodes (35 ∷ []) (encode 35) (35 ∷ [], (refl, append-nil (encode 35))) (append-nil (encode 35)))) e

pub other_own : (form : ValueForm) (t : List ℕ) → is_word form ≡ false → short_own form t ≡ t
other_own function t e = refl
other_own (plain Word) t e = absurd (true≢false e)
other_own (plain _) t e = refl

pub word_own : (form : ValueForm) (t : List ℕ) → is_word form ≡ true → short_own form t ≡ short_word t
word_own function t e = absurd (false≢true e)
word_own (plain Word) t e = refl
word_own (plain _) t e = absurd (false≢true e)

shortened-followed : (q r : ValueParts) → shortened (followed q r) ≡ followed (shortened q) (shortened r)
shortened-followed none r = refl
shortened-followed (value (plain k) at t inner closed rest) r = ap (λ x. value (plain k) at (short_plain k t) (shortened inner) closed x) (shortened-followed rest r)
shortened-followed (value function at t inner closed rest) r = ap (λ x. value function at t (shortened inner) closed x) (shortened-followed rest r)

-- the short text of a list by its first part
pub short-cons : (p : ValuePart) (ps : List ValuePart) → written (shortened (parts_of (p ∷ ps))) ≡ written (shortened (before p none)) ++ written (shortened (parts_of ps))
short-cons p ps =
    ap (λ x. written (shortened x)) (sym (before-followed p none (parts_of ps)))
    ∙ (ap written (shortened-followed (before p none) (parts_of ps)) ∙ followed-written (shortened (before p none)) (shortened (parts_of ps)))

plain_go : (form : ValueForm) (at : ℕ) (t : List ℕ) (inner : ValueParts) (closed : Bool) → is_function form ≡ false → written (shortened (value form at t inner closed none)) ≡ short_own form t
plain_go (plain k) at t inner closed e = append-nil (short_plain k t)
plain_go function at t inner closed e = absurd (true≢false e)

function_go : (form : ValueForm) (at : ℕ) (t : List ℕ) (inner : ValueParts) (closed : Bool) → is_function form ≡ true → written (shortened (value form at t inner closed none)) ≡ short_own form t ++ 40 ∷ (written (shortened inner) ++ ending closed)
function_go (plain k) at t inner closed e = absurd (false≢true e)
function_go function at t inner closed e = ap (λ x. t ++ 40 ∷ (written (shortened inner) ++ x)) (append-nil (ending closed))

-- the short text of a part
pub plain-short : (p : ValuePart) → is_function (form_of (out-ValuePart p).kind) ≡ false → written (shortened (before p none)) ≡ short_own (form_of (out-ValuePart p).kind) (out-ValuePart p).text
plain-short p e = ap (λ x. written (shortened x)) (before_out p none) ∙ plain_go (form_of (out-ValuePart p).kind) (out-ValuePart p).at (out-ValuePart p).text (parts_of (out-ValuePart p).inner.items) (out-ValuePart p).closed e

pub function-short : (p : ValuePart) → is_function (form_of (out-ValuePart p).kind) ≡ true
    → written (shortened (before p none)) ≡ short_own (form_of (out-ValuePart p).kind) (out-ValuePart p).text ++ 40 ∷ (written (shortened (parts_of (out-ValuePart p).inner.items)) ++ ending (out-ValuePart p).closed)
function-short p e = ap (λ x. written (shortened x)) (before_out p none) ∙ function_go (form_of (out-ValuePart p).kind) (out-ValuePart p).at (out-ValuePart p).text (parts_of (out-ValuePart p).inner.items) (out-ValuePart p).closed e

-- a Function's short text behind a text
pub function-done : (p : ValuePart) (s n m k new : List ℕ) → is_function (form_of (out-ValuePart p).kind) ≡ true → n ≡ s ++ short_own (form_of (out-ValuePart p).kind) (out-ValuePart p).text → m ≡ n ++ 40 ∷ []
    → k ≡ m ++ written (shortened (parts_of (out-ValuePart p).inner.items)) → new ≡ k ++ ending (out-ValuePart p).closed → new ≡ s ++ written (shortened (before p none))
function-done p s n m k new b e f g h =
    let t = short_own (form_of (out-ValuePart p).kind) (out-ValuePart p).text in
    let i = written (shortened (parts_of (out-ValuePart p).inner.items)) in
    let z = ending (out-ValuePart p).closed in
    h ∙ ap (λ x. x ++ z) (g ∙ ap (λ x. x ++ i) (f ∙ ap (λ x. x ++ 40 ∷ []) e)) ∙ append_assoc ((s ++ t) ++ 40 ∷ []) i z ∙ append_assoc (s ++ t) (40 ∷ []) (i ++ z) ∙ append_assoc s t (40 ∷ (i ++ z))
    ∙ ap (λ x. s ++ x) (sym (function-short p b))

-- what one text has, where the answer is no other
pub if_ok_same : (r : Result (List ℕ) AllocError) (x : List ℕ) (P : List ℕ → Type 0) → ((t : List ℕ) → t ≡ x → P t) → IfOk r (λ t. t ≡ x) → IfOk r P
if_ok_same (Ok t) x P f e = f t e
if_ok_same (Err m) x P f e = tt
