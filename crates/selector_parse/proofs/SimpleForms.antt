-- Simple selectors are what the code reads as such, and each has its kind.
use Rattle.std.proofs.Common.{◌≡◌, ℕ, ◌<◌, Bool, true, false, cond, eqb, List, [], ◌∷◌, Some, None, refl, ap, sym, ◌∙◌, subst, inl, inr}
use Rattle.std.specs.Prelude.{◌&&◌, ◌||◌, not, nat_le, codes}
use Rattle.std.specs.Char.{to_ascii_lowercase, is_ascii_alphanumeric}
use Rattle.std.proofs.lemmas.Bool.{eqb-true, cases_Bool, cases_lt, false≢true, and_parts, or_cases, or_right, not-true, le-leb, agree_below_at}
use Rattle.css_text.specs.Forms.{begins}
use Rattle.selector_parse.specs.declared.part.PartKind.{PartKind}
use Rattle.selector_parse.specs.declared.part.PartKind.TheVariants.{Element, Id, Class, Attribute, PseudoClass, PseudoElement, Nesting}
use Rattle.selector_parse.specs.declared.reading.Reading.TheVariants.{First, Next, Colon, Name, NameFirst, NameEscape}
use Rattle.selector_parse.specs.Names.{spelled, is_legacy}
use Rattle.selector_parse.specs.Forms.{is_name_char, is_empty, after_all, on_form, hidden_in_name, name_unit, is_name, is_element, is_attribute_end, is_pseudo_class, is_pseudo_element, is_simple}
use Rattle.selector_parse.specs.Grammar.{is_element_kind}
use Rattle.selector_parse.specs.Reading.{next, step, on, read}
use Rattle.selector_parse.specs.Phases.{is_whole, pseudo_kind, kind_of}
use Rattle.selector_parse.proofs.NameForms.{name_is, done_is, element_is, and_yes, units_are}
use Rattle.selector_parse.proofs.TextForms.{attribute_is}

-- a spelled name is a name
lower_name : (c : ℕ) → c < 128 → is_name_char (to_ascii_lowercase c) ≡ is_name_char c
lower_name c l = agree_below_at (λ c. is_name_char (to_ascii_lowercase c)) is_name_char 128 c refl l

char_of : (c w : ℕ) → to_ascii_lowercase c ≡ w → is_name_char w ≡ true → is_name_char c ≡ true
char_of c w e n = elim (cases_lt c 128) [
  | inl l ↦ sym (lower_name c l) ∙ ap is_name_char e ∙ n
  | inr h ↦ or_right (is_ascii_alphanumeric c || eqb c 45 || eqb c 95) (nat_le 128 c) (le-leb 128 c h)
]

abbrev are_chars : List ℕ → Bool
are_chars [] = true
are_chars (w ∷ ws) = is_name_char w && are_chars ws

spelled_units : (w t : List ℕ) → are_chars w ≡ true → spelled w t ≡ true → is_empty (after_all name_unit 0 t) ≡ true
spelled_units [] [] a e = refl
spelled_units [] (c ∷ cs) a e = absurd (false≢true e)
spelled_units (w ∷ ws) [] a e = refl
spelled_units (w ∷ ws) (c ∷ cs) a e =
    let p = and_parts (is_name_char w) (are_chars ws) a in
    let s = and_parts (eqb (to_ascii_lowercase c) w) (spelled ws cs) e in
    ap (λ b. is_empty (on_form (cond b (Some 0) (cond (eqb c 92) (hidden_in_name cs) None)) (c ∷ cs) (λ n. after_all name_unit n cs))) (char_of c w (eqb-true (to_ascii_lowercase c) w s.0) p.0)
    ∙ spelled_units ws cs p.1 s.1

pub legacy_name : (c : ℕ) (cs : List ℕ) → is_legacy (c ∷ cs) ≡ true → is_name (c ∷ cs) ≡ true
unfolding is_legacy
legacy_name c cs e = elim (or_cases (spelled (codes "before") (c ∷ cs) || spelled (codes "after") (c ∷ cs) || spelled (codes "first-line") (c ∷ cs)) (spelled (codes "first-letter") (c ∷ cs)) e) [
  | inl f ↦ elim (or_cases (spelled (codes "before") (c ∷ cs) || spelled (codes "after") (c ∷ cs)) (spelled (codes "first-line") (c ∷ cs)) f) [
    | inl g ↦ elim (or_cases (spelled (codes "before") (c ∷ cs)) (spelled (codes "after") (c ∷ cs)) g) [
      | inl a ↦ spelled_units (codes "before") (c ∷ cs) refl a
      | inr a ↦ spelled_units (codes "after") (c ∷ cs) refl a
    ]
    | inr a ↦ spelled_units (codes "first-line") (c ∷ cs) refl a
  ]
  | inr a ↦ spelled_units (codes "first-letter") (c ∷ cs) refl a
]

-- after one colon
colon_go : (d : ℕ) (ds : List ℕ) (b : Bool) → is_legacy (d ∷ ds) ≡ b → eqb d 58 ≡ false → is_name (d ∷ ds) ≡ is_simple (cond b PseudoElement PseudoClass) (58 ∷ d ∷ ds)
colon_go d ds true e f = legacy_name d ds e ∙ sym e ∙ sym (ap (λ b. cond b (is_name ds) (is_legacy (d ∷ ds))) f)
colon_go d ds false e f = and_yes (is_name (d ∷ ds)) ∙ sym (ap (λ b. is_name (d ∷ ds) && not b) e)

colon_name : (d : ℕ) (ds : List ℕ) → eqb d 58 ≡ false → is_whole (read Colon (d ∷ ds)) ≡ is_whole (read Name (d ∷ ds))
unfolding step
colon_name d ds e = ap (λ b. is_whole (on (cond b (Some NameFirst) (cond (is_name_char d) (Some Name) (cond (eqb d 92) (Some NameEscape) None))) (λ p. read p ds))) e

colon_legacy : (d : ℕ) (ds : List ℕ) → eqb d 58 ≡ false → is_whole (read Colon (d ∷ ds)) ≡ is_simple (pseudo_kind (d ∷ ds)) (58 ∷ d ∷ ds)
colon_legacy d ds e = colon_name d ds e ∙ sym (units_are (d ∷ ds)) ∙ colon_go d ds (is_legacy (d ∷ ds)) refl e ∙ sym (ap (λ b. is_simple (cond (b || is_legacy (d ∷ ds)) PseudoElement PseudoClass) (58 ∷ d ∷ ds)) e)

colon_is : (cs : List ℕ) → is_whole (read Colon cs) ≡ is_simple (pseudo_kind cs) (58 ∷ cs)
unfolding step is_legacy
colon_is [] = refl
colon_is (d ∷ ds) = elim (cases_Bool (eqb d 58)) [
  | inl e ↦ subst (λ c. is_whole (read Colon (c ∷ ds)) ≡ is_simple (pseudo_kind (c ∷ ds)) (58 ∷ c ∷ ds)) (sym (eqb-true d 58 e)) (name_is ds)
  | inr e ↦ colon_legacy d ds e
]

-- a character that begins an Element, or nothing
record Begins (c : ℕ) : Type 0 where
  pub hash : eqb c 35 ≡ false
  pub dot : eqb c 46 ≡ false
  pub bracket : eqb c 91 ≡ false
  pub nesting : eqb c 38 ≡ false
  pub colon : eqb c 58 ≡ false

begins_none : (c : ℕ) → Begins c → next c ≡ None
begins_none c h = rw (h.hash, h.dot, h.colon, h.bracket, h.nesting) refl

begins_element : (c : ℕ) (cs : List ℕ) → Begins c → kind_of (c ∷ cs) ≡ Element
begins_element c cs h = rw (h.hash, h.dot, h.bracket, h.nesting, h.colon) refl

-- by its first character
by_first : (P : ℕ → Type 0) → P 35 → P 46 → P 91 → P 38 → P 58 → (c : ℕ) → (Begins c → P c) → P c
by_first P a b d e f c g = elim (cases_Bool (eqb c 35)) [
  | inl x ↦ subst P (sym (eqb-true c 35 x)) a
  | inr x ↦ elim (cases_Bool (eqb c 46)) [
    | inl y ↦ subst P (sym (eqb-true c 46 y)) b
    | inr y ↦ elim (cases_Bool (eqb c 91)) [
      | inl z ↦ subst P (sym (eqb-true c 91 z)) d
      | inr z ↦ elim (cases_Bool (eqb c 38)) [
        | inl v ↦ subst P (sym (eqb-true c 38 v)) e
        | inr v ↦ elim (cases_Bool (eqb c 58)) [
          | inl w ↦ subst P (sym (eqb-true c 58 w)) f
          | inr w ↦ g (record { hash = x; dot = y; bracket = z; nesting = v; colon = w })
        ]
      ]
    ]
  ]
]

-- where a compound begins
pub first_is : (t : List ℕ) → is_whole (read First t) ≡ is_simple (kind_of t) t
unfolding step
first_is [] = refl
first_is (c ∷ cs) = by_first (λ c. is_whole (read First (c ∷ cs)) ≡ is_simple (kind_of (c ∷ cs)) (c ∷ cs)) (name_is cs) (name_is cs) (attribute_is cs) (done_is cs) (colon_is cs) c
    (λ h. element_is c cs (begins_none c h) ∙ sym (ap (λ k. is_simple k (c ∷ cs)) (begins_element c cs h)))

-- and where it goes on
no_element : (b : Bool) → true ≡ not (is_element_kind (cond b PseudoElement PseudoClass))
no_element true = refl
no_element false = refl

and_with : (a b : Bool) → true ≡ b → a ≡ (a && b)
and_with true b e = e
and_with false b e = refl

and_no : (a b : Bool) → b ≡ false → false ≡ (a && b)
and_no true b e = sym e
and_no false b e = refl

next_none : (c : ℕ) (cs : List ℕ) → next c ≡ None → is_whole (read Next (c ∷ cs)) ≡ false
unfolding step
next_none c cs e = ap (λ o. is_whole (on o (λ p. read p cs))) e

pub next_is : (t : List ℕ) → is_whole (read Next t) ≡ (is_simple (kind_of t) t && not (is_element_kind (kind_of t)))
unfolding step
next_is [] = refl
next_is (c ∷ cs) = by_first (λ c. is_whole (read Next (c ∷ cs)) ≡ (is_simple (kind_of (c ∷ cs)) (c ∷ cs) && not (is_element_kind (kind_of (c ∷ cs))))) (name_is cs ∙ and_yes (is_name cs)) (name_is cs ∙ and_yes (is_name cs))
    (attribute_is cs ∙ and_yes _) (done_is cs ∙ and_yes _) (colon_is cs ∙ and_with (is_simple (pseudo_kind cs) (58 ∷ cs)) (not (is_element_kind (pseudo_kind cs))) (no_element (begins 58 cs || is_legacy cs))) c
    (λ h. next_none c cs (begins_none c h) ∙ and_no (is_simple (kind_of (c ∷ cs)) (c ∷ cs)) _ (ap (λ k. not (is_element_kind k)) (begins_element c cs h)))

-- Each simple selector has its kind.
from_char : (c d : ℕ) (cs : List ℕ) (b : Bool) → (eqb c d && b) ≡ true → (k : PartKind) → k ≡ kind_of (d ∷ cs) → k ≡ kind_of (c ∷ cs)
from_char c d cs b e k h = h ∙ ap (λ c. kind_of (c ∷ cs)) (sym (eqb-true c d (and_parts (eqb c d) b e).0))

class_kind : (cs : List ℕ) → is_pseudo_class cs ≡ true → PseudoClass ≡ kind_of (58 ∷ cs)
class_kind [] e = absurd (false≢true e)
class_kind (d ∷ ds) e =
    let h = and_parts (is_name (d ∷ ds)) (not (is_legacy (d ∷ ds))) e in
    elim (cases_Bool (eqb d 58)) [
      | inl f ↦ absurd (false≢true (ap (λ c. is_name (c ∷ ds)) (sym (eqb-true d 58 f)) ∙ h.0))
      | inr f ↦ sym (ap (λ b. cond (b || is_legacy (d ∷ ds)) PseudoElement PseudoClass) f ∙ ap (λ b. cond b PseudoElement PseudoClass) (not-true (is_legacy (d ∷ ds)) h.1))
    ]

element_kind : (cs : List ℕ) → is_pseudo_element cs ≡ true → PseudoElement ≡ kind_of (58 ∷ cs)
element_kind [] e = absurd (false≢true e)
element_kind (d ∷ ds) e = elim (cases_Bool (eqb d 58)) [
  | inl f ↦ sym (ap (λ b. cond (b || is_legacy (d ∷ ds)) PseudoElement PseudoClass) f)
  | inr f ↦ sym (ap (λ b. cond b PseudoElement PseudoClass) (or_right (eqb d 58) (is_legacy (d ∷ ds)) (sym (ap (λ b. cond b (is_name ds) (is_legacy (d ∷ ds))) f) ∙ e)))
]

pub kind_is : (k : PartKind) (t : List ℕ) → is_simple k t ≡ true → k ≡ kind_of t
kind_is Element [] e = refl
kind_is Element (c ∷ cs) e = by_first (λ c. is_element (c ∷ cs) ≡ true → Element ≡ kind_of (c ∷ cs)) (λ e. absurd (false≢true e)) (λ e. absurd (false≢true e)) (λ e. absurd (false≢true e)) (λ e. absurd (false≢true e)) (λ e. absurd (false≢true e)) c
    (λ h e. sym (begins_element c cs h)) e
kind_is Id (c ∷ cs) e = from_char c 35 cs (is_name cs) e Id refl
kind_is Class (c ∷ cs) e = from_char c 46 cs (is_name cs) e Class refl
kind_is Attribute (c ∷ cs) e = from_char c 91 cs (is_attribute_end cs) e Attribute refl
kind_is Nesting (c ∷ cs) e = from_char c 38 cs (is_empty cs) e Nesting refl
kind_is PseudoClass (c ∷ cs) e = from_char c 58 cs (is_pseudo_class cs) e PseudoClass (class_kind cs (and_parts (eqb c 58) (is_pseudo_class cs) e).1)
kind_is PseudoElement (c ∷ cs) e = from_char c 58 cs (is_pseudo_element cs) e PseudoElement (element_kind cs (and_parts (eqb c 58) (is_pseudo_element cs) e).1)
kind_is k [] e = absurd (false≢true e)
kind_is k (c ∷ cs) e = absurd (false≢true e)
