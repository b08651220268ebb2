-- Names and Elements are what the code reads as such.
use Rattle.std.proofs.Common.{◌≡◌, ℕ, zero, suc, Bool, true, false, cond, eqb, List, [], ◌∷◌, drop, Some, None, refl, ap, sym, ◌∙◌, subst, inl, inr}
use Rattle.std.specs.Prelude.{◌&&◌, ◌||◌}
use Rattle.std.proofs.lemmas.Bool.{eqb-true, cases_Bool}
use Rattle.selector_parse.specs.declared.reading.Reading.{Reading}
use Rattle.selector_parse.specs.declared.reading.Reading.TheVariants.{First, ElementName, ElementEscape, Star, Bar, NameFirst, Name, NameEscape, Done}
use Rattle.selector_parse.specs.Forms.{is_name_char, is_break, is_empty, Form, on_form, after_all, hidden_in_name, name_unit, is_name, is_name_or_star, is_barred, is_element}
use Rattle.selector_parse.specs.Reading.{next, step, on, read}
use Rattle.selector_parse.specs.Phases.{is_whole}

-- what is known at each place of a text, from what is known after its first character
pub all_is : {X : Type 0} (form : Form) (f g : List ℕ → X) → f [] ≡ g []
    → ((c : ℕ) (cs : List ℕ) → ((k : ℕ) → f (after_all form k cs) ≡ g (drop k cs)) → f (on_form (form c cs) (c ∷ cs) (λ n. after_all form n cs)) ≡ g (c ∷ cs))
    → (cs : List ℕ) (k : ℕ) → f (after_all form k cs) ≡ g (drop k cs)
all_is form f g e s [] zero = e
all_is form f g e s [] (suc k) = e
all_is form f g e s (c ∷ cs) (suc k) = all_is form f g e s cs k
all_is form f g e s (c ∷ cs) zero = s c cs (all_is form f g e s cs)

-- a backslash in a name
escape_is : (f : List ℕ → Bool) (base escape : Reading) (c : ℕ) (cs : List ℕ) → f (c ∷ cs) ≡ false → is_whole (Some escape) ≡ false → ((d : ℕ) → step escape d ≡ cond (is_break d) None (Some base))
    → ((k : ℕ) → f (after_all name_unit k cs) ≡ is_whole (read base (drop k cs))) → f (on_form (hidden_in_name cs) (c ∷ cs) (λ n. after_all name_unit n cs)) ≡ is_whole (read escape cs)
escape_is f base escape c [] e w s ih = e ∙ sym w
escape_is f base escape c (d ∷ ds) e w s ih = go (is_break d) ∙ sym (ap (λ o. is_whole (on o (λ p. read p ds))) (s d))
  where
    go : (b : Bool) → f (on_form (cond b None (Some 1)) (c ∷ d ∷ ds) (λ n. after_all name_unit n (d ∷ ds))) ≡ is_whole (on (cond b None (Some base)) (λ p. read p ds))
    go true = e
    go false = ih 1

-- units of a base
units_step : (f : List ℕ → Bool) (base escape : Reading) (c : ℕ) (cs : List ℕ) → f (c ∷ cs) ≡ false → is_whole (Some escape) ≡ false → ((d : ℕ) → step escape d ≡ cond (is_break d) None (Some base))
    → ((k : ℕ) → f (after_all name_unit k cs) ≡ is_whole (read base (drop k cs)))
    → f (on_form (name_unit c cs) (c ∷ cs) (λ n. after_all name_unit n cs)) ≡ is_whole (on (cond (is_name_char c) (Some base) (cond (eqb c 92) (Some escape) None)) (λ p. read p cs))
units_step f base escape c cs e w s ih = go (is_name_char c) (eqb c 92)
  where
    go : (a b : Bool) → f (on_form (cond a (Some 0) (cond b (hidden_in_name cs) None)) (c ∷ cs) (λ n. after_all name_unit n cs)) ≡ is_whole (on (cond a (Some base) (cond b (Some escape) None)) (λ p. read p cs))
    go true b = ih 0
    go false true = escape_is f base escape c cs e w s ih
    go false false = e

name_escape : (d : ℕ) → step NameEscape d ≡ cond (is_break d) None (Some Name)
unfolding step
name_escape d = refl

element_escape : (d : ℕ) → step ElementEscape d ≡ cond (is_break d) None (Some ElementName)
unfolding step
element_escape d = refl

name_step : (c : ℕ) (cs : List ℕ) → ((k : ℕ) → is_empty (after_all name_unit k cs) ≡ is_whole (read Name (drop k cs))) → is_empty (on_form (name_unit c cs) (c ∷ cs) (λ n. after_all name_unit n cs)) ≡ is_whole (read Name (c ∷ cs))
unfolding step
name_step c cs ih = units_step is_empty Name NameEscape c cs refl refl name_escape ih

pub units_are : (cs : List ℕ) → is_empty (after_all name_unit 0 cs) ≡ is_whole (read Name cs)
units_are cs = all_is name_unit is_empty (λ t. is_whole (read Name t)) refl name_step cs 0

pub name_is : (cs : List ℕ) → is_whole (read NameFirst cs) ≡ is_name cs
unfolding step
name_is [] = refl
name_is (c ∷ cs) = sym (units_are (c ∷ cs))

pub done_is : (cs : List ℕ) → is_whole (read Done cs) ≡ is_empty cs
unfolding step
done_is [] = refl
done_is (c ∷ cs) = refl

pub and_yes : (b : Bool) → b ≡ (b && true)
and_yes true = refl
and_yes false = refl

-- after a |
local_go : (c : ℕ) (cs : List ℕ) (b : Bool) → eqb c 42 ≡ b → is_whole (on (cond b (Some Done) (cond (is_name_char c) (Some Name) (cond (eqb c 92) (Some NameEscape) None))) (λ p. read p cs)) ≡ ((b && is_empty cs) || is_name (c ∷ cs))
unfolding step
local_go c cs true e = done_is cs ∙ or_no (is_empty cs) ∙ ap (λ d. is_empty cs || is_name (d ∷ cs)) (sym (eqb-true c 42 e))
  where
    or_no : (b : Bool) → b ≡ (b || false)
    or_no true = refl
    or_no false = refl
local_go c cs false e = sym (units_are (c ∷ cs))

pub local_is : (cs : List ℕ) → is_whole (read Bar cs) ≡ is_name_or_star cs
unfolding step
local_is [] = refl
local_is (c ∷ cs) = local_go c cs (eqb c 42) refl

-- an Element that begins with a name
rest_is : List ℕ → Bool
rest_is t = is_empty t || is_barred t

rest_step : (c : ℕ) (cs : List ℕ) → ((k : ℕ) → rest_is (after_all name_unit k cs) ≡ is_whole (read ElementName (drop k cs))) → rest_is (on_form (name_unit c cs) (c ∷ cs) (λ n. after_all name_unit n cs)) ≡ is_whole (read ElementName (c ∷ cs))
unfolding step rest_is
rest_step c cs ih = elim (cases_Bool (eqb c 124)) [
  | inl e ↦ subst (λ d. rest_is (on_form (name_unit d cs) (d ∷ cs) (λ n. after_all name_unit n cs)) ≡ is_whole (read ElementName (d ∷ cs))) (sym (eqb-true c 124 e)) (sym (local_is cs))
  | inr e ↦ units_step rest_is ElementName ElementEscape c cs (ap (λ b. b && is_name_or_star cs) e) refl element_escape ih
      ∙ sym (ap (λ b. is_whole (on (cond b (Some Bar) (cond (is_name_char c) (Some ElementName) (cond (eqb c 92) (Some ElementEscape) None))) (λ p. read p cs))) e)
]

element_rest : (cs : List ℕ) → rest_is (after_all name_unit 0 cs) ≡ is_whole (read ElementName cs)
unfolding rest_is
element_rest cs = all_is name_unit rest_is (λ t. is_whole (read ElementName t)) refl rest_step cs 0

-- an Element that begins with *
star_is : (cs : List ℕ) → is_whole (read Star cs) ≡ is_element (42 ∷ cs)
unfolding step
star_is [] = refl
star_is (d ∷ ds) = go (eqb d 124)
  where
    go : (b : Bool) → is_whole (on (cond b (Some Bar) None) (λ p. read p ds)) ≡ (b && is_name_or_star ds)
    go true = local_is ds
    go false = refl

first_other : (c : ℕ) (cs : List ℕ) → eqb c 42 ≡ false → eqb c 124 ≡ false → next c ≡ None → is_whole (read First (c ∷ cs)) ≡ is_whole (read ElementName (c ∷ cs))
unfolding step
first_other c cs e f g = ap (λ b. is_whole (on (cond (is_name_char c) (Some ElementName) (cond (eqb c 92) (Some ElementEscape) (cond b (Some Star) (cond (eqb c 124) (Some Bar) (next c))))) (λ p. read p cs))) e
    ∙ ap (λ b. is_whole (on (cond (is_name_char c) (Some ElementName) (cond (eqb c 92) (Some ElementEscape) (cond b (Some Bar) (next c)))) (λ p. read p cs))) f
    ∙ ap (λ o. is_whole (on (cond (is_name_char c) (Some ElementName) (cond (eqb c 92) (Some ElementEscape) o)) (λ p. read p cs))) g
    ∙ sym (ap (λ b. is_whole (on (cond b (Some Bar) (cond (is_name_char c) (Some ElementName) (cond (eqb c 92) (Some ElementEscape) None))) (λ p. read p cs))) f)

element_other : (c : ℕ) (cs : List ℕ) → eqb c 42 ≡ false → rest_is (after_all name_unit 0 (c ∷ cs)) ≡ is_element (c ∷ cs)
unfolding rest_is
element_other c cs e = sym (ap (λ b. ((b && is_empty cs) || is_name (c ∷ cs)) || is_barred (cond b cs (after_all name_unit 0 (c ∷ cs)))) e)

pub element_is : (c : ℕ) (cs : List ℕ) → next c ≡ None → is_whole (read First (c ∷ cs)) ≡ is_element (c ∷ cs)
unfolding step
element_is c cs g = elim (cases_Bool (eqb c 42)) [
  | inl e ↦ subst (λ d. is_whole (read First (d ∷ cs)) ≡ is_element (d ∷ cs)) (sym (eqb-true c 42 e)) (star_is cs)
  | inr e ↦ elim (cases_Bool (eqb c 124)) [
    | inl f ↦ subst (λ d. is_whole (read First (d ∷ cs)) ≡ is_element (d ∷ cs)) (sym (eqb-true c 124 f)) (local_is cs)
    | inr f ↦ first_other c cs e f g ∙ sym (element_rest (c ∷ cs)) ∙ element_other c cs e
  ]
]
