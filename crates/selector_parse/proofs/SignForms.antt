-- The sign of a combinator is what the code reads as such.
use Rattle.std.proofs.Common.{◌≡◌, ℕ, Bool, true, false, cond, eqb, List, ◌∷◌, drop, Some, None, refl, ap, sym, ◌∙◌}
use Rattle.std.specs.Prelude.{◌||◌}
use Rattle.std.proofs.lemmas.Bool.{eqb-true, false≢true, or_from, false_from_ne_true}
use Rattle.css_text.specs.Characters.{is_space}
use Rattle.selector_parse.specs.declared.reading.Gap.{Gap}
use Rattle.selector_parse.specs.declared.reading.Gap.TheVariants.{Comments, Spaced, Symbol}
use Rattle.selector_parse.specs.declared.reading.Reading.{Reading}
use Rattle.selector_parse.specs.declared.reading.Reading.TheVariants.{Blank, Slash, Note, NoteStar}
use Rattle.selector_parse.specs.Forms.{is_symbol, after_all, blank_unit}
use Rattle.selector_parse.specs.Reading.{noted, step, or_on, sign_from, read_sign}
use Rattle.selector_parse.specs.Normal.{sign_at, sign}
use Rattle.selector_parse.proofs.BlankForms.{Told, blanks_at, no_slash}

cond_some : (b : Bool) (p q : Reading) (cs : List ℕ) → or_on (cond b (Some p) (Some q)) 32 (λ p. sign_from p cs) ≡ sign_from (cond b p q) cs
cond_some true p q cs = refl
cond_some false p q cs = refl

cond_two : (a b : Bool) (p q r : Reading) (cs : List ℕ) → or_on (cond a (Some p) (cond b (Some q) (Some r))) 32 (λ p. sign_from p cs) ≡ sign_from (cond a p (cond b q r)) cs
cond_two true b p q r cs = refl
cond_two false b p q r cs = cond_some b q r cs

told : (g : Gap) → Told sign_from 32 g
unfolding step
told g = record {
  slash_end = refl;
  note_end = refl;
  star_end = refl;
  slash = λ c cs. refl;
  note = λ c cs. cond_some (eqb c 42) (NoteStar g) (Note g) cs;
  star = λ c cs. cond_two (eqb c 47) (eqb c 42) (noted g) (NoteStar g) (Note g) cs;
}

not_that : (k c : ℕ) → is_space k ≡ false → is_space c ≡ true → eqb c k ≡ false
not_that k c e f = false_from_ne_true (eqb c k) (λ g. false≢true (sym e ∙ ap is_space (sym (eqb-true c k g)) ∙ f))

no_symbol : (c : ℕ) → is_space c ≡ true → is_symbol c ≡ false
unfolding is_space
no_symbol c e = or_from (eqb c 62 || eqb c 43) (eqb c 126) (or_from (eqb c 62) (eqb c 43) (not_that 62 c refl e) (not_that 43 c refl e)) (not_that 126 c refl e)

-- a character between comments, before a sign
between : Gap → Bool → Bool → Bool → ℕ → List ℕ → ℕ
between g a b s c cs = cond s c (or_on (cond a (Some (Slash g)) (cond b (Some (Blank Spaced)) (cond s (Some (Blank Symbol)) None))) 32 (λ p. sign_from p cs))

comments_between : (c : ℕ) (cs : List ℕ) → sign_from (Blank Comments) (c ∷ cs) ≡ between Comments (eqb c 47) (is_space c) (is_symbol c) c cs
unfolding step between
comments_between c cs = refl

spaced_between : (c : ℕ) (cs : List ℕ) → sign_from (Blank Spaced) (c ∷ cs) ≡ between Spaced (eqb c 47) (is_space c) (is_symbol c) c cs
unfolding step between
spaced_between c cs = refl

at_space : (g : Gap) (c : ℕ) (cs : List ℕ) → is_space c ≡ true → between g (eqb c 47) (is_space c) (is_symbol c) c cs ≡ sign_from (Blank Spaced) cs
unfolding between
at_space g c cs e = ap (λ a. between g a (is_space c) (is_symbol c) c cs) (no_slash c e) ∙ ap (λ b. between g false b (is_symbol c) c cs) e ∙ ap (λ s. between g false true s c cs) (no_symbol c e)

at_other : (g : Gap) (c : ℕ) (cs : List ℕ) → eqb c 47 ≡ false → is_space c ≡ false → between g (eqb c 47) (is_space c) (is_symbol c) c cs ≡ cond (is_symbol c) c 32
unfolding between
at_other g c cs e f = ap (λ a. between g a (is_space c) (is_symbol c) c cs) e ∙ ap (λ b. between g false b (is_symbol c) c cs) f ∙ go (is_symbol c)
  where
    go : (s : Bool) → cond s c (or_on (cond s (Some (Blank Symbol)) None) 32 (λ p. sign_from p cs)) ≡ cond s c 32
    go true = refl
    go false = refl

spaced_is : (cs : List ℕ) (n : ℕ) → sign_at (after_all blank_unit n cs) ≡ sign_from (Blank Spaced) (drop n cs)
unfolding step
spaced_is cs n = blanks_at sign_from 32 Spaced (told Spaced) sign_at refl refl (λ cs. refl) (λ cs. refl)
    (λ c cs s h. h ∙ sym (spaced_between c cs ∙ at_space Spaced c cs s)) (λ c cs s h. sym (spaced_between c cs ∙ at_other Spaced c cs s h)) cs n

pub signs_is : (t : List ℕ) → read_sign t ≡ sign t
unfolding step
signs_is t = sym (blanks_at sign_from 32 Comments (told Comments) sign_at refl refl (λ cs. refl) (λ cs. refl)
    (λ c cs s h. spaced_is cs 0 ∙ sym (comments_between c cs ∙ at_space Comments c cs s)) (λ c cs s h. sym (comments_between c cs ∙ at_other Comments c cs s h)) t 0)
