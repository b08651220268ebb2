-- Attributes and arguments that are no list are what the code reads as such.
use Rattle.std.proofs.Common.{◌≡◌, ℕ, zero, suc, ◌+◌, ◌-◌, Bool, true, false, cond, eqb, List, [], ◌∷◌, drop, Option, Some, None, refl, ap, sym, ◌∙◌, subst, inl, inr}
use Rattle.std.specs.Prelude.{◌&&◌, ◌||◌, nat_lt}
use Rattle.std.specs.Option.{option_map}
use Rattle.std.proofs.lemmas.Bool.{eqb-true, cases_Bool, false≢true}
use Rattle.css_text.specs.Characters.{is_quote}
use Rattle.css_text.specs.Forms.{through}
use Rattle.selector_parse.specs.declared.reading.Within.{Within}
use Rattle.selector_parse.specs.declared.reading.Within.TheVariants.{Brackets, Parentheses}
use Rattle.selector_parse.specs.declared.reading.Reading.TheVariants.{Text, TextEscape, Quoted, QuotedEscape, Done}
use Rattle.selector_parse.specs.Forms.{is_empty, on_form, after_all, hidden_in_text, text_unit, is_bracket, is_attribute_end, opened, is_balanced}
use Rattle.selector_parse.specs.Reading.{quote, within, step, on, read}
use Rattle.selector_parse.specs.Phases.{is_whole}
use Rattle.selector_parse.proofs.NameForms.{all_is, done_is}

-- one character earlier
pub map_on : {X : Type 0} (x : X) (f : List ℕ → X) (c : ℕ) (cs : List ℕ) (o : Option ℕ) → on_form (option_map suc o) x (λ n. f (drop n (c ∷ cs))) ≡ on_form o x (λ n. f (drop n cs))
map_on x f c cs None = refl
map_on x f c cs (Some n) = refl

-- what a string leaves
after_string : Bool → Bool → Within → List ℕ → Bool
after_string d hidden w cs = on_form (through (quote d) hidden cs) false (λ n. is_whole (read (Text w) (drop n cs)))

record Strings (d : Bool) (w : Within) (cs : List ℕ) : Type 0 where
  pub plain : is_whole (read (Quoted d w) cs) ≡ after_string d false w cs
  pub hidden : is_whole (read (QuotedEscape d w) cs) ≡ after_string d true w cs

strings : (d : Bool) (w : Within) (cs : List ℕ) → Strings d w cs
unfolding step after_string
strings d w [] = record { plain = refl; hidden = refl }
strings d w (c ∷ cs) = let ih = strings d w cs in record {
  plain = go (eqb c (quote d)) (eqb c 92) ih;
  hidden = ih.plain ∙ sym (map_on false (λ t. is_whole (read (Text w) t)) c cs (through (quote d) false cs));
}
  where
    go : (a b : Bool) → Strings d w cs → is_whole (on (cond a (Some (Text w)) (cond b (Some (QuotedEscape d w)) (Some (Quoted d w)))) (λ p. read p cs)) ≡ on_form (cond a (Some 1) (option_map suc (through (quote d) b cs))) false (λ n. is_whole (read (Text w) (drop n (c ∷ cs))))
    go true b ih = refl
    go false true ih = ih.hidden ∙ sym (map_on false (λ t. is_whole (read (Text w) t)) c cs (through (quote d) true cs))
    go false false ih = ih.plain ∙ sym (map_on false (λ t. is_whole (read (Text w) t)) c cs (through (quote d) false cs))

quote_is : (c : ℕ) → is_quote c ≡ true → quote (eqb c 34) ≡ c
unfolding is_quote
quote_is c e = elim (cases_Bool (eqb c 34)) [
  | inl f ↦ ap quote f ∙ sym (eqb-true c 34 f)
  | inr f ↦ ap quote f ∙ sym (eqb-true c 39 (sym (ap (λ b. b || eqb c 39) f) ∙ e))
]

pub string_is : (w : Within) (c : ℕ) (cs : List ℕ) → is_quote c ≡ true → is_whole (read (Quoted (eqb c 34) w) cs) ≡ on_form (through c false cs) false (λ n. is_whole (read (Text w) (drop n cs)))
unfolding after_string
string_is w c cs e = (strings (eqb c 34) w cs).plain ∙ ap (λ q. on_form (through q false cs) false (λ n. is_whole (read (Text w) (drop n cs)))) (quote_is c e)

-- by what is known after a form
on_same : {X : Type 0} (o : Option ℕ) (x y : X) (f g : ℕ → X) → x ≡ y → ((n : ℕ) → f n ≡ g n) → on_form o x f ≡ on_form o y g
on_same None x y f g e h = e
on_same (Some n) x y f g e h = h n

pub push_on : {X Y : Type 0} (t : X → Y) (o : Option ℕ) (x : X) (f : ℕ → X) → t (on_form o x f) ≡ on_form o (t x) (λ n. t (f n))
push_on t None x f = refl
push_on t (Some n) x f = refl

-- a quote is no bracket and no parenthesis
quote_open : (c : ℕ) → is_quote c ≡ true → eqb c 93 ≡ false
unfolding is_quote
quote_open c e = elim (cases_Bool (eqb c 93)) [
  | inl f ↦ absurd (false≢true (ap is_quote (sym (eqb-true c 93 f)) ∙ e))
  | inr f ↦ f
]

quiet : (most held c : ℕ) → is_quote c ≡ true → opened most held c ≡ Some held
unfolding is_quote
quiet most held c e = elim (cases_Bool (eqb c 34)) [
  | inl f ↦ subst (λ d. opened most held d ≡ Some held) (sym (eqb-true c 34 f)) refl
  | inr f ↦ subst (λ d. opened most held d ≡ Some held) (sym (eqb-true c 39 (sym (ap (λ b. b || eqb c 39) f) ∙ e))) refl
]

-- an attribute
attribute_step : (c : ℕ) (cs : List ℕ) → ((k : ℕ) → is_bracket (after_all (text_unit (λ c. eqb c 93)) k cs) ≡ is_whole (read (Text Brackets) (drop k cs)))
    → is_bracket (on_form (text_unit (λ c. eqb c 93) c cs) (c ∷ cs) (λ n. after_all (text_unit (λ c. eqb c 93)) n cs)) ≡ is_whole (read (Text Brackets) (c ∷ cs))
unfolding step
attribute_step c cs ih = elim (cases_Bool (eqb c 92)) [
  | inl e ↦ subst (λ d. is_bracket (on_form (text_unit (λ c. eqb c 93) d cs) (d ∷ cs) (λ n. after_all (text_unit (λ c. eqb c 93)) n cs)) ≡ is_whole (read (Text Brackets) (d ∷ cs))) (sym (eqb-true c 92 e)) (escape cs ih)
  | inr e ↦ ap (λ b. is_bracket (on_form (cond b (hidden_in_text cs) (cond (is_quote c) (through c false cs) (cond (eqb c 93) None (Some 0)))) (c ∷ cs) (λ n. after_all (text_unit (λ c. eqb c 93)) n cs))) e
      ∙ go (is_quote c) (eqb c 93) refl refl ∙ sym (ap (λ b. is_whole (on (cond b (Some (TextEscape Brackets)) (cond (is_quote c) (Some (Quoted (eqb c 34) Brackets)) (within Brackets c))) (λ p. read p cs))) e)
]
  where
    escape : (cs : List ℕ) → ((k : ℕ) → is_bracket (after_all (text_unit (λ c. eqb c 93)) k cs) ≡ is_whole (read (Text Brackets) (drop k cs)))
        → is_bracket (on_form (hidden_in_text cs) (92 ∷ cs) (λ n. after_all (text_unit (λ c. eqb c 93)) n cs)) ≡ is_whole (read (TextEscape Brackets) cs)
    escape [] ih = refl
    escape (d ∷ ds) ih = ih 1

    go : (a b : Bool) → is_quote c ≡ a → eqb c 93 ≡ b → is_bracket (on_form (cond a (through c false cs) (cond b None (Some 0))) (c ∷ cs) (λ n. after_all (text_unit (λ c. eqb c 93)) n cs))
        ≡ is_whole (on (cond a (Some (Quoted (eqb c 34) Brackets)) (cond b (Some Done) (Some (Text Brackets)))) (λ p. read p cs))
    go true b e f = push_on is_bracket (through c false cs) (c ∷ cs) (λ n. after_all (text_unit (λ c. eqb c 93)) n cs)
        ∙ on_same (through c false cs) (is_bracket (c ∷ cs)) false (λ n. is_bracket (after_all (text_unit (λ c. eqb c 93)) n cs)) (λ n. is_whole (read (Text Brackets) (drop n cs))) (ap (λ b. b && is_empty cs) (quote_open c e)) ih
        ∙ sym (string_is Brackets c cs e)
    go false true e f = ap (λ b. b && is_empty cs) f ∙ sym (done_is cs)
    go false false e f = ih 0

pub attribute_is : (cs : List ℕ) → is_whole (read (Text Brackets) cs) ≡ is_attribute_end cs
attribute_is cs = sym (all_is (text_unit (λ c. eqb c 93)) is_bracket (λ t. is_whole (read (Text Brackets) t)) refl attribute_step cs 0)

-- text in parentheses
balanced_step : (most held c : ℕ) (cs : List ℕ) → ((h k : ℕ) → is_balanced most h k cs ≡ is_whole (read (Text (Parentheses h most)) (drop k cs)))
    → is_balanced most held 0 (c ∷ cs) ≡ is_whole (read (Text (Parentheses held most)) (c ∷ cs))
unfolding step
balanced_step most held c cs ih = elim (cases_Bool (eqb c 92)) [
  | inl e ↦ subst (λ d. is_balanced most held 0 (d ∷ cs) ≡ is_whole (read (Text (Parentheses held most)) (d ∷ cs))) (sym (eqb-true c 92 e)) (escape cs ih)
  | inr e ↦ ap (λ b. on_form (cond b (hidden_in_text cs) (cond (is_quote c) (through c false cs) (Some 0))) false (λ n. on_form (opened most held c) false (λ m. is_balanced most m n cs))) e
      ∙ go (is_quote c) refl ∙ sym (ap (λ b. is_whole (on (cond b (Some (TextEscape (Parentheses held most))) (cond (is_quote c) (Some (Quoted (eqb c 34) (Parentheses held most))) (within (Parentheses held most) c))) (λ p. read p cs))) e)
]
  where
    escape : (cs : List ℕ) → ((h k : ℕ) → is_balanced most h k cs ≡ is_whole (read (Text (Parentheses h most)) (drop k cs)))
        → on_form (hidden_in_text cs) false (λ n. is_balanced most held n cs) ≡ is_whole (read (TextEscape (Parentheses held most)) cs)
    escape [] ih = refl
    escape (d ∷ ds) ih = ih held 1

    bracket : (a b e f : Bool) → on_form (cond a (cond e (Some (held + 1)) None) (cond b (cond f (Some (held - 1)) None) (Some held))) false (λ m. is_balanced most m 0 cs)
        ≡ is_whole (on (cond a (cond e (Some (Text (Parentheses (held + 1) most))) None) (cond b (cond f (Some (Text (Parentheses (held - 1) most))) None) (Some (Text (Parentheses held most))))) (λ p. read p cs))
    bracket true b true f = ih (held + 1) 0
    bracket true b false f = refl
    bracket false true e true = ih (held - 1) 0
    bracket false true e false = refl
    bracket false false e f = ih held 0

    go : (a : Bool) → is_quote c ≡ a → on_form (cond a (through c false cs) (Some 0)) false (λ n. on_form (opened most held c) false (λ m. is_balanced most m n cs))
        ≡ is_whole (on (cond a (Some (Quoted (eqb c 34) (Parentheses held most))) (within (Parentheses held most) c)) (λ p. read p cs))
    go true e = ap (λ o. on_form (through c false cs) false (λ n. on_form o false (λ m. is_balanced most m n cs))) (quiet most held c e)
        ∙ on_same (through c false cs) false false (λ n. is_balanced most held n cs) (λ n. is_whole (read (Text (Parentheses held most)) (drop n cs))) refl (ih held)
        ∙ sym (string_is (Parentheses held most) c cs e)
    go false e = bracket (eqb c 40) (eqb c 41) (nat_lt held most) (nat_lt 0 held)

balanced : (most : ℕ) (cs : List ℕ) (held k : ℕ) → is_balanced most held k cs ≡ is_whole (read (Text (Parentheses held most)) (drop k cs))
balanced most [] held zero = refl
balanced most [] held (suc k) = refl
balanced most (c ∷ cs) held (suc k) = balanced most cs held k
balanced most (c ∷ cs) held zero = balanced_step most held c cs (balanced most cs)

pub balanced_is : (most held : ℕ) (cs : List ℕ) → is_whole (read (Text (Parentheses held most)) cs) ≡ is_balanced most held 0 cs
balanced_is most held cs = sym (balanced most cs held 0)
