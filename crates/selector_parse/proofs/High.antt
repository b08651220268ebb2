-- Characters past ASCII, and their bytes, are read alike.
use Rattle.std.proofs.Common.{◌≡◌, ℕ, ◌<◌, ◌≤◌, Bool, true, false, eqb, Option, Some, None, refl, ap, sym, ◌∙◌, arith, lit<}
use Rattle.std.proofs.lemmas.Bool.{ne_eqb}
use Rattle.std.proofs.lemmas.Bool.Decides.{nat_tests}
use Rattle.css_text.proofs.Bytes.{is_space-high, is_quote-high}
use Rattle.selector_parse.specs.declared.reading.Gap.{Gap}
use Rattle.selector_parse.specs.declared.reading.Gap.TheVariants.{One, Comments, Spaced, Symbol}
use Rattle.selector_parse.specs.declared.reading.Within.{Within}
use Rattle.selector_parse.specs.declared.reading.Within.TheVariants.{Brackets, Parentheses}
use Rattle.selector_parse.specs.declared.reading.Reading.{Reading}
use Rattle.selector_parse.specs.declared.reading.Reading.TheVariants.{First, Next, ElementName, ElementEscape, Star, Bar, Colon, NameFirst, Name, NameEscape, Done, Text, TextEscape, Quoted, QuotedEscape, Blank, Slash, Note, NoteStar}
use Rattle.selector_parse.specs.Forms.{is_name_char, is_break, is_symbol}
use Rattle.selector_parse.specs.Reading.{unit, hidden, next, blank, before_symbol, within, quote, step}

-- what a character past ASCII gives
abbrev pub past : Reading → Option Reading
past First = Some ElementName
past ElementName = Some ElementName
past ElementEscape = Some ElementName
past Bar = Some Name
past Colon = Some Name
past NameFirst = Some Name
past Name = Some Name
past NameEscape = Some Name
past (Text w) = Some (Text w)
past (TextEscape w) = Some (Text w)
past (Quoted d w) = Some (Quoted d w)
past (QuotedEscape d w) = Some (Quoted d w)
past (Note g) = Some (Note g)
past (NoteStar g) = Some (Note g)
past q = None

module _ (c : ℕ) (h : 128 ≤ c) where
  no : (k : ℕ) → k < 128 → eqb c k ≡ false
  no k l = ne_eqb c k (λ e. omega arith)

  name : is_name_char c ≡ true
  name = grind (arith, nat_tests)

  unbroken : is_break c ≡ false
  unbroken = rw (no 10 (lit< tt), no 13 (lit< tt), no 12 (lit< tt)) refl

  sign : is_symbol c ≡ false
  sign = rw (no 62 (lit< tt), no 43 (lit< tt), no 126 (lit< tt)) refl

  next-past : next c ≡ None
  next-past = rw (no 35 (lit< tt), no 46 (lit< tt), no 58 (lit< tt), no 91 (lit< tt), no 38 (lit< tt)) refl

  unit-past : (p q : Reading) → unit p q c ≡ Some p
  unit-past p q = rw name refl

  hidden-past : (p : Reading) → hidden p c ≡ Some p
  hidden-past p = rw unbroken refl

  before_symbol-past : (g : Gap) → before_symbol g c ≡ None
  before_symbol-past g = rw (no 47 (lit< tt), is_space-high c h, sign) refl

  blank-past : (g : Gap) → blank g c ≡ None
  blank-past One = rw (no 47 (lit< tt)) refl
  blank-past Comments = before_symbol-past Comments
  blank-past Spaced = before_symbol-past Spaced
  blank-past Symbol = rw (no 47 (lit< tt), is_space-high c h) refl

  within-past : (w : Within) → within w c ≡ Some (Text w)
  within-past Brackets = rw (no 93 (lit< tt)) refl
  within-past (Parentheses held most) = rw (no 40 (lit< tt), no 41 (lit< tt)) refl

  quoted-past : (d : Bool) → eqb c (quote d) ≡ false
  quoted-past true = no 34 (lit< tt)
  quoted-past false = no 39 (lit< tt)

  pub step-past : (q : Reading) → step q c ≡ past q
  unfolding step
  step-past First = rw name refl
  step-past Next = next-past
  step-past ElementName = rw (no 124 (lit< tt)) (unit-past ElementName ElementEscape)
  step-past ElementEscape = hidden-past ElementName
  step-past Star = rw (no 124 (lit< tt)) refl
  step-past Bar = rw (no 42 (lit< tt)) (unit-past Name NameEscape)
  step-past Colon = rw (no 58 (lit< tt)) (unit-past Name NameEscape)
  step-past NameFirst = unit-past Name NameEscape
  step-past Name = unit-past Name NameEscape
  step-past NameEscape = hidden-past Name
  step-past Done = refl
  step-past (Text w) = rw (no 92 (lit< tt), is_quote-high c h) (within-past w)
  step-past (TextEscape w) = refl
  step-past (Quoted d w) = rw (quoted-past d, no 92 (lit< tt)) refl
  step-past (QuotedEscape d w) = refl
  step-past (Blank g) = blank-past g
  step-past (Slash g) = rw (no 42 (lit< tt)) refl
  step-past (Note g) = rw (no 42 (lit< tt)) refl
  step-past (NoteStar g) = rw (no 47 (lit< tt), no 42 (lit< tt)) refl

-- it gives the same once more
some_eq : {A : Type 0} (a b : A) → Some a ≡ Some b → a ≡ b
some_eq a b e = cc

pub past_again : (q p : Reading) → past q ≡ Some p → past p ≡ Some p
past_again First p e = ap past (sym (some_eq ElementName p e)) ∙ e
past_again ElementName p e = ap past (sym (some_eq ElementName p e)) ∙ e
past_again ElementEscape p e = ap past (sym (some_eq ElementName p e)) ∙ e
past_again Bar p e = ap past (sym (some_eq Name p e)) ∙ e
past_again Colon p e = ap past (sym (some_eq Name p e)) ∙ e
past_again NameFirst p e = ap past (sym (some_eq Name p e)) ∙ e
past_again Name p e = ap past (sym (some_eq Name p e)) ∙ e
past_again NameEscape p e = ap past (sym (some_eq Name p e)) ∙ e
past_again (Text w) p e = ap past (sym (some_eq (Text w) p e)) ∙ e
past_again (TextEscape w) p e = ap past (sym (some_eq (Text w) p e)) ∙ e
past_again (Quoted d w) p e = ap past (sym (some_eq (Quoted d w) p e)) ∙ e
past_again (QuotedEscape d w) p e = ap past (sym (some_eq (Quoted d w) p e)) ∙ e
past_again (Note g) p e = ap past (sym (some_eq (Note g) p e)) ∙ e
past_again (NoteStar g) p e = ap past (sym (some_eq (Note g) p e)) ∙ e
past_again Next p e = cc
past_again Star p e = cc
past_again Done p e = cc
past_again (Blank g) p e = cc
past_again (Slash g) p e = cc
