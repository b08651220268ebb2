-- What has been read of a part can be made whole.
use Rattle.std.proofs.Common.{◌≡◌, ℕ, zero, suc, ◌-◌, Bool, true, false, List, [], ◌∷◌, ◌++◌, Some, refl, ap, ◌∙◌, arith}
use Rattle.std.specs.Prelude.{nat_lt}
use Rattle.std.proofs.lemmas.Bool.{lt-ltb}
use Rattle.css_text.specs.Characters.{is_space, is_quote}
use Rattle.selector_parse.specs.declared.reading.Gap.{Gap}
use Rattle.selector_parse.specs.declared.reading.Gap.TheVariants.{One, Comments, Spaced, Symbol}
use Rattle.selector_parse.specs.declared.reading.Within.{Within}
use Rattle.selector_parse.specs.declared.reading.Within.TheVariants.{Brackets, Parentheses}
use Rattle.selector_parse.specs.declared.reading.Reading.{Reading}
use Rattle.selector_parse.specs.declared.reading.Reading.TheVariants.{First, Next, ElementName, ElementEscape, Star, Bar, Colon, NameFirst, Name, NameEscape, Done, Text, TextEscape, Quoted, QuotedEscape, Blank, Slash, Note, NoteStar}
use Rattle.selector_parse.specs.Reading.{quote, noted, step, on, read, is_final}
use Rattle.selector_parse.proofs.Moves.{some_same, read_head}

closes : ℕ → List ℕ
closes zero = []
closes (suc n) = 41 ∷ closes n

close : Within → List ℕ
close Brackets = 93 ∷ []
close (Parentheses held most) = closes held

pub finish : Reading → List ℕ
finish First = 38 ∷ []
finish Next = 38 ∷ []
finish ElementName = []
finish ElementEscape = 97 ∷ []
finish Star = []
finish Bar = 42 ∷ []
finish Colon = 97 ∷ []
finish NameFirst = 97 ∷ []
finish Name = []
finish NameEscape = 97 ∷ []
finish Done = []
finish (Text w) = close w
finish (TextEscape w) = 97 ∷ close w
finish (Quoted d w) = quote d ∷ close w
finish (QuotedEscape d w) = 97 ∷ quote d ∷ close w
finish (Blank g) = []
finish (Slash g) = 42 ∷ 42 ∷ 47 ∷ []
finish (Note g) = 42 ∷ 47 ∷ []
finish (NoteStar g) = 47 ∷ []

-- what has been read then
unfoldable pub finished : Reading → Reading
finished First = Done
finished Next = Done
finished ElementName = ElementName
finished ElementEscape = ElementName
finished Star = Star
finished Bar = Done
finished Colon = Name
finished NameFirst = Name
finished Name = Name
finished NameEscape = Name
finished Done = Done
finished (Text Brackets) = Done
finished (Text (Parentheses held most)) = Text (Parentheses 0 most)
finished (TextEscape Brackets) = Done
finished (TextEscape (Parentheses held most)) = Text (Parentheses 0 most)
finished (Quoted d Brackets) = Done
finished (Quoted d (Parentheses held most)) = Text (Parentheses 0 most)
finished (QuotedEscape d Brackets) = Done
finished (QuotedEscape d (Parentheses held most)) = Text (Parentheses 0 most)
finished (Blank g) = Blank g
finished (Slash g) = noted g
finished (Note g) = noted g
finished (NoteStar g) = noted g

less_one : (n : ℕ) → suc n - 1 ≡ n
less_one n = omega arith

some_held : (n : ℕ) → nat_lt 0 (suc n) ≡ true
some_held n = lt-ltb 0 (suc n) (omega arith)

close_step : (n most : ℕ) → step (Text (Parentheses (suc n) most)) 41 ≡ Some (Text (Parentheses n most))
unfolding step is_quote
close_step n most = rw (some_held n, less_one n) refl

closes_read : (n most : ℕ) → read (Text (Parentheses n most)) (closes n) ≡ Some (Text (Parentheses 0 most))
unfolding closes
closes_read zero most = refl
closes_read (suc n) most = ap (λ o. on o (λ p. read p (closes n))) (close_step n most) ∙ closes_read n most

quote_step : (d : Bool) (w : Within) → step (Quoted d w) (quote d) ≡ Some (Text w)
unfolding step
quote_step true w = refl
quote_step false w = refl

pub finish_read : (q : Reading) → read q (finish q) ≡ Some (finished q)
unfolding step finish finished close closes is_space is_quote
finish_read First = refl
finish_read Next = refl
finish_read ElementName = refl
finish_read ElementEscape = refl
finish_read Star = refl
finish_read Bar = refl
finish_read Colon = refl
finish_read NameFirst = refl
finish_read Name = refl
finish_read NameEscape = refl
finish_read Done = refl
finish_read (Text Brackets) = refl
finish_read (Text (Parentheses held most)) = closes_read held most
finish_read (TextEscape Brackets) = refl
finish_read (TextEscape (Parentheses held most)) = closes_read held most
finish_read (Quoted d Brackets) = ap (λ o. on o (λ p. read p (93 ∷ []))) (quote_step d Brackets)
finish_read (Quoted d (Parentheses held most)) = ap (λ o. on o (λ p. read p (closes held))) (quote_step d (Parentheses held most)) ∙ closes_read held most
finish_read (QuotedEscape d Brackets) = ap (λ o. on o (λ p. read p (93 ∷ []))) (quote_step d Brackets)
finish_read (QuotedEscape d (Parentheses held most)) = ap (λ o. on o (λ p. read p (closes held))) (quote_step d (Parentheses held most)) ∙ closes_read held most
finish_read (Blank g) = refl
finish_read (Slash g) = refl
finish_read (Note g) = refl
finish_read (NoteStar g) = refl

noted_final : (g : Gap) → is_final (noted g) ≡ true
noted_final One = refl
noted_final Comments = refl
noted_final Spaced = refl
noted_final Symbol = refl

pub finish_final : (q : Reading) → is_final (finished q) ≡ true
unfolding finished
finish_final (Text Brackets) = refl
finish_final (Text (Parentheses held most)) = refl
finish_final (TextEscape Brackets) = refl
finish_final (TextEscape (Parentheses held most)) = refl
finish_final (Quoted d Brackets) = refl
finish_final (Quoted d (Parentheses held most)) = refl
finish_final (QuotedEscape d Brackets) = refl
finish_final (QuotedEscape d (Parentheses held most)) = refl
finish_final (Slash g) = noted_final g
finish_final (Note g) = noted_final g
finish_final (NoteStar g) = noted_final g
finish_final First = refl
finish_final Next = refl
finish_final ElementName = refl
finish_final ElementEscape = refl
finish_final Star = refl
finish_final Bar = refl
finish_final Colon = refl
finish_final NameFirst = refl
finish_final Name = refl
finish_final NameEscape = refl
finish_final Done = refl
finish_final (Blank g) = refl

pub read-append : (q p : Reading) (t u : List ℕ) → read q t ≡ Some p → read q (t ++ u) ≡ read p u
read-append q p [] u e = ap (λ q. read q u) (some_same q p e)
read-append q p (c ∷ cs) u e = let h = read_head q p c cs e in ap (λ o. on o (λ r. read r (cs ++ u))) h.1.0 ∙ read-append h.0 p cs u h.1.1

-- read to its end
pub made_whole : (q p : Reading) (t : List ℕ) → read q t ≡ Some p → read q (t ++ finish p) ≡ Some (finished p)
made_whole q p t e = read-append q p t (finish p) e ∙ finish_read p
