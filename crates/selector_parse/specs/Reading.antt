-- The proof's own: the forms of specs/Forms as the code reads them, one character after another. What has been read so far says
-- which character may follow, and whether the part may end there.
use Rattle.std.specs.Prelude.{ℕ, suc, ◌+◌, ◌-◌, Bool, true, false, ◌==◌, ◌&&◌, ◌||◌, nat_lt, if◌then◌else◌, List, [], ◌∷◌, Option, Some, None}
use Rattle.css_text.specs.Characters.{is_space, is_quote}
use Rattle.selector_parse.specs.Forms.{is_name_char, is_break, is_symbol}
use Rattle.selector_parse.specs.declared.reading.Gap.{Gap}
use Rattle.selector_parse.specs.declared.reading.Gap.TheVariants.{One, Comments, Spaced, Symbol}
use Rattle.selector_parse.specs.declared.reading.Within.{Within}
use Rattle.selector_parse.specs.declared.reading.Within.TheVariants.{Brackets, Parentheses}
use Rattle.selector_parse.specs.declared.reading.Reading.{Reading}
use Rattle.selector_parse.specs.declared.reading.Reading.TheVariants.{First, Next, ElementName, ElementEscape, Star, Bar, Colon, NameFirst, Name, NameEscape, Done, Text, TextEscape, Quoted, QuotedEscape, Blank, Slash, Note, NoteStar}

-- a unit of a name, or the backslash before one
abbrev pub unit : Reading → Reading → ℕ → Option Reading
unit name escape c = if is_name_char c then Some name else if c == 92 then Some escape else None

-- a backslash hides any character but a line break
abbrev pub hidden : Reading → ℕ → Option Reading
hidden name c = if is_break c then None else Some name

-- the first character of a simple selector that is no Element
abbrev pub next : ℕ → Option Reading
next c = if c == 35 || c == 46 then Some NameFirst else if c == 58 then Some Colon else if c == 91 then Some (Text Brackets) else if c == 38 then Some Done else None

-- the first character of a simple selector
abbrev pub first : ℕ → Option Reading
first c = if is_name_char c then Some ElementName else if c == 92 then Some ElementEscape else if c == 42 then Some Star else if c == 124 then Some Bar else next c

-- blanks with white space
abbrev pub spaced : Gap → Gap
spaced Comments = Spaced
spaced g = g

-- after a whole comment
abbrev pub noted : Gap → Reading
noted One = Done
noted g = Blank g

abbrev pub before_symbol : Gap → ℕ → Option Reading
before_symbol g c = if c == 47 then Some (Slash g) else if is_space c then Some (Blank Spaced) else if is_symbol c then Some (Blank Symbol) else None

-- between comments: at most one sign
abbrev pub blank : Gap → ℕ → Option Reading
blank One c = if c == 47 then Some (Slash One) else None
blank Symbol c = if c == 47 then Some (Slash Symbol) else if is_space c then Some (Blank Symbol) else None
blank g c = before_symbol g c

-- a character of text that is no quote and no backslash: an attribute's ] ends it; parentheses are balanced, and so is the end
abbrev pub within : Within → ℕ → Option Reading
within Brackets c = if c == 93 then Some Done else Some (Text Brackets)
within (Parentheses held most) c =
    if c == 40 then (if nat_lt held most then Some (Text (Parentheses (held + 1) most)) else None)
    else if c == 41 then (if nat_lt 0 held then Some (Text (Parentheses (held - 1) most)) else None)
    else Some (Text (Parentheses held most))

-- " or '
abbrev pub quote : Bool → ℕ
quote true = 34
quote false = 39

-- One character more.
unfoldable pub step : Reading → ℕ → Option Reading
step First c = first c
step Next c = next c
step ElementName c = if c == 124 then Some Bar else unit ElementName ElementEscape c
step ElementEscape c = hidden ElementName c
step Star c = if c == 124 then Some Bar else None
step Bar c = if c == 42 then Some Done else unit Name NameEscape c
step Colon c = if c == 58 then Some NameFirst else unit Name NameEscape c
step NameFirst c = unit Name NameEscape c
step Name c = unit Name NameEscape c
step NameEscape c = hidden Name c
step Done c = None
step (Text w) c = if c == 92 then Some (TextEscape w) else if is_quote c then Some (Quoted (c == 34) w) else within w c
step (TextEscape w) c = Some (Text w)
step (Quoted d w) c = if c == quote d then Some (Text w) else if c == 92 then Some (QuotedEscape d w) else Some (Quoted d w)
step (QuotedEscape d w) c = Some (Quoted d w)
step (Blank g) c = blank g c
step (Slash g) c = if c == 42 then Some (Note g) else None
step (Note g) c = if c == 42 then Some (NoteStar g) else Some (Note g)
step (NoteStar g) c = if c == 47 then Some (noted g) else if c == 42 then Some (NoteStar g) else Some (Note g)

-- the part may end here
abbrev pub is_final : Reading → Bool
is_final ElementName = true
is_final Star = true
is_final Name = true
is_final Done = true
is_final (Text (Parentheses held most)) = held == 0
is_final (Blank g) = true
is_final q = false

-- what follows, where there is something to follow
abbrev pub on : {A B : Type 0} → Option A → (A → Option B) → Option B
on None f = None
on (Some a) f = f a

-- All characters of a text.
abbrev pub read : Reading → List ℕ → Option Reading
read q [] = Some q
read q (c ∷ cs) = on (step q c) (λ p. read p cs)

-- what follows, or this where there is nothing to follow
abbrev pub or_on : {B : Type 0} → Option Reading → B → (Reading → B) → B
or_on None b f = b
or_on (Some q) b f = f q

-- How many characters of a text can be read, and what has been read then.
abbrev pub scan_len : Reading → List ℕ → ℕ
scan_len q [] = 0
scan_len q (c ∷ cs) = or_on (step q c) 0 (λ p. suc (scan_len p cs))

abbrev pub scan_last : Reading → List ℕ → Reading
scan_last q [] = q
scan_last q (c ∷ cs) = or_on (step q c) q (λ p. scan_last p cs)

-- between the comments of a run
abbrev pub is_between : Reading → Bool
is_between (Blank g) = true
is_between q = false

-- the sign that is read of a combinator; else a space
abbrev pub sign_from : Reading → List ℕ → ℕ
sign_from q [] = 32
sign_from q (c ∷ cs) = if is_between q && is_symbol c then c else or_on (step q c) 32 (λ p. sign_from p cs)

abbrev pub read_sign : List ℕ → ℕ
read_sign t = sign_from (Blank Comments) t
