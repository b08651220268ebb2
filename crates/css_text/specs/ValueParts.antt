-- The parts of a value, as a grammar on its list of characters: parts side by side, and Functions with the parts inside them.
use Rattle.std.specs.Prelude.{◌≡◌, ◌<◌, ℕ, suc, ◌+◌, Bool, true, false, ◌==◌, ◌&&◌, ◌||◌, if◌then◌else◌, List, [], ◌∷◌, ◌++◌, length, Option, Some, None, drop}
use Rattle.css_text.specs.declared.lexer.PieceKind.{PieceKind}
use Rattle.css_text.specs.declared.lexer.PieceKind.TheVariants.{Space, Comment, Quoted, Url, Word, Single}
use Rattle.css_text.specs.Characters.{is_space, is_quote, is_single}
use Rattle.css_text.specs.Forms.{begins, space_len, through, through_comment, begins_url}
use Rattle.css_text.specs.Ahead.{byte_len}

-- White space, a quote, a parenthesis or one of the marks , / : ; [ ] { }: what no Word goes over.
unfoldable pub ends_value : ℕ → Bool
ends_value c = is_space c || is_quote c || is_single c || c == 47

-- The rest of a Word. Where a backslash stands directly before, the first character is hidden.
abbrev pub value_len : Bool → List ℕ → ℕ
value_len hidden [] = 0
value_len true (c ∷ cs) = suc (value_len false cs)
value_len false (c ∷ cs) = if ends_value c then 0 else suc (value_len (c == 92) cs)

-- a form that ends k characters and those through its end from here, or runs over all n characters that are left
abbrev pub end_or : ℕ → Option ℕ → ℕ → ℕ
end_or k None n = n
end_or k (Some m) n = k + m

abbrev pub part : PieceKind → ℕ → PieceKind × ℕ
part k n = (k, n)

-- The first part of c ∷ cs, nesting left aside: its kind, and how many characters it has after c. A mark or a parenthesis is
-- a Single.
unfoldable pub first_part : ℕ → List ℕ → PieceKind × ℕ
first_part c cs =
    if is_space c then part Space (space_len cs)
    else if c == 47 && begins 42 cs then part Comment (end_or 1 (through_comment (drop 1 cs)) (length cs))
    else if is_quote c then part Quoted (end_or 0 (through c false cs) (length cs))
    else if begins_url (c ∷ cs) then part Url (end_or 3 (through 41 false (drop 3 cs)) (length cs))
    else if ends_value c then part Single 0
    else part Word (value_len (c == 92) cs)

-- what a part is: one of the forms above, or a Function
pub data ValueForm : Type 0 where
  plain : PieceKind → ValueForm
  function : ValueForm

-- Parts side by side: each with its form, its first byte, its text (a Function's name), the parts inside it, whether it has
-- its end, and the parts after it.
pub data ValueParts : Type 0 where
  none : ValueParts
  value : ValueForm → ℕ → List ℕ → ValueParts → Bool → ValueParts → ValueParts

-- `)`, where a Function has it
abbrev pub ending : Bool → List ℕ
ending true = 41 ∷ []
ending false = []

-- The text that parts make.
abbrev pub written : ValueParts → List ℕ
written none = []
written (value (plain k) at t inner closed rest) = t ++ written rest
written (value function at t inner closed rest) = t ++ (40 ∷ (written inner ++ (ending closed ++ written rest)))

-- The form stands as the first part before the text `r`.
abbrev pub StandsBefore : PieceKind → List ℕ → List ℕ → Type 0
StandsBefore k [] r = ⊥
StandsBefore k (c ∷ cs) r = first_part c (cs ++ r) ≡ part k (length cs)

-- at most so many Functions inside one another
abbrev pub most_depth : ℕ
most_depth = 100

-- What nesting asks of a part that is no Function, inside so many Functions, before the text `r`: a `(` is one inside 100
-- Functions, a `)` closes nothing, and before a `(` that begins a Function there is no Word.
abbrev pub StaysPlain : ℕ → PieceKind → List ℕ → List ℕ → Type 0
StaysPlain depth Word t r = begins 40 r ≡ true → depth ≡ most_depth
StaysPlain depth k t r = (t ≡ 40 ∷ [] → depth ≡ most_depth) × (t ≡ 41 ∷ [] → depth ≡ 0)

-- a Function's name: none, or a Word
abbrev pub IsName : List ℕ → List ℕ → Type 0
IsName [] r = Unit {0}
IsName (c ∷ cs) r = StandsBefore Word (c ∷ cs) r

-- a Function without its end runs to the end of the text
abbrev pub EndsThere : Bool → List ℕ → Type 0
EndsThere true r = Unit {0}
EndsThere false r = r ≡ []

-- Each part is as the grammar says, where all stand inside so many Functions before the text `r`.
abbrev pub AreParts : ℕ → ValueParts → List ℕ → Type 0
AreParts depth none r = Unit {0}
AreParts depth (value (plain k) at t inner closed rest) r =
    StandsBefore k t (written rest ++ r) × StaysPlain depth k t (written rest ++ r) × (inner ≡ none) × (closed ≡ true) × AreParts depth rest r
AreParts depth (value function at t inner closed rest) r =
    (depth < most_depth) × IsName t (40 ∷ (written inner ++ (ending closed ++ (written rest ++ r)))) × EndsThere closed (written rest ++ r)
    × AreParts (suc depth) inner (ending closed ++ (written rest ++ r)) × AreParts depth rest r

-- What may follow the parts inside so many Functions: nothing, or a `)` that closes one.
abbrev pub Stops : ℕ → List ℕ → Type 0
Stops depth [] = Unit {0}
Stops depth (c ∷ cs) = (c ≡ 41) × (depth ≡ 0 → ⊥)

-- parts before others
abbrev pub followed : ValueParts → ValueParts → ValueParts
followed none q = q
followed (value form at t inner closed rest) q = value form at t inner closed (followed rest q)

-- Each part's first byte, where the first part stands at the byte `at`.
abbrev pub StandAt : ℕ → ValueParts → Type 0
StandAt at none = Unit {0}
StandAt at (value (plain k) a t inner closed rest) = (a ≡ at) × StandAt (at + byte_len t) rest
StandAt at (value function a t inner closed rest) =
    (a ≡ at) × StandAt (at + byte_len t + 1) inner × StandAt (at + byte_len t + 1 + byte_len (written inner) + length (ending closed)) rest

-- The parts of a text. There is exactly one such list of parts for each text.
pub record IsValue (s : List ℕ) (parts : ValueParts) : Type 0 where
  pub text : written parts ≡ s
  pub are : AreParts 0 parts []
  pub places : StandAt 0 parts
