-- What the definitions of reading, of faults and of printing say together.
use Rattle.std.specs.Prelude.{◌≡◌, ◌≤◌, ◌<◌, ℕ, ◌+◌, ◌*◌, List, [], ◌∷◌, ◌++◌, Option, Some, None, length, take, drop}
use Rattle.css_text.specs.declared.lexer.Span.{Span}
use Rattle.css_text.specs.Ahead.{byte_len}
use Rattle.css_tree.specs.Tree.{Trees, none, node, Tree}
use Rattle.css_tree.specs.Print.{print, starts}
use Rattle.css_tree.specs.Pieces.{Lexeme, pieces_of}
use Rattle.css_tree.specs.Fault.{Fault, State, begin, after, fits, end_fault, lexical_fault, stop, fault}
use Rattle.css_tree.specs.Numbered.{number_after}
use Rattle.css_tree.specs.Reads.{Reads}

-- a text has at most one reading
abbrev pub OneReading : Type 0
OneReading = (s : List ℕ) (t u : Tree) → Reads s t → Reads s u → t ≡ u

-- a fault is found somewhere in a text exactly where the text has no reading
abbrev pub FaultOrReading : Type 0
FaultOrReading = (s : List ℕ) → (fault s ≡ None → (t : Tree) × Reads s t) × ((t : Tree) → Reads s t → fault s ≡ None)

-- a reading prints to its text
abbrev pub PrintsBack : Type 0
PrintsBack = (s : List ℕ) (t : Tree) → Reads s t → print t ≡ s

-- where a span starts
abbrev pub start_of : Option Span → List ℕ
start_of None = []
start_of (Some span) = span.start ∷ []

-- where the spans of trees start, in document order
unfoldable pub span_starts : Trees → List ℕ
span_starts none = []
span_starts (node text span children rest) = start_of span ++ (span_starts children ++ span_starts rest)

-- in the printing of a reading each node starts where its span does
abbrev pub StartsAtSpans : Type 0
StartsAtSpans = (s : List ℕ) (t : Tree) → Reads s t → starts t ≡ span_starts t.children

-- a span of at least two bytes
abbrev pub HasTwoBytes : Option Span → Type 0
HasTwoBytes None = ⊥
HasTwoBytes (Some span) = span.start + 2 ≤ span.end

abbrev pub EachHasTwoBytes : Trees → Type 0
EachHasTwoBytes none = Unit {0}
EachHasTwoBytes (node text span children rest) = HasTwoBytes span × EachHasTwoBytes children × EachHasTwoBytes rest

-- each node but the root has its span, of at least two bytes
abbrev pub TwoBytes : Type 0
TwoBytes = (s : List ℕ) (t : Tree) → Reads s t → EachHasTwoBytes t.children

-- so the nodes below the root are at most half as many as the text's bytes
abbrev pub AtMostHalf : Type 0
AtMostHalf = (s : List ℕ) (t : Tree) → Reads s t → 2 * number_after 0 t.children ≤ byte_len s

-- the fault that is found at the first of these pieces, or behind the last one
abbrev pub found_next : State → List Lexeme → Option Fault → Option Fault
found_next s [] lexical = end_fault lexical s
found_next s (p ∷ ps) lexical = fits s p

-- the fault that is found behind the first k pieces of a text
abbrev pub found_at : List ℕ → ℕ → Option Fault
found_at s k = found_next (after begin (take k (pieces_of s))) (drop k (pieces_of s)) (lexical_fault s)

-- what is known of the first place where a fault is found: none is found before, and that one is the fault of the text
abbrev pub Stops : List ℕ → Option ℕ → Type 0
Stops s None = (k : ℕ) → k ≤ length (pieces_of s) → found_at s k ≡ None
Stops s (Some n) = (n ≤ length (pieces_of s)) × ((k : ℕ) → k < n → found_at s k ≡ None) × (found_at s n ≡ fault s) × (fault s ≡ None → ⊥)

-- the fault of a text is the one that is found at the first place where one is
abbrev pub FaultAtStop : Type 0
FaultAtStop = (s : List ℕ) → Stops s (stop s)
