-- Small values and their parts, and words and their numbers.
use Rattle.std.specs.Prelude.{ℕ, true, false, List, [], Some, None, codes}
use Rattle.css_text.specs.declared.lexer.PieceKind.{PieceKind}
use Rattle.css_text.specs.declared.lexer.PieceKind.TheVariants.{Space, Comment, Quoted, Url, Word, Single}
use Rattle.value_parse.specs.Number.{span, TellsNumber}
use Rattle.css_text.specs.ValueParts.{ValueParts, none, value, plain, function, IsValue}

abbrev leaf : PieceKind → ℕ → List ℕ → ValueParts → ValueParts
leaf k at t rest = value (plain k) at t none true rest

-- a Function without its end
abbrev pub Unclosed : Type 0
Unclosed = IsValue (codes "calc(1px") (value function 0 (codes "calc") (leaf Word 5 (codes "1px") none) false none)

-- a Function in a Function, and parts after it
abbrev pub Nested : Type 0
Nested = IsValue (codes "a(b(c) d)e") (value function 0 (codes "a") (value function 2 (codes "b") (leaf Word 4 (codes "c") none) true (leaf Space 6 (codes " ") (leaf Word 7 (codes "d") none))) true (leaf Word 9 (codes "e") none))

-- marks, and a `)` that closes nothing
abbrev pub Marks : Type 0
Marks = IsValue (codes "/;)[,") (leaf Single 0 (codes "/") (leaf Single 1 (codes ";") (leaf Single 2 (codes ")") (leaf Single 3 (codes "[") (leaf Single 4 (codes ",") none)))))

-- the empty name; a name with an escaped parenthesis
abbrev pub Names : Type 0
Names = IsValue (codes "() a\\((") (value function 0 [] none true (leaf Space 2 (codes " ") (value function 3 (codes "a\\(") none false none)))

-- forms that run to the end of the text
abbrev pub Forms : Type 0
Forms = IsValue (codes "/*/") (leaf Comment 0 (codes "/*/") none) × IsValue (codes "'a\\'") (leaf Quoted 0 (codes "'a\\'") none) × IsValue (codes "url( x") (leaf Url 0 (codes "url( x") none)

-- the bytes of the number and those of its unit
abbrev pub Numbers : Type 0
Numbers = TellsNumber (codes "-.5E3px") (Some (span 0 5, span 5 7)) × TellsNumber (codes "1em") (Some (span 0 1, span 1 3)) × TellsNumber (codes "0") (Some (span 0 1, span 1 1))
    × TellsNumber (codes "+1.50e-2%") (Some (span 0 8, span 8 9)) × TellsNumber (codes "1e") (Some (span 0 1, span 1 2))

abbrev pub NoNumbers : Type 0
NoNumbers = TellsNumber (codes "1.") None × TellsNumber (codes "e3") None × TellsNumber (codes "1e+") None × TellsNumber (codes "-") None × TellsNumber (codes "1%%") None
