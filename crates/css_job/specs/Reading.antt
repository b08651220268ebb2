-- What a text is read as: the tree of a style sheet, or why it is none.
use Rattle.std.specs.Prelude.{ℕ, List, Result, Ok, Err}
use Rattle.css_tree.specs.declared.fault.SyntaxFault.{SyntaxFault}
use Rattle.css_tree.specs.Tree.{Tree}
use Rattle.css_tree.specs.Reads.{Reads}
use Rattle.css_parse.specs.Answer.{IsFaultOf}

abbrev pub Reading : Type 0
Reading = Result Tree SyntaxFault

-- the tree that the text reads as, or its first fault
abbrev pub IsReadingOf : List ℕ → Reading → Type 0
IsReadingOf s (Ok t) = Reads s t
IsReadingOf s (Err f) = IsFaultOf f s

-- no tree is the text's
abbrev pub HasNoTree : List ℕ → Type 0
HasNoTree s = (t : Tree) → Reads s t → ⊥
