-- What the machine comes to over a plain statement, with these pieces in its run.
use Rattle.std.specs.Prelude.{ℕ, List, [], ◌∷◌, ◌++◌, true}
use Rattle.css_text.specs.declared.lexer.PieceKind.TheVariants as K
use Rattle.css_tree.specs.Pieces.{Lexeme}
use Rattle.css_tree.specs.Turn.{opens}
use Rattle.css_parse.specs.Machine.{Machine, next, leaf_node}

-- behind the `;` of a declaration
abbrev pub leaf_next : Machine → List Lexeme → Machine
leaf_next m run = record m { nodes = m.nodes ++ leaf_node m.number m.gap run ∷ []; semicolon = true; gap = []; run = [] }

-- behind the `{` of a rule
abbrev pub head_next : Machine → List Lexeme → Lexeme → Machine
head_next m run q = next (record m { run = run }) q opens

-- the `{` at that byte
abbrev pub brace : ℕ → Lexeme
brace at = record { kind = K.Single; at = at; text = 123 ∷ [] }
