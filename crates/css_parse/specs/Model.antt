-- How the parser stands to its machine.
use Rattle.std.specs.Prelude.{◌≡◌, ◌+◌, ◌≤◌, ℕ, List, [], ◌∷◌, reverse, length, Option, None, Result, Ok, Err}
use Rattle.css_text.specs.declared.stop.Stop.{Stop}
use Rattle.css_text.specs.declared.stop.Stop.TheVariants as E
use Rattle.node_rows.specs.declared.node_list.NodeAt.{NodeAt}
use Rattle.css_text.proofs.Slices.{IsSlice}
use Rattle.css_tree.specs.Pieces.{Lexeme, end_of, last_end}
use Rattle.css_tree.specs.Fault.{Fault}
use Rattle.css_parse.specs.declared.parser.Parser.{Parser}
use Rattle.css_parse.specs.Machine.{Machine, answer, faulty, done}
use Rattle.css_parse.specs.Standing.{sheet, gap_text, IsBehind}

abbrev pub model : Parser → Machine
model p = record {
  nodes = p.nodes;
  number = p.number;
  semicolon = p.semicolon;
  frames = reverse p.frames.items;
  gap = gap_text (sheet p.texts) p.gap;
  run = p.run;
  awaited = reverse p.awaited.items;
}

-- The gap and the statement in progress stand side by side in these bytes, which are the sheet's, and end at the byte `at`.
pub record IsUpTo (bytes : List ℕ) (p : Parser) (at : ℕ) : Type 0 where
  pub same : sheet p.texts ≡ bytes
  pub behind : IsBehind bytes p.gap p.run
  pub end : last_end p.gap.end p.run ≡ at

-- the piece stands there directly behind them
pub record IsNext (bytes : List ℕ) (p : Parser) (q : Lexeme) : Type 0 where
  pub up_to : IsUpTo bytes p q.at
  pub slice : IsSlice bytes q.at (end_of q) q.text

-- there are no more nodes and pieces in progress than bytes, besides the root
abbrev pub IsSmall : Machine → ℕ → Type 0
IsSmall s at = length s.nodes + length s.run ≤ 1 + at

-- the first state with this piece before the others comes to what the second comes to with those
abbrev pub Advances : Machine → Lexeme → Machine → Type 0
Advances s p u = (ps : List Lexeme) (lex : Option Fault) → answer s (p ∷ ps) lex ≡ answer u ps lex

-- the fault is what this state and piece come to
abbrev pub IsStop : Stop Fault → Machine → Lexeme → Type 0
IsStop (E.Fault f) s p = (ps : List Lexeme) (lex : Option Fault) → answer s (p ∷ ps) lex ≡ faulty f
IsStop (E.Memory e) s p = Unit {0}

-- what a state comes to with no further pieces
abbrev pub IsEnd : Result (List NodeAt) (Stop Fault) → Machine → Type 0
IsEnd (Ok es) s = answer s [] None ≡ done es
IsEnd (Err (E.Fault f)) s = answer s [] None ≡ faulty f
IsEnd (Err (E.Memory e)) s = Unit {0}
