-- Where the loop over the pieces of a text stands.
use Rattle.std.specs.Prelude.{◌≡◌, ℕ, ◌<◌, ◌≤◌, List, [], Option, Some, None, Result, Ok, Err, length, drop}
use Rattle.std.specs.Str.{chars}
use Rattle.css_text.specs.Pieces.{Unclosed, Token}
use Rattle.css_text.specs.PieceKinds.{AreOfKinds}
use Rattle.css_text.specs.Ahead.{Ahead, ahead}
use Rattle.css_text.proofs.Reader.{IsAt}
use Rattle.css_text.specs.declared.stop.Stop.{Stop}
use Rattle.css_tree.specs.Pieces.{located, last_end}
use Rattle.css_tree.specs.Fault.{Fault, lexical_at}
use Rattle.css_tree.proofs.Formed.{AllFormed}
use Rattle.css_parse.specs.declared.parser.Parser.{Parser}
use Rattle.css_parse.specs.Machine.{Machine, answer, IsReady}
use Rattle.css_parse.specs.Model.{model, IsUpTo, IsSmall}
use Rattle.css_parse.specs.Reading.{whole, IsRead}

-- The reader is at the byte `at`; the pieces that are left come from this state to what the whole text comes to.
pub record Reading (s bs : List ℕ) (lexer : Ahead) (m : Machine) (at : ℕ) : Type 0 where
  pub tokens : List Token
  pub rest : List ℕ
  pub fault : Option Unclosed
  pub is_at : IsAt bs at tokens rest fault lexer
  pub ready : IsReady m
  pub small : IsSmall m at
  pub kinds : AreOfKinds tokens
  pub formed : AllFormed (located at tokens)
  pub same : whole s ≡ answer m (located at tokens) (lexical_at (last_end at (located at tokens)) fault)

-- The loop: the parser's state is at that byte of the text, in the sheet and in what it comes to.
pub record Going (s bs : List ℕ) (at : ℕ) (p : Parser) : Type 0 where
  pub reading : Reading s bs (ahead at (drop at bs)) (model p) at
  pub up_to : IsUpTo bs p at

-- what reading on from a byte answers: the byte behind what was read, the end of the text, or the fault that the text comes to
abbrev pub Reads : Result (Option ℕ) (Stop Fault) → List ℕ → ℕ → Parser → Parser → Type 0
Reads (Ok (Some next)) bs at p n = (at < next) × (next ≤ length bs) × Going (chars bs) bs next n
Reads (Ok None) bs at p n = (n ≡ p) × (whole (chars bs) ≡ answer (model p) [] None)
Reads (Err x) bs at p n = IsRead (Err x) (chars bs)
