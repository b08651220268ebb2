use Rattle.std.proofs.Common.{ap, length, reverse}
use Rattle.css_tree.specs.Pieces.{round, square}
use Rattle.css_tree.specs.Turn.{is_custom}
use Rattle.css_parse.specs.Shapes.{named}
use Rattle.css_parse.proofs.Turns.{right_at, brace_at, reverse-some, some_length}
use Rattle.css_parse.proofs.turn.busy.Goals as goal

pub returns-in-RoundClose : goal.returns-in-RoundClose
returns-in-RoundClose c = λ p. right_at (named c.args.shape) round c.close_bracket.result (is_custom c.args.run.now) (reverse c.args.awaited.now) p (ap named c.in-RoundClose.is) (c.close_bracket.ensures p)

pub returns-in-SquareClose : goal.returns-in-SquareClose
returns-in-SquareClose c = λ p. right_at (named c.args.shape) square c.close_bracket-in-SquareClose.result (is_custom c.args.run.now) (reverse c.args.awaited.now) p (ap named c.in-SquareClose.is) (c.close_bracket-in-SquareClose.ensures p)

pub returns-in-BraceClose-2 : goal.returns-in-BraceClose-2
returns-in-BraceClose-2 c =
    λ p. brace_at (named c.args.shape) c.close_bracket-in-BraceClose-2.result (is_custom c.args.run.now) (reverse c.args.awaited.now) p (ap named c.in-BraceClose-2.is) (reverse-some c.args.awaited.now (some_length (length c.args.awaited.now) c.if-is_empty.ensures)) (c.close_bracket-in-BraceClose-2.ensures p)
