use Rattle.std.proofs.Common.{sym, ◌∙◌}
use Rattle.css_parse.proofs.PlainBrackets.{open-run, close-run}
use Rattle.css_parse.proofs.plain.depth_behind.Goals as goal

pub returns-in-40-clause-run : goal.returns-in-40-clause-run
returns-in-40-clause-run c = open-run c.args.bytes.now c.args.at c.args.depth (sym c.byte_at.ensures ∙ c.in-40.is) (sym c.follows_l.ensures ∙ c.if-not-follows_l.true)

pub returns-in-41-clause-run : goal.returns-in-41-clause-run
returns-in-41-clause-run c = close-run c.args.bytes.now c.args.at c.args.depth (sym c.byte_at.ensures ∙ c.in-41.is) c.if-depth-gt0.true
