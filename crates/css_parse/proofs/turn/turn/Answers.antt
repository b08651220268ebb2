use Rattle.std.proofs.Common.{◌≡◌, [], reverse, refl, ap, arith}
use Rattle.std.proofs.lemmas.Grind.{common_steps}
use Rattle.css_tree.specs.Turn.{is_custom}
use Rattle.css_parse.specs.Shapes.{named}
use Rattle.css_parse.proofs.Turns.{idle_turn, busy_turn}
use Rattle.css_parse.proofs.turn.turn.Goals as goal

pub returns-then-is_empty : goal.returns-then-is_empty
returns-then-is_empty c =
    let e : c.args.run.now ≡ [] = grind (arith, common_steps) in
    λ p h. idle_turn c.idle.result c.args.run.now (reverse c.args.awaited.now) p (named c.args.form) e (ap reverse (c.requires e)) h (c.idle.ensures p)

pub returns-else-is_empty : goal.returns-else-is_empty
returns-else-is_empty c =
    let n : c.args.run.now ≡ [] → ⊥ = λ e. grind (arith, common_steps) in
    λ p h. busy_turn c.busy.result c.args.run.now (reverse c.args.awaited.now) p (named c.args.form) (is_custom c.args.run.now) n refl h (c.busy.ensures p)
