use Rattle.std.proofs.Common.{◌∙◌, ap}
use Rattle.node_rows.proofs.Behind.{held-self}
use Rattle.stringify.specs.Sheet.{onward}
use Rattle.stringify.proofs.Turns.{with_body-onward}
use Rattle.stringify.proofs.steps.write_body.Goals as goal

pub loop-at-init : goal.loop-at-init
loop-at-init c =
    let ns = c.args.work.now.nodes in
    let n = c.args.n in (
      record { given = c.requires; held = held-self ns n c.requires; depth = c.depth_of-depth.ensures },
      ap (onward ns n n) c.in_ok-begin_body.ensures ∙ with_body-onward c.args.work.now c.facts.ensures n c.args.out.now c.requires,
    )
