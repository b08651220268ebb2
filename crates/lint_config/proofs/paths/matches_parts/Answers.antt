use Rattle.std.proofs.Common.{◌∙◌, length}
use Rattle.std.specs.Str.{chars}
use Rattle.lint_config.specs.Glob.{parts}
use Rattle.lint_config.proofs.paths.matches_parts.Goals as goal

pub loop-next-preserved : goal.loop-next-preserved
loop-next-preserved c =
    let g = c.in-Next.ensures (length (parts (chars c.args.pattern.now))) c.loop-next.invariant.on in
    record { on = g.on; same = g.same ∙ c.loop-next.invariant.same }
