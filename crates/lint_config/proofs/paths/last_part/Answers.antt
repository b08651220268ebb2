use Rattle.std.proofs.Common.{◌∙◌, ap, sym}
use Rattle.std.specs.Str.{chars}
use Rattle.lint_config.specs.Glob.{last_of}
use Rattle.lint_config.proofs.Slashes.{last_after}
use Rattle.lint_config.proofs.paths.last_part.Goals as goal

pub loop-after-preserved : goal.loop-after-preserved
loop-after-preserved c =
    let u = rw c.in-Some.is at c.split.ensures.utf8 in
    let e = rw c.in-Some.is at c.split.ensures.parts in
    (u, sym (last_after (chars c.split.result.0.now) (chars c.in-Some.after.now)) ∙ ap last_of (sym e) ∙ c.loop-after.invariant.1)
