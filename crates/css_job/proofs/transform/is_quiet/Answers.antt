use Rattle.std.proofs.Common.{◌∙◌, sym}
use Rattle.css_job.proofs.Unedited.{quiet_more, not_quiet}
use Rattle.css_job.proofs.transform.is_quiet.Goals as goal

pub loop-item-preserved : goal.loop-item-preserved
loop-item-preserved c = quiet_more c.args.log.now c.loop-item.item-index c.item-item.result c.loop-item-test.true (λ e h. c.in_default.not-Edit e (c.item-item.is ∙ h)) c.loop-item.invariant

pub returns-in-Edit : goal.returns-in-Edit
returns-in-Edit c = (λ e. absurd cc, λ q. absurd (not_quiet c.args.log.now c.loop-item.item-index c.item-item.result c.in-Edit.field-0 c.loop-item-test.true (sym c.item-item.is ∙ c.in-Edit.is) q))
