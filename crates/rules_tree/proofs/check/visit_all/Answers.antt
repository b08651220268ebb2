use Rattle.rules_tree.proofs.Dispatch.{each_allowed, all_taken}
use Rattle.rules_tree.proofs.check.visit_all.Goals as goal

pub visit-requires-clause-allowed : goal.visit-requires-clause-allowed
visit-requires-clause-allowed c = each_allowed c.args.settings.now c.loop-setting.setting-index _ c.requires.allowed c.loop-setting-test.true

pub returns : goal.returns
returns c = all_taken _ c.args.settings.now c.loop-setting.setting-index c.args.sites.now.items c.loop-setting.sites.items c.loop-setting-test.false c.loop-setting.invariant
