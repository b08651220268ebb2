use Rattle.std.proofs.Common.{◌∙◌, ap, reverse, append-nil, arith}
use Rattle.visitor_walk.proofs.Closing as Closing
use Rattle.visitor_walk.proofs.Passing as Passing
use Rattle.visitor_walk.proofs.Turning as Turning
use Rattle.visitor_walk.proofs.pass.close_all.Goals as goal

pub loop-visit-init : goal.loop-visit-init
loop-visit-init c = Closing.closing_none _ _

pub loop-visit-preserved : goal.loop-visit-preserved
loop-visit-preserved c = Closing.closing_on _ _ _ _ _ _ c.in-Some.visit (Turning.pushed_back c.pop.new.self.items c.loop-visit.stack.items c.in-Some.visit c.in-Some.ensures.items) c.loop-visit.invariant c.close.ensures

pub returns-clause-count : goal.returns-clause-count
returns-clause-count c = Closing.closed_all _ _ _ (reverse c.loop-visit.stack.items) (ap reverse (c.in_default.ensures.items ∙ append-nil c.pop.new.self.items) ∙ ap reverse (Passing.empty_from c.pop.new.self.items (let i = c.in_default.ensures.cases.1 in let j = c.pop.new.self.ok.0 in omega arith))) c.loop-visit.invariant

pub returns-clause-kept : goal.returns-clause-kept
returns-clause-kept c = λ serial a. (c.loop-visit.invariant.kept serial a).1
