use Rattle.std.proofs.Common.{◌∙◌, ap, refl, length, ◌+◌, ◌-◌}
use Rattle.visitor_walk.proofs.Keeping as Keeping
use Rattle.visitor_walk.proofs.Making as Making
use Rattle.visitor_walk.proofs.walk.make_call.Goals as goal

pub returns-then-spent-limits-clause-made : goal.returns-then-spent-limits-clause-made
returns-then-spent-limits-clause-made g c = λ hs begin old os r. Making.all_spent c.args.limits r c.if-spent-limits.true

pub returns-in_err-fault-clause-made : goal.returns-in_err-fault-clause-made
returns-in_err-fault-clause-made g c = λ hs begin old os r. Making.made_broken c.args.limits r c.call.new.work _ c.args.spent.now _ c.in_err-fault.field-0.0 _ c.from_residual.ensures.0 c.requires.calls c.if-spent-limits.false c.in_err-fault.ensures

pub returns-in_err-fault-clause-on_shelf : goal.returns-in_err-fault-clause-on_shelf
returns-in_err-fault-clause-on_shelf g c = Making.kept_broken c.in_err-fault.field-0.0 c.in_err-fault.ensures

pub returns-clause-on_shelf : goal.returns-clause-on_shelf
returns-clause-on_shelf g c = Making.kept_back c.in_ok-fault.fault c.in_ok-fault.ensures

pub returns-clause-made : goal.returns-clause-made
returns-clause-made g c = λ hs begin old os r.
    rw c.end_after.ensures (Making.came c.args.limits r c.call.new.work _ (record { calls = c.args.spent.now.calls + 1; edits = c.args.spent.now.edits + (length c.log.result.now - length c.log-before.result.now - 2) }) c.requires.calls c.if-spent-limits.false refl
    (ap (λ k. c.args.spent.now.edits + (length c.log.result.now - k - 2)) (ap length c.log-before.ensures) ∙ ap (λ k. c.args.spent.now.edits + (k - length c.args.work.now.log - 2)) (ap length c.log.ensures)) c.in_ok-fault.fault c.in_ok-fault.ensures)

pub returns-clause-edited : goal.returns-clause-edited
returns-clause-edited g c = Keeping.where_none _ c.end_after.result (Keeping.edits_of c.in_ok-fault.ensures)
