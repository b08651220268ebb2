use Rattle.std.proofs.Common.{◌≡◌, ◌-◌, suc, ◌∙◌, ap, refl, arith}
use Rattle.std.proofs.lemmas.Option.{slice_get_read}
use Rattle.visitor_machine.specs.Machine.{called}
use Rattle.visitor_walk.specs.Groups.{shown_hook}
use Rattle.visitor_walk.proofs.turn.next_call.Goals as goal

pub returns-in-Some-clause-next : goal.returns-in-Some-clause-next
returns-in-Some-clause-next c =
    let h = c.in-Some.ensures in
    let at = slice_get_read c.args.hooks.now _ c.in-Some.at c.index-hooks-at.result refl h.inside c.index-hooks-at.is in
    let same : h.hook ≡ c.index-hooks-at.result = let e = h.is in cc in
    record {
      x = (shown_hook h.hook, suc c.in-Some.at - c.args.from);
      found = h.first;
      behind = let l = h.after in omega arith;
      call = ap (λ r. called c.args.node (shown_hook r)) same ∙ rw c.due_at.ensures refl;
    }

pub returns-in-Some-clause-calls : goal.returns-in-Some-clause-calls
returns-in-Some-clause-calls c = λ shelf all. rw c.due_at.ensures (all c.in-Some.at c.index-hooks-at.result (slice_get_read c.args.hooks.now _ c.in-Some.at c.index-hooks-at.result refl c.in-Some.ensures.inside c.index-hooks-at.is))
