use Rattle.std.proofs.Common.{arith, ◌∙◌, ap, sym, subst, refl, reverse, Some, None}
use Rattle.visitor_walk.specs.Turns.{AreOnShelf, dirty_total}
use Rattle.visitor_machine.specs.Hooks.{enter_event, exit_event, enters}
use Rattle.visitor_machine.specs.Machine.{kind_at}
use Rattle.visitor_walk.proofs.Turning as Turning
use Rattle.visitor_walk.proofs.Growing as Growing
use Rattle.visitor_walk.proofs.Onward as Onward
use Rattle.visitor_walk.proofs.turn.go_on.Goals as goal

pub returns-in_err-push-clause-walked : goal.returns-in_err-push-clause-walked
returns-in_err-push-clause-walked c = λ hs most s gr pass w q ho.
    (Turning.strolls_not hs most c.args.work.now c.args.visit _ s pass w c.args.work.now c.args.visit.children _ (Turning.same_seat c.args.work.now c.args.visit.children c.args.visit.node _ (Turning.seat_now hs most c.args.work.now c.args.visit _ s pass w)), Turning.no_ok _ _ c.from_residual.ensures.0)

pub returns-in-Some-clause-walked : goal.returns-in-Some-clause-walked
returns-in-Some-clause-walked c = λ hs most s gr pass w q ho.
    let en = Turning.grouped c.args.hooks.now hs c.at-enters.result.now c.enter_event.result (enter_event (kind_at c.args.work.now.nodes c.args.visit.node)) gr c.at-enters.ensures (c.enter_event.ensures ∙ ap enter_event c.kind-kind.ensures) in
    let n = c.in-Some.ensures.next in
    Turning.restacked (Some c.in-Some.next.due) (Turning.pushed_back c.args.stack.now.items c.push.new.self.items _ c.in_ok-push.ensures.items) (Turning.enter_due hs most c.args.work.now c.args.visit _ s pass w _ c.in-Some.next n.x q (c.requires, ho) (Turning.due_enter hs most c.args.work.now c.args.visit _ s pass w n.x c.in-Some.next.behind ho (Turning.searched c.args.work.now.nodes c.args.work.now.nodes c.args.visit.node c.args.visit.enter _ _ _ refl en n.found) n.behind) n.call)

pub returns-in_err-visit-clause-walked : goal.returns-in_err-visit-clause-walked
returns-in_err-visit-clause-walked c = λ hs most s gr pass w q ho.
    (Turning.open_fails hs most c.args.work.now c.args.visit _ s pass w c.opened.new.work c.in_err-visit.field-0.0 (rw c.take-children.ensures.value at c.in_err-visit.ensures), Turning.no_ok _ _ c.from_residual-in_err-visit.ensures.0)

pub returns-in_err-child-clause-walked : goal.returns-in_err-child-clause-walked
returns-in_err-child-clause-walked c = λ hs most s gr pass w q ho.
    let en = Turning.grouped c.args.hooks.now hs c.at-enters.result.now c.enter_event.result (enter_event (kind_at c.args.work.now.nodes c.args.visit.node)) gr c.at-enters.ensures (c.enter_event.ensures ∙ ap enter_event c.kind-kind.ensures) in
    let no = Turning.searched c.args.work.now.nodes c.args.work.now.nodes c.args.visit.node c.args.visit.enter _ _ _ refl en c.in_default.ensures.next in
    (Onward.came_not hs most c.args.work.now c.args.visit (reverse c.args.stack.now.items) s pass w c.opened.new.work c.in_ok-visit.field-0 (rw c.take-children.ensures.value at c.in_ok-visit.ensures) c.pass_leaves.new.work _ q no (Turning.group_end c.at-enters.result.now (enters hs (kind_at c.args.work.now.nodes c.args.visit.node)) en) (λ a. c.in_err-child.ensures.walked hs most c.args.visit.enter (reverse c.args.stack.now.items) s gr a), Turning.no_ok _ _ c.from_residual-in_err-child.ensures.0)

pub returns-in_err-enter-clause-walked : goal.returns-in_err-enter-clause-walked
returns-in_err-enter-clause-walked c = λ hs most s gr pass w q ho.
    let en = Turning.grouped c.args.hooks.now hs c.at-enters.result.now c.enter_event.result (enter_event (kind_at c.args.work.now.nodes c.args.visit.node)) gr c.at-enters.ensures (c.enter_event.ensures ∙ ap enter_event c.kind-kind.ensures) in
    let no = Turning.searched c.args.work.now.nodes c.args.work.now.nodes c.args.visit.node c.args.visit.enter _ _ _ refl en c.in_default.ensures.next in
    let came = Onward.came hs most c.args.work.now c.args.visit (reverse c.args.stack.now.items) s pass w c.opened.new.work c.in_ok-visit.field-0 (rw c.take-children.ensures.value at c.in_ok-visit.ensures) c.pass_leaves.new.work (Some c.in-Some-2.child) _ q no (Turning.group_end c.at-enters.result.now (enters hs (kind_at c.args.work.now.nodes c.args.visit.node)) en) (λ a. rw c.in-Some-2.is at (c.in_ok-child.ensures.walked hs most c.args.visit.enter (reverse c.args.stack.now.items) s gr a)) in
    (Onward.child_fails hs most c.args.work.now c.args.visit _ (reverse c.args.stack.now.items) s c.pass_leaves.new.work c.enter.new.work c.args.stack.now.items c.enter.new.stack.items c.in-Some-2.child c.in_err-enter.field-0.0 came c.in_err-enter.ensures, Turning.no_ok _ _ c.from_residual-in_err-enter.ensures.0)

pub returns-in-Some-2-clause-walked : goal.returns-in-Some-2-clause-walked
returns-in-Some-2-clause-walked c = λ hs most s gr pass w q ho.
    let en = Turning.grouped c.args.hooks.now hs c.at-enters.result.now c.enter_event.result (enter_event (kind_at c.args.work.now.nodes c.args.visit.node)) gr c.at-enters.ensures (c.enter_event.ensures ∙ ap enter_event c.kind-kind.ensures) in
    let no = Turning.searched c.args.work.now.nodes c.args.work.now.nodes c.args.visit.node c.args.visit.enter _ _ _ refl en c.in_default.ensures.next in
    let came = Onward.came hs most c.args.work.now c.args.visit (reverse c.args.stack.now.items) s pass w c.opened.new.work c.in_ok-visit.field-0 (rw c.take-children.ensures.value at c.in_ok-visit.ensures) c.pass_leaves.new.work (Some c.in-Some-2.child) _ q no (Turning.group_end c.at-enters.result.now (enters hs (kind_at c.args.work.now.nodes c.args.visit.node)) en) (λ a. rw c.in-Some-2.is at (c.in_ok-child.ensures.walked hs most c.args.visit.enter (reverse c.args.stack.now.items) s gr a)) in
    Onward.child_entered hs most c.args.work.now c.args.visit _ (reverse c.args.stack.now.items) s c.pass_leaves.new.work c.enter.new.work c.args.stack.now.items c.enter.new.stack.items c.in-Some-2.child came c.facts.ensures.sound refl c.in_ok-enter.ensures

pub returns-in_err-push-2-clause-walked : goal.returns-in_err-push-2-clause-walked
returns-in_err-push-2-clause-walked c = λ hs most s gr pass w q ho.
    let en = Turning.grouped c.args.hooks.now hs c.at-enters.result.now c.enter_event.result (enter_event (kind_at c.args.work.now.nodes c.args.visit.node)) gr c.at-enters.ensures (c.enter_event.ensures ∙ ap enter_event c.kind-kind.ensures) in
    let no = Turning.searched c.args.work.now.nodes c.args.work.now.nodes c.args.visit.node c.args.visit.enter _ _ _ refl en c.in_default.ensures.next in
    let came = Onward.came hs most c.args.work.now c.args.visit (reverse c.args.stack.now.items) s pass w c.opened.new.work c.in_ok-visit.field-0 (rw c.take-children.ensures.value at c.in_ok-visit.ensures) c.pass_leaves.new.work None _ q no (Turning.group_end c.at-enters.result.now (enters hs (kind_at c.args.work.now.nodes c.args.visit.node)) en) (λ a. rw c.in_default-2.is at (c.in_ok-child.ensures.walked hs most c.args.visit.enter (reverse c.args.stack.now.items) s gr a)) in
    (Onward.strolls_not hs most c.args.work.now c.args.visit _ (reverse c.args.stack.now.items) s c.pass_leaves.new.work came, Turning.no_ok _ _ c.from_residual-in_err-push-2.ensures.0)

pub returns-in-Some-next_call-clause-walked : goal.returns-in-Some-next_call-clause-walked
returns-in-Some-next_call-clause-walked c = λ hs most s gr pass w q ho.
    let en = Turning.grouped c.args.hooks.now hs c.at-enters.result.now c.enter_event.result (enter_event (kind_at c.args.work.now.nodes c.args.visit.node)) gr c.at-enters.ensures (c.enter_event.ensures ∙ ap enter_event c.kind-kind.ensures) in
    let no = Turning.searched c.args.work.now.nodes c.args.work.now.nodes c.args.visit.node c.args.visit.enter _ _ _ refl en c.in_default.ensures.next in
    let came = Onward.came hs most c.args.work.now c.args.visit (reverse c.args.stack.now.items) s pass w c.opened.new.work c.in_ok-visit.field-0 (rw c.take-children.ensures.value at c.in_ok-visit.ensures) c.pass_leaves.new.work None _ q no (Turning.group_end c.at-enters.result.now (enters hs (kind_at c.args.work.now.nodes c.args.visit.node)) en) (λ a. rw c.in_default-2.is at (c.in_ok-child.ensures.walked hs most c.args.visit.enter (reverse c.args.stack.now.items) s gr a)) in
    let ex = Turning.grouped c.args.hooks.now hs c.at-exits.result.now c.exit_event.result (exit_event (kind_at c.args.work.now.nodes c.args.visit.node)) gr c.at-exits.ensures (c.exit_event.ensures ∙ ap exit_event c.kind-kind.ensures) in
    let kind = Onward.kind_as c.args.work.now c.opened.new.work c.pass_leaves.new.work c.args.visit.node c.opened.ensures.same.nodes c.pass_leaves.ensures.texts in
    let n = c.in-Some-next_call.ensures.next in
    Turning.restacked (Some c.in-Some-next_call.next.due) (Turning.pushed_back c.args.stack.now.items c.push-in-Some-next_call.new.self.items _ c.in_ok-push-2.ensures.items) (Onward.exit_due hs most c.args.work.now c.args.visit _ (reverse c.args.stack.now.items) s c.pass_leaves.new.work came c.at-exits.result.now c.in-Some-next_call.next n.x kind ex n.found n.behind n.call)

pub returns-in_err-leave-clause-walked : goal.returns-in_err-leave-clause-walked
returns-in_err-leave-clause-walked c = λ hs most s gr pass w q ho.
    let en = Turning.grouped c.args.hooks.now hs c.at-enters.result.now c.enter_event.result (enter_event (kind_at c.args.work.now.nodes c.args.visit.node)) gr c.at-enters.ensures (c.enter_event.ensures ∙ ap enter_event c.kind-kind.ensures) in
    let no = Turning.searched c.args.work.now.nodes c.args.work.now.nodes c.args.visit.node c.args.visit.enter _ _ _ refl en c.in_default.ensures.next in
    let came = Onward.came hs most c.args.work.now c.args.visit (reverse c.args.stack.now.items) s pass w c.opened.new.work c.in_ok-visit.field-0 (rw c.take-children.ensures.value at c.in_ok-visit.ensures) c.pass_leaves.new.work None _ q no (Turning.group_end c.at-enters.result.now (enters hs (kind_at c.args.work.now.nodes c.args.visit.node)) en) (λ a. rw c.in_default-2.is at (c.in_ok-child.ensures.walked hs most c.args.visit.enter (reverse c.args.stack.now.items) s gr a)) in
    (Onward.leave_fails hs most c.args.work.now c.args.visit _ (reverse c.args.stack.now.items) s c.pass_leaves.new.work c.leave.new.work c.in_err-leave.field-0.0 came c.in_err-leave.ensures, Turning.no_ok _ _ c.from_residual-in_err-leave.ensures.0)

pub returns-clause-walked : goal.returns-clause-walked
returns-clause-walked c = λ hs most s gr pass w q ho.
    let en = Turning.grouped c.args.hooks.now hs c.at-enters.result.now c.enter_event.result (enter_event (kind_at c.args.work.now.nodes c.args.visit.node)) gr c.at-enters.ensures (c.enter_event.ensures ∙ ap enter_event c.kind-kind.ensures) in
    let no = Turning.searched c.args.work.now.nodes c.args.work.now.nodes c.args.visit.node c.args.visit.enter _ _ _ refl en c.in_default.ensures.next in
    let came = Onward.came hs most c.args.work.now c.args.visit (reverse c.args.stack.now.items) s pass w c.opened.new.work c.in_ok-visit.field-0 (rw c.take-children.ensures.value at c.in_ok-visit.ensures) c.pass_leaves.new.work None _ q no (Turning.group_end c.at-enters.result.now (enters hs (kind_at c.args.work.now.nodes c.args.visit.node)) en) (λ a. rw c.in_default-2.is at (c.in_ok-child.ensures.walked hs most c.args.visit.enter (reverse c.args.stack.now.items) s gr a)) in
    let ex = Turning.grouped c.args.hooks.now hs c.at-exits.result.now c.exit_event.result (exit_event (kind_at c.args.work.now.nodes c.args.visit.node)) gr c.at-exits.ensures (c.exit_event.ensures ∙ ap exit_event c.kind-kind.ensures) in
    let kind = Onward.kind_as c.args.work.now c.opened.new.work c.pass_leaves.new.work c.args.visit.node c.opened.ensures.same.nodes c.pass_leaves.ensures.texts in
    Onward.left hs most c.args.work.now c.args.visit _ (reverse c.args.stack.now.items) s c.pass_leaves.new.work c.leave.new.work came c.at-exits.result.now kind ex c.in_default-next_call.ensures.next c.in_ok-leave.ensures

pub returns-in-Some-2-clause-less : goal.returns-in-Some-2-clause-less
returns-in-Some-2-clause-less c = let i = ap dirty_total c.opened.ensures.same.nodes in let j = c.in_ok-child.ensures.less in Turning.less_entered c.args.work.now c.pass_leaves.new.work c.enter.new.work c.args.stack.now.items c.enter.new.stack.items _ c.in-Some-2.child (omega arith) (rw c.in-Some-2.is at c.in_ok-child.ensures.dirty) c.in_ok-enter.ensures

pub returns-in-Some-clause-calls : goal.returns-in-Some-clause-calls
returns-in-Some-clause-calls c = λ shelf all. c.in-Some.ensures.calls shelf (subst (AreOnShelf shelf) (sym c.at-enters.ensures) (all c.enter_event.result))

pub returns-in-Some-next_call-clause-calls : goal.returns-in-Some-next_call-clause-calls
returns-in-Some-next_call-clause-calls c = λ shelf all. c.in-Some-next_call.ensures.calls shelf (subst (AreOnShelf shelf) (sym c.at-exits.ensures) (all c.exit_event.result))

pub returns-in_err-visit-clause-grows : goal.returns-in_err-visit-clause-grows
returns-in_err-visit-clause-grows c = Growing.grows_same c.opened.ensures.same

pub returns-in_err-child-clause-grows : goal.returns-in_err-child-clause-grows
returns-in_err-child-clause-grows c = let a = Growing.grows_same c.opened.ensures.same in let b = c.pass_leaves.ensures.texts.grows in omega arith

pub returns-in_err-enter-clause-grows : goal.returns-in_err-enter-clause-grows
returns-in_err-enter-clause-grows c = let a = Growing.grows_same c.opened.ensures.same in let b = c.pass_leaves.ensures.texts.grows in let d = Growing.grows_entered _ c.enter.ensures in omega arith

pub returns-in-Some-2-clause-grows : goal.returns-in-Some-2-clause-grows
returns-in-Some-2-clause-grows c = let a = Growing.grows_same c.opened.ensures.same in let b = c.pass_leaves.ensures.texts.grows in let d = Growing.grows_entered _ c.enter.ensures in omega arith

pub returns-in_err-push-2-clause-grows : goal.returns-in_err-push-2-clause-grows
returns-in_err-push-2-clause-grows c = let a = Growing.grows_same c.opened.ensures.same in let b = c.pass_leaves.ensures.texts.grows in omega arith

pub returns-in-Some-next_call-clause-grows : goal.returns-in-Some-next_call-clause-grows
returns-in-Some-next_call-clause-grows c = let a = Growing.grows_same c.opened.ensures.same in let b = c.pass_leaves.ensures.texts.grows in omega arith

pub returns-in_err-leave-clause-grows : goal.returns-in_err-leave-clause-grows
returns-in_err-leave-clause-grows c = let a = Growing.grows_same c.opened.ensures.same in let b = c.pass_leaves.ensures.texts.grows in let d = Growing.grows_left _ c.leave.ensures in omega arith

pub returns-clause-grows : goal.returns-clause-grows
returns-clause-grows c = let a = Growing.grows_same c.opened.ensures.same in let b = c.pass_leaves.ensures.texts.grows in let d = Growing.grows_left _ c.leave.ensures in omega arith
