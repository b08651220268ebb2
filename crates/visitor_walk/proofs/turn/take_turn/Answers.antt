use Rattle.std.proofs.Common.{◌≡◌, ◌∙◌, ◌∷◌, refl, ap, sym, subst, reverse}
use Rattle.visitor_machine.specs.Settled.{IsInTree}
use Rattle.visitor_walk.specs.declared.turn.Open.{Open}
use Rattle.visitor_walk.specs.Known.{shared}
use Rattle.visitor_walk.specs.Turns.{AllApart, Shows, held}
use Rattle.visitor_walk.proofs.Growing as Growing
use Rattle.visitor_walk.proofs.Knowing as Knowing
use Rattle.visitor_walk.proofs.Turning as Turning
use Rattle.visitor_walk.proofs.turn.take_turn.Goals as goal

pub returns-in_err-leave-clause-walked : goal.returns-in_err-leave-clause-walked
returns-in_err-leave-clause-walked c = λ hs most s gr pass w q.
    (Turning.leave_fails hs most c.args.work.now c.args.top _ s pass w c.args.work.now c.leave.new.work c.args.top _ c.in_err-leave.field-0.0 (Turning.same_seat c.args.work.now c.args.top.children c.args.top.node _ (Turning.seat_now hs most c.args.work.now c.args.top _ s pass w)) c.in_err-leave.ensures, Turning.no_ok _ _ c.from_residual.ensures.0)

pub returns-then-not-is_there-clause-walked : goal.returns-then-not-is_there-clause-walked
returns-then-not-is_there-clause-walked c = λ hs most s gr pass w q.
    Turning.left hs most c.args.work.now c.args.top _ s pass w c.args.work.now c.leave.new.work c.args.top _ (Turning.same_seat c.args.work.now c.args.top.children c.args.top.node _ (Turning.seat_now hs most c.args.work.now c.args.top _ s pass w)) refl (Turning.leaves_out hs most c.args.work.now c.args.top _ s pass w (sym (c.is_there.ensures.value (Turning.sure_now hs most c.args.work.now c.args.top _ s pass w _ q)) ∙ c.if-not-is_there.true)) c.in_ok-leave.ensures

pub returns-clause-walked : goal.returns-clause-walked
returns-clause-walked c = λ hs most s gr pass w q.
    let f = c.args.work.now in
    let top = c.args.top in
    let k = c.args.edits in
    let os = reverse c.args.stack.now.items in
    let known : Open = record top { sure = k } in
    let e : reverse c.share.new.stack.items ≡ shared f.nodes known os = c.share.ensures.visits in
    let there : IsInTree f.nodes top.node = (c.is_there.ensures.given c.if-not-is_there.false, sym (c.is_there.ensures.value (Turning.sure_now hs most f top _ s pass w _ q)) ∙ c.if-not-is_there.false) in
    let shows = subst (λ l. Shows f (known ∷ l) s) (sym e) (Knowing.shared_now f known os s c.facts.ensures.sound (sym q) there (Knowing.known_now f top os s k q there w)) in
    Knowing.turn_as hs most f c.go_on.new.work s (top ∷ os) (known ∷ reverse c.share.new.stack.items) (reverse c.go_on.new.stack.items)
    (λ serial a. subst (λ l. AllApart (known ∷ l) serial) (sym e) (Knowing.apart_shared f.nodes top k os serial a))
    (ap (λ l. held (known ∷ l)) e ∙ Knowing.held_shared f.nodes top k os)
    c.go_on.result (c.go_on.ensures.walked hs most s gr pass shows q there.1)

pub returns-clause-less : goal.returns-clause-less
returns-clause-less c = Knowing.less_as c.args.work.now c.go_on.new.work c.args.stack.now.items c.share.new.stack.items c.go_on.new.stack.items c.go_on.result c.share.ensures.as_many c.go_on.ensures.less

pub returns-in_err-leave-clause-grows : goal.returns-in_err-leave-clause-grows
returns-in_err-leave-clause-grows c = Growing.grows_left _ c.leave.ensures

pub returns-then-not-is_there-clause-grows : goal.returns-then-not-is_there-clause-grows
returns-then-not-is_there-clause-grows c = Growing.grows_left _ c.leave.ensures
