use Rattle.std.proofs.Common.{◌≡◌, ◌∙◌, ap, subst}
use Rattle.node_rows.specs.Sound.{IsSound}
use Rattle.node_store.specs.Cursors.{any_child, first_of, ahead, after_next}
use Rattle.node_store.specs.Seats.{passed_of, shown_seat}
use Rattle.node_store.proofs.Ahead.{through-child, state-passed}
use Rattle.node_store.proofs.work.Work.next.Goals as goal

pub pass-requires-clause-child : goal.pass-requires-clause-child
pass-requires-clause-child c =
    let f = c.args.self.now in
    let seat = c.in-Some.seat in
    let found = subst (λ w. c.next_ahead-found.result ≡ first_of (ahead w any_child (shown_seat w.nodes seat))) c.self.view_is c.next_ahead-found.ensures in
    let sound = subst (λ w. IsSound w.nodes) c.self.view_is c.facts.ensures in
    through-child f.nodes sound seat.container (passed_of f.nodes seat.container seat.last) any_child c.next_ahead-found.result found

pub returns-in-Some-clause-state : goal.returns-in-Some-clause-state
returns-in-Some-clause-state c =
    let f = c.args.self.now in
    let seat = c.in-Some.seat in
    let found = subst (λ w. c.next_ahead-found.result ≡ first_of (ahead w any_child (shown_seat w.nodes seat))) c.self.view_is c.next_ahead-found.ensures in
    let sound = subst (λ w. IsSound w.nodes) c.self.view_is c.facts.ensures in
    c.pass.ensures.state
    ∙ (state-passed f sound c.cursor.inside.serial any_child (shown_seat f.nodes seat) c.next_ahead-found.result found c.in-Some.ensures.0
    ∙ ap (after_next f) c.cursor.view_is)
