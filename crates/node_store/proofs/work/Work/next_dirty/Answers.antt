use Rattle.std.proofs.Common.{◌≡◌, ◌∙◌, ap, subst}
use Rattle.node_rows.specs.Nodes.{is_dirty}
use Rattle.node_rows.specs.Sound.{IsSound}
use Rattle.node_store.specs.Cursors.{first_of, ahead, after_next_dirty}
use Rattle.node_store.specs.Seats.{passed_of, shown_seat}
use Rattle.node_store.proofs.Ahead.{through-child, state-passed}
use Rattle.node_store.proofs.work.Work.next_dirty.Goals as goal

pub pass-requires-clause-child : goal.pass-requires-clause-child
pass-requires-clause-child c =
    let f = c.args.self.now in
    let seat = c.in-Some.seat in
    let found = subst (λ w. c.dirty_ahead-found.result ≡ first_of (ahead w (is_dirty w.nodes) (shown_seat w.nodes seat))) c.self.view_is c.dirty_ahead-found.ensures in
    let sound = subst (λ w. IsSound w.nodes) c.self.view_is c.facts.ensures in
    through-child f.nodes sound seat.container (passed_of f.nodes seat.container seat.last) (is_dirty f.nodes) c.dirty_ahead-found.result found

pub returns-in-Some-clause-state : goal.returns-in-Some-clause-state
returns-in-Some-clause-state c =
    let f = c.args.self.now in
    let seat = c.in-Some.seat in
    let found = subst (λ w. c.dirty_ahead-found.result ≡ first_of (ahead w (is_dirty w.nodes) (shown_seat w.nodes seat))) c.self.view_is c.dirty_ahead-found.ensures in
    let sound = subst (λ w. IsSound w.nodes) c.self.view_is c.facts.ensures in
    c.pass.ensures.state
    ∙ (state-passed f sound c.cursor.inside.serial (is_dirty f.nodes) (shown_seat f.nodes seat) c.dirty_ahead-found.result found c.in-Some.ensures.0
    ∙ ap (after_next_dirty f) c.cursor.view_is)
