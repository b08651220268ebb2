use Rattle.std.proofs.Common.{◌∙◌, ◌-◌, List, Option, Some, ap, sym, subst}
use Rattle.std.specs.Vec.{vec_capacity, vec_len}
use Rattle.std.specs.Option.{option_map}
use Rattle.std.proofs.lemmas.List.{map-set}
use Rattle.node_store.specs.declared.seat.Seat.{Seat}
use Rattle.node_store.specs.Forest.{Forest, Place}
use Rattle.node_store.specs.Seats.{IsChildOf, IsSeat, shown_seat}
use Rattle.node_store.specs.Passing.{passed_to}
use Rattle.node_store.proofs.Ahead.{stored-set}
use Rattle.node_store.proofs.work.Work.pass.Goals as goal

pub invariant_of-self : goal.invariant_of-self
invariant_of-self c =
    let fits = subst (λ f. IsSeat f.nodes (Some c.args.seat)) (sym c.self.view_is) c.requires.fits in
    let child = subst (λ f. IsChildOf f.nodes c.args.seat.container c.args.found) (sym c.self.view_is) c.requires.child in
    stored-set c.self.inside.text c.self.inside.rows c.self.inside.seats.items c.args.serial _ c.self.invariant (fits.0, fits.1, subst (IsChildOf c.self.inside.rows c.args.seat.container) c.in-Some.is child)

pub returns-in-Some-clause-state : goal.returns-in-Some-clause-state
returns-in-Some-clause-state c =
    let seat : Seat = record { container = c.args.seat.container; last = Some c.in-Some.child } in
    let with : List (Option Place) → Forest = λ l. record { text = c.self.inside.text; nodes = c.self.inside.rows; cursors = l; log = c.self.inside.log.items; spare = vec_capacity c.self.inside.log - vec_len c.self.inside.log; room = c.self.inside.room } in
    ap with (map-set (option_map (shown_seat c.self.inside.rows)) c.self.inside.seats.items c.args.serial (Some seat))
    ∙ (ap (λ f. passed_to f c.args.serial c.args.seat.container (Some c.in-Some.child)) c.self.view_is
    ∙ ap (passed_to c.args.self.now c.args.serial c.args.seat.container) (sym c.in-Some.is))
