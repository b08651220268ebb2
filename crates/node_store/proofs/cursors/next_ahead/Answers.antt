use Rattle.std.proofs.Common.{◌∙◌, subst}
use Rattle.node_store.specs.Seats.{IsChildOf}
use Rattle.node_store.proofs.Ahead.{next-first, next-behind}
use Rattle.node_store.proofs.cursors.next_ahead.Goals as goal

pub returns-in-None : goal.returns-in-None
returns-in-None c = c.first_child.ensures ∙ next-first c.args.rows.now c.args.seat.container c.args.seat.last c.in-None.is

pub returns-in-Some : goal.returns-in-Some
returns-in-Some c =
    let child = subst (IsChildOf c.args.rows.now c.args.seat.container) c.in-Some.is c.requires.2 in
    c.next_sibling.ensures ∙ next-behind c.args.rows.now c.args.seat.container c.in-Some.last c.args.seat.last c.in-Some.is child
