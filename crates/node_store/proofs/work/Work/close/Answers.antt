use Rattle.std.proofs.Common.{◌∙◌, [], None, refl, ap, sym, subst, set}
use Rattle.std.specs.Option.{option_map, IsSome}
use Rattle.std.proofs.lemmas.List.{map-set}
use Rattle.node_store.specs.Forest.{Forest, cursor_at}
use Rattle.node_store.specs.Cursors.{with_cursor}
use Rattle.node_store.specs.Seats.{IsSeat, shown_seat, shown_seats}
use Rattle.node_store.proofs.Stored.{cursor-shown}
use Rattle.node_store.proofs.Ahead.{stored-set, cursor-set}
use Rattle.node_store.proofs.work.Work.close.Goals as goal

abbrev bare_of : Forest → Forest
bare_of f = record f { cursors = [] }

pub invariant_of-self : goal.invariant_of-self
invariant_of-self c =
    let set = stored-set c.self.inside.text c.self.inside.rows c.self.inside.seats.items c.cursor.inside.serial None c.self.invariant tt in
    record { forest = set.forest; seats_in = λ i. subst (IsSeat c.self.inside.rows) (sym (c.drop_closed.ensures i)) (set.seats_in i) }

pub returns-in-Some : goal.returns-in-Some
returns-in-Some c =
    let ns = c.self.inside.rows in
    let ss = c.self.inside.seats.items in
    let serial = c.cursor.inside.serial in (
      subst (λ i. IsSome (cursor_at c.args.self.now.cursors i)) c.cursor.view_is (subst IsSome (sym c.in-Some.ensures.0) refl),
      record {
        cursors = λ i.
            cursor-shown ns c.drop_closed.new.seats.items i
            ∙ (ap (option_map (shown_seat ns)) (c.drop_closed.ensures i)
            ∙ (sym (cursor-shown ns (set ss serial None) i)
            ∙ (ap (λ cs. cursor_at cs i) (map-set (option_map (shown_seat ns)) ss serial None)
            ∙ (cursor-set (shown_seats ns ss) serial i
            ∙ (ap (λ f. cursor_at (with_cursor f.cursors serial None) i) c.self.view_is
            ∙ ap (λ k. cursor_at (with_cursor c.args.self.now.cursors k None) i) c.cursor.view_is)))));
        rest = ap bare_of c.self.view_is;
      },
    )
