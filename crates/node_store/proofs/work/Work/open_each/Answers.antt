use Rattle.std.proofs.Common.{◌≡◌, ◌∙◌, ◌-◌, Some, None, length, List, Option, ap, subst, arith}
use Rattle.std.specs.Vec.{vec_capacity, vec_len}
use Rattle.std.specs.Option.{option_map}
use Rattle.std.proofs.lemmas.List.{map-append, length-map, get_or_past}
use Rattle.node_store.specs.Forest.{Forest, Place, cursor_at}
use Rattle.node_store.specs.Cursors.{with_cursor}
use Rattle.node_store.specs.Seats.{shown_seat, shown_seats}
use Rattle.node_store.proofs.Ahead.{cursor-pushed}
use Rattle.node_store.proofs.work.Work.open_each.Goals as goal
use Rattle.node_store.proofs.work.Work.open_each.Goals.{in-Ok-push, in-Err-push}

pub returns : goal.returns
returns c =
    let ns = c.self.inside.rows in
    let ss = c.self.inside.seats.items in
    let serial = c.len-serial.result in
    let with : List (Option Place) → Forest = λ l. record { text = c.self.inside.text; nodes = ns; cursors = l; log = c.self.inside.log.items; spare = vec_capacity c.self.inside.log - vec_len c.self.inside.log; room = c.self.inside.room } in
    let at : Place = record { container = c.in-Ok.container; passed = 0 } in
    let here : Place = record { container = c.args.n; passed = 0 } in
    let put : Forest → Forest = λ f. record f { cursors = with_cursor f.cursors serial (Some here) } in
    let same : Some at ≡ Some here = let e = c.in-Ok.ensures.0 in cc in
    let size = length-map ss (option_map (shown_seat ns)) in
    let last : serial ≡ length (shown_seats ns ss) = omega (arith, c.len-serial.ensures, c.self.inside.seats.ok.0) in
    let free : cursor_at c.args.self.now.cursors serial ≡ None = subst (λ f. cursor_at f.cursors serial ≡ None) c.self.view_is (get_or_past (shown_seats ns ss) serial None (omega arith)) in
    elim c.match-push.branch [
      | in-Ok-push w ↦ rw w.result-is (
        c.in-Ok.ensures.1,
        record {
          free = free;
          opened = ap (λ l. with (shown_seats ns l)) w.in-Ok-push.ensures.items
              ∙ (ap with (map-append (option_map (shown_seat ns)) ss _ ∙ (cursor-pushed (shown_seats ns ss) serial (Some at) last ∙ ap (with_cursor (shown_seats ns ss) serial) same))
              ∙ ap put c.self.view_is);
        },
      )
      | in-Err-push w ↦ rw w.result-is (c.in-Ok.ensures.1, ap (λ l. with (shown_seats ns l)) w.in-Err-push.ensures.items ∙ c.self.view_is)
    ]
