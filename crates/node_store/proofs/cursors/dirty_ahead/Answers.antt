use Rattle.std.proofs.Common.{◌∙◌, length, ap, sym, subst, arith}
use Rattle.node_rows.specs.Nodes.{is_dirty, from_number, IsGiven}
use Rattle.node_rows.proofs.Behind.{from-next, next-given}
use Rattle.node_store.specs.Cursors.{through, first_of, any_child}
use Rattle.node_store.specs.Seats.{passed_of}
use Rattle.node_store.proofs.Ahead.{from-ahead, through-child, given-child, through-next}
use Rattle.node_store.proofs.cursors.dirty_ahead.Goals as goal

pub loop-at-init : goal.loop-at-init
loop-at-init c =
    let ns = c.args.rows.now in
    let q = c.args.seat.container in
    let last = c.args.seat.last in
    let child = through-child ns c.facts.ensures q (passed_of ns q last) any_child c.next_ahead-at.result c.next_ahead-at.ensures in
    record {
      given = given-child ns c.facts.ensures q c.next_ahead-at.result child;
      rest = ap (λ l. first_of (through (is_dirty ns) l)) (ap (from_number ns) c.next_ahead-at.ensures ∙ from-ahead ns c.facts.ensures q last c.requires.2);
    }

pub loop-at-smaller : goal.loop-at-smaller
loop-at-smaller c =
    let ns = c.args.rows.now in
    let m = c.in-Some.child in
    let e = ap length (ap (from_number ns) c.next_sibling-at.ensures ∙ from-next ns c.facts.ensures m) in
    let f = ap (λ o. length (from_number ns o)) c.in-Some.is in
    omega (arith, e, f)

pub loop-at-preserved : goal.loop-at-preserved
loop-at-preserved c =
    let ns = c.args.rows.now in
    let m = c.in-Some.child in
    record {
      given = subst (IsGiven ns) (sym c.next_sibling-at.ensures) (next-given ns c.facts.ensures m);
      rest = ap (λ o. first_of (through (is_dirty ns) (from_number ns o))) c.next_sibling-at.ensures
          ∙ (through-next ns c.facts.ensures (is_dirty ns) m (sym c.if-is_dirty.ensures)
          ∙ (ap (λ o. first_of (through (is_dirty ns) (from_number ns o))) (sym c.in-Some.is) ∙ c.loop-at.invariant.rest));
    }
