use Rattle.std.proofs.Common.{sym, ◌∙◌, arith}
use Rattle.node_rows.specs.Nodes.{place_of}
use Rattle.node_rows.proofs.Places.{place-inside, previous-some, previous-none, next-further}
use Rattle.node_rows.proofs.Short.{children-short}
use Rattle.node_rows.proofs.rows.Rows.place_within.Goals as goal
use Rattle.node_rows.proofs.rows.Rows.place_within.Goals.{in-Some-on+in_default-finger_at, in_default-on}

pub overflow_add-result : goal.overflow_add-result
overflow_add-result c =
    let ns = c.args.self.now in
    let t = place-inside ns c.facts.ensures c.args.n c.args.parent c.requires in
    let h = children-short ns c.args.parent c.facts.ensures in
    omega (arith, c.in-Some.ensures, c.loop-at.invariant.back, c.facts.ensures.few)

pub returns-in-None-clause-value : goal.returns-in-None-clause-value
returns-in-None-clause-value c =
    let z = previous-none c.args.self.now c.facts.ensures c.loop-at.back c.args.parent c.loop-at.invariant.child (sym c.previous_sibling.ensures ∙ c.in-None.is) in
    omega (arith, c.loop-at.invariant.back)

pub loop-at-preserved : goal.loop-at-preserved
loop-at-preserved c =
    let ns = c.args.self.now in
    let t = previous-some ns c.facts.ensures c.loop-at.back c.args.parent c.in-Some-previous_sibling.before c.loop-at.invariant.child (sym c.previous_sibling.ensures ∙ c.in-Some-previous_sibling.is) in
    record {
      child = t.0;
      back = omega (arith, t.1, c.loop-at.invariant.back);
      on = elim c.match-on.branch [
        | in-Some-on+in_default-finger_at w ↦
            let h = rw w.in-Some-on.is at c.loop-at.invariant.on in
            next-further ns c.facts.ensures w.in-Some-on.child c.args.parent (place_of ns c.args.parent c.args.n) c.loop-at.at c.match-on.on h.0 h.1 (w.on-is ∙ w.next_sibling-on.ensures)
        | in_default-on w ↦ let e = w.on-is ∙ w.in_default-on.is in rw e tt
      ];
    }
