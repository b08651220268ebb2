use Rattle.std.proofs.Common.{◌≡◌, ◌∷◌, [], List, length, refl, sym, ap, subst, ◌∙◌, append_assoc, arith}
use Rattle.std.specs.Vec.Iter.{into_iter_items}
use Rattle.node_rows.specs.Appended.{IsAppendable, appended}
use Rattle.node_rows.proofs.Built.{next-appendable, next-earlier, nodes_of-push}
use Rattle.node_rows.proofs.rows.Rows.from_nodes.Goals as goal

nothing_left : {X : Type 0} (l : List X) → length l ≡ 0 → l ≡ []
nothing_left [] h = refl
nothing_left (x ∷ xs) h = absurd (omega arith)

pub append-requires : goal.append-requires
append-requires c =
    let at = c.loop-node in
    let x = c.in-Some.node in
    let steps : into_iter_items at.node-iterator ≡ x ∷ into_iter_items c.next.new.self = c.in-Some.ensures.steps.0 in
    let whole = rw steps at at.invariant.whole ∙ c.into_iter-node-iterator.ensures.into_iter_gives.0 in
    subst (λ ns. IsAppendable ns x) (sym at.invariant.built) (next-appendable at.yielded (into_iter_items c.next.new.self) c.args.nodes.items x whole c.requires.order c.requires.few)

pub loop-node-preserved : goal.loop-node-preserved
loop-node-preserved c =
    let at = c.loop-node in
    let x = c.in-Some.node in
    let steps : into_iter_items at.node-iterator ≡ x ∷ into_iter_items c.next.new.self = c.in-Some.ensures.steps.0 in
    let whole = rw steps at at.invariant.whole ∙ c.into_iter-node-iterator.ensures.into_iter_gives.0 in
    record {
      whole = append_assoc at.yielded (x ∷ []) _ ∙ rw (← steps) at.invariant.whole;
      count = (let was = at.invariant.count in let gone = c.in-Some.ensures.steps.1 in let short = ap length steps in omega arith);
      built = c.in_ok-append.ensures ∙ (ap (λ ns. appended ns x) at.invariant.built
          ∙ sym (nodes_of-push at.yielded x (next-earlier at.yielded (into_iter_items c.next.new.self) c.args.nodes.items x whole c.requires.order)));
    }
