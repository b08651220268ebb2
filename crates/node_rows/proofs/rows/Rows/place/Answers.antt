use Rattle.std.proofs.Common.{arith}
use Rattle.std.proofs.lemmas.Bool.{false≢true}
use Rattle.node_rows.proofs.Places.{place-inside}
use Rattle.node_rows.proofs.rows.Rows.place.Goals as goal

pub unreachable-requires : goal.unreachable-requires
unreachable-requires c =
    let t = place-inside c.args.self.now c.facts.ensures c.args.n c.args.parent c.requires in
    false≢true (c.in-None.ensures.found (omega (arith, t, c.child_count.ensures)))

pub returns-clause-inside : goal.returns-clause-inside
returns-clause-inside c =
    let t = place-inside c.args.self.now c.facts.ensures c.args.n c.args.parent c.requires in
    omega (arith, t, c.in-Some.ensures.value)
