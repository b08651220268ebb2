use Rattle.std.proofs.Common.{◌≡◌, arith, rules}
use Rattle.node_rows.specs.Nodes.{place_of}
use Rattle.node_rows.proofs.Places.{place-inside}
use Rattle.node_rows.proofs.Short.{children-short}
use Rattle.edit_calls.proofs.placing.place_of_child.Goals as goal

pub returns-clause-few : goal.returns-clause-few
returns-clause-few c =
    let ns = c.args.work.now.nodes in
    let sound = c.facts.ensures.sound in
    let value : c.in-Ok-Some.place ≡ place_of ns c.args.container c.args.child = search rules in
    omega (arith, value, place-inside ns sound c.args.child c.args.container c.requires, children-short ns c.args.container sound, sound.few)
