use Rattle.std.proofs.Common.{◌≡◌, Some, Ok, rules}
use Rattle.node_rows.specs.Nodes.{parent_of}
use Rattle.edit_calls.specs.Plans.{refused_beside}
use Rattle.edit_calls.specs.Checks.{checked}
use Rattle.edit_calls.proofs.Beside.{beside-allowed}
use Rattle.edit_calls.proofs.moving.check_beside.Goals as goal

pub returns-else-holds-clause-allowed : goal.returns-else-holds-clause-allowed
returns-else-holds-clause-allowed c =
    let f = c.args.work.now in
    let a = c.args.anchor in
    let check : checked (refused_beside f.nodes a c.args.node) ≡ Ok tt = search rules in
    let parent : parent_of f.nodes a ≡ Some c.in-Some.parent = search rules in
    λ spot e. beside-allowed f a c.args.node c.in-Some.parent c.facts.ensures check parent spot e
