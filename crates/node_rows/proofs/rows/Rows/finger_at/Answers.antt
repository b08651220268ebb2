use Rattle.std.proofs.Common.{◌≡◌, Some, subst}
use Rattle.node_rows.specs.Fingers.{IsFinger}
use Rattle.node_rows.specs.Nodes.{parent_of}
use Rattle.node_rows.specs.Shown.{shown_rows}
use Rattle.node_rows.proofs.Fingers.{finger-place}
use Rattle.node_rows.proofs.rows.Rows.finger_at.Goals as goal

pub returns-in-Some : goal.returns-in-Some
returns-in-Some c =
    let ns = shown_rows c.self.inside.items.items in
    let x = c.in-Some.finger in
    let e : parent_of ns c.args.child ≡ Some c.args.parent = rw c.self.view_is c.requires in
    let f : IsFinger ns (Some x) = subst (IsFinger ns) c.in-Some.is c.self.invariant.1 in
    rw (← c.self.view_is) (finger-place ns x c.args.parent c.args.child c.self.invariant.0.sound f c.if-finger-child.true e)
