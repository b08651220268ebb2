-- The child whose place is kept.
use Rattle.std.specs.Prelude.{◌≡◌, List, Option, Some, None, slice_get}
use Rattle.node_rows.specs.declared.finger.Finger.{Finger}
use Rattle.node_rows.specs.Nodes.{Node, children_of}

-- the finger, if there is one, is at the child that stands at its place
abbrev pub IsFinger : List Node → Option Finger → Type 0
IsFinger ns None = Unit {0}
IsFinger ns (Some f) = slice_get (children_of ns f.parent) f.place ≡ Some f.node
