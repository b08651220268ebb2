-- What calls on the store answer that may be refused, and what they leave.
use Rattle.std.specs.Prelude.{◌≡◌, ℕ, ◌+◌, ◌<◌, ◌≤◌, length, Option, Some, None, IsSome, Result, Ok, Err, if◌then◌else◌}
use Rattle.css_text.specs.declared.stop.Stop.{Stop}
use Rattle.css_text.specs.declared.stop.Stop.TheVariants.{Fault, Memory}
use Rattle.node_rows.specs.Nodes.{text_of}
use Rattle.node_store.specs.declared.fault.TreeFault.{TreeFault}
use Rattle.node_store.specs.declared.fault.TreeFault.TheVariants.{NoSuchNode, WrongKind, NoSuchCursor, Full}
use Rattle.node_store.specs.Forest.{Forest, is_given, has_block, unreserved, cursor_at}
use Rattle.node_store.specs.Edits.{edited_all}
use Rattle.node_store.specs.Copies.{copied, tree_size}
use Rattle.node_store.specs.Cursors.{IsOpened, IsClosed}

-- why no cursor is opened on n
abbrev pub open_refusal : Forest → ℕ → Option TreeFault
open_refusal f n = if is_given f n then (if has_block (text_of f.nodes n) then None else Some WrongKind) else Some NoSuchNode

-- A cursor is opened on a container, unless memory is wanting; a refused call changes nothing.
abbrev pub IsOpenAnswer : Forest → Forest → ℕ → Result ℕ (Stop TreeFault) → Type 0
IsOpenAnswer f g n (Ok serial) = (open_refusal f n ≡ None) × IsOpened f g n serial
IsOpenAnswer f g n (Err (Fault e)) = (open_refusal f n ≡ Some e) × (g ≡ f)
IsOpenAnswer f g n (Err (Memory e)) = (open_refusal f n ≡ None) × (g ≡ f)

-- An open cursor is closed; another one is NoSuchCursor, and nothing is changed.
abbrev pub IsCloseAnswer : Forest → Forest → ℕ → Result Unit TreeFault → Type 0
IsCloseAnswer f g serial (Ok u) = IsSome (cursor_at f.cursors serial) × IsClosed f g serial
IsCloseAnswer f g serial (Err e) = (cursor_at f.cursors serial ≡ None) × (e ≡ NoSuchCursor) × (g ≡ f)

-- how many nodes there would be with a copy of the tree of n
abbrev pub size_with_copy : Forest → ℕ → ℕ
size_with_copy f n = length f.nodes + tree_size f.nodes n

-- The copy is made, with the edits that make it, unless memory is wanting; it is Full where there would be too many nodes.
abbrev pub IsCopyAnswer : Forest → Forest → ℕ → Result ℕ (Stop TreeFault) → Type 0
IsCopyAnswer f g n (Ok m) = (size_with_copy f n ≤ 5000000) × (m ≡ length f.nodes) × (unreserved g ≡ edited_all (unreserved f) (copied f.nodes n))
IsCopyAnswer f g n (Err (Fault e)) = (5000000 < size_with_copy f n) × (e ≡ Full) × (unreserved g ≡ unreserved f)
IsCopyAnswer f g n (Err (Memory e)) = (size_with_copy f n ≤ 5000000) × (unreserved g ≡ unreserved f)
