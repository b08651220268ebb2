-- What a step of the printing leaves to be printed.
use Rattle.std.specs.Prelude.{◌≡◌, ℕ, ◌+◌, ◌*◌, ◌<◌, List, true, length, Option, Some, None, if◌then◌else◌}
use Rattle.node_rows.specs.Nodes.{Node, path, holds, depth_of}
use Rattle.node_rows.specs.NumberTrees.{below}
use Rattle.stringify.specs.declared.steps.Step.{Step}
use Rattle.stringify.specs.Sheet.{Sheet, onward, beyond, size, to_go_on}

-- with all that is still to be printed
abbrev pub remaining : List Node → ℕ → Step → Sheet → Sheet
remaining ns top s x = if s.is_begun then onward ns top s.node x else beyond ns top s.node x

-- how many steps are left at most
abbrev pub to_go : List Node → ℕ → Step → ℕ
to_go ns top s = if s.is_begun then 2 * size (below ns s.node) + 1 + to_go_on ns top (path ns s.node) else to_go_on ns top (path ns s.node)

-- the step is in the tree of top
pub record IsStep (ns : List Node) (top : ℕ) (s : Step) : Type 0 where
  pub given : s.node < length ns
  pub held : holds ns top s.node ≡ true
  pub depth : s.depth ≡ depth_of ns s.node

-- the next step prints the same in the end, and fewer steps are left
abbrev pub Follows : List Node → ℕ → Step → Sheet → Option Step → Sheet → Type 0
Follows ns top s x None y = y ≡ remaining ns top s x
Follows ns top s x (Some next) y = IsStep ns top next × (remaining ns top next y ≡ remaining ns top s x) × (to_go ns top next < to_go ns top s)
