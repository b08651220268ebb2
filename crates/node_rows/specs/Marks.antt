-- Which nodes a change makes dirty.
use Rattle.std.specs.Prelude.{ℕ, List, [], ◌∷◌, Bool, true, false, slice_set}
use Rattle.node_rows.specs.Nodes.{Node, node_at, is_dirty, path}
use Rattle.node_rows.specs.NumberTrees.{numbers_below}

abbrev pub with_mark : List Node → ℕ → Bool → List Node
with_mark ns n dirty = slice_set ns n (record (node_at ns n) { dirty = dirty })

abbrev pub all_dirty : List Node → List ℕ → List Node
all_dirty ns [] = ns
all_dirty ns (m ∷ ms) = all_dirty (with_mark ns m true) ms

abbrev pub marked_where : List Node → ℕ → Bool → List Node
marked_where ns n true = ns
marked_where ns n false = all_dirty ns (path ns n)

-- nothing where n is dirty; else n and all its ancestors become dirty
unfoldable pub mark : List Node → ℕ → List Node
mark ns n = marked_where ns n (is_dirty ns n)

-- n and all nodes below it become dirty
unfoldable pub dirtied : List Node → ℕ → List Node
dirtied ns n = all_dirty ns (n ∷ numbers_below ns n)
