-- What follows a node in document order.
use Rattle.std.specs.Prelude.{◌≡◌, ℕ, ◌<◌, List, [], ◌∷◌, ◌++◌, Option, Some, None, true, nat_eq, if◌then◌else◌, length}
use Rattle.node_rows.specs.Nodes.{Node, path, holds, siblings}
use Rattle.node_rows.specs.NumberTrees.{numbers, number_trees, numbers_below}

-- what follows the tree of the first number of a path, in the tree of `top`
abbrev pub beyond_on : List Node → ℕ → List ℕ → List ℕ
beyond_on ns top [] = []
beyond_on ns top (m ∷ ms) = if nat_eq m top then [] else numbers (number_trees ns (siblings ns m)) ++ beyond_on ns top ms

-- what follows the tree of m in the tree of `top`
unfoldable pub beyond : List Node → ℕ → ℕ → List ℕ
beyond ns top m = beyond_on ns top (path ns m)

-- what follows m in the tree of `top`
unfoldable pub behind : List Node → ℕ → ℕ → List ℕ
behind ns top m = numbers_below ns m ++ beyond ns top m

-- the first of the numbers, with those behind it; or there is none
abbrev pub IsNext : List Node → ℕ → List ℕ → Option ℕ → Type 0
IsNext ns top ms None = ms ≡ []
IsNext ns top ms (Some s) = (s < length ns) × (holds ns top s ≡ true) × (ms ≡ s ∷ behind ns top s)
