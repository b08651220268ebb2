-- What is printed so far, and what a step of the printing adds to it.
use Rattle.std.specs.Prelude.{ℕ, ◌+◌, ◌*◌, List, [], ◌∷◌, ◌++◌, Bool, true, false, Option, Some, None, nat_eq, if◌then◌else◌}
use Rattle.css_text.specs.Ahead.{byte_len}
use Rattle.css_tree.specs.Parts.{before_of}
use Rattle.css_tree.specs.Print.{Container, container_of, before_text, opening, closing, semicolon_after}
use Rattle.node_rows.specs.Nodes.{Node, text_of, parent_of, depth_of, path, siblings}
use Rattle.node_rows.specs.NumberTrees.{NumberTrees, no_trees, tree, number_trees, plain, below}
use Rattle.stringify.specs.declared.printed.Start.{Start}

-- the characters, and the starts of the nodes
pub record Sheet : Type 0 where
  pub text : List ℕ
  pub starts : List Start

-- with more characters
abbrev pub put : List ℕ → Sheet → Sheet
put s x = record x { text = x.text ++ s }

abbrev pub start_of : ℕ → ℕ → Start
start_of n at = record { node = n; at = at }

-- with the start of node n
abbrev pub begin : ℕ → Sheet → Sheet
begin n x = record x { starts = x.starts ++ start_of n (byte_len x.text) ∷ [] }

-- what p says of its children
abbrev pub container_at : List Node → ℕ → Container
container_at ns p = container_of (depth_of ns p) (text_of ns p) (plain ns (below ns p))

-- with what stands before node n, and its body up to its children
abbrev pub begun : List Node → Container → Bool → ℕ → Sheet → Sheet
begun ns c is_first n x = put (opening (text_of ns n)) (begin n (put (before_text c is_first (before_of (text_of ns n))) x))

-- with trees of a container
unfoldable pub printed : List Node → Container → Bool → NumberTrees → Sheet → Sheet
printed ns c is_first no_trees x = x
printed ns c is_first (tree n children rest) x =
    let inner = plain ns children in
    printed ns c false rest (put (closing c.depth (text_of ns n) inner ++ semicolon_after c (text_of ns n) (plain ns rest))
    (printed ns (container_of c.depth (text_of ns n) inner) true children (begun ns c is_first n x)))

-- the `;` behind a node in its container; none behind a node without a parent
abbrev pub semicolon_in : List Node → ℕ → Option ℕ → List ℕ
semicolon_in ns n None = []
semicolon_in ns n (Some p) = semicolon_after (container_at ns p) (text_of ns n) (plain ns (number_trees ns (siblings ns n)))

-- the `;` behind n where it isn't the top of what is printed
abbrev pub semicolon_of : List Node → ℕ → ℕ → List ℕ
semicolon_of ns top n = if nat_eq n top then [] else semicolon_in ns n (parent_of ns n)

-- with the body of n behind its children, and the `;` behind n
abbrev pub ended : List Node → ℕ → ℕ → Sheet → Sheet
ended ns top n x = put (closing (depth_of ns n) (text_of ns n) (plain ns (below ns n)) ++ semicolon_of ns top n) x

-- with what follows n in its parent, and the parent's end
abbrev pub behind_in : List Node → ℕ → ℕ → Option ℕ → Sheet → Sheet
behind_in ns top n None x = x
behind_in ns top n (Some p) x = ended ns top p (printed ns (container_at ns p) false (number_trees ns (siblings ns n)) x)

abbrev pub beyond_on : List Node → ℕ → List ℕ → Sheet → Sheet
beyond_on ns top [] x = x
beyond_on ns top (n ∷ ms) x = if nat_eq n top then x else beyond_on ns top ms (behind_in ns top n (parent_of ns n) x)

-- with all that follows n in the tree of top
unfoldable pub beyond : List Node → ℕ → ℕ → Sheet → Sheet
beyond ns top n x = beyond_on ns top (path ns n) x

-- with all that follows the beginning of n in the tree of top
unfoldable pub onward : List Node → ℕ → ℕ → Sheet → Sheet
onward ns top n x = beyond ns top n (ended ns top n (printed ns (container_at ns n) true (below ns n) x))

-- with the body of n; the root has no start
unfoldable pub with_body : List Node → ℕ → Sheet → Sheet
with_body ns n x = ended ns n n (printed ns (container_at ns n) true (below ns n) (put (opening (text_of ns n)) (if nat_eq n 0 then x else begin n x)))

-- how many trees
abbrev pub size : NumberTrees → ℕ
size no_trees = 0
size (tree n children rest) = 1 + size children + size rest

abbrev pub to_go_on : List Node → ℕ → List ℕ → ℕ
to_go_on ns top [] = 0
to_go_on ns top (n ∷ ms) = if nat_eq n top then 0 else 2 * size (number_trees ns (siblings ns n)) + 1 + to_go_on ns top ms
