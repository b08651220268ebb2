-- The nodes of a tree in document order, one after another.
use Rattle.std.specs.Prelude.{◌≡◌, ℕ, List, [], ◌∷◌, ◌++◌, map, Option, Some, None}
use Rattle.css_text.specs.Place.{place_of}
use Rattle.css_text.specs.Ahead.{byte_len}
use Rattle.css_text.specs.declared.lexer.Span.{Span}
use Rattle.css_tree.specs.declared.node.NodeText.{NodeText}
use Rattle.css_tree.specs.Laws.{start_of}
use Rattle.css_tree.specs.Print.{opening}
use Rattle.node_rows.specs.Nodes.{Node, text_of, span_of, path, siblings}
use Rattle.node_rows.specs.NumberTrees.{NumberTrees, no_trees, tree, number_trees, plain, below}
use Rattle.css_job.specs.Warnings.{Warning, brace_of_empty, empty_block_warning}

-- a number with the trees below it
pub record Entry : Type 0 where
  pub number : ℕ
  pub children : NumberTrees

-- all numbers of trees, in document order
unfoldable pub entries : NumberTrees → List Entry
entries no_trees = []
entries (tree n children rest) = record { number = n; children = children } ∷ (entries children ++ entries rest)

abbrev pub later_on : List Node → List ℕ → List Entry
later_on ns [] = []
later_on ns (n ∷ ms) = entries (number_trees ns (siblings ns n)) ++ later_on ns ms

-- those after n and all that stands below it
unfoldable pub later : List Node → ℕ → List Entry
later ns n = later_on ns (path ns n)

-- those after n
unfoldable pub onward : List Node → ℕ → List Entry
onward ns n = entries (below ns n) ++ later ns n

-- n and those after it; none where it is none
abbrev pub from : List Node → Option ℕ → List Entry
from ns None = []
from ns (Some n) = record { number = n; children = below ns n } ∷ onward ns n

-- the warnings on one of them
abbrev pub found : List ℕ → List Node → Entry → List Warning
found s ns e = map (λ at. empty_block_warning (place_of s at)) (brace_of_empty (text_of ns e.number) (span_of ns e.number) (plain ns e.children))

-- a node's body up to its children stands in the text where its span starts
pub record Stands (s : List ℕ) (text : NodeText) (span : Option Span) : Type 0 where
  pub front : List ℕ
  pub behind : List ℕ
  pub all : s ≡ front ++ (opening text ++ behind)
  pub start : start_of span ≡ byte_len front ∷ []

abbrev pub EachStands : List ℕ → List Node → List Entry → Type 0
EachStands s ns [] = Unit {0}
EachStands s ns (e ∷ es) = Stands s (text_of ns e.number) (span_of ns e.number) × EachStands s ns es
