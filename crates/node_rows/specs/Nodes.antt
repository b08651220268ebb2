-- The nodes of a forest by number.
use Rattle.std.specs.Prelude.{ℕ, zero, suc, ◌+◌, ◌<◌, List, [], ◌∷◌, Bool, true, false, length, drop, count_by, Option, Some, None, slice_get, slice_index_or, slice_set, nat_eq, nat_lt, insert, remove}
use Rattle.std.specs.List.{list_any, position_or_len}
use Rattle.css_text.specs.declared.lexer.Span.{Span}
use Rattle.css_tree.specs.declared.node.NodeText.{NodeText}
use Rattle.css_tree.specs.declared.node.NodeText.TheVariants.{Comment}

-- a node: its text, its body's bytes in the source, its place in the tree, and its mark
pub record Node : Type 0 where
  pub text : NodeText
  pub span : Option Span
  pub parent : Option ℕ
  pub children : List ℕ
  pub dirty : Bool

-- what stands at a number that was never given out
abbrev pub no_node : Node
no_node = record { text = Comment None [] [] []; span = None; parent = None; children = []; dirty = false }

-- a new node, which is loose and dirty
abbrev pub new_node : NodeText → Option Span → Node
new_node text span = record { text = text; span = span; parent = None; children = []; dirty = true }

abbrev pub node_at : List Node → ℕ → Node
node_at ns n = slice_index_or ns n no_node

abbrev pub text_of : List Node → ℕ → NodeText
text_of ns n = (node_at ns n).text

abbrev pub span_of : List Node → ℕ → Option Span
span_of ns n = (node_at ns n).span

abbrev pub parent_of : List Node → ℕ → Option ℕ
parent_of ns n = (node_at ns n).parent

abbrev pub children_of : List Node → ℕ → List ℕ
children_of ns n = (node_at ns n).children

abbrev pub is_dirty : List Node → ℕ → Bool
is_dirty ns n = (node_at ns n).dirty

-- n and its ancestors, at most k of them
abbrev pub up : List Node → ℕ → ℕ → List ℕ
up ns zero n = []
up ns (suc k) n = n ∷ elim (parent_of ns n) [ None ↦ [] | Some p ↦ up ns k p ]

-- n and its ancestors, from n up
abbrev pub path : List Node → ℕ → List ℕ
path ns n = up ns (length ns) n

-- m is n or stands above n
abbrev pub holds : List Node → ℕ → ℕ → Bool
holds ns m n = list_any (nat_eq m) (path ns n)

-- the number of n's ancestors but the root, which has the number 0
abbrev pub depth_of : List Node → ℕ → ℕ
depth_of ns n = count_by (λ m. nat_lt 0 m) (drop 1 (path ns n))

-- how many children of p stand before n
abbrev pub place_of : List Node → ℕ → ℕ → ℕ
place_of ns p n = position_or_len (nat_eq n) (children_of ns p)

-- the child of p behind its child n; none where p is none
abbrev pub child_after : List Node → ℕ → Option ℕ → Option ℕ
child_after ns n None = None
child_after ns n (Some p) = slice_get (children_of ns p) (place_of ns p n + 1)

-- the sibling behind n
abbrev pub next_sibling_of : List Node → ℕ → Option ℕ
next_sibling_of ns n = child_after ns n (parent_of ns n)

-- what stands before the place, of a list
abbrev pub before_place : List ℕ → ℕ → Option ℕ
before_place xs zero = None
before_place xs (suc at) = slice_get xs at

-- the child of p before its child n; none where p is none
abbrev pub child_before : List Node → ℕ → Option ℕ → Option ℕ
child_before ns n None = None
child_before ns n (Some p) = before_place (children_of ns p) (place_of ns p n)

-- the sibling before n
abbrev pub previous_sibling_of : List Node → ℕ → Option ℕ
previous_sibling_of ns n = child_before ns n (parent_of ns n)

abbrev pub siblings_in : List Node → ℕ → Option ℕ → List ℕ
siblings_in ns n None = []
siblings_in ns n (Some p) = drop (place_of ns p n + 1) (children_of ns p)

-- the siblings behind n, in order
abbrev pub siblings : List Node → ℕ → List ℕ
siblings ns n = siblings_in ns n (parent_of ns n)

-- a sibling and those behind it; none where it is none
abbrev pub from_number : List Node → Option ℕ → List ℕ
from_number ns None = []
from_number ns (Some n) = n ∷ siblings ns n

-- the number, if it is one, was given out
abbrev pub IsGiven : List Node → Option ℕ → Type 0
IsGiven ns None = Unit {0}
IsGiven ns (Some n) = n < length ns

abbrev pub with_children : List Node → ℕ → List ℕ → List Node
with_children ns n xs = slice_set ns n (record (node_at ns n) { children = xs })

abbrev pub with_parent : List Node → ℕ → Option ℕ → List Node
with_parent ns n o = slice_set ns n (record (node_at ns n) { parent = o })

-- n becomes the child of p at the place `at`
abbrev pub linked : List Node → ℕ → ℕ → ℕ → List Node
linked ns p at n = with_parent (with_children ns p (insert (children_of ns p) at n)) n (Some p)

-- the child n of p, at the place `at`, becomes loose
abbrev pub unlinked : List Node → ℕ → ℕ → ℕ → List Node
unlinked ns p at n = with_parent (with_children ns p (remove (children_of ns p) at)) n None

abbrev pub with_text : List Node → ℕ → NodeText → List Node
with_text ns n x = slice_set ns n (record (node_at ns n) { text = x })
