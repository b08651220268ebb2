-- Spots among the children of a node, and what a move to one needs.
use Rattle.std.specs.Prelude.{◌≡◌, ◌≢◌, ℕ, suc, ◌<◌, List, false, length, Option, Some, None, IsSome, IfSome}
use Rattle.css_tree.specs.Parts.{block_of}
use Rattle.node_rows.specs.Nodes.{Node, text_of, parent_of, children_of, holds, place_of}
use Rattle.edit_calls.specs.declared.spot.Spot.{Spot}
use Rattle.edit_calls.specs.declared.spot.Spot.TheVariants.{First, Last, Before, Behind}

-- the child beside which the spot is
abbrev pub anchor_of : Spot → Option ℕ
anchor_of First = None
anchor_of Last = None
anchor_of (Before a) = Some a
anchor_of (Behind a) = Some a

-- how many children of p stand before the spot
abbrev pub place_at : List Node → ℕ → Spot → ℕ
place_at ns p First = 0
place_at ns p Last = length (children_of ns p)
place_at ns p (Before a) = place_of ns p a
place_at ns p (Behind a) = suc (place_of ns p a)

-- the spot is one among the children of p
abbrev pub IsSpot : List Node → ℕ → Spot → Type 0
IsSpot ns p spot = IfSome (anchor_of spot) (λ a. parent_of ns a ≡ Some p)

-- n may be moved to the spot of p
pub record IsMove (ns : List Node) (n p : ℕ) (spot : Spot) : Type 0 where
  pub node_given : n < length ns
  pub given : p < length ns
  pub not_root : n ≢ 0
  pub block : IsSome (block_of (text_of ns p))
  pub apart : holds ns n p ≡ false
  pub among : IsSpot ns p spot
  pub other : anchor_of spot ≢ Some n
