-- Which open visits stay known to be in the tree: the visit of a parent, and visits over a call.
use Rattle.std.specs.Prelude.{◌≡◌, ℕ, ◌+◌, List, [], ◌∷◌, ◌++◌, Bool, true, false, ◌&&◌, ◌||◌, length, drop, map, count_by, Option, Some, None, nat_eq, if◌then◌else◌}
use Rattle.node_rows.specs.Nodes.{Node, parent_of, children_of}
use Rattle.node_rows.specs.Sound.{is_number}
use Rattle.node_store.specs.declared.item.Edit.{Edit}
use Rattle.node_store.specs.declared.item.Edit.TheVariants.{Insert, Remove}
use Rattle.node_store.specs.declared.item.Item.{Item}
use Rattle.node_store.specs.declared.item.Item.TheVariants as I
use Rattle.node_store.specs.declared.item.Moment.{Moment}
use Rattle.node_store.specs.Forest.{Forest}
use Rattle.node_store.specs.Edits.{apply_all, all_can}
use Rattle.visitor_walk.specs.declared.turn.Open.{Open}
use Rattle.visitor_walk.specs.declared.known.Counted.{Counted}
use Rattle.visitor_walk.specs.declared.known.Before.{Before}

-- where the innermost visit's node is a child of the node of the visit below it, that one is known as the innermost is
abbrev pub shared : List Node → Open → List Open → List Open
shared ns top [] = []
shared ns top (o ∷ os) = record o { sure = if is_number (parent_of ns top.node) o.node then top.sure else o.sure } ∷ os

-- the item puts a node into n
abbrev pub puts_into : ℕ → Item → Bool
puts_into n (I.Edit (Insert m p at)) = nat_eq p n
puts_into n _ = false

-- the item takes a node out of its parent
abbrev pub takes_out : Item → Bool
takes_out (I.Edit (Remove m)) = true
takes_out _ = false

abbrev pub counted : List Node → ℕ → Counted
counted ns n = record { node = n; children = length (children_of ns n) }

-- the parent, where there is one, or the node itself
abbrev pub parent_or : ℕ → Option ℕ → ℕ
parent_or n None = n
parent_or n (Some p) = p

-- before a call with node n
abbrev pub before_call : Forest → ℕ → ℕ → Before
before_call f n edits = record { items = length f.log; edits = edits; at = counted f.nodes n; above = counted f.nodes (parent_or n (parent_of f.nodes n)) }

-- The node n is the one that was counted, and has lost as many children since as the items took out nodes in all: so no
-- item took out another.
abbrev pub lost_its_own : Forest → ℕ → Counted → ℕ → Bool
lost_its_own f from was n = nat_eq was.node n && nat_eq (length (children_of f.nodes n) + count_by takes_out (drop from f.log)) (was.children + count_by (puts_into n) (drop from f.log))

-- the visit was known to be in the tree before the call, and is so after it
abbrev pub stays_known : Forest → Before → Open → Bool
stays_known f b o = nat_eq o.sure b.edits && (lost_its_own f b.items b.at o.node || lost_its_own f b.items b.above o.node)

abbrev pub kept : Forest → Before → ℕ → Open → Open
kept f b edits o = record o { sure = if stays_known f b o then edits else o.sure }

-- the two innermost visits after a call
abbrev pub kept_two : Forest → Before → ℕ → List Open → List Open
kept_two f b edits [] = []
kept_two f b edits (o ∷ []) = kept f b edits o ∷ []
kept_two f b edits (o ∷ p ∷ os) = kept f b edits o ∷ kept f b edits p ∷ os

-- a call was made with these edits, and came back
pub record CallEdits (f g : Forest) : Type 0 where
  pub plugin : ℕ
  pub hook : ℕ
  pub moment : Moment
  pub edits : List Edit
  pub fault : Option (List ℕ)
  pub met : all_can f.nodes edits ≡ true
  pub nodes : g.nodes ≡ apply_all f.nodes edits
  pub log : g.log ≡ f.log ++ I.Call plugin hook moment ∷ (map (λ e. I.Edit e) edits ++ I.Back fault ∷ [])
