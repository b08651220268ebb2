-- Nodes that no edit of a log touches keep their trees and their bytes.
use Rattle.std.specs.Prelude.{◌≡◌, ℕ, ◌<◌, List, [], ◌∷◌, ◌++◌, Bool, true, false, not, ◌&&◌, Option, Some, None, length}
use Rattle.css_text.specs.Ahead.{byte_len}
use Rattle.css_tree.specs.Tree.{Tree}
use Rattle.css_tree.specs.Print.{body, print}
use Rattle.node_rows.specs.Nodes.{Node, parent_of, holds}
use Rattle.node_rows.specs.NumberTrees.{tree_at}
use Rattle.node_store.specs.declared.item.Edit.{Edit}
use Rattle.node_store.specs.declared.item.Edit.TheVariants.{Set, SetRaw, New, Insert, Remove}
use Rattle.node_store.specs.declared.item.Item.{Item}
use Rattle.node_store.specs.declared.item.Item.TheVariants as I
use Rattle.node_store.specs.Edits.{apply, entered}
use Rattle.node_store.specs.Forest.{Forest, IsForest}
use Rattle.node_store.specs.Fresh.{IsFresh}
use Rattle.visitor_machine.specs.Hooks.{PickedHook}
use Rattle.visitor_machine.specs.Machine.{State}
use Rattle.visitor_machine.specs.Follow.{follow, start}

-- The node that an edit alters: the one of which it sets a field or a raw, or whose children it changes. A node that is
-- put in or taken out isn't altered itself.
abbrev pub altered : List Node → Edit → Option ℕ
altered ns (Set field n text) = Some n
altered ns (SetRaw raw n text) = Some n
altered ns (New n text span) = None
altered ns (Insert n p at) = Some p
altered ns (Remove n) = parent_of ns n

-- it is n or stands below n
abbrev pub is_within : List Node → ℕ → Option ℕ → Bool
is_within ns n None = false
is_within ns n (Some m) = holds ns n m

-- no edit of the log alters n, or a node that stands below n at that moment
abbrev pub is_untouched : List Node → ℕ → List Item → Bool
is_untouched ns n [] = true
is_untouched ns n (I.Edit e ∷ is) = not (is_within ns n (altered ns e)) && is_untouched (apply ns e) n is
is_untouched ns n (i ∷ is) = is_untouched (entered ns i) n is

-- The tree's body stands in the text s at the tree's span. It is the same at every depth.
pub record StandsIn (s : List ℕ) (t : Tree) : Type 0 where
  pub front : List ℕ
  pub text : List ℕ
  pub behind : List ℕ
  pub all : s ≡ front ++ (text ++ behind)
  pub span : t.span ≡ Some (record { start = byte_len front; end = byte_len (front ++ text) })
  pub prints : (depth : ℕ) → body depth t ≡ text

-- one text stands in another
abbrev pub IsPart : List ℕ → List ℕ → Type 0
IsPart part whole = (front : List ℕ) × (behind : List ℕ) × (whole ≡ front ++ (part ++ behind))

-- Node n has the tree that it had, and its body stands in the source at its span; where n is in the tree, it stands in the
-- printing of the whole.
pub record KeepsText (f : Forest) (ns : List Node) (n : ℕ) : Type 0 where
  pub tree : tree_at ns n ≡ tree_at f.nodes n
  pub stands : StandsIn f.text (tree_at ns n)
  pub printed : holds ns 0 n ≡ true → IsPart stands.text (print (tree_at ns 0))

-- a node of a fresh forest that a run leaves untouched keeps its text
abbrev pub Untouched : Type 0
Untouched = (hooks : List PickedHook) (most : ℕ) (forest : Forest) (log : List Item) (end : State) (n : ℕ) → IsForest forest → IsFresh forest → follow hooks most (start hooks forest.nodes) log ≡ Some end → n < length forest.nodes → is_untouched forest.nodes n log ≡ true → KeepsText forest end.nodes n
