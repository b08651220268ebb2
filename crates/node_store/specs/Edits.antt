-- The edits of a forest: when each may be made, and what it changes.
use Rattle.std.specs.Prelude.{ℕ, suc, ◌-◌, List, [], ◌∷◌, ◌++◌, Bool, true, false, not, ◌&&◌, ◌||◌, length, map, Option, Some, None, is_some, nat_eq, nat_lt, nat_le, if◌then◌else◌}
use Rattle.std.specs.Option.{option_map}
use Rattle.css_tree.specs.declared.node.Kind.{Kind}
use Rattle.css_tree.specs.declared.node.Kind.TheVariants as K
use Rattle.css_tree.specs.declared.node.NodeText.{NodeText}
use Rattle.css_tree.specs.Parts.{kind_of, block_of}
use Rattle.css_tree.specs.Changes.{takes_field, takes_raw, has_field, has_raw, with_field, with_raw}
use Rattle.node_rows.specs.Nodes.{Node, new_node, text_of, parent_of, children_of, holds, place_of, linked, unlinked, with_text}
use Rattle.node_rows.specs.Sound.{is_number}
use Rattle.node_rows.specs.Marks.{mark, dirtied, with_mark}
use Rattle.node_store.specs.declared.item.Edit.{Edit}
use Rattle.node_store.specs.declared.item.Edit.TheVariants.{Set, SetRaw, New, Insert, Remove}
use Rattle.node_store.specs.declared.item.Item.{Item}
use Rattle.node_store.specs.declared.item.Item.TheVariants as I
use Rattle.node_store.specs.Forest.{Forest, Place}

abbrev pub is_root_kind : Kind → Bool
is_root_kind K.Root = true
is_root_kind _ = false

abbrev pub is_root : NodeText → Bool
is_root text = is_root_kind (kind_of text)

abbrev pub is_loose : Option ℕ → Bool
is_loose None = true
is_loose (Some p) = false

-- The condition of the edit is met.
abbrev pub is_allowed : List Node → Edit → Bool
is_allowed ns (Set field n text) = nat_lt n (length ns) && takes_field field (text_of ns n)
is_allowed ns (SetRaw raw n text) = nat_lt n (length ns) && takes_raw raw (text_of ns n)
is_allowed ns (New n text span) = nat_eq n (length ns) && (nat_lt n 5000000 && not (is_root text))
is_allowed ns (Insert n p at) = nat_lt n (length ns) && (nat_lt p (length ns) && (not (nat_eq n 0) && (is_loose (parent_of ns n) && (not (holds ns n p) && (is_some (block_of (text_of ns p)) && nat_le at (length (children_of ns p)))))))
is_allowed ns (Remove n) = not (is_loose (parent_of ns n))

-- A field or raw that is there with that text already makes no edit.
abbrev pub changes : List Node → Edit → Bool
changes ns (Set field n text) = not (has_field field text (text_of ns n))
changes ns (SetRaw raw n text) = not (has_raw raw text (text_of ns n))
changes ns _ = true

-- the edit may be made, and changes something
abbrev pub can : List Node → Edit → Bool
can ns e = is_allowed ns e && changes ns e

abbrev pub removed_from : List Node → ℕ → Option ℕ → List Node
removed_from ns n None = ns
removed_from ns n (Some p) = mark (unlinked ns p (place_of ns p n) n) p

-- the nodes after an edit
abbrev pub apply : List Node → Edit → List Node
apply ns (Set field n text) = mark (with_text ns n (with_field field text (text_of ns n))) n
apply ns (SetRaw raw n text) = with_text ns n (with_raw raw text (text_of ns n))
apply ns (New n text span) = ns ++ new_node text span ∷ []
apply ns (Insert n p at) = mark (dirtied (linked ns p at n) n) p
apply ns (Remove n) = removed_from ns n (parent_of ns n)

-- the nodes after edits in turn
abbrev pub apply_all : List Node → List Edit → List Node
apply_all ns [] = ns
apply_all ns (e ∷ es) = apply_all (apply ns e) es

-- each edit may be made at its turn, and changes something
abbrev pub all_can : List Node → List Edit → Bool
all_can ns [] = true
all_can ns (e ∷ es) = can ns e && all_can (apply ns e) es

-- k children of q are passed, and one is put into p at the place `at`
abbrev pub moved_up : ℕ → ℕ → ℕ → ℕ → ℕ
moved_up p at q k = if nat_eq q p && nat_lt at k then suc k else k

-- k children of q are passed, and the one of p at the place `at` is taken out
abbrev pub moved_down : ℕ → ℕ → ℕ → ℕ → ℕ
moved_down p at q k = if nat_eq q p && nat_lt at k then k - 1 else k

abbrev pub moved_from : List Node → ℕ → Option ℕ → ℕ → ℕ → ℕ
moved_from ns n None q k = k
moved_from ns n (Some p) q k = moved_down p (place_of ns p n) q k

-- how many children of q are passed after an edit, where k were passed before it
abbrev pub moved : List Node → Edit → ℕ → ℕ → ℕ
moved ns (Insert n p at) q k = moved_up p at q k
moved ns (Remove n) q k = moved_from ns n (parent_of ns n) q k
moved ns _ q k = k

abbrev pub moved_place : List Node → Edit → Place → Place
moved_place ns e c = record c { passed = moved ns e c.container c.passed }

-- a cursor, where it is open, after edits in turn
abbrev pub moved_all : List Node → List Edit → Option Place → Option Place
moved_all ns [] c = c
moved_all ns (e ∷ es) c = moved_all (apply ns e) es (option_map (moved_place ns e) c)

-- the forest after an edit, which is logged
abbrev pub edited : Forest → Edit → Forest
edited f e = record f { nodes = apply f.nodes e; cursors = map (option_map (moved_place f.nodes e)) f.cursors; log = f.log ++ I.Edit e ∷ [] }

-- the forest after edits in turn
abbrev pub edited_all : Forest → List Edit → Forest
edited_all f [] = f
edited_all f (e ∷ es) = edited_all (edited f e) es

-- the forest after an edit that may change nothing, and isn't logged then
abbrev pub edited_where : Forest → Edit → Forest
edited_where f e = if changes f.nodes e then edited f e else f

-- entering a node makes it clean
abbrev pub entered : List Node → Item → List Node
entered ns (I.Enter n) = with_mark ns n false
entered ns _ = ns

-- the forest after an item of the walk was noted
abbrev pub noted : Forest → Item → Forest
noted f item = record f { nodes = entered f.nodes item; log = f.log ++ item ∷ [] }

-- The edit touches m: it sets a field of m, changes m's children, or puts in a tree that holds m.
abbrev pub touches : List Node → Edit → ℕ → Bool
touches ns (Set field n text) m = nat_eq m n
touches ns (SetRaw raw n text) m = false
touches ns (New n text span) m = false
touches ns (Insert n p at) m = nat_eq m p || holds ns n m
touches ns (Remove n) m = is_number (parent_of ns n) m
