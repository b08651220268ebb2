-- The nodes that rows show, and what is true of the links of all rows.
use Rattle.std.specs.Prelude.{◌≡◌, ℕ, ◌<◌, List, [], map, length, Option, None, false, slice_index_or}
use Rattle.css_tree.specs.declared.node.NodeText.TheVariants.{Comment}
use Rattle.node_rows.specs.declared.rows.Row.{Row}
use Rattle.node_rows.specs.Nodes.{Node}
use Rattle.node_rows.specs.Sound.{IsSound}
use Rattle.node_rows.specs.Segments.{along, Segment}

abbrev pub no_row : Row
no_row = record { text = Comment None [] [] []; span = None; parent = None; first = None; last = None; before = None; after = None; tally = record { count = 0; dirty = false } }

abbrev pub row_at : List Row → ℕ → Row
row_at rs n = slice_index_or rs n no_row

abbrev pub next : List Row → ℕ → Option ℕ
next rs n = (row_at rs n).after

abbrev pub prev : List Row → ℕ → Option ℕ
prev rs n = (row_at rs n).before

-- a row's children, along the links
abbrev pub listed : List Row → Row → List ℕ
listed rs r = along (next rs) (length rs) r.first

abbrev pub shown : List Row → Row → Node
shown rs r = record { text = r.text; span = r.span; parent = r.parent; children = listed rs r; dirty = r.tally.dirty }

abbrev pub shown_rows : List Row → List Node
shown_rows rs = map (shown rs) rs

-- the row's ends, count and links are those of one run of children
abbrev pub IsJoined : List Row → Row → Type 0
IsJoined rs r = Segment (next rs) (prev rs) None r.first (listed rs r) r.last None × (r.tally.count ≡ length (listed rs r))

pub record IsLinked (rs : List Row) : Type 0 where
  pub sound : IsSound (shown_rows rs)
  pub joined : (p : ℕ) → p < length rs → IsJoined rs (row_at rs p)
