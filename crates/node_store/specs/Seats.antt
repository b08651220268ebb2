-- Cursors by the last child that they have passed, and the places that they show.
use Rattle.std.specs.Prelude.{◌≡◌, ℕ, suc, ◌<◌, List, [], map, length, Option, Some, None, IsSome, slice_index_or}
use Rattle.std.specs.Option.{option_map}
use Rattle.css_tree.specs.Parts.{block_of}
use Rattle.node_rows.specs.Nodes.{Node, text_of, parent_of, place_of}
use Rattle.node_store.specs.declared.seat.Seat.{Seat}
use Rattle.node_store.specs.Forest.{Forest, Place, IsForest}

-- how many children of q are passed, where m is the last of them
abbrev pub passed_of : List Node → ℕ → Option ℕ → ℕ
passed_of ns q None = 0
passed_of ns q (Some m) = suc (place_of ns q m)

abbrev pub shown_seat : List Node → Seat → Place
shown_seat ns s = record { container = s.container; passed = passed_of ns s.container s.last }

abbrev pub shown_seats : List Node → List (Option Seat) → List (Option Place)
shown_seats ns seats = map (option_map (shown_seat ns)) seats

abbrev pub seat_in : List (Option Seat) → ℕ → Option Seat
seat_in seats serial = slice_index_or seats serial None

-- m, if it is one, is a child of q
abbrev pub IsChildOf : List Node → ℕ → Option ℕ → Type 0
IsChildOf ns q None = Unit {0}
IsChildOf ns q (Some m) = parent_of ns m ≡ Some q

-- the seat, if it is one, has a container and a child of it
abbrev pub IsSeat : List Node → Option Seat → Type 0
IsSeat ns None = Unit {0}
IsSeat ns (Some s) = (s.container < length ns) × IsSome (block_of (text_of ns s.container)) × IsChildOf ns s.container s.last

-- nodes with their text, and nothing beside
abbrev pub bare : List ℕ → List Node → Forest
bare text ns = record { text = text; nodes = ns; cursors = []; log = []; spare = 0; room = None }

-- what is true of the text, the nodes and the seats of every store
pub record IsStored (text : List ℕ) (ns : List Node) (seats : List (Option Seat)) : Type 0 where
  pub forest : IsForest (bare text ns)
  pub seats_in : (serial : ℕ) → IsSeat ns (seat_in seats serial)
