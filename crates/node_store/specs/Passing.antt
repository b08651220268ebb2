-- A cursor that passes a child, and seats whose last child is taken out.
use Rattle.std.specs.Prelude.{ℕ, suc, Option, Some, None, nat_eq, slice_set, if◌then◌else◌}
use Rattle.node_rows.specs.Nodes.{place_of}
use Rattle.node_store.specs.declared.seat.Seat.{Seat}
use Rattle.node_store.specs.Forest.{Forest}

-- the cursor of q has passed the child that was found, and all before it
abbrev pub passed_to : Forest → ℕ → ℕ → Option ℕ → Forest
passed_to f serial q None = f
passed_to f serial q (Some m) = record f { cursors = slice_set f.cursors serial (Some (record { container = q; passed = suc (place_of f.nodes q m) })) }

-- where n was the last, the one before it is
abbrev pub last_without : ℕ → Option ℕ → Option ℕ → Option ℕ
last_without n before None = None
last_without n before (Some m) = if nat_eq m n then before else Some m

-- the seat, where it is one, when n is taken out
abbrev pub seat_without : ℕ → Option ℕ → Option Seat → Option Seat
seat_without n before None = None
seat_without n before (Some s) = Some (record { container = s.container; last = last_without n before s.last })
