-- What every store keeps is a forest, whatever its log and what is reserved.
use Rattle.std.proofs.Common.{◌≡◌, ℕ, ◌<◌, ◌≤◌, List, [], ◌∷◌, length, Option, Some, None, sym, subst, arith, eqb, cond, count_by, inl, inr}
use Rattle.std.specs.List.{position_or_len}
use Rattle.std.specs.Option.{option_map}
use Rattle.std.proofs.Math.ListN.{get_or-map}
use Rattle.std.proofs.lemmas.Bool.{cases_Bool}
use Rattle.std.proofs.lemmas.List.Sums.{sum_by-cons}
use Rattle.node_rows.specs.Nodes.{Node, parent_of, children_of, place_of}
use Rattle.node_rows.specs.Sound.{IsSound}
use Rattle.node_rows.proofs.Edits.{none_if, listed_once}
use Rattle.node_store.specs.declared.item.Item.{Item}
use Rattle.node_store.specs.declared.seat.Seat.{Seat}
use Rattle.node_store.specs.Forest.{IsForest, IsWithin, cursor_at}
use Rattle.node_store.specs.Seats.{passed_of, shown_seat, shown_seats, seat_in, IsChildOf, IsSeat, IsStored}

-- what is in a list has a position in it
pub position-below : (n : ℕ) (xs : List ℕ) → 0 < count_by (eqb n) xs → position_or_len (eqb n) xs < length xs
position-below n [] h = absurd (omega arith)
position-below n (x ∷ xs) h =
    elim (cases_Bool (eqb n x)) [
      | inl t ↦ rw t (omega arith)
      | inr f ↦ rw f (let r = position-below n xs (omega (arith, sum_by-cons (λ y. cond (eqb n y) 1 0) x xs, none_if f)) in omega arith)
    ]

pub place-below : (ns : List Node) (s : IsSound ns) (n p : ℕ) → parent_of ns n ≡ Some p → place_of ns p n < length (children_of ns p)
place-below ns s n p e = position-below n (children_of ns p) (omega (arith, listed_once ns n p s e))

pub cursor-shown : (ns : List Node) (ss : List (Option Seat)) (i : ℕ) → cursor_at (shown_seats ns ss) i ≡ option_map (shown_seat ns) (seat_in ss i)
cursor-shown ns ss i = get_or-map (option_map (shown_seat ns)) ss i None

passed_few : (ns : List Node) (s : IsSound ns) (q : ℕ) (o : Option ℕ) → IsChildOf ns q o → passed_of ns q o ≤ length (children_of ns q)
passed_few ns s q None h = omega arith
passed_few ns s q (Some m) h = let r = place-below ns s m q h in omega arith

seat_within : (ns : List Node) (s : IsSound ns) (o : Option Seat) → IsSeat ns o → IsWithin ns (option_map (shown_seat ns) o)
seat_within ns s None h = tt
seat_within ns s (Some x) h = (h.0, h.1, passed_few ns s x.container x.last h.2)

pub IsForest-stored : (text : List ℕ) (ns : List Node) (ss : List (Option Seat)) (k : IsStored text ns ss) (log : List Item) (spare : ℕ) (room : Option ℕ) → IsForest (record { text = text; nodes = ns; cursors = shown_seats ns ss; log = log; spare = spare; room = room })
IsForest-stored text ns ss k log spare room = record {
  sound = k.forest.sound;
  some = k.forest.some;
  root = k.forest.root;
  others = k.forest.others;
  containers = k.forest.containers;
  spans = k.forest.spans;
  cursors = λ serial. subst (IsWithin ns) (sym (cursor-shown ns ss serial)) (seat_within ns k.forest.sound (seat_in ss serial) (k.seats_in serial));
}
