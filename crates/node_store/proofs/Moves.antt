-- How the seats of cursors move with an edit, and that they show what its definition says.
use Rattle.std.proofs.Common.{◌≡◌, ◌≢◌, ℕ, zero, suc, ◌+◌, ◌-◌, ◌<◌, ◌≤◌, List, [], ◌∷◌, Bool, true, false, ◌&&◌, map, Option, Some, None, refl, ap, sym, ◌∙◌, subst, arith, eqb, cond, eq-eqb, insert, remove, get_or, inl, inr}
use Rattle.std.specs.Option.{option_map}
use Rattle.std.specs.List.{position_or_len}
use Rattle.std.proofs.lemmas.Bool.{cases_eq, cases_lt, ne_eqb, lt-ltb, le-ltb, eqb-false}
use Rattle.std.proofs.lemmas.List.{map-id}
use Rattle.node_rows.specs.Nodes.{Node, parent_of, children_of, place_of, previous_sibling_of}
use Rattle.node_rows.specs.Sound.{IsSound}
use Rattle.node_rows.proofs.Climb.{same_from_eqb}
use Rattle.node_rows.proofs.Edits.{Relinked}
use Rattle.node_rows.proofs.Places.{place-inside, child-at-place, previous-some, previous-none, place-insert, place-remove}
use Rattle.node_rows.proofs.SameLinks.{SameLinks, place-same}
use Rattle.node_store.specs.declared.item.Edit.TheVariants.{Insert, Remove}
use Rattle.node_store.specs.declared.seat.Seat.{Seat}
use Rattle.node_store.specs.Forest.{Place}
use Rattle.node_store.specs.Edits.{moved_up, moved_down, moved_from, moved_place}
use Rattle.node_store.specs.Seats.{passed_of, shown_seat, shown_seats, seat_in, IsChildOf, IsSeat}
use Rattle.node_store.specs.Passing.{last_without, seat_without}
use Rattle.node_store.proofs.Allowed.{Insertable}
use Rattle.node_store.proofs.Shapes.{SameShape}

-- the seats stay seats, and show the places that `move` gives
pub record Keeps (ns ms : List Node) (re : Option Seat → Option Seat) (move : Place → Place) : Type 0 where
  pub none : re None ≡ None
  pub seats : (o : Option Seat) → IsSeat ns o → IsSeat ms (re o)
  pub shown : (o : Option Seat) → IsSeat ns o → option_map (shown_seat ms) (re o) ≡ option_map move (option_map (shown_seat ns) o)

module _ (ns ms : List Node) (re : Option Seat → Option Seat) (move : Place → Place) (k : Keeps ns ms re move) where
  pub kept-seats : (ss : List (Option Seat)) → ((i : ℕ) → IsSeat ns (seat_in ss i)) → (i : ℕ) → IsSeat ms (seat_in (map re ss) i)
  kept-seats [] h i = tt
  kept-seats (o ∷ ss) h zero = k.seats o (h zero)
  kept-seats (o ∷ ss) h (suc i) = kept-seats ss (λ j. h (suc j)) i

  pub kept-shown : (ss : List (Option Seat)) → ((i : ℕ) → IsSeat ns (seat_in ss i)) → shown_seats ms (map re ss) ≡ map (option_map move) (shown_seats ns ss)
  kept-shown [] h = refl
  kept-shown (o ∷ ss) h = let a = k.shown o (h zero) in let b = kept-shown ss (λ j. h (suc j)) in cc

-- where the seats themselves stay
module _ (ns ms : List Node) (move : Place → Place) (k : Keeps ns ms (λ o. o) move) (ss : List (Option Seat)) (h : (i : ℕ) → IsSeat ns (seat_in ss i)) where
  pub same-seats : (i : ℕ) → IsSeat ms (seat_in ss i)
  same-seats i = k.seats (seat_in ss i) (h i)

  pub same-shown : shown_seats ms ss ≡ map (option_map move) (shown_seats ns ss)
  same-shown = sym (ap (shown_seats ms) (map-id ss)) ∙ kept-shown ns ms (λ o. o) move k ss h

-- a seat where the last child passed and the number of those passed are known
seat_at : (ns ms : List Node) → SameShape ns ms → (c : ℕ) (last new : Option ℕ) → IsChildOf ms c new → IsSeat ns (Some (record { container = c; last = last })) → IsSeat ms (Some (record { container = c; last = new }))
seat_at ns ms h c last new i s = (rw h.same_length s.0, h.blocks c s.1, i)

-- links stay
module _ (ns ms : List Node) (l : SameLinks ns ms) (h : SameShape ns ms) where
  same_last : (q : ℕ) (o : Option ℕ) → IsChildOf ns q o → IsChildOf ms q o
  same_last q None i = tt
  same_last q (Some m) i = l.parents m ∙ i

  same_passed : (q : ℕ) (o : Option ℕ) → passed_of ms q o ≡ passed_of ns q o
  same_passed q None = refl
  same_passed q (Some m) = ap suc (place-same ns ms l q m)

  same_seat : (o : Option Seat) → IsSeat ns o → IsSeat ms o
  same_seat None i = tt
  same_seat (Some s) i = seat_at ns ms h s.container s.last s.last (same_last s.container s.last i.2) i

  same_place : (o : Option Seat) → IsSeat ns o → option_map (shown_seat ms) o ≡ option_map (λ c. c) (option_map (shown_seat ns) o)
  same_place None i = refl
  same_place (Some s) i = let e = same_passed s.container s.last in cc

  pub Keeps-same : Keeps ns ms (λ o. o) (λ c. c)
  Keeps-same = record { none = refl; seats = same_seat; shown = same_place }

and_false : (b : Bool) → (b && false) ≡ false
and_false true = refl
and_false false = refl

some_place : (q k j : ℕ) → k ≡ j → (let c : Place = record { container = q; passed = k } in Some c) ≡ (let c : Place = record { container = q; passed = j } in Some c)
some_place q k j e = cc

-- n is put into p
module _ (ns ms : List Node) (p at n : ℕ) (i : Insertable ns n p at) (h : Relinked ns ms p n (insert (children_of ns p) at n) (Some p)) (shape : SameShape ns ms) where
  other : (q m : ℕ) → parent_of ns m ≡ Some q → m ≢ n
  other q m e = λ j. let l : parent_of ns m ≡ parent_of ns n = ap (parent_of ns) j in absurd (let o = i.loose in cc)

  put_last : (q : ℕ) (o : Option ℕ) → IsChildOf ns q o → IsChildOf ms q o
  put_last q None e = tt
  put_last q (Some m) e = h.parent_other m (other q m e) ∙ e

  put_here : (q m k : ℕ) → q ≡ p → parent_of ns m ≡ Some q → place_of ns p m ≡ k → suc (place_of ms q m) ≡ moved_up p at q (suc k)
  put_here q m k j e g =
      let t = place-insert m n (children_of ns p) at (other q m e) i.place in
      let here : place_of ms q m ≡ position_or_len (eqb m) (insert (children_of ns p) at n) = ap (λ x. place_of ms x m) j ∙ ap (position_or_len (eqb m)) h.list_here in
      elim (cases_lt k at) [
        | inl a ↦ rw (eq-eqb q p j, le-ltb at (suc k) (omega arith)) (let r = t.0 (omega arith) in omega arith)
        | inr a ↦ rw (eq-eqb q p j, lt-ltb at (suc k) (omega arith)) (let r = t.1 (omega arith) in omega arith)
      ]

  put_other : (q m : ℕ) → q ≢ p → suc (place_of ms q m) ≡ moved_up p at q (suc (place_of ns q m))
  put_other q m d = rw (ne_eqb q p d) (ap (λ l. suc (position_or_len (eqb m) l)) (h.list_other q d))

  put_passed : (q : ℕ) (o : Option ℕ) → IsChildOf ns q o → passed_of ms q o ≡ moved_up p at q (passed_of ns q o)
  put_passed q None e = rw (le-ltb at 0 (omega arith), and_false (eqb q p)) refl
  put_passed q (Some m) e = elim (cases_eq q p) [ inl j ↦ put_here q m (place_of ns q m) j e (ap (λ x. place_of ns x m) (sym j)) | inr d ↦ put_other q m d ]

  put_seat : (o : Option Seat) → IsSeat ns o → IsSeat ms o
  put_seat None e = tt
  put_seat (Some s) e = seat_at ns ms shape s.container s.last s.last (put_last s.container s.last e.2) e

  put_place : (o : Option Seat) → IsSeat ns o → option_map (shown_seat ms) o ≡ option_map (moved_place ns (Insert n p at)) (option_map (shown_seat ns) o)
  put_place None e = refl
  put_place (Some s) e = some_place s.container _ _ (put_passed s.container s.last e.2)

  pub Keeps-put : Keeps ns ms (λ o. o) (moved_place ns (Insert n p at))
  Keeps-put = record { none = refl; seats = put_seat; shown = put_place }

-- the child n of p is taken out
module _ (ns ms : List Node) (s : IsSound ns) (p n : ℕ) (child : parent_of ns n ≡ Some p) (h : Relinked ns ms p n (remove (children_of ns p) (place_of ns p n)) None) (shape : SameShape ns ms) where
  abbrev pub at : ℕ
  at = place_of ns p n

  stays : (m q : ℕ) → m ≢ n → parent_of ns m ≡ Some q → parent_of ms m ≡ Some q
  stays m q d e = h.parent_other m d ∙ e

  apart : (m : ℕ) → parent_of ns m ≡ Some p → m ≢ n → place_of ns p m ≢ at
  apart m e d = λ j. d (sym (child-at-place ns s m p e) ∙ (ap (λ k. get_or (children_of ns p) k 0) j ∙ child-at-place ns s n p child))

  in_rest : (m : ℕ) → m ≢ n → (place_of ns p m < at → place_of ms p m ≡ place_of ns p m) × (at < place_of ns p m → place_of ms p m + 1 ≡ place_of ns p m)
  in_rest m d =
      let t = place-remove m (children_of ns p) at (place-inside ns s n p child) (λ j. d (j ∙ child-at-place ns s n p child)) in
      let e : place_of ms p m ≡ position_or_len (eqb m) (remove (children_of ns p) at) = ap (position_or_len (eqb m)) h.list_here in
      (λ a. e ∙ t.0 a, λ a. ap (λ k. k + 1) e ∙ t.1 a)

  -- the one before it, which is passed last then
  before_is : (o : Option ℕ) → previous_sibling_of ns n ≡ o → IsChildOf ms p o × (passed_of ms p o ≡ at)
  before_is None g = (tt, sym (previous-none ns s n p child g))
  before_is (Some c) g =
      let t = previous-some ns s n p c child g in
      let d : c ≢ n = λ j. absurd (let e = ap (place_of ns p) j in let u = t.1 in omega arith) in
      let r = (in_rest c d).0 (let u = t.1 in omega arith) in
      (stays c p d t.0, let u = t.1 in omega arith)

  moved_here : (q k : ℕ) → q ≡ p → at < k → moved_down p at q k ≡ k - 1
  moved_here q k j b = rw (eq-eqb q p j, lt-ltb at k b) refl

  moved_before : (q k : ℕ) → q ≡ p → k ≤ at → moved_down p at q k ≡ k
  moved_before q k j b = rw (eq-eqb q p j, le-ltb at k b) refl

  moved_other : (q k : ℕ) → q ≢ p → moved_down p at q k ≡ k
  moved_other q k d = rw (ne_eqb q p d) refl

  other_passed : (q m : ℕ) → m ≢ n → parent_of ns m ≡ Some q → suc (place_of ms q m) ≡ moved_down p at q (suc (place_of ns q m))
  other_passed q m d e =
      elim (cases_eq q p) [
        | inl j ↦
            let f : parent_of ns m ≡ Some p = e ∙ ap (λ x. Some x) j in
            let a = apart m f d in
            let t = in_rest m d in
            let here : suc (place_of ms q m) ≡ suc (place_of ms p m) = ap (λ x. suc (place_of ms x m)) j in
            let was : place_of ns q m ≡ place_of ns p m = ap (λ x. place_of ns x m) j in
            elim (cases_lt (place_of ns p m) at) [
              | inl b ↦ let r = t.0 b in let v = moved_before q (suc (place_of ns q m)) j (omega arith) in omega arith
              | inr b ↦ let c : at < place_of ns p m = omega arith in let r = t.1 c in let v = moved_here q (suc (place_of ns q m)) j (omega arith) in omega arith
            ]
        | inr x ↦ ap (λ l. suc (position_or_len (eqb m) l)) (h.list_other q x) ∙ sym (moved_other q (suc (place_of ns q m)) x)
      ]

  module _ (before : Option ℕ) (g : previous_sibling_of ns n ≡ before) where
    taken_case : (q m : ℕ) (b : Bool) → eqb m n ≡ b → parent_of ns m ≡ Some q → IsChildOf ms q (cond b before (Some m)) × (passed_of ms q (cond b before (Some m)) ≡ moved_down p at q (suc (place_of ns q m)))
    taken_case q m true e f =
        let j = same_from_eqb m n e in
        let i : Some q ≡ Some p = sym f ∙ (ap (parent_of ns) j ∙ child) in
        let k : q ≡ p = cc in
        let t = before_is before g in
        let was : place_of ns q m ≡ at = ap (λ x. place_of ns x m) k ∙ ap (place_of ns p) j in (
          subst (λ x. IsChildOf ms x before) (sym k) t.0,
          ap (λ x. passed_of ms x before) k ∙ (t.1 ∙ let v = moved_here q (suc (place_of ns q m)) k (omega arith) in omega arith),
        )
    taken_case q m false e f = (stays m q (eqb-false m n e) f, other_passed q m (eqb-false m n e) f)

    taken_last : (q : ℕ) (o : Option ℕ) → IsChildOf ns q o → IsChildOf ms q (last_without n before o) × (passed_of ms q (last_without n before o) ≡ moved_down p at q (passed_of ns q o))
    taken_last q None e = (tt, elim (cases_eq q p) [ inl j ↦ sym (moved_before q 0 j (omega arith)) | inr d ↦ sym (moved_other q 0 d) ])
    taken_last q (Some m) e = taken_case q m (eqb m n) refl e

    taken_seat : (o : Option Seat) → IsSeat ns o → IsSeat ms (seat_without n before o)
    taken_seat None e = tt
    taken_seat (Some x) e = seat_at ns ms shape x.container x.last (last_without n before x.last) (taken_last x.container x.last e.2).0 e

    taken_place : (o : Option Seat) → IsSeat ns o → option_map (shown_seat ms) (seat_without n before o) ≡ option_map (moved_place ns (Remove n)) (option_map (shown_seat ns) o)
    taken_place None e = refl
    taken_place (Some x) e =
        some_place x.container _ _ ((taken_last x.container x.last e.2).1 ∙ ap (λ o. moved_from ns n o x.container (passed_of ns x.container x.last)) (sym child))

    pub Keeps-taken : Keeps ns ms (seat_without n before) (moved_place ns (Remove n))
    Keeps-taken = record { none = refl; seats = taken_seat; shown = taken_place }
