-- The child that a cursor passes next.
use Rattle.std.proofs.Common.{◌≡◌, ℕ, zero, suc, ◌+◌, List, [], ◌∷◌, ◌++◌, Bool, true, false, length, drop, set, Option, Some, None, refl, ap, sym, ◌∙◌, subst, arith, cond, slice_get, inl, inr}
use Rattle.std.proofs.lemmas.Bool.{cases_Bool}
use Rattle.node_rows.specs.Nodes.{Node, parent_of, children_of, place_of, siblings, siblings_in, next_sibling_of, child_after, from_number, IsGiven}
use Rattle.node_rows.specs.Sound.{IsSound}
use Rattle.node_rows.proofs.Behind.{place_is, first-some, first-none, from-next}
use Rattle.node_rows.proofs.Edits.{listed_once, parent-inside}
use Rattle.node_rows.proofs.Levels.{Each, children_each}
use Rattle.node_store.specs.declared.seat.Seat.{Seat}
use Rattle.node_store.specs.Forest.{Forest, Place, cursor_at}
use Rattle.node_store.specs.Cursors.{through, further, first_of, any_child, ahead, passed_on, after_of, with_cursor}
use Rattle.node_store.specs.Seats.{passed_of, seat_in, IsChildOf, IsSeat, IsStored}
use Rattle.node_store.specs.Passing.{passed_to}

-- the first that any test passes stands at the front
pub first-through : (xs : List ℕ) (i : ℕ) → slice_get xs i ≡ first_of (through any_child (drop i xs))
first-through [] zero = refl
first-through [] (suc i) = refl
first-through (x ∷ xs) zero = refl
first-through (x ∷ xs) (suc i) = first-through xs i

pub next-first : (ns : List Node) (q : ℕ) (last : Option ℕ) → last ≡ None → slice_get (children_of ns q) 0 ≡ first_of (through any_child (drop (passed_of ns q last) (children_of ns q)))
next-first ns q last e = first-through (children_of ns q) 0 ∙ ap (λ o. first_of (through any_child (drop (passed_of ns q o) (children_of ns q)))) (sym e)

one_more : (k : ℕ) → k + 1 ≡ suc k
one_more k = omega arith

pub next-behind : (ns : List Node) (q m : ℕ) (last : Option ℕ) → last ≡ Some m → parent_of ns m ≡ Some q → next_sibling_of ns m ≡ first_of (through any_child (drop (passed_of ns q last) (children_of ns q)))
next-behind ns q m last e p =
    ap (child_after ns m) p
    ∙ (ap (slice_get (children_of ns q)) (one_more (place_of ns q m))
    ∙ (first-through (children_of ns q) (suc (place_of ns q m))
    ∙ ap (λ o. first_of (through any_child (drop (passed_of ns q o) (children_of ns q)))) (sym e)))

module _ (ns : List Node) (s : IsSound ns) where
  pub front-case : (q : ℕ) (o : Option ℕ) → slice_get (children_of ns q) 0 ≡ o → from_number ns o ≡ children_of ns q
  front-case q None g = sym (first-none ns s q g)
  front-case q (Some c) g = sym (first-some ns s q c g).1

  -- it and those behind it are those that aren't passed
  pub from-ahead : (q : ℕ) (last : Option ℕ) → IsChildOf ns q last → from_number ns (first_of (through any_child (drop (passed_of ns q last) (children_of ns q)))) ≡ drop (passed_of ns q last) (children_of ns q)
  from-ahead q None h = ap (from_number ns) (sym (first-through (children_of ns q) 0)) ∙ front-case q (slice_get (children_of ns q) 0) refl
  from-ahead q (Some m) h =
      ap (from_number ns) (sym (next-behind ns q m (Some m) refl h))
      ∙ (from-next ns s m ∙ (ap (siblings_in ns m) h ∙ ap (λ k. drop k (children_of ns q)) (one_more (place_of ns q m))))

  each_dropped : (P : ℕ → Type 0) (k : ℕ) (xs : List ℕ) → Each P xs → Each P (drop k xs)
  each_dropped P zero xs h = h
  each_dropped P (suc k) [] h = tt
  each_dropped P (suc k) (x ∷ xs) h = each_dropped P k xs h.1

  further_first : (t : Option (ℕ × ℕ)) → first_of (further t) ≡ first_of t
  further_first None = refl
  further_first (Some x) = refl

  found_child : (q : ℕ) (test : ℕ → Bool) (ys : List ℕ) → Each (λ c. parent_of ns c ≡ Some q) ys → IsChildOf ns q (first_of (through test ys))
  found_child q test [] h = tt
  found_child q test (y ∷ ys) h =
      elim (cases_Bool (test y)) [
        | inl t ↦ rw t h.0
        | inr f ↦ rw (f, further_first (through test ys)) (found_child q test ys h.1)
      ]

  pub through-child : (q k : ℕ) (test : ℕ → Bool) (o : Option ℕ) → o ≡ first_of (through test (drop k (children_of ns q))) → IsChildOf ns q o
  through-child q k test o e =
      subst (IsChildOf ns q) (sym e) (found_child q test (drop k (children_of ns q)) (each_dropped _ k (children_of ns q) (children_each ns q s)))

  pub given-child : (q : ℕ) (o : Option ℕ) → IsChildOf ns q o → IsGiven ns o
  given-child q None h = tt
  given-child q (Some c) h = parent-inside ns c q h

  -- a turn past a child that fails the test
  pub through-next : (test : ℕ → Bool) (m : ℕ) → test m ≡ false → first_of (through test (from_number ns (next_sibling_of ns m))) ≡ first_of (through test (m ∷ siblings ns m))
  through-next test m f =
      ap (λ l. first_of (through test l)) (from-next ns s m)
      ∙ (sym (further_first (through test (siblings ns m))) ∙ sym (ap (λ b. first_of (cond b (Some (m, 1)) (further (through test (siblings ns m))))) f))

pub through-here : (test : ℕ → Bool) (m : ℕ) (ms : List ℕ) → test m ≡ true → first_of (through test (m ∷ ms)) ≡ Some m
through-here test m ms t = ap (λ b. first_of (cond b (Some (m, 1)) (further (through test ms)))) t

some_pair : (a b : ℕ × ℕ) → Some a ≡ Some b → a ≡ b
some_pair a b e = cc

get_empty : (i : ℕ) → (let o : Option ℕ = slice_get [] i in o) ≡ None
get_empty zero = refl
get_empty (suc i) = refl

-- where the one that was found stands
further_is : (t : Option (ℕ × ℕ)) (x j : ℕ) → further t ≡ Some (x, j) → (i : ℕ) × (t ≡ Some (x, i)) × (j ≡ suc i)
further_is None x j e = absurd cc
further_is (Some y) x j e =
    let f = some_pair (y.0, suc y.1) (x, j) e in
    let a : y.0 ≡ x = ap (λ z. z.0) f in
    let b : suc y.1 ≡ j = ap (λ z. z.1) f in
    (y.1, ap (λ z. Some (z, y.1)) a, sym b)

through_at : (test : ℕ → Bool) (ys : List ℕ) (x j : ℕ) → through test ys ≡ Some (x, j) → (i : ℕ) × (j ≡ suc i) × (slice_get ys i ≡ Some x)
through_at test [] x j e = absurd cc
through_at test (y ∷ ys) x j e =
    elim (cases_Bool (test y)) [
      | inl t ↦
          let f : Some (y, 1) ≡ Some (x, j) = ap (λ b. cond b (Some (y, 1)) (further (through test ys))) (sym t) ∙ e in
          let g = some_pair (y, 1) (x, j) f in
          (0, sym (ap (λ z. z.1) g), ap (λ z. Some z.0) g)
      | inr f ↦
          let g : further (through test ys) ≡ Some (x, j) = ap (λ b. cond b (Some (y, 1)) (further (through test ys))) (sym f) ∙ e in
          let h = further_is (through test ys) x j g in
          let r = through_at test ys x h.0 h.1 in
          (suc r.0, h.2 ∙ ap suc r.1, r.2)
    ]

get_dropped : (k : ℕ) (xs : List ℕ) (i : ℕ) → slice_get (drop k xs) i ≡ slice_get xs (k + i)
get_dropped zero xs i = ap (slice_get xs) (let e : i ≡ 0 + i = omega arith in e)
get_dropped (suc k) [] i = get_empty i ∙ sym (get_empty (suc k + i))
get_dropped (suc k) (x ∷ xs) i = get_dropped k xs i ∙ ap (slice_get (x ∷ xs)) (let e : suc (k + i) ≡ suc k + i = omega arith in e)

set_self : (cs : List (Option Place)) (i : ℕ) (c : Place) → cursor_at cs i ≡ Some c → set cs i (Some c) ≡ cs
set_self [] i c e = refl
set_self (x ∷ cs) zero c e = let f = sym e in cc
set_self (x ∷ cs) (suc i) c e = let f = set_self cs i c e in cc

module _ (f : Forest) (s : IsSound f.nodes) (serial : ℕ) (test : ℕ → Bool) (c : Place) where
  state_case : (t : Option (ℕ × ℕ)) → ahead f test c ≡ t → cursor_at f.cursors serial ≡ Some c → passed_to f serial c.container (first_of t) ≡ record f { cursors = set f.cursors serial (Some (passed_on c t)) }
  state_case None e o = ap (λ l. record f { cursors = l }) (sym (set_self f.cursors serial c o))
  state_case (Some x) e o =
      let xs : List ℕ = children_of f.nodes c.container in
      let a = through_at test (drop c.passed xs) x.0 x.1 e in
      let g : slice_get xs (c.passed + a.0) ≡ Some x.0 = sym (get_dropped c.passed xs a.0) ∙ a.2 in
      let child = through-child f.nodes s c.container c.passed test (Some x.0) (ap first_of (sym e)) in
      let at : place_of f.nodes c.container x.0 ≡ c.passed + a.0 = place_is x.0 xs (c.passed + a.0) (listed_once f.nodes x.0 c.container s child) g in
      let k : suc (place_of f.nodes c.container x.0) ≡ c.passed + x.1 = omega (arith, at, a.1) in
      ap (λ n. record f { cursors = set f.cursors serial (Some (record c { passed = n })) }) k

  pub state-passed : (found : Option ℕ) → found ≡ first_of (ahead f test c) → cursor_at f.cursors serial ≡ Some c → passed_to f serial c.container found ≡ after_of f test serial (cursor_at f.cursors serial)
  state-passed found e o =
      ap (passed_to f serial c.container) e
      ∙ (state_case (ahead f test c) refl o ∙ ap (after_of f test serial) (sym o))

-- a seat in place of another
seat_set : (ns : List Node) (ss : List (Option Seat)) (i : ℕ) (x : Option Seat) → IsSeat ns x → ((j : ℕ) → IsSeat ns (seat_in ss j)) → (j : ℕ) → IsSeat ns (seat_in (set ss i x) j)
seat_set ns [] i x h k j = tt
seat_set ns (y ∷ ss) zero x h k zero = h
seat_set ns (y ∷ ss) zero x h k (suc j) = k (suc j)
seat_set ns (y ∷ ss) (suc i) x h k zero = k zero
seat_set ns (y ∷ ss) (suc i) x h k (suc j) = seat_set ns ss i x h (λ l. k (suc l)) j

pub stored-set : (text : List ℕ) (ns : List Node) (ss : List (Option Seat)) (i : ℕ) (x : Option Seat) → IsStored text ns ss → IsSeat ns x → IsStored text ns (set ss i x)
stored-set text ns ss i x k h = record { forest = k.forest; seats_in = seat_set ns ss i x h k.seats_in }

-- a look-up of the cursors with another one under a serial
pub cursor-set : (cs : List (Option Place)) (i : ℕ) (j : ℕ) → cursor_at (set cs i None) j ≡ cursor_at (with_cursor cs i None) j
cursor-set [] zero zero = refl
cursor-set [] zero (suc j) = refl
cursor-set [] (suc i) zero = refl
cursor-set [] (suc i) (suc j) = cursor-set [] i j
cursor-set (c ∷ cs) zero zero = refl
cursor-set (c ∷ cs) zero (suc j) = refl
cursor-set (c ∷ cs) (suc i) zero = refl
cursor-set (c ∷ cs) (suc i) (suc j) = cursor-set cs i j

-- a cursor more at the end
pub cursor-pushed : (cs : List (Option Place)) (n : ℕ) (c : Option Place) → n ≡ length cs → cs ++ c ∷ [] ≡ with_cursor cs n c
cursor-pushed [] zero c e = refl
cursor-pushed [] (suc n) c e = absurd (omega arith)
cursor-pushed (x ∷ cs) zero c e = absurd (omega arith)
cursor-pushed (x ∷ cs) (suc n) c e = ap (λ l. x ∷ l) (cursor-pushed cs n c (omega arith))
