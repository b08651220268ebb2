-- Each move and each edit keeps the invariant.
use Rattle.std.proofs.Common.{inl, inr, ◌≡◌, ◌≢◌, ℕ, suc, ◌+◌, ◌<◌, ◌≤◌, List, [], ◌∷◌, ◌++◌, Bool, true, false, length, Some, None, refl, ap, sym, ◌∙◌, arith, drop, map, cond, subst, append_assoc, append-nil}
use Rattle.std.specs.Prelude.{filter}
use Rattle.std.proofs.lemmas.Bool.{false≢true, cases_eq}
use Rattle.css_tree.specs.declared.node.Kind.{Kind}
use Rattle.node_rows.specs.Nodes.{Node, parent_of, children_of, is_dirty, holds}
use Rattle.node_rows.specs.Marks.{with_mark}
use Rattle.visitor_machine.specs.Machine.{kind_at, key_at}
use Rattle.visitor_machine.specs.Hooks.{PickedHook, enters, exits, fits}
use Rattle.node_store.specs.Cursors.{through}
use Rattle.node_store.specs.declared.item.Edit.{Edit}
use Rattle.node_store.specs.Edits.{can, apply, moved, touches}
use Rattle.visitor_machine.specs.Machine.{called, Frame, Visit, new_frame, moved_frame, touched_by}
use Rattle.node_rows.proofs.SameLinks.{IsSound-same}
use Rattle.visitor_machine.proofs.Above.{Above, holds_from_above, above_step}
use Rattle.visitor_machine.proofs.Members.{Mem}
use Rattle.visitor_machine.proofs.Marks.{SameTree-mark, mark_other, mark_here, dirty-inside}
use Rattle.visitor_machine.proofs.Places.{child_mem}
use Rattle.visitor_machine.proofs.Changes.{Changed, above_same}
use Rattle.visitor_machine.proofs.Moves.{changed}
use Rattle.visitor_machine.proofs.Through.{drop_length, drop_drop, filter_some, filter_none, none_passes, behind, passes_it}
use Rattle.css_tree.specs.Parts.{kind_of}
use Rattle.visitor_machine.specs.Hooks.{key_of}
use Rattle.visitor_machine.proofs.Good.{Pending, owed, IsOn, IsLeft, HasOpen, Visited, GoodAt}

abbrev pub with_passed : (ℕ → ℕ → ℕ) → Frame → Frame
with_passed g f = record f { passed = g f.node f.passed }

pending_moved : (ns ms : List Node) (g : ℕ → ℕ → ℕ) (q c : ℕ) (fs : List Frame) → ((k : ℕ) → Mem c (drop k (children_of ns q)) → Mem c (drop (g q k) (children_of ms q))) → Pending ns fs q c → Pending ms (map (with_passed g) fs) q c
pending_moved ns ms g q c [] h p = p
pending_moved ns ms g q c (f ∷ fs) h (inl p) = inl (p.0, subst (λ j. Mem c (drop (g j f.passed) (children_of ms q))) (sym p.0) (h f.passed p.1))
pending_moved ns ms g q c (f ∷ fs) h (inr p) = inr (pending_moved ns ms g q c fs h p)

open_moved : (hs : List PickedHook) (k : Kind) (key : List ℕ) (n t : ℕ) (g : ℕ → ℕ → ℕ) (fs : List Frame) → HasOpen hs k key n t fs → HasOpen hs k key n t (map (with_passed g) fs)
open_moved hs k key n t g [] h = h
open_moved hs k key n t g (f ∷ fs) (inl h) = inl (record { of_node = h.of_node; since = h.since; so_far = h.so_far })
open_moved hs k key n t g (f ∷ fs) (inr h) = inr (open_moved hs k key n t g fs h)

visited_moved : (hs : List PickedHook) (k : Kind) (key : List ℕ) (n t : ℕ) (g : ℕ → ℕ → ℕ) (fs : List Frame) (vs : List Visit) → Visited hs k key n t fs vs → Visited hs k key n t (map (with_passed g) fs) vs
visited_moved hs k key n t g fs vs (inl h) = inl (open_moved hs k key n t g fs h)
visited_moved hs k key n t g fs vs (inr h) = inr h

-- the same node's visit, where kind, key and last touch are the same
visited_same : (hs : List PickedHook) (k k2 : Kind) (key key2 : List ℕ) (n t t2 : ℕ) (fs : List Frame) (vs : List Visit) → k2 ≡ k → key2 ≡ key → t2 ≡ t → Visited hs k key n t fs vs → Visited hs k2 key2 n t2 fs vs
visited_same hs k k2 key key2 n t t2 fs vs a b c h = subst (λ x. Visited hs x key2 n t2 fs vs) (sym a) (subst (λ x. Visited hs k x n t2 fs vs) (sym b) (subst (λ x. Visited hs k key n x fs vs) (sym c) h))

touched_known : (b : Bool) (count old : ℕ) → old ≤ count → cond b (suc count) old ≤ suc count
touched_known true count old h = omega arith
touched_known false count old h = omega arith

good_changed : (hs : List PickedHook) (ns ms : List Node) (fs : List Frame) (vs : List Visit) (t : ℕ → ℕ) (count : ℕ) (b : ℕ → Bool) (g : ℕ → ℕ → ℕ) → GoodAt hs ns fs vs t count → Changed ns ms b g → GoodAt hs ms (map (with_passed g) fs) vs (λ m. cond (b m) (suc count) (t m)) (suc count)
good_changed hs ns ms fs vs t count b g h c = record {
  sound = c.sound;
  some = c.some;
  known = λ n. touched_known (b n) count (t n) (h.known n);
  covered = λ m q e a d. elim (c.marks m q e a d) [
    | inl i ↦ inl i
    | inr j ↦ elim (h.covered m q j.child j.in_tree j.dirty) [
      | inl i ↦ inl (j.grows i)
      | inr p ↦ inr (pending_moved ns ms g q m fs j.stays p)
    ]
  ];
  visited = λ n a d.
      let j = c.visits n a d in
      visited_same hs (kind_at ns n) (kind_at ms n) (key_at ns n) (key_at ms n) n (t n) (cond (b n) (suc count) (t n)) _ vs j.kind j.key (ap (λ x. cond x (suc count) (t n)) j.untouched)
      (visited_moved hs (kind_at ns n) (key_at ns n) n (t n) g fs vs (h.visited n j.in_tree j.clean));
}

pub good_edit : (hs : List PickedHook) (ns : List Node) (fs : List Frame) (vs : List Visit) (t : ℕ → ℕ) (count : ℕ) (e : Edit) → can ns e ≡ true → GoodAt hs ns fs vs t count → GoodAt hs (apply ns e) (map (moved_frame ns e) fs) vs (touched_by ns e count t) (suc count)
good_edit hs ns fs vs t count e i h = good_changed hs ns (apply ns e) fs vs t count (touches ns e) (moved ns e) h (changed ns e h.sound h.some i)

pub good_count : {hs : List PickedHook} {ns : List Node} {fs : List Frame} {vs : List Visit} {t : ℕ → ℕ} {count : ℕ} → GoodAt hs ns fs vs t count → GoodAt hs ns fs vs t (suc count)
good_count {count = count} h = record { sound = h.sound; some = h.some; known = λ n. let i = h.known n in omega arith; covered = h.covered; visited = h.visited }

pending_same : (ns ms : List Node) (q c : ℕ) (fs : List Frame) → children_of ms q ≡ children_of ns q → Pending ns fs q c → Pending ms fs q c
pending_same ns ms q c [] e h = h
pending_same ns ms q c (f ∷ fs) e (inl h) = inl (h.0, subst (λ xs. Mem c (drop f.passed xs)) (sym e) h.1)
pending_same ns ms q c (f ∷ fs) e (inr h) = inr (pending_same ns ms q c fs e h)

-- m is entered, where the frames gs cover what fs covered but m, and have the open visits of fs
good_entered : (hs : List PickedHook) (ns : List Node) (fs gs : List Frame) (vs : List Visit) (t : ℕ → ℕ) (count m : ℕ) → m < length ns → ((c q : ℕ) → is_dirty ns c ≡ true → c ≢ m → Pending ns fs q c → Pending ns gs q c) → ((n : ℕ) → HasOpen hs (kind_at ns n) (key_at ns n) n (t n) fs → HasOpen hs (kind_at ns n) (key_at ns n) n (t n) gs) → GoodAt hs ns fs vs t count → GoodAt hs (with_mark ns m false) (new_frame m count ∷ gs) vs t (suc count)
good_entered hs ns fs gs vs t count m b pend opens h =
    let ms = with_mark ns m false in
    let st = SameTree-mark ns m false in
    let clean : is_dirty ms m ≡ false = mark_here ns m false b in
    record {
      sound = IsSound-same ns ms st.links h.sound;
      some = let i = st.links.same_length in let j = h.some in omega arith;
      known = λ n. let i = h.known n in omega arith;
      covered = λ c q e a d.
          let e0 : parent_of ns c ≡ Some q = sym (st.links.parents c) ∙ e in
          let w : c ≢ m = λ i. false≢true (sym clean ∙ (ap (λ k. is_dirty ms k) (sym i) ∙ d)) in
          let d0 : is_dirty ns c ≡ true = sym (mark_other ns m false c w) ∙ d in
          elim (cases_eq m q) [
            | inl i ↦ inr (inl (i, subst (λ xs. Mem c xs) (sym (st.links.lists q)) (child_mem ns c q h.sound e0)))
            | inr j ↦ elim (h.covered c q e0 (above_same st.links.parents a) d0) [
              | inl k ↦ inl (mark_other ns m false q (λ i. j (sym i)) ∙ k)
              | inr p ↦ inr (inr (pending_same ns ms q c gs (st.links.lists q) (pend c q d0 w p)))
            ]
          ];
      visited = λ n a d. elim (cases_eq m n) [
        | inl i ↦ inl (inl (record { of_node = i; since = h.known n; so_far = refl }))
        | inr j ↦
            let r = h.visited n (above_same st.links.parents a) (sym (mark_other ns m false n (λ i. j (sym i))) ∙ d) in
            visited_same hs (kind_at ns n) (kind_at ms n) (key_at ns n) (key_at ms n) n (t n) (t n) (new_frame m count ∷ gs) vs (ap kind_of (st.texts n)) (ap key_of (st.texts n)) refl
            (entered_visit hs (kind_at ns n) (key_at ns n) n (t n) (new_frame m count) fs gs vs (opens n) r)
      ];
    }
  where
    entered_visit : (hs : List PickedHook) (k : Kind) (key : List ℕ) (n t : ℕ) (f : Frame) (fs gs : List Frame) (vs : List Visit) → (HasOpen hs k key n t fs → HasOpen hs k key n t gs) → Visited hs k key n t fs vs → Visited hs k key n t (f ∷ gs) vs
    entered_visit hs k key n t f fs gs vs o (inl h) = inl (inr (o h))
    entered_visit hs k key n t f fs gs vs o (inr h) = inr h

pub good_root : (hs : List PickedHook) (ns : List Node) (fs : List Frame) (vs : List Visit) (t : ℕ → ℕ) (count : ℕ) → GoodAt hs ns fs vs t count → GoodAt hs (with_mark ns 0 false) (new_frame 0 count ∷ fs) vs t (suc count)
good_root hs ns fs vs t count h = good_entered hs ns fs fs vs t count 0 h.some (λ c q d w p. p) (λ n o. o) h

-- what an innermost visit owes, where no enter hook is left
owed_no_enter : (hs : List PickedHook) (k : Kind) (key : List ℕ) (n : ℕ) (f : Frame) → through (fits key) (drop f.enter (enters hs k)) ≡ None → owed hs k key n f ≡ map (called n) (filter (fits key) (drop f.exit (exits hs k)))
owed_no_enter hs k key n f e = ap (λ l. map (called n) (l ++ filter (fits key) (drop f.exit (exits hs k)))) (filter_none (fits key) (drop f.enter (enters hs k)) e)

owed_at_end : (hs : List PickedHook) (k : Kind) (key : List ℕ) (n x : ℕ) → map (called n) (filter (fits key) (drop (length (enters hs k)) (enters hs k)) ++ filter (fits key) (drop x (exits hs k))) ≡ map (called n) (filter (fits key) (drop x (exits hs k)))
owed_at_end hs k key n x = ap (λ l. map (called n) (filter (fits key) l ++ filter (fits key) (drop x (exits hs k)))) (drop_length (enters hs k))

-- a test at the frame's node is one at n
abbrev pub NoEnter : List PickedHook → List Node → Frame → ℕ → Type 0
NoEnter hs ns f n = through (fits (key_at ns n)) (drop f.enter (enters hs (kind_at ns n))) ≡ None

pub good_child : (hs : List PickedHook) (ns : List Node) (f : Frame) (fs : List Frame) (vs : List Visit) (t : ℕ → ℕ) (count m k : ℕ) → NoEnter hs ns f f.node → through (is_dirty ns) (drop f.passed (children_of ns f.node)) ≡ Some (m, k) → GoodAt hs ns (f ∷ fs) vs t count → GoodAt hs (with_mark ns m false) (new_frame m count ∷ record f { passed = f.passed + k; enter = length (enters hs (kind_at ns f.node)) } ∷ fs) vs t (suc count)
good_child hs ns f fs vs t count m k none e h =
    good_entered hs ns (f ∷ fs) (record f { passed = f.passed + k; enter = length (enters hs (kind_at ns f.node)) } ∷ fs) vs t count m
    (dirty-inside ns m (passes_it (is_dirty ns) (drop f.passed (children_of ns f.node)) m k e))
    (λ c q d w p. elim p [
      | inl i ↦ inl (i.0, pending_on c q d w i.0 i.1)
      | inr j ↦ inr j
    ])
    (λ n o. elim o [
      | inl i ↦ inl (record { of_node = i.of_node; since = i.since; so_far = on n i.of_node ∙ i.so_far })
      | inr j ↦ inr j
    ])
    h
  where
    pending_on : (c q : ℕ) → is_dirty ns c ≡ true → c ≢ m → f.node ≡ q → Mem c (drop f.passed (children_of ns q)) → Mem c (drop (f.passed + k) (children_of ns q))
    pending_on c q d w i p = elim (behind (is_dirty ns) c (drop f.passed (children_of ns q)) m k (subst (λ j. through (is_dirty ns) (drop f.passed (children_of ns j)) ≡ Some (m, k)) i e) d p) [
      | inl u ↦ absurd (w u)
      | inr u ↦ subst (λ l. Mem c l) (drop_drop (children_of ns q) f.passed k) u
    ]

    on : (n : ℕ) → f.node ≡ n → f.calls ++ owed hs (kind_at ns n) (key_at ns n) n (record f { passed = f.passed + k; enter = length (enters hs (kind_at ns f.node)) }) ≡ f.calls ++ owed hs (kind_at ns n) (key_at ns n) n f
    on n i = ap (λ l. f.calls ++ l) (
        ap (λ j. map (called n) (filter (fits (key_at ns n)) (drop (length (enters hs (kind_at ns j))) (enters hs (kind_at ns n))) ++ filter (fits (key_at ns n)) (drop f.exit (exits hs (kind_at ns n))))) i
        ∙ (owed_at_end hs (kind_at ns n) (key_at ns n) n f.exit
        ∙ sym (owed_no_enter hs (kind_at ns n) (key_at ns n) n f (subst (NoEnter hs ns f) i none))))

-- the innermost frame's places and calls change, and it owes what it owed
good_head : (hs : List PickedHook) (ns : List Node) (f g : Frame) (fs : List Frame) (vs : List Visit) (t : ℕ → ℕ) (count : ℕ) → g.node ≡ f.node → g.passed ≡ f.passed → g.entered ≡ f.entered → ((n : ℕ) → f.node ≡ n → g.calls ++ owed hs (kind_at ns n) (key_at ns n) n g ≡ f.calls ++ owed hs (kind_at ns n) (key_at ns n) n f) → GoodAt hs ns (f ∷ fs) vs t count → GoodAt hs ns (g ∷ fs) vs t (suc count)
good_head hs ns f g fs vs t count en ep ee same h = record {
  sound = h.sound;
  some = h.some;
  known = λ n. let i = h.known n in omega arith;
  covered = λ c q e a d. elim (h.covered c q e a d) [
    | inl i ↦ inl i
    | inr p ↦ inr (elim p [
      | inl i ↦ inl (en ∙ i.0, subst (λ x. Mem c (drop x (children_of ns q))) (sym ep) i.1)
      | inr j ↦ inr j
    ])
  ];
  visited = λ n a d. elim (h.visited n a d) [
    | inl o ↦ inl (elim o [
      | inl i ↦ inl (record { of_node = en ∙ i.of_node; since = subst (λ x. t n ≤ x) (sym ee) i.since; so_far = same n i.of_node ∙ i.so_far })
      | inr j ↦ inr j
    ])
    | inr l ↦ inr l
  ];
}

pub good_enter_hook : (hs : List PickedHook) (ns : List Node) (f : Frame) (fs : List Frame) (vs : List Visit) (t : ℕ → ℕ) (count : ℕ) (x : PickedHook) (k : ℕ) → through (fits (key_at ns f.node)) (drop f.enter (enters hs (kind_at ns f.node))) ≡ Some (x, k) → GoodAt hs ns (f ∷ fs) vs t count → GoodAt hs ns (record f { enter = f.enter + k; calls = f.calls ++ called f.node x ∷ [] } ∷ fs) vs t (suc count)
good_enter_hook hs ns f fs vs t count x k e h =
    good_head hs ns f (record f { enter = f.enter + k; calls = f.calls ++ called f.node x ∷ [] }) fs vs t count refl refl refl
    (λ n i. subst (λ n. (f.calls ++ called f.node x ∷ []) ++ owed hs (kind_at ns n) (key_at ns n) n (record f { enter = f.enter + k; calls = f.calls ++ called f.node x ∷ [] }) ≡ f.calls ++ owed hs (kind_at ns n) (key_at ns n) n f) i at_own)
    h
  where
    xs : List PickedHook
    xs = enters hs (kind_at ns f.node)

    ys : List PickedHook
    ys = filter (fits (key_at ns f.node)) (drop f.exit (exits hs (kind_at ns f.node)))

    first : filter (fits (key_at ns f.node)) (drop f.enter xs) ≡ x ∷ filter (fits (key_at ns f.node)) (drop (f.enter + k) xs)
    first = filter_some (fits (key_at ns f.node)) (drop f.enter xs) x k e ∙ ap (λ l. x ∷ filter (fits (key_at ns f.node)) l) (drop_drop xs f.enter k)

    at_own : (f.calls ++ called f.node x ∷ []) ++ map (called f.node) (filter (fits (key_at ns f.node)) (drop (f.enter + k) xs) ++ ys) ≡ f.calls ++ map (called f.node) (filter (fits (key_at ns f.node)) (drop f.enter xs) ++ ys)
    at_own = append_assoc f.calls (called f.node x ∷ []) _ ∙ ap (λ l. f.calls ++ map (called f.node) (l ++ ys)) (sym first)

pub good_exit_hook : (hs : List PickedHook) (ns : List Node) (f : Frame) (fs : List Frame) (vs : List Visit) (t : ℕ → ℕ) (count : ℕ) (x : PickedHook) (k : ℕ) → NoEnter hs ns f f.node → through (fits (key_at ns f.node)) (drop f.exit (exits hs (kind_at ns f.node))) ≡ Some (x, k) → GoodAt hs ns (f ∷ fs) vs t count → GoodAt hs ns (record f { exit = f.exit + k; enter = length (enters hs (kind_at ns f.node)); calls = f.calls ++ called f.node x ∷ [] } ∷ fs) vs t (suc count)
good_exit_hook hs ns f fs vs t count x k none e h =
    good_head hs ns f (record f { exit = f.exit + k; enter = length (enters hs (kind_at ns f.node)); calls = f.calls ++ called f.node x ∷ [] }) fs vs t count refl refl refl
    (λ n i. subst (λ n. (f.calls ++ called f.node x ∷ []) ++ owed hs (kind_at ns n) (key_at ns n) n (record f { exit = f.exit + k; enter = length (enters hs (kind_at ns f.node)); calls = f.calls ++ called f.node x ∷ [] }) ≡ f.calls ++ owed hs (kind_at ns n) (key_at ns n) n f) i at_own)
    h
  where
    key : List ℕ
    key = key_at ns f.node

    xs : List PickedHook
    xs = exits hs (kind_at ns f.node)

    first : filter (fits key) (drop f.exit xs) ≡ x ∷ filter (fits key) (drop (f.exit + k) xs)
    first = filter_some (fits key) (drop f.exit xs) x k e ∙ ap (λ l. x ∷ filter (fits key) l) (drop_drop xs f.exit k)

    at_own : (f.calls ++ called f.node x ∷ []) ++ owed hs (kind_at ns f.node) key f.node (record f { exit = f.exit + k; enter = length (enters hs (kind_at ns f.node)); calls = f.calls ++ called f.node x ∷ [] }) ≡ f.calls ++ owed hs (kind_at ns f.node) key f.node f
    at_own =
        ap (λ l. (f.calls ++ called f.node x ∷ []) ++ l) (owed_at_end hs (kind_at ns f.node) key f.node (f.exit + k))
        ∙ (append_assoc f.calls (called f.node x ∷ []) _
        ∙ (ap (λ l. f.calls ++ map (called f.node) l) (sym first)
        ∙ ap (λ l. f.calls ++ l) (sym (owed_no_enter hs (kind_at ns f.node) key f.node f none))))

-- the innermost frame is dropped
pub left_of : ℕ → Frame → Visit
left_of count f = record { node = f.node; entered = f.entered; left = count; calls = f.calls }

good_left : (hs : List PickedHook) (ns : List Node) (f : Frame) (fs : List Frame) (v : Visit) (vs : List Visit) (t : ℕ → ℕ) (count : ℕ) → ((c q : ℕ) → parent_of ns c ≡ Some q → Above ns 0 c → is_dirty ns c ≡ true → f.node ≡ q → Mem c (drop f.passed (children_of ns q)) → ⊥) → ((n : ℕ) → Above ns 0 n → IsOn hs (kind_at ns n) (key_at ns n) n (t n) f → IsLeft hs (kind_at ns n) (key_at ns n) n (t n) v) → GoodAt hs ns (f ∷ fs) vs t count → GoodAt hs ns fs (v ∷ vs) t (suc count)
good_left hs ns f fs v vs t count pend on h = record {
  sound = h.sound;
  some = h.some;
  known = λ n. let i = h.known n in omega arith;
  covered = λ c q e a d. elim (h.covered c q e a d) [
    | inl i ↦ inl i
    | inr p ↦ elim p [
      | inl i ↦ absurd (pend c q e a d i.0 i.1)
      | inr j ↦ inr j
    ]
  ];
  visited = λ n a d. elim (h.visited n a d) [
    | inl o ↦ elim o [
      | inl i ↦ inr (inl (on n a i))
      | inr j ↦ inl j
    ]
    | inr l ↦ inr (inr l)
  ];
}

-- case a: the node isn't in the tree
pub good_leave_out : (hs : List PickedHook) (ns : List Node) (f : Frame) (fs : List Frame) (vs : List Visit) (t : ℕ → ℕ) (count : ℕ) → holds ns 0 f.node ≡ false → GoodAt hs ns (f ∷ fs) vs t count → GoodAt hs ns fs (record { node = f.node; entered = f.entered; left = count; calls = f.calls } ∷ vs) t (suc count)
good_leave_out hs ns f fs vs t count out h =
    good_left hs ns f fs _ vs t count
    (λ c q e a d i m. elim (above_step q a e) [
      | inl z ↦ let j : parent_of ns c ≡ parent_of ns 0 = ap (λ k. parent_of ns k) z in let r = h.sound.root in absurd cc
      | inr b ↦ outside q i b
    ])
    (λ n a o. absurd (outside n o.of_node a))
    h
  where
    outside : (q : ℕ) → f.node ≡ q → Above ns 0 q → ⊥
    outside q i a = false≢true (sym out ∙ (ap (λ k. holds ns 0 k) i ∙ holds_from_above h.sound h.some a))

-- case e: nothing is left to do
pub good_leave_whole : (hs : List PickedHook) (ns : List Node) (f : Frame) (fs : List Frame) (vs : List Visit) (t : ℕ → ℕ) (count : ℕ) → NoEnter hs ns f f.node → through (is_dirty ns) (drop f.passed (children_of ns f.node)) ≡ None → through (fits (key_at ns f.node)) (drop f.exit (exits hs (kind_at ns f.node))) ≡ None → GoodAt hs ns (f ∷ fs) vs t count → GoodAt hs ns fs (record { node = f.node; entered = f.entered; left = count; calls = f.calls } ∷ vs) t (suc count)
good_leave_whole hs ns f fs vs t count none clean noexit h =
    good_left hs ns f fs _ vs t count
    (λ c q e a d i m. false≢true (sym (none_passes (is_dirty ns) c (drop f.passed (children_of ns q)) (subst (λ j. through (is_dirty ns) (drop f.passed (children_of ns j)) ≡ None) i clean) m) ∙ d))
    (λ n a o. record { of_node = o.of_node; since = o.since; all_calls = sym (append-nil f.calls) ∙ (ap (λ l. f.calls ++ l) (sym (nothing n o.of_node)) ∙ o.so_far) })
    h
  where
    nothing : (n : ℕ) → f.node ≡ n → owed hs (kind_at ns n) (key_at ns n) n f ≡ []
    nothing n i = subst (λ n. owed hs (kind_at ns n) (key_at ns n) n f ≡ []) i (owed_no_enter hs (kind_at ns f.node) (key_at ns f.node) f.node f none ∙ ap (map (called f.node)) (filter_none (fits (key_at ns f.node)) (drop f.exit (exits hs (kind_at ns f.node))) noexit))
