-- A cut of the links is a removal from the list of children.
use Rattle.std.proofs.Common.{◌≡◌, ◌≢◌, ℕ, ◌+◌, ◌<◌, ◌≤◌, List, [], ◌∷◌, ◌++◌, length, Some, None, refl, ap, sym, ◌∙◌, subst, arith, eqb, length-set, length-append, take, drop, remove, inl, inr}
use Rattle.std.specs.List.{IsDistinct}
use Rattle.std.proofs.lemmas.List.{ext_get_or, take-append-drop, length-take-le}
use Rattle.std.proofs.lemmas.Bool.{eqb-false, cases_eq}
use Rattle.node_rows.specs.declared.rows.Row.{Row}
use Rattle.node_rows.specs.Nodes.{Node, node_at, no_node, parent_of, children_of, place_of, unlinked}
use Rattle.node_rows.specs.Sound.{IsSound, is_number}
use Rattle.node_rows.specs.Segments.{Segment, end_of, start_of}
use Rattle.node_rows.specs.Shown.{row_at, next, prev, shown_rows, IsLinked}
use Rattle.node_rows.specs.Joins.{cut_from, IsWithin}
use Rattle.node_rows.proofs.Behind.{drop_some}
use Rattle.node_rows.proofs.CutLayers.{length_cut, next_kept, next_new, prev_kept, prev_new, all_kept, parent_kept, parent_here, first_other, last_other, count_other, count_here, first_none, first_some, last_none, last_some}
use Rattle.node_rows.proofs.Edits.{IsSound-unlinked, Relinked-writes, parent-inside, listed_once}
use Rattle.node_rows.proofs.Fields.{field_kept}
use Rattle.node_rows.proofs.Join.{length-shown, shown-at, kids, node-same, end_holds, start_holds, each_front, each_back, to_all, within, some_end, end_append, segment-end, is_within, walk_on, prev_on, end_within, start_within, start_get}
use Rattle.node_rows.proofs.Levels.{Each, children_each}
use Rattle.node_rows.proofs.Places.{place-inside, child-at-place}
use Rattle.node_rows.proofs.Segs.{along-segment, segment-same, segment-remove, segment-start}
use Rattle.node_rows.proofs.Short.{children-short, distinct_counted, at_most_one}
use Rattle.node_rows.proofs.Siblings.{placed_at}

first_is : (rs : List Row) (p n : ℕ) (xs ys : List ℕ) → p < length rs → (row_at rs p).first ≡ start_of (xs ++ n ∷ ys) None → (row_at (cut_from rs p n (end_of None xs) (start_of ys None)) p).first ≡ start_of xs (start_of ys None)
first_is rs p n [] ys w e = first_none rs p n (start_of ys None) w
first_is rs p n (x ∷ xs) ys w e = let z = some_end x xs in rw z.1 (first_some rs p n z.0 (start_of ys None) ∙ e)

last_is : (rs : List Row) (p n : ℕ) (xs ys : List ℕ) → p < length rs → (row_at rs p).last ≡ end_of (Some n) ys → (row_at (cut_from rs p n (end_of None xs) (start_of ys None)) p).last ≡ end_of (end_of None xs) ys
last_is rs p n xs [] w e = last_none rs p n (end_of None xs) w
last_is rs p n xs (y ∷ ys) w e = last_some rs p n y (end_of None xs) ∙ e

remove_between : (n : ℕ) (xs ys : List ℕ) → remove (xs ++ n ∷ ys) (length xs) ≡ xs ++ ys
remove_between n [] ys = refl
remove_between n (x ∷ xs) ys = ap (λ l. x ∷ l) (remove_between n xs ys)

-- the child n of p stands between xs and ys
module _ (rs : List Row) (p n : ℕ) (xs ys : List ℕ) (k : IsLinked rs) (bp : p < length rs) (bn : n < length rs) (child : parent_of (shown_rows rs) n ≡ Some p) (whole : kids rs p ≡ xs ++ n ∷ ys) (place : place_of (shown_rows rs) p n ≡ length xs) where
  abbrev ns : List Node
  ns = shown_rows rs

  abbrev ss : List Row
  ss = cut_from rs p n (end_of None xs) (start_of ys None)

  kids_are : (q : ℕ) → q < length rs → children_of ns q ≡ kids rs q
  kids_are q h = ap (λ x. x.children) (shown-at rs q h)

  kids_each : (q : ℕ) → q < length rs → Each (λ c. parent_of ns c ≡ Some q) (kids rs q)
  kids_each q h = rw (← kids_are q h) (children_each ns q k.sound)

  bound : (c q : ℕ) → parent_of ns c ≡ Some q → c < length rs
  bound c q e = let h = parent-inside ns c q e in rw (← length-shown rs) h

  own : Each (λ c. parent_of ns c ≡ Some p) (xs ++ n ∷ ys)
  own = rw (← whole) (kids_each p bp)

  front_end : (z : ℕ) → Some z ≡ end_of None xs → parent_of ns z ≡ Some p
  front_end z e = end_holds (λ c. parent_of ns c ≡ Some p) None xs z (λ y i. absurd cc) (each_front _ xs (n ∷ ys) own) e

  back_start : (z : ℕ) → Some z ≡ start_of ys None → parent_of ns z ≡ Some p
  back_start z e = start_holds (λ c. parent_of ns c ≡ Some p) ys z (each_back _ xs (n ∷ ys) own).1 e

  wp : p < length ns
  wp = rw (length-shown rs) bp

  wn : n < length ns
  wn = rw (length-shown rs) bn

  sound_after : IsSound (unlinked ns p (place_of ns p n) n)
  sound_after =
      IsSound-unlinked ns _ p (place_of ns p n) n k.sound (Relinked-writes ns p n (remove (children_of ns p) (place_of ns p n)) None wp wn) child
      (place-inside ns k.sound n p child) (child-at-place ns k.sound n p child)

  list_after : remove (children_of ns p) (place_of ns p n) ≡ xs ++ ys
  list_after = ap (λ l. remove l (place_of ns p n)) (kids_are p bp ∙ whole) ∙ (ap (remove (xs ++ n ∷ ys)) place ∙ remove_between n xs ys)

  short : (q : ℕ) → q < length rs → length (kids rs q) ≤ length rs
  short q w = let i = children-short ns q k.sound in omega (arith, ap length (kids_are q w), length-shown rs)

  short_after : length (xs ++ ys) ≤ length rs
  short_after = omega (arith, short p bp, ap length whole, length-append xs (n ∷ ys), length-append xs ys)

  distinct : IsDistinct eqb (xs ++ n ∷ ys)
  distinct = rw (← whole) (distinct_counted (kids rs p) (λ m. rw (← kids_are p bp) (omega (arith, k.sound.listed m p, at_most_one (is_number (parent_of ns m) p)))))

  segment_before : Segment (next rs) (prev rs) None (row_at rs p).first (xs ++ n ∷ ys) (row_at rs p).last None
  segment_before = rw (← whole) (k.joined p bp).0

  segment_here : Segment (next ss) (prev ss) None (start_of xs (start_of ys None)) (xs ++ ys) (end_of (end_of None xs) ys) None
  segment_here =
      let b = end_of None xs in
      let a = start_of ys None in
      segment-remove (next rs) (prev rs) (next ss) (prev ss) n (row_at rs p).first xs ys (row_at rs p).last segment_before distinct
      (λ y f d. next_kept rs p n b a y (λ i. eqb-false n y f (sym i)) d)
      (λ y f d. next_new rs p n b a y (within (length rs) b (λ z e. bound z p (front_end z e))) d)
      (λ y f d. prev_kept rs p n b a y (λ i. eqb-false n y f (sym i)) d)
      (λ y f d. prev_new rs p n b a y (within (length rs) a (λ z e. bound z p (back_start z e))) d)

  first_here : (row_at ss p).first ≡ start_of xs (start_of ys None)
  first_here = first_is rs p n xs ys bp (segment-start (next rs) (prev rs) None (row_at rs p).first (xs ++ n ∷ ys) (row_at rs p).last None segment_before)

  last_here : (row_at ss p).last ≡ end_of (end_of None xs) ys
  last_here = last_is rs p n xs ys bp (segment-end (next rs) (prev rs) None (row_at rs p).first (xs ++ n ∷ ys) (row_at rs p).last None segment_before ∙ end_append None xs (n ∷ ys))

  kids_here : kids ss p ≡ xs ++ ys
  kids_here =
      rw first_here (along-segment (next ss) (prev ss) (length ss) None (start_of xs (start_of ys None)) (xs ++ ys) (end_of (end_of None xs) ys) (rw (length_cut rs p n (end_of None xs) (start_of ys None)) short_after) segment_here)

  ends_here : Segment (next ss) (prev ss) None (row_at ss p).first (xs ++ ys) (row_at ss p).last None
  ends_here = rw (first_here, last_here) segment_here

  counts_here : (row_at ss p).tally.count ≡ length (xs ++ ys)
  counts_here = count_here rs p n (end_of None xs) (start_of ys None) bp ∙ omega (arith, (k.joined p bp).1, ap length whole, length-append xs (n ∷ ys), length-append xs ys)

  segment_other : (q : ℕ) → q < length rs → q ≢ p → Segment (next ss) (prev ss) None (row_at rs q).first (kids rs q) (row_at rs q).last None
  segment_other q w d =
      let b = end_of None xs in
      let a = start_of ys None in
      let off : (c : ℕ) → parent_of ns c ≡ Some q → parent_of ns c ≢ Some p = λ c e i. d (let j : q ≡ p = cc in j) in
      let not_n : (c : ℕ) → parent_of ns c ≡ Some q → c ≢ n = λ c e i. off c e (ap (parent_of ns) i ∙ child) in
      segment-same (next rs) (prev rs) (next ss) (prev ss) None (row_at rs q).first (kids rs q) (row_at rs q).last None
      (to_all _ _ (λ c e. next_kept rs p n b a c (not_n c e) (λ i. off c e (front_end c i))) (kids rs q) (kids_each q w))
      (to_all _ _ (λ c e. prev_kept rs p n b a c (not_n c e) (λ i. off c e (back_start c i))) (kids rs q) (kids_each q w))
      (k.joined q w).0

  kids_other : (q : ℕ) → q < length rs → q ≢ p → kids ss q ≡ kids rs q
  kids_other q w d =
      rw (first_other rs p n (end_of None xs) (start_of ys None) q d)
      (along-segment (next ss) (prev ss) (length ss) None (row_at rs q).first (kids rs q) (row_at rs q).last (rw (length_cut rs p n (end_of None xs) (start_of ys None)) (short q w)) (segment_other q w d))

  node_after : (m : ℕ) → m < length rs → node_at (shown_rows ss) m ≡ node_at (unlinked ns p (place_of ns p n) n) m
  node_after m w =
      let b = end_of None xs in
      let a = start_of ys None in
      let r = Relinked-writes ns p n (remove (children_of ns p) (place_of ns p n)) None wp wn in
      let shows = shown-at ss m (rw (length_cut rs p n b a) w) in
      let showed = shown-at rs m w in
      node-same _ _
      (ap (λ x. x.text) shows ∙ (all_kept rs p n b a (λ x. x.text) (λ x. refl) (λ x o. refl) (λ x o. refl) (λ x o. refl) (λ x o. refl) (λ x o. refl) m
      ∙ (ap (λ x. x.text) (sym showed) ∙ sym (field_kept (λ x. x.text) _ n _ refl m ∙ field_kept (λ x. x.text) ns p _ refl m))))
      (ap (λ x. x.span) shows ∙ (all_kept rs p n b a (λ x. x.span) (λ x. refl) (λ x o. refl) (λ x o. refl) (λ x o. refl) (λ x o. refl) (λ x o. refl) m
      ∙ (ap (λ x. x.span) (sym showed) ∙ sym (field_kept (λ x. x.span) _ n _ refl m ∙ field_kept (λ x. x.span) ns p _ refl m))))
      (ap (λ x. x.parent) shows ∙ elim (cases_eq m n) [
        | inl e ↦ rw e (parent_here rs p n b a bn ∙ sym r.parent_here)
        | inr d ↦ parent_kept rs p n b a m d ∙ (ap (λ x. x.parent) (sym showed) ∙ sym (r.parent_other m d))
      ])
      (ap (λ x. x.children) shows ∙ elim (cases_eq m p) [
        | inl e ↦ rw e (kids_here ∙ (sym list_after ∙ sym r.list_here))
        | inr d ↦ kids_other m w d ∙ (sym (kids_are m w) ∙ sym (r.list_other m d))
      ])
      (ap (λ x. x.dirty) shows ∙ (all_kept rs p n b a (λ x. x.tally.dirty) (λ x. refl) (λ x o. refl) (λ x o. refl) (λ x o. refl) (λ x o. refl) (λ x o. refl) m
      ∙ (ap (λ x. x.dirty) (sym showed) ∙ sym (field_kept (λ x. x.dirty) _ n _ refl m ∙ field_kept (λ x. x.dirty) ns p _ refl m))))

  shown_between : shown_rows ss ≡ unlinked ns p (place_of ns p n) n
  shown_between =
      let l : length (shown_rows ss) ≡ length rs = length-shown ss ∙ length_cut rs p n (end_of None xs) (start_of ys None) in
      ext_get_or no_node _ _ (l ∙ sym (length-set _ _ _ ∙ (length-set _ _ _ ∙ length-shown rs))) (λ m h. node_after m (let g = rw l at h in g))

  linked_between : IsLinked ss
  linked_between = record {
    sound = subst IsSound (sym shown_between) sound_after;
    joined = λ q h.
        let w : q < length rs = rw (← length_cut rs p n (end_of None xs) (start_of ys None)) h in
        elim (cases_eq q p) [
          | inl e ↦ rw e (subst (λ l. Segment (next ss) (prev ss) None (row_at ss p).first l (row_at ss p).last None × ((row_at ss p).tally.count ≡ length l)) (sym kids_here) (ends_here, counts_here))
          | inr d ↦ subst (λ l. Segment (next ss) (prev ss) None (row_at ss q).first l (row_at ss q).last None × ((row_at ss q).tally.count ≡ length l)) (sym (kids_other q w d))
              (rw (first_other rs p n (end_of None xs) (start_of ys None) q d, last_other rs p n (end_of None xs) (start_of ys None) q d) (segment_other q w d), count_other rs p n (end_of None xs) (start_of ys None) q d ∙ (k.joined q w).1)
        ];
  }

-- the child n of p is cut out between its neighbours
module _ (rs : List Row) (k : IsLinked rs) (p n : ℕ) (child : parent_of (shown_rows rs) n ≡ Some p) where
  pub node-in : n < length rs
  node-in = let h = parent-inside (shown_rows rs) n p child in rw (← length-shown rs) h

  parent_in : p < length rs
  parent_in = let h = k.sound.below n p child in rw (← length-shown rs) h

  abbrev at : ℕ
  at = place_of (shown_rows rs) p n

  lists : children_of (shown_rows rs) p ≡ kids rs p
  lists = ap (λ x. x.children) (shown-at rs p parent_in)

  at_start : Some n ≡ start_of (drop at (kids rs p)) None
  at_start = rw (← lists) (placed_at n (children_of (shown_rows rs) p) (omega (arith, listed_once (shown_rows rs) n p k.sound child)))

  inside : at < length (kids rs p)
  inside = rw (← lists) (place-inside (shown_rows rs) k.sound n p child)

  here : drop at (kids rs p) ≡ n ∷ drop (at + 1) (kids rs p)
  here = drop_some (kids rs p) at n (sym (start_get (kids rs p) at) ∙ sym at_start)

  whole_here : kids rs p ≡ take at (kids rs p) ++ n ∷ drop (at + 1) (kids rs p)
  whole_here = sym (take-append-drop at (kids rs p)) ∙ ap (λ l. take at (kids rs p) ++ l) here

  place_here : at ≡ length (take at (kids rs p))
  place_here = sym (length-take-le at (kids rs p) (omega (arith, inside)))

  before : (row_at rs n).before ≡ end_of None (take at (kids rs p))
  before = prev_on rs k p parent_in at n at_start

  after : (row_at rs n).after ≡ start_of (drop (at + 1) (kids rs p)) None
  after = (walk_on rs k p parent_in at n at_start).1

  pub before-within : IsWithin rs (row_at rs n).before
  before-within = is_within rs _ (λ z e. end_within rs k p parent_in at z (e ∙ before))

  pub after-within : IsWithin rs (row_at rs n).after
  after-within = is_within rs _ (λ z e. start_within rs k p parent_in (at + 1) z (e ∙ after))

  pub some-counted : 0 < (row_at rs p).tally.count
  some-counted = omega (arith, (k.joined p parent_in).1, inside)

  module _ (ss : List Row) (e : ss ≡ cut_from rs p n (row_at rs n).before (row_at rs n).after) where
    cut_is : ss ≡ cut_from rs p n (end_of None (take at (kids rs p))) (start_of (drop (at + 1) (kids rs p)) None)
    cut_is = e ∙ (ap (λ x. cut_from rs p n x (row_at rs n).after) before ∙ ap (cut_from rs p n (end_of None (take at (kids rs p)))) after)

    pub IsLinked-cut : IsLinked ss
    IsLinked-cut = subst IsLinked (sym cut_is) (linked_between rs p n (take at (kids rs p)) (drop (at + 1) (kids rs p)) k parent_in node-in child whole_here place_here)

    pub shown-cut : shown_rows ss ≡ unlinked (shown_rows rs) p at n
    shown-cut = ap shown_rows cut_is ∙ shown_between rs p n (take at (kids rs p)) (drop (at + 1) (kids rs p)) k parent_in node-in child whole_here place_here
