-- A join of the links is an insertion into the list of children.
use Rattle.std.proofs.Common.{◌≡◌, ◌≢◌, ℕ, zero, suc, ◌+◌, ◌<◌, ◌≤◌, List, [], ◌∷◌, ◌++◌, length, Option, Some, None, refl, ap, sym, ◌∙◌, subst, arith, eqb, false, Bool, length-set, take, drop, insert, slice_get, inl, inr}
use Rattle.std.specs.List.{IsDistinct, AllByRecursion}
use Rattle.std.proofs.lemmas.List.{get_or-map, length-map, ext_get_or, take-append-drop}
use Rattle.std.proofs.lemmas.List.Edits.{length-insert}
use Rattle.std.proofs.lemmas.Bool.{eqb-false, ne_eqb, cases_eq}
use Rattle.css_text.specs.declared.lexer.Span.{Span}
use Rattle.css_tree.specs.declared.node.NodeText.{NodeText}
use Rattle.node_rows.specs.Nodes.{Node, node_at, no_node, parent_of, children_of, linked, holds}
use Rattle.node_rows.specs.Sound.{IsSound, is_number}
use Rattle.node_rows.proofs.Edits.{IsSound-linked, Relinked-writes, parent-inside}
use Rattle.node_rows.proofs.Fields.{field_kept}
use Rattle.node_rows.proofs.Levels.{Each, children_each}
use Rattle.node_rows.proofs.Short.{children-short, distinct_counted, at_most_one}
use Rattle.node_rows.specs.declared.rows.Row.{Row}
use Rattle.node_rows.specs.Segments.{Segment, end_of, start_of}
use Rattle.node_rows.specs.Shown.{row_at, no_row, next, prev, listed, shown, shown_rows, IsLinked}
use Rattle.node_rows.specs.Joins.{joined_in, IsWithin}
use Rattle.node_rows.proofs.Segs.{along-segment, segment-same, segment-insert, segment-start, segment-back}
use Rattle.node_rows.proofs.Layers.{Within, length_joined, next_kept, next_new, next_here, prev_kept, prev_new, prev_here, all_kept, parent_kept, parent_here, first_other, last_other, count_other, count_here, first_none, first_some, last_none, last_some}

pub length-shown : (rs : List Row) → length (shown_rows rs) ≡ length rs
length-shown rs = length-map rs (shown rs)

pub shown-at : (rs : List Row) (m : ℕ) → m < length rs → node_at (shown_rows rs) m ≡ shown rs (row_at rs m)
shown-at rs m h = get_or-map (shown rs) rs m no_row no_node h

-- the last of a list passes what each passes
pub end_holds : (P : ℕ → Type 0) (b : Option ℕ) (xs : List ℕ) (z : ℕ) → ((y : ℕ) → Some y ≡ b → P y) → Each P xs → Some z ≡ end_of b xs → P z
end_holds P b [] z f h e = f z e
end_holds P b (x ∷ xs) z f h e = end_holds P (Some x) xs z (λ y i. let j : x ≡ y = cc in subst P j h.0) h.1 e

pub start_holds : (P : ℕ → Type 0) (ys : List ℕ) (z : ℕ) → Each P ys → Some z ≡ start_of ys None → P z
start_holds P [] z h e = absurd cc
start_holds P (y ∷ ys) z h e = let j : y ≡ z = cc in subst P j h.0

pub each_front : (P : ℕ → Type 0) (xs ys : List ℕ) → Each P (xs ++ ys) → Each P xs
each_front P [] ys h = tt
each_front P (x ∷ xs) ys h = (h.0, each_front P xs ys h.1)

pub each_back : (P : ℕ → Type 0) (xs ys : List ℕ) → Each P (xs ++ ys) → Each P ys
each_back P [] ys h = h
each_back P (x ∷ xs) ys h = each_back P xs ys h.1

pub to_all : (P Q : ℕ → Type 0) → ((z : ℕ) → P z → Q z) → (xs : List ℕ) → Each P xs → AllByRecursion Q xs
to_all P Q f [] h = tt
to_all P Q f (x ∷ xs) h = (f x h.0, to_all P Q f xs h.1)

pub within : (k : ℕ) (o : Option ℕ) → ((z : ℕ) → Some z ≡ o → z < k) → Within k o
within k None f = tt
within k (Some z) f = f z refl

pub some_end : (x : ℕ) (xs : List ℕ) → (z : ℕ) × (end_of (Some x) xs ≡ Some z)
some_end x [] = (x, refl)
some_end x (y ∷ ys) = some_end y ys

pub end_append : (b : Option ℕ) (xs ys : List ℕ) → end_of b (xs ++ ys) ≡ end_of (end_of b xs) ys
end_append b [] ys = refl
end_append b (x ∷ xs) ys = end_append (Some x) xs ys

pub segment-end : (f g : ℕ → Option ℕ) (before first : Option ℕ) (xs : List ℕ) (last behind : Option ℕ) → Segment f g before first xs last behind → last ≡ end_of before xs
segment-end f g before first [] last behind s = s.1
segment-end f g before first (x ∷ xs) last behind s = segment-end f g (Some x) (f x) xs last behind s.2

pub each_map : (P Q : ℕ → Type 0) → ((z : ℕ) → P z → Q z) → (xs : List ℕ) → Each P xs → Each Q xs
each_map P Q f [] h = tt
each_map P Q f (x ∷ xs) h = (f x h.0, each_map P Q f xs h.1)

add_one : (i : ℕ) → suc i + 1 ≡ suc (i + 1)
add_one i = omega arith

pub split_more : (xs : List ℕ) (i d : ℕ) (ds : List ℕ) → drop i xs ≡ d ∷ ds → (take (i + 1) xs ≡ take i xs ++ d ∷ []) × (drop (i + 1) xs ≡ ds)
split_more [] zero d ds e = absurd cc
split_more [] (suc i) d ds e = absurd cc
split_more (x ∷ xs) zero d ds e = let a : x ≡ d = cc in let b : xs ≡ ds = cc in (ap (λ y. y ∷ []) a, b)
split_more (x ∷ xs) (suc i) d ds e = let t = split_more xs i d ds e in rw (add_one i) (ap (λ l. x ∷ l) t.0, t.1)

split_none : (xs : List ℕ) (i : ℕ) → drop i xs ≡ [] → (take (i + 1) xs ≡ take i xs) × (drop (i + 1) xs ≡ [])
split_none [] zero e = (refl, refl)
split_none [] (suc i) e = rw (add_one i) (refl, refl)
split_none (x ∷ xs) zero e = absurd cc
split_none (x ∷ xs) (suc i) e = let t = split_none xs i e in rw (add_one i) (ap (λ l. x ∷ l) t.0, t.1)

mk : NodeText → Option Span → Option ℕ → List ℕ → Bool → Node
mk t s p c d = record { text = t; span = s; parent = p; children = c; dirty = d }

pub node-same : (x y : Node) → x.text ≡ y.text → x.span ≡ y.span → x.parent ≡ y.parent → x.children ≡ y.children → x.dirty ≡ y.dirty → x ≡ y
unfolding mk
node-same x y e s f g h =
    ap (λ t. mk t x.span x.parent x.children x.dirty) e
    ∙ (ap (λ t. mk y.text t x.parent x.children x.dirty) s
    ∙ (ap (λ p. mk y.text y.span p x.children x.dirty) f ∙ (ap (λ c. mk y.text y.span y.parent c x.dirty) g ∙ ap (λ d. mk y.text y.span y.parent y.children d) h)))

abbrev pub kids : List Row → ℕ → List ℕ
kids rs p = listed rs (row_at rs p)

abbrev pub front : List Row → ℕ → ℕ → List ℕ
front rs p at = take at (kids rs p)

abbrev pub back : List Row → ℕ → ℕ → List ℕ
back rs p at = drop at (kids rs p)

-- the rows after n was joined in, in p at the place `at`
abbrev pub joined_at : List Row → ℕ → ℕ → ℕ → List Row
joined_at rs p at n = joined_in rs p n (end_of None (front rs p at)) (start_of (back rs p at) None)

first_is : (rs : List Row) (p n : ℕ) (xs ys : List ℕ) → p < length rs → (row_at rs p).first ≡ start_of (xs ++ ys) None → (row_at (joined_in rs p n (end_of None xs) (start_of ys None)) p).first ≡ start_of xs (Some n)
first_is rs p n [] ys w e = first_none rs p n (start_of ys None) w
first_is rs p n (x ∷ xs) ys w e = let z = some_end x xs in rw z.1 (first_some rs p n z.0 (start_of ys None) ∙ e)

last_is : (rs : List Row) (p n : ℕ) (xs ys : List ℕ) → p < length rs → (row_at rs p).last ≡ end_of (end_of None xs) ys → (row_at (joined_in rs p n (end_of None xs) (start_of ys None)) p).last ≡ end_of (Some n) ys
last_is rs p n xs [] w e = last_none rs p n (end_of None xs) w
last_is rs p n xs (y ∷ ys) w e = last_some rs p n y (end_of None xs) ∙ e

module _ (rs : List Row) (p at n : ℕ) (k : IsLinked rs) (bp : p < length rs) (bn : n < length rs) (nz : n ≢ 0) (loose : parent_of (shown_rows rs) n ≡ None) (apart : holds (shown_rows rs) n p ≡ false) (place : at ≤ length (listed rs (row_at rs p))) where
  whole : front rs p at ++ back rs p at ≡ kids rs p
  whole = take-append-drop at (kids rs p)

  kids_are : (q : ℕ) → q < length rs → children_of (shown_rows rs) q ≡ kids rs q
  kids_are q h = ap (λ x. x.children) (shown-at rs q h)

  kids_each : (q : ℕ) → q < length rs → Each (λ c. parent_of (shown_rows rs) c ≡ Some q) (kids rs q)
  kids_each q h = rw (← kids_are q h) (children_each (shown_rows rs) q k.sound)

  bound : (c q : ℕ) → parent_of (shown_rows rs) c ≡ Some q → c < length rs
  bound c q e = let h = parent-inside (shown_rows rs) c q e in rw (← length-shown rs) h

  not_n : (c q : ℕ) → parent_of (shown_rows rs) c ≡ Some q → c ≢ n
  not_n c q e = λ i. let j : parent_of (shown_rows rs) c ≡ parent_of (shown_rows rs) n = ap (λ m. parent_of (shown_rows rs) m) i in cc

  front_end : (z : ℕ) → Some z ≡ end_of None (front rs p at) → parent_of (shown_rows rs) z ≡ Some p
  front_end z e = end_holds (λ c. parent_of (shown_rows rs) c ≡ Some p) None (front rs p at) z (λ y i. absurd cc) (each_front _ (front rs p at) (back rs p at) (rw whole (kids_each p bp))) e

  back_start : (z : ℕ) → Some z ≡ start_of (back rs p at) None → parent_of (shown_rows rs) z ≡ Some p
  back_start z e = start_holds (λ c. parent_of (shown_rows rs) c ≡ Some p) (back rs p at) z (each_back _ (front rs p at) (back rs p at) (rw whole (kids_each p bp))) e

  sound_after : IsSound (linked (shown_rows rs) p at n)
  sound_after =
      let ns = shown_rows rs in
      let wp : p < length ns = rw (length-shown rs) bp in
      let wn : n < length ns = rw (length-shown rs) bn in
      IsSound-linked ns (linked ns p at n) p at n k.sound (Relinked-writes ns p n (insert (children_of ns p) at n) (Some p) wp wn) wp wn nz loose apart

  pub short_after : length (front rs p at ++ n ∷ back rs p at) ≤ length rs
  short_after =
      let ns = shown_rows rs in
      let wp : p < length ns = rw (length-shown rs) bp in
      let wn : n < length ns = rw (length-shown rs) bn in
      let r = Relinked-writes ns p n (insert (children_of ns p) at n) (Some p) wp wn in
      let h = children-short (linked ns p at n) p sound_after in
      let e : children_of (linked ns p at n) p ≡ insert (kids rs p) at n = r.list_here ∙ ap (λ l. insert l at n) (kids_are p bp) in
      omega (arith, h, ap length e, r.same_length, length-shown rs)

  pub short_kids : length (kids rs p) + 1 ≤ length rs
  short_kids = omega (arith, short_after, length-insert (kids rs p) at n place)

  distinct_kids : IsDistinct eqb (kids rs p)
  distinct_kids = distinct_counted (kids rs p) (λ m. rw (← kids_are p bp) (omega (arith, k.sound.listed m p, at_most_one (is_number (parent_of (shown_rows rs) m) p))))

  segment_here : Segment (next (joined_at rs p at n)) (prev (joined_at rs p at n)) None (start_of (front rs p at) (Some n)) (front rs p at ++ n ∷ back rs p at) (end_of (Some n) (back rs p at)) None
  segment_here =
      let b = end_of None (front rs p at) in
      let a = start_of (back rs p at) None in
      let nb : Some n ≢ b = λ e. not_n n p (front_end n e) refl in
      let na : Some n ≢ a = λ e. not_n n p (back_start n e) refl in
      segment-insert (next rs) (prev rs) (next (joined_at rs p at n)) (prev (joined_at rs p at n)) n (row_at rs p).first (front rs p at) (back rs p at) (row_at rs p).last
      (rw whole (k.joined p bp).0)
      (rw whole distinct_kids)
      (rw whole (to_all _ _ (λ z e. ne_eqb n z (λ i. not_n z p e (sym i))) (kids rs p) (kids_each p bp)))
      (next_here rs p n b a bn nb)
      (prev_here rs p n b a bn na)
      (λ y f d. next_kept rs p n b a y (λ i. eqb-false n y f (sym i)) d)
      (λ y f d. next_new rs p n b a y (within (length rs) b (λ z e. bound z p (front_end z e))) d)
      (λ y f d. prev_kept rs p n b a y (λ i. eqb-false n y f (sym i)) d)
      (λ y f d. prev_new rs p n b a y (within (length rs) a (λ z e. bound z p (back_start z e))) d)

  kids_here : kids (joined_at rs p at n) p ≡ front rs p at ++ n ∷ back rs p at
  kids_here =
      let e = first_is rs p n (front rs p at) (back rs p at) bp (rw whole (segment-start (next rs) (prev rs) None (row_at rs p).first (kids rs p) (row_at rs p).last None (k.joined p bp).0)) in
      rw e (along-segment (next (joined_at rs p at n)) (prev (joined_at rs p at n)) (length (joined_at rs p at n)) None (start_of (front rs p at) (Some n)) (front rs p at ++ n ∷ back rs p at) (end_of (Some n) (back rs p at)) (rw (length_joined rs p n (end_of None (front rs p at)) (start_of (back rs p at) None)) short_after) segment_here)

  segment_other : (q : ℕ) → q < length rs → q ≢ p → Segment (next (joined_at rs p at n)) (prev (joined_at rs p at n)) None (row_at rs q).first (kids rs q) (row_at rs q).last None
  segment_other q w d =
      let b = end_of None (front rs p at) in
      let a = start_of (back rs p at) None in
      let off : (c : ℕ) → parent_of (shown_rows rs) c ≡ Some q → parent_of (shown_rows rs) c ≢ Some p = λ c e i. d (let j : q ≡ p = cc in j) in
      segment-same (next rs) (prev rs) (next (joined_at rs p at n)) (prev (joined_at rs p at n)) None (row_at rs q).first (kids rs q) (row_at rs q).last None
      (to_all _ _ (λ c e. next_kept rs p n b a c (not_n c q e) (λ i. off c e (front_end c i))) (kids rs q) (kids_each q w))
      (to_all _ _ (λ c e. prev_kept rs p n b a c (not_n c q e) (λ i. off c e (back_start c i))) (kids rs q) (kids_each q w))
      (k.joined q w).0

  kids_other : (q : ℕ) → q < length rs → q ≢ p → kids (joined_at rs p at n) q ≡ kids rs q
  kids_other q w d =
      let h : length (kids rs q) ≤ length rs = let i = children-short (shown_rows rs) q k.sound in omega (arith, ap length (kids_are q w), length-shown rs) in
      rw (first_other rs p n (end_of None (front rs p at)) (start_of (back rs p at) None) q d)
      (along-segment (next (joined_at rs p at n)) (prev (joined_at rs p at n)) (length (joined_at rs p at n)) None (row_at rs q).first (kids rs q) (row_at rs q).last (rw (length_joined rs p n (end_of None (front rs p at)) (start_of (back rs p at) None)) h) (segment_other q w d))

  ends_here : Segment (next (joined_at rs p at n)) (prev (joined_at rs p at n)) None (row_at (joined_at rs p at n) p).first (front rs p at ++ n ∷ back rs p at) (row_at (joined_at rs p at n) p).last None
  ends_here =
      let e = first_is rs p n (front rs p at) (back rs p at) bp (rw whole (segment-start (next rs) (prev rs) None (row_at rs p).first (kids rs p) (row_at rs p).last None (k.joined p bp).0)) in
      let f = last_is rs p n (front rs p at) (back rs p at) bp (segment-end (next rs) (prev rs) None (row_at rs p).first (kids rs p) (row_at rs p).last None (k.joined p bp).0 ∙ (ap (end_of None) (sym whole) ∙ end_append None (front rs p at) (back rs p at))) in
      rw (e, f) segment_here

  counts_here : (row_at (joined_at rs p at n) p).tally.count ≡ length (front rs p at ++ n ∷ back rs p at)
  counts_here = count_here rs p n (end_of None (front rs p at)) (start_of (back rs p at) None) bp ∙ omega (arith, (k.joined p bp).1, length-insert (kids rs p) at n place)

  node_after : (m : ℕ) → m < length rs → node_at (shown_rows (joined_at rs p at n)) m ≡ node_at (linked (shown_rows rs) p at n) m
  node_after m w =
      let ns = shown_rows rs in
      let b = end_of None (front rs p at) in
      let a = start_of (back rs p at) None in
      let wp : p < length ns = rw (length-shown rs) bp in
      let wn : n < length ns = rw (length-shown rs) bn in
      let r = Relinked-writes ns p n (insert (children_of ns p) at n) (Some p) wp wn in
      let shows = shown-at (joined_at rs p at n) m (rw (length_joined rs p n b a) w) in
      let showed = shown-at rs m w in
      node-same _ _
      (ap (λ x. x.text) shows ∙ (all_kept rs p n b a (λ x. x.text) (λ x o y z. refl) (λ x o. refl) (λ x o. refl) (λ x o. refl) (λ x o. refl) (λ x o. refl) m
      ∙ (ap (λ x. x.text) (sym showed) ∙ sym (field_kept (λ x. x.text) _ n _ refl m ∙ field_kept (λ x. x.text) ns p _ refl m))))
      (ap (λ x. x.span) shows ∙ (all_kept rs p n b a (λ x. x.span) (λ x o y z. refl) (λ x o. refl) (λ x o. refl) (λ x o. refl) (λ x o. refl) (λ x o. refl) m
      ∙ (ap (λ x. x.span) (sym showed) ∙ sym (field_kept (λ x. x.span) _ n _ refl m ∙ field_kept (λ x. x.span) ns p _ refl m))))
      (ap (λ x. x.parent) shows ∙ elim (cases_eq m n) [
        | inl e ↦ rw e (parent_here rs p n b a bn ∙ sym r.parent_here)
        | inr d ↦ parent_kept rs p n b a m d ∙ (ap (λ x. x.parent) (sym showed) ∙ sym (r.parent_other m d))
      ])
      (ap (λ x. x.children) shows ∙ elim (cases_eq m p) [
        | inl e ↦ rw e (kids_here ∙ (ap (λ l. insert l at n) (sym (kids_are p bp)) ∙ sym r.list_here))
        | inr d ↦ kids_other m w d ∙ (sym (kids_are m w) ∙ sym (r.list_other m d))
      ])
      (ap (λ x. x.dirty) shows ∙ (all_kept rs p n b a (λ x. x.tally.dirty) (λ x o y z. refl) (λ x o. refl) (λ x o. refl) (λ x o. refl) (λ x o. refl) (λ x o. refl) m
      ∙ (ap (λ x. x.dirty) (sym showed) ∙ sym (field_kept (λ x. x.dirty) _ n _ refl m ∙ field_kept (λ x. x.dirty) ns p _ refl m))))

  pub shown-joined : shown_rows (joined_at rs p at n) ≡ linked (shown_rows rs) p at n
  shown-joined =
      let b = end_of None (front rs p at) in
      let a = start_of (back rs p at) None in
      let l : length (shown_rows (joined_at rs p at n)) ≡ length rs = length-shown (joined_at rs p at n) ∙ length_joined rs p n b a in
      ext_get_or no_node _ _ (l ∙ sym (length-set _ _ _ ∙ (length-set _ _ _ ∙ length-shown rs))) (λ m h. node_after m (let g = rw l at h in g))

  pub IsLinked-joined : IsLinked (joined_at rs p at n)
  IsLinked-joined =
      let b = end_of None (front rs p at) in
      let a = start_of (back rs p at) None in
      record {
        sound = subst IsSound (sym shown-joined) sound_after;
        joined = λ q h.
            let w : q < length rs = rw (← length_joined rs p n b a) h in
            elim (cases_eq q p) [
              | inl e ↦ rw e (subst (λ l. Segment (next (joined_at rs p at n)) (prev (joined_at rs p at n)) None (row_at (joined_at rs p at n) p).first l (row_at (joined_at rs p at n) p).last None × ((row_at (joined_at rs p at n) p).tally.count ≡ length l)) (sym kids_here) (ends_here, counts_here))
              | inr d ↦ subst (λ l. Segment (next (joined_at rs p at n)) (prev (joined_at rs p at n)) None (row_at (joined_at rs p at n) q).first l (row_at (joined_at rs p at n) q).last None × ((row_at (joined_at rs p at n) q).tally.count ≡ length l)) (sym (kids_other q w d))
                  (rw (first_other rs p n b a q d, last_other rs p n b a q d) (segment_other q w d), count_other rs p n b a q d ∙ (k.joined q w).1)
            ];
      }

module _ (rs : List Row) (k : IsLinked rs) (p : ℕ) (bp : p < length rs) where
  pub own_kids : Each (λ c. c < length rs) (kids rs p)
  own_kids = each_map _ _ (λ c e. let h = parent-inside (shown_rows rs) c p e in rw (← length-shown rs) h) (kids rs p)
      (rw (← ap (λ x. x.children) (shown-at rs p bp)) (children_each (shown_rows rs) p k.sound))

  pub start_within : (i c : ℕ) → Some c ≡ start_of (drop i (kids rs p)) None → c < length rs
  start_within i c e = start_holds (λ c. c < length rs) (drop i (kids rs p)) c (each_back _ (take i (kids rs p)) (drop i (kids rs p)) (rw (take-append-drop i (kids rs p)) own_kids)) e

  pub end_within : (i c : ℕ) → Some c ≡ end_of None (take i (kids rs p)) → c < length rs
  end_within i c e = end_holds (λ c. c < length rs) None (take i (kids rs p)) c (λ y j. absurd cc) (each_front _ (take i (kids rs p)) (drop i (kids rs p)) (rw (take-append-drop i (kids rs p)) own_kids)) e

  rest_segment : (i : ℕ) → Segment (next rs) (prev rs) (end_of None (take i (kids rs p))) (start_of (drop i (kids rs p)) None) (drop i (kids rs p)) (row_at rs p).last None
  rest_segment i = segment-back (next rs) (prev rs) None (row_at rs p).first (take i (kids rs p)) (drop i (kids rs p)) (row_at rs p).last None (rw (take-append-drop i (kids rs p)) (k.joined p bp).0)

  pub walked_first : (row_at rs p).first ≡ start_of (drop 0 (kids rs p)) None
  walked_first = segment-start (next rs) (prev rs) None (row_at rs p).first (kids rs p) (row_at rs p).last None (k.joined p bp).0

  walk_case : (i c : ℕ) (l : List ℕ) → drop i (kids rs p) ≡ l → Some c ≡ start_of l None → (Some c ≡ end_of None (take (i + 1) (kids rs p))) × (next rs c ≡ start_of (drop (i + 1) (kids rs p)) None)
  walk_case i c [] e h = absurd cc
  walk_case i c (d ∷ ds) e h =
      let g : c ≡ d = cc in
      let t = split_more (kids rs p) i d ds e in
      let s = rw e at (rest_segment i) in
      rw (g, t.0, t.1) (sym (end_append None (take i (kids rs p)) (d ∷ [])), segment-start (next rs) (prev rs) (Some d) (next rs d) ds (row_at rs p).last None s.2)

  pub walk_on : (i c : ℕ) → Some c ≡ start_of (drop i (kids rs p)) None → (Some c ≡ end_of None (take (i + 1) (kids rs p))) × (next rs c ≡ start_of (drop (i + 1) (kids rs p)) None)
  walk_on i c h = walk_case i c (drop i (kids rs p)) refl h

  prev_case : (i c : ℕ) (l : List ℕ) → drop i (kids rs p) ≡ l → Some c ≡ start_of l None → prev rs c ≡ end_of None (take i (kids rs p))
  prev_case i c [] e h = absurd cc
  prev_case i c (d ∷ ds) e h =
      let g : c ≡ d = cc in
      let s = rw e at (rest_segment i) in
      rw g s.1

  pub prev_on : (i c : ℕ) → Some c ≡ start_of (drop i (kids rs p)) None → prev rs c ≡ end_of None (take i (kids rs p))
  prev_on i c h = prev_case i c (drop i (kids rs p)) refl h

  stay_case : (i : ℕ) (l : List ℕ) → drop i (kids rs p) ≡ l → None ≡ start_of l None → (end_of None (take i (kids rs p)) ≡ end_of None (take (i + 1) (kids rs p))) × (None ≡ start_of (drop (i + 1) (kids rs p)) None)
  stay_case i [] e h = let t = split_none (kids rs p) i e in rw (t.0, t.1) (refl, refl)
  stay_case i (d ∷ ds) e h = absurd cc

  pub walk_stays : (i : ℕ) → None ≡ start_of (drop i (kids rs p)) None → (end_of None (take i (kids rs p)) ≡ end_of None (take (i + 1) (kids rs p))) × (None ≡ start_of (drop (i + 1) (kids rs p)) None)
  walk_stays i h = stay_case i (drop i (kids rs p)) refl h

pub start_get : (xs : List ℕ) (i : ℕ) → start_of (drop i xs) None ≡ slice_get xs i
start_get [] zero = refl
start_get [] (suc i) = refl
start_get (x ∷ xs) zero = refl
start_get (x ∷ xs) (suc i) = start_get xs i

pub is_within : (rs : List Row) (o : Option ℕ) → ((z : ℕ) → Some z ≡ o → z < length rs) → IsWithin rs o
is_within rs None f = tt
is_within rs (Some z) f = f z refl

pub joined_same : (rs ss : List Row) (p at n : ℕ) (b a : Option ℕ) → b ≡ end_of None (take at (kids rs p)) → a ≡ start_of (drop at (kids rs p)) None → ss ≡ joined_in rs p n b a → ss ≡ joined_at rs p at n
joined_same rs ss p at n b a e f g = g ∙ (ap (λ x. joined_in rs p n x a) e ∙ ap (λ x. joined_in rs p n (end_of None (take at (kids rs p))) x) f)
