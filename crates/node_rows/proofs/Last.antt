-- A join behind the last child.
use Rattle.std.proofs.Common.{◌≡◌, ◌≢◌, ℕ, ◌<◌, ◌≤◌, List, length, take, None, ap, sym, ◌∙◌, subst, arith, false}
use Rattle.std.proofs.Math.Seq.{take-length, drop-length}
use Rattle.node_rows.specs.declared.rows.Row.{Row}
use Rattle.node_rows.specs.Nodes.{parent_of, children_of, holds, linked}
use Rattle.node_rows.specs.Segments.{end_of, start_of}
use Rattle.node_rows.specs.Shown.{row_at, next, prev, shown_rows, IsLinked}
use Rattle.node_rows.specs.Joins.{joined_in, IsWithin}
use Rattle.node_rows.proofs.Join.{length-shown, shown-at, kids, segment-end, end_within, is_within, short_kids, joined_at, joined_same, IsLinked-joined, shown-joined}

module _ (rs : List Row) (k : IsLinked rs) (p n : ℕ) (wp : p < length (shown_rows rs)) (wn : n < length (shown_rows rs)) (nz : n ≢ 0) (loose : parent_of (shown_rows rs) n ≡ None) (apart : holds (shown_rows rs) n p ≡ false) where
  inside : p < length rs
  inside = rw (← length-shown rs) wp

  node_inside : n < length rs
  node_inside = rw (← length-shown rs) wn

  all : take (length (kids rs p)) (kids rs p) ≡ kids rs p
  all = take-length (kids rs p)

  pub last_is : (row_at rs p).last ≡ end_of None (take (length (kids rs p)) (kids rs p))
  last_is = segment-end (next rs) (prev rs) None (row_at rs p).first (kids rs p) (row_at rs p).last None (k.joined p inside).0 ∙ ap (end_of None) (sym all)

  pub last_within : IsWithin rs (row_at rs p).last
  last_within = is_within rs (row_at rs p).last (λ z e. end_within rs k p inside (length (kids rs p)) z (e ∙ last_is))

  fits : length (kids rs p) ≤ length (kids rs p)
  fits = omega arith

  pub last_few : (row_at rs p).tally.count < 67108865
  last_few =
      let h = short_kids rs p (length (kids rs p)) n k inside node_inside nz loose apart fits in
      omega (arith, (k.joined p inside).1, k.sound.few, length-shown rs)

  pub last_counts : (row_at rs p).tally.count ≡ length (children_of (shown_rows rs) p)
  last_counts = (k.joined p inside).1 ∙ ap length (sym (ap (λ x. x.children) (shown-at rs p inside)))

  module _ (ss : List Row) (e : ss ≡ joined_in rs p n (row_at rs p).last None) where
    joined_is : ss ≡ joined_at rs p (length (kids rs p)) n
    joined_is = joined_same rs ss p (length (kids rs p)) n (row_at rs p).last None last_is (ap (λ l. start_of l None) (sym (drop-length (kids rs p)))) e

    pub last_linked : IsLinked ss
    last_linked = subst IsLinked (sym joined_is) (IsLinked-joined rs p (length (kids rs p)) n k inside node_inside nz loose apart fits)

    pub last_shown : shown_rows ss ≡ linked (shown_rows rs) p (length (children_of (shown_rows rs) p)) n
    last_shown =
        ap shown_rows joined_is
        ∙ (shown-joined rs p (length (kids rs p)) n k inside node_inside nz loose apart fits
        ∙ ap (λ l. linked (shown_rows rs) p (length l) n) (sym (ap (λ x. x.children) (shown-at rs p inside))))
