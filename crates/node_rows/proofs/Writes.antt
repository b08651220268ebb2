-- A write to a row that changes no link.
use Rattle.std.proofs.Common.{◌≡◌, ℕ, zero, suc, ◌<◌, List, ◌∷◌, Bool, length, Option, Some, None, refl, ap, sym, ◌∙◌, subst, set, length-set, inl, inr}
use Rattle.std.proofs.lemmas.Bool.{cases_eq}
use Rattle.std.proofs.lemmas.List.{ext_get_or}
use Rattle.css_text.specs.declared.lexer.Span.{Span}
use Rattle.css_tree.specs.declared.node.NodeText.{NodeText}
use Rattle.node_rows.specs.declared.rows.Row.{Row}
use Rattle.node_rows.specs.Nodes.{Node, node_at, no_node, parent_of, children_of, with_text}
use Rattle.node_rows.specs.Sound.{IsSound}
use Rattle.node_rows.specs.Segments.{along, Segment}
use Rattle.node_rows.specs.Shown.{row_at, next, prev, shown_rows, IsJoined, IsLinked}
use Rattle.node_rows.specs.Marks.{with_mark}
use Rattle.node_rows.specs.Tally.{marked_as}
use Rattle.node_rows.specs.Ends.{with_span}
use Rattle.node_rows.proofs.Fields.{field_kept, field_same, field_other}
use Rattle.node_rows.proofs.Join.{length-shown, shown-at, kids, node-same}
use Rattle.node_rows.proofs.Layers.{row_kept, row_same, row_other}
use Rattle.node_rows.proofs.Pushed.{all_of}
use Rattle.node_rows.proofs.SameLinks.{SameLinks, SameLinks-self, SameLinks-marked, SameLinks-text, SameLinks-span, IsSound-same}
use Rattle.node_rows.proofs.Segs.{segment-same}

-- the two rows have the same links
pub record SameRow (r x : Row) : Type 0 where
  pub parent : x.parent ≡ r.parent
  pub first : x.first ≡ r.first
  pub last : x.last ≡ r.last
  pub before : x.before ≡ r.before
  pub after : x.after ≡ r.after
  pub count : x.tally.count ≡ r.tally.count

along-same : (f g : ℕ → Option ℕ) → ((m : ℕ) → g m ≡ f m) → (k : ℕ) (o : Option ℕ) → along g k o ≡ along f k o
along-same f g h zero o = refl
along-same f g h (suc k) None = refl
along-same f g h (suc k) (Some n) = ap (λ l. n ∷ l) (ap (along g k) (h n) ∙ along-same f g h k (f n))

-- a field of the rows and of the nodes that they show, after a write to each
field_written : {A : Type 0} (f : Row → A) (g : Node → A) (rs : List Row) (ns : List Node) (n m : ℕ) (x : Row) (y : Node) → n < length rs → n < length ns → f (row_at rs m) ≡ g (node_at ns m) → f x ≡ g y → f (row_at (set rs n x) m) ≡ g (node_at (set ns n y) m)
field_written f g rs ns n m x y b w h e =
    elim (cases_eq m n) [
      | inl i ↦ rw i (row_same f rs n x b ∙ (e ∙ sym (field_same g ns n y w)))
      | inr d ↦ row_other f rs n x m d ∙ (h ∙ sym (field_other g ns n y m d))
    ]

module _ (rs : List Row) (n : ℕ) (x : Row) (b : n < length rs) (h : SameRow (row_at rs n) x) where
  nexts : (m : ℕ) → next (set rs n x) m ≡ next rs m
  nexts = row_kept (λ r. r.after) rs n x h.after

  prevs : (m : ℕ) → prev (set rs n x) m ≡ prev rs m
  prevs = row_kept (λ r. r.before) rs n x h.before

  kids_kept : (q : ℕ) → kids (set rs n x) q ≡ kids rs q
  kids_kept q =
      let l : length (set rs n x) ≡ length rs = length-set _ _ _ in
      rw (row_kept (λ r. r.first) rs n x h.first q, l) (along-same (next rs) (next (set rs n x)) nexts (length rs) (row_at rs q).first)

  joined_kept : (q : ℕ) → IsJoined rs (row_at rs q) → IsJoined (set rs n x) (row_at (set rs n x) q)
  joined_kept q j =
      let ss = set rs n x in
      subst (λ l. Segment (next ss) (prev ss) None (row_at ss q).first l (row_at ss q).last None × ((row_at ss q).tally.count ≡ length l)) (sym (kids_kept q)) (
        rw (row_kept (λ r. r.first) rs n x h.first q, row_kept (λ r. r.last) rs n x h.last q) (segment-same (next rs) (prev rs) (next ss) (prev ss) None (row_at rs q).first (kids rs q) (row_at rs q).last None (all_of _ nexts (kids rs q)) (all_of _ prevs (kids rs q)) j.0),
        row_kept (λ r. r.tally.count) rs n x h.count q ∙ j.1,
      )

  -- y is the node at n with x's text, span and mark
  module _ (y : Node) (text : x.text ≡ y.text) (dirty : x.tally.dirty ≡ y.dirty) (span : x.span ≡ y.span) (parent : y.parent ≡ parent_of (shown_rows rs) n) (list : y.children ≡ children_of (shown_rows rs) n) where
    node_written : (m : ℕ) → m < length rs → node_at (shown_rows (set rs n x)) m ≡ node_at (set (shown_rows rs) n y) m
    node_written m w =
        let ns = shown_rows rs in
        let shows = shown-at (set rs n x) m (let l : length (set rs n x) ≡ length rs = length-set _ _ _ in rw l w) in
        let showed = shown-at rs m w in
        let here = shown-at rs n b in
        let bn : n < length ns = rw (length-shown rs) b in
        node-same _ _
        (ap (λ z. z.text) shows ∙ field_written (λ r. r.text) (λ z. z.text) rs ns n m x y b bn (ap (λ z. z.text) (sym showed)) text)
        (ap (λ z. z.span) shows ∙ field_written (λ r. r.span) (λ z. z.span) rs ns n m x y b bn (ap (λ z. z.span) (sym showed)) span)
        (ap (λ z. z.parent) shows ∙ field_written (λ r. r.parent) (λ z. z.parent) rs ns n m x y b bn (ap (λ z. z.parent) (sym showed)) (h.parent ∙ (ap (λ z. z.parent) (sym here) ∙ sym parent)))
        (ap (λ z. z.children) shows ∙ (kids_kept m ∙ (ap (λ z. z.children) (sym showed) ∙ sym (field_kept (λ z. z.children) ns n y list m))))
        (ap (λ z. z.dirty) shows ∙ field_written (λ r. r.tally.dirty) (λ z. z.dirty) rs ns n m x y b bn (ap (λ z. z.dirty) (sym showed)) dirty)

    shown-written : shown_rows (set rs n x) ≡ set (shown_rows rs) n y
    shown-written =
        let ss = set rs n x in
        let l : length (shown_rows ss) ≡ length rs = length-shown ss ∙ length-set _ _ _ in
        ext_get_or no_node _ _ (l ∙ sym (length-set _ _ _ ∙ length-shown rs)) (λ m i. node_written m (let w : m < length rs = rw l at i in w))

    IsLinked-written : SameLinks (shown_rows rs) (set (shown_rows rs) n y) → IsLinked rs → IsLinked (set rs n x)
    IsLinked-written same k = record {
      sound = subst IsSound (sym shown-written) (IsSound-same (shown_rows rs) _ same k.sound);
      joined = λ q i. joined_kept q (k.joined q (let l : length (set rs n x) ≡ length rs = length-set _ _ _ in rw (← l) i));
    }

abbrev pub dirty_row : Row → Bool → Row
dirty_row r d = record r { tally = marked_as r.tally d }

abbrev pub text_row : Row → NodeText → Row
text_row r t = record r { text = t }

same_dirty : (r : Row) (d : Bool) → SameRow r (dirty_row r d)
same_dirty r d = record { parent = refl; first = refl; last = refl; before = refl; after = refl; count = refl }

abbrev pub span_row : Row → Option Span → Row
span_row r o = record r { span = o }

same_span : (r : Row) (o : Option Span) → SameRow r (span_row r o)
same_span r o = record { parent = refl; first = refl; last = refl; before = refl; after = refl; count = refl }

same_text : (r : Row) (t : NodeText) → SameRow r (text_row r t)
same_text r t = record { parent = refl; first = refl; last = refl; before = refl; after = refl; count = refl }

module _ (rs : List Row) (n : ℕ) (b : n < length rs) where
  pub shown-dirty : (d : Bool) → shown_rows (set rs n (dirty_row (row_at rs n) d)) ≡ with_mark (shown_rows rs) n d
  shown-dirty d =
      shown-written rs n (dirty_row (row_at rs n) d) b (same_dirty (row_at rs n) d) (record (node_at (shown_rows rs) n) { dirty = d }) (ap (λ z. z.text) (sym (shown-at rs n b))) refl (ap (λ z. z.span) (sym (shown-at rs n b))) refl refl

  pub IsLinked-dirty : (d : Bool) → IsLinked rs → IsLinked (set rs n (dirty_row (row_at rs n) d))
  IsLinked-dirty d k =
      IsLinked-written rs n (dirty_row (row_at rs n) d) b (same_dirty (row_at rs n) d) (record (node_at (shown_rows rs) n) { dirty = d }) (ap (λ z. z.text) (sym (shown-at rs n b))) refl (ap (λ z. z.span) (sym (shown-at rs n b))) refl refl
      (SameLinks-marked (shown_rows rs) (shown_rows rs) n d (SameLinks-self (shown_rows rs))) k

  pub shown-text : (t : NodeText) → shown_rows (set rs n (text_row (row_at rs n) t)) ≡ with_text (shown_rows rs) n t
  shown-text t =
      shown-written rs n (text_row (row_at rs n) t) b (same_text (row_at rs n) t) (record (node_at (shown_rows rs) n) { text = t }) refl (ap (λ z. z.dirty) (sym (shown-at rs n b))) (ap (λ z. z.span) (sym (shown-at rs n b))) refl refl

  pub IsLinked-text : (t : NodeText) → IsLinked rs → IsLinked (set rs n (text_row (row_at rs n) t))
  IsLinked-text t k =
      IsLinked-written rs n (text_row (row_at rs n) t) b (same_text (row_at rs n) t) (record (node_at (shown_rows rs) n) { text = t }) refl (ap (λ z. z.dirty) (sym (shown-at rs n b))) (ap (λ z. z.span) (sym (shown-at rs n b))) refl refl
      (SameLinks-text (shown_rows rs) n t) k

  pub shown-span : (o : Option Span) → shown_rows (set rs n (span_row (row_at rs n) o)) ≡ with_span (shown_rows rs) n o
  shown-span o =
      shown-written rs n (span_row (row_at rs n) o) b (same_span (row_at rs n) o) (record (node_at (shown_rows rs) n) { span = o }) (ap (λ z. z.text) (sym (shown-at rs n b))) (ap (λ z. z.dirty) (sym (shown-at rs n b))) refl refl refl

  pub IsLinked-span : (o : Option Span) → IsLinked rs → IsLinked (set rs n (span_row (row_at rs n) o))
  IsLinked-span o k =
      IsLinked-written rs n (span_row (row_at rs n) o) b (same_span (row_at rs n) o) (record (node_at (shown_rows rs) n) { span = o }) (ap (λ z. z.text) (sym (shown-at rs n b))) (ap (λ z. z.dirty) (sym (shown-at rs n b))) refl refl refl
      (SameLinks-span (shown_rows rs) n o) k
