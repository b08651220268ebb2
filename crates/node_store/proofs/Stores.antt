-- Each edit leaves a store, whose cursors stand where the edit's definition says.
use Rattle.std.proofs.Common.{◌≡◌, ◌≢◌, ℕ, suc, ◌+◌, ◌<◌, List, [], ◌∷◌, ◌++◌, Bool, true, length, map, Option, Some, None, IsSome, IfSome, refl, ap, sym, ◌∙◌, subst, arith, length-append, insert, remove, inl, inr, eqb}
use Rattle.std.specs.Option.{option_map}
use Rattle.std.specs.List.{position_or_len}
use Rattle.std.proofs.lemmas.Bool.{cases_eq, cases_lt}
use Rattle.std.proofs.lemmas.List.{get_or_past}
use Rattle.std.proofs.Math.ListN.{get_or-append}
use Rattle.std.proofs.Math.Seq.{get_or-append_seam}
use Rattle.css_text.specs.declared.lexer.Span.{Span}
use Rattle.css_tree.specs.declared.node.Kind.TheVariants as K
use Rattle.css_tree.specs.declared.node.Field.{Field}
use Rattle.css_tree.specs.declared.node.Raw.{Raw}
use Rattle.css_tree.specs.declared.node.NodeText.{NodeText}
use Rattle.css_tree.specs.Parts.{kind_of, block_of}
use Rattle.css_tree.specs.Changes.{with_field, with_raw}
use Rattle.node_rows.specs.Nodes.{Node, no_node, new_node, node_at, parent_of, children_of, text_of, span_of, place_of, previous_sibling_of, linked, unlinked, with_text}
use Rattle.node_rows.specs.Marks.{mark, dirtied, with_mark}
use Rattle.node_rows.proofs.Edits.{Relinked, Relinked-writes, IsSound-linked, IsSound-unlinked, IsSound-pushed, field_pushed, parent-inside}
use Rattle.node_rows.proofs.Places.{place-inside, child-at-place}
use Rattle.node_rows.proofs.SameLinks.{SameLinks, SameTexts, SameLinks-text, IsSound-same}
use Rattle.node_store.specs.declared.item.Edit.{Edit}
use Rattle.node_store.specs.declared.item.Edit.TheVariants.{Set, SetRaw, New, Insert, Remove}
use Rattle.node_store.specs.declared.seat.Seat.{Seat}
use Rattle.node_store.specs.Forest.{Place, IsForest, IsSpanOf}
use Rattle.node_store.specs.Edits.{is_allowed, apply, removed_from, moved_place}
use Rattle.node_store.specs.Seats.{passed_of, shown_seat, shown_seats, IsChildOf, IsSeat, bare, IsStored}
use Rattle.node_store.specs.Passing.{seat_without}
use Rattle.node_store.proofs.Allowed.{Insertable, insertable, settable, shapeable, makeable}
use Rattle.node_store.proofs.TextKinds.{with_field-kind, with_field-block, with_raw-kind, with_raw-block}
use Rattle.node_store.proofs.Shapes.{SameShape, SameShape-texts, SameShape-text, SameButMarks, SameButMarks-then, SameButMarks-mark, IsForest-shaped, IsForest-linked_same, SameLinks-then, SameTexts-then, marked-same, dirtied-same, linked-texts, unlinked-texts}
use Rattle.node_store.proofs.Moves.{Keeps, Keeps-same, Keeps-put, Keeps-taken, kept-seats, kept-shown, same-seats, same-shown}

-- the nodes and seats of a store after an edit
pub record Edited (text : List ℕ) (ns ms : List Node) (ss ts : List (Option Seat)) (e : Edit) : Type 0 where
  pub stored : IsStored text ms ts
  pub shown : shown_seats ms ts ≡ map (option_map (moved_place ns e)) (shown_seats ns ss)

Relinked-then : (ns ls ms : List Node) (p n : ℕ) (xs : List ℕ) (o : Option ℕ) → Relinked ns ls p n xs o → SameLinks ls ms → Relinked ns ms p n xs o
Relinked-then ns ls ms p n xs o h l = record {
  same_length = l.same_length ∙ h.same_length;
  parent_here = l.parents n ∙ h.parent_here;
  parent_other = λ m d. l.parents m ∙ h.parent_other m d;
  list_here = l.lists p ∙ h.list_here;
  list_other = λ q d. l.lists q ∙ h.list_other q d;
}

-- a node of a relinked forest has a container as its parent
contained : (text : List ℕ) (ns ms : List Node) (p n : ℕ) (xs : List ℕ) (o : Option ℕ) → IsForest (bare text ns) → Relinked ns ms p n xs o → ((q : ℕ) → o ≡ Some q → IsSome (block_of (text_of ns q))) → (m q : ℕ) → parent_of ms m ≡ Some q → IsSome (block_of (text_of ns q))
contained text ns ms p n xs o f h b m q e =
    elim (cases_eq m n) [
      | inl i ↦ b q (sym h.parent_here ∙ (ap (parent_of ms) (sym i) ∙ e))
      | inr d ↦ f.containers m q (sym (h.parent_other m d) ∙ e)
    ]

each_same : (cs : List (Option Place)) → map (option_map (λ (c : Place). c)) cs ≡ cs
each_same [] = refl
each_same (None ∷ cs) = let h = each_same cs in cc
each_same (Some c ∷ cs) = let h = each_same cs in cc

module _ (text : List ℕ) (ns : List Node) (ss : List (Option Seat)) (k : IsStored text ns ss) where
  put_all : (p at n : ℕ) (ms : List Node) → Insertable ns n p at → SameButMarks (linked ns p at n) ms → Edited text ns ms ss ss (Insert n p at)
  put_all p at n ms i b =
      let ls : List Node = linked ns p at n in
      let xs : List ℕ = insert (children_of ns p) at n in
      let r = Relinked-writes ns p n xs (Some p) i.parent_in i.node_in in
      let t = Relinked-then ns ls ms p n xs (Some p) r b.links in
      let shape = SameShape-texts ns ms t.same_length (SameTexts-then ns ls ms (linked-texts ns p at n) b.texts) in
      let sound = IsSound-same ls ms b.links (IsSound-linked ns ls p at n k.forest.sound r i.parent_in i.node_in i.not_first i.loose i.apart) in
      let forest = IsForest-shaped text ns ms k.forest shape sound (contained text ns ms p n xs (Some p) k.forest t (λ q e. let j : p ≡ q = cc in subst (λ x. IsSome (block_of (text_of ns x))) j i.block)) in
      let keeps = Keeps-put ns ms p at n i t shape in
      record {
        stored = record { forest = forest; seats_in = same-seats ns ms (moved_place ns (Insert n p at)) keeps ss k.seats_in };
        shown = same-shown ns ms (moved_place ns (Insert n p at)) keeps ss k.seats_in;
      }

  pub edited-put : (p at n : ℕ) (ms : List Node) → is_allowed ns (Insert n p at) ≡ true → ms ≡ apply ns (Insert n p at) → Edited text ns ms ss ss (Insert n p at)
  edited-put p at n ms a e =
      let ls : List Node = linked ns p at n in
      subst (λ x. Edited text ns x ss ss (Insert n p at)) (sym e)
      (put_all p at n (mark (dirtied ls n) p) (insertable ns n p at a) (SameButMarks-then ls (dirtied ls n) (mark (dirtied ls n) p) (dirtied-same ls n) (marked-same (dirtied ls n) p)))

  take_all : (p n : ℕ) (before : Option ℕ) (ms : List Node) → parent_of ns n ≡ Some p → before ≡ previous_sibling_of ns n → SameButMarks (unlinked ns p (place_of ns p n) n) ms → Edited text ns ms ss (map (seat_without n before) ss) (Remove n)
  take_all p n before ms child g b =
      let s = k.forest.sound in
      let ls : List Node = unlinked ns p (place_of ns p n) n in
      let xs : List ℕ = remove (children_of ns p) (place_of ns p n) in
      let bp = s.below n p child in
      let bn = parent-inside ns n p child in
      let r = Relinked-writes ns p n xs None bp bn in
      let t = Relinked-then ns ls ms p n xs None r b.links in
      let shape = SameShape-texts ns ms t.same_length (SameTexts-then ns ls ms (unlinked-texts ns p (place_of ns p n) n) b.texts) in
      let sound = IsSound-same ls ms b.links (IsSound-unlinked ns ls p (place_of ns p n) n s r child (place-inside ns s n p child) (child-at-place ns s n p child)) in
      let forest = IsForest-shaped text ns ms k.forest shape sound (contained text ns ms p n xs None k.forest t (λ q e. absurd cc)) in
      let keeps = Keeps-taken ns ms s p n child t shape before (sym g) in
      record {
        stored = record { forest = forest; seats_in = kept-seats ns ms (seat_without n before) (moved_place ns (Remove n)) keeps ss k.seats_in };
        shown = kept-shown ns ms (seat_without n before) (moved_place ns (Remove n)) keeps ss k.seats_in;
      }

  pub edited-taken : (p n : ℕ) (before : Option ℕ) (ls ms : List Node) (ts : List (Option Seat)) → parent_of ns n ≡ Some p → before ≡ previous_sibling_of ns n → ls ≡ unlinked ns p (place_of ns p n) n → ms ≡ mark ls p → ts ≡ map (seat_without n before) ss → Edited text ns ms ss ts (Remove n) × (ms ≡ apply ns (Remove n))
  edited-taken p n before ls ms ts child g d e w =
      let us : List Node = unlinked ns p (place_of ns p n) n in
      let i : ms ≡ mark us p = e ∙ ap (λ x. mark x p) d in
      let all = take_all p n before (mark us p) child g (marked-same us p) in (
        subst (λ x. Edited text ns x ss ts (Remove n)) (sym i) (subst (λ x. Edited text ns (mark us p) ss x (Remove n)) (sym w) all),
        i ∙ ap (removed_from ns n) (sym child),
      )

  -- texts that are changed, with links as they are
  text_all : (ms : List Node) (e : Edit) → SameShape ns ms → SameLinks ns ms → (let still : Place → Place = λ c. c in moved_place ns e ≡ still) → Edited text ns ms ss ss e
  text_all ms e shape links still =
      let keeps = Keeps-same ns ms links shape in
      let same : Place → Place = λ c. c in
      record {
        stored = record { forest = IsForest-linked_same text ns ms k.forest shape links; seats_in = same-seats ns ms same keeps ss k.seats_in };
        shown = same-shown ns ms same keeps ss k.seats_in ∙ ap (λ move. map (option_map move) (shown_seats ns ss)) (sym still);
      }

  shape_marked : (ls ms : List Node) → SameShape ns ls → SameTexts ls ms → length ms ≡ length ls → SameShape ns ms
  shape_marked ls ms h t l = record {
    same_length = l ∙ h.same_length;
    kinds = λ n. ap kind_of (t.texts n) ∙ h.kinds n;
    blocks = λ n b. subst (λ x. IsSome (block_of x)) (sym (t.texts n)) (h.blocks n b);
    spans = λ n. t.spans n ∙ h.spans n;
  }

  pub edited-set : (n : ℕ) (field : Field) (t : List ℕ) (ls ms : List Node) → is_allowed ns (Set field n t) ≡ true → ls ≡ with_text ns n (with_field field t (text_of ns n)) → ms ≡ mark ls n → Edited text ns ms ss ss (Set field n t) × (ms ≡ apply ns (Set field n t))
  edited-set n field t ls ms a d e =
      let us : List Node = with_text ns n (with_field field t (text_of ns n)) in
      let i : ms ≡ mark us n = e ∙ ap (λ x. mark x n) d in
      let m = marked-same us n in
      let shape = SameShape-text ns n (with_field field t (text_of ns n)) (with_field-kind field t (text_of ns n)) (λ h. subst IsSome (sym (with_field-block field t (text_of ns n))) h) (settable ns n field t a).0 in (
        subst (λ x. Edited text ns x ss ss (Set field n t)) (sym i)
            (text_all (mark us n) (Set field n t) (shape_marked us (mark us n) shape m.texts m.links.same_length) (SameLinks-then ns us (mark us n) (SameLinks-text ns n (with_field field t (text_of ns n))) m.links) refl),
        i,
      )

  pub edited-shaped : (n : ℕ) (raw : Raw) (t : List ℕ) (ms : List Node) → is_allowed ns (SetRaw raw n t) ≡ true → ms ≡ with_text ns n (with_raw raw t (text_of ns n)) → Edited text ns ms ss ss (SetRaw raw n t)
  edited-shaped n raw t ms a e =
      let us : List Node = with_text ns n (with_raw raw t (text_of ns n)) in
      let shape = SameShape-text ns n (with_raw raw t (text_of ns n)) (with_raw-kind raw t (text_of ns n)) (with_raw-block raw t (text_of ns n)) (shapeable ns n raw t a).0 in
      subst (λ x. Edited text ns x ss ss (SetRaw raw n t)) (sym e) (text_all us (SetRaw raw n t) shape (SameLinks-text ns n (with_raw raw t (text_of ns n))) refl)

  -- one more node
  module _ (x : Node) (loose : x.parent ≡ None) (empty : x.children ≡ []) where
    abbrev pub more : List Node
    more = ns ++ x ∷ []

    wide : length more ≡ length ns + 1
    wide = length-append ns (x ∷ [])

    old : (n : ℕ) → n < length ns → node_at more n ≡ node_at ns n
    old n b = get_or-append ns (x ∷ []) no_node n b

    new : node_at more (length ns) ≡ x
    new = get_or-append_seam ns x [] no_node

    -- what is true of each node and of the new one
    each : (P : Node → Type 0) → ((n : ℕ) → n < length ns → P (node_at ns n)) → P x → (n : ℕ) → n < length more → P (node_at more n)
    each P f g n b = elim (cases_lt n (length ns)) [
      | inl i ↦ subst P (sym (old n i)) (f n i)
      | inr i ↦ let j : n ≡ length ns = omega (arith, wide) in subst P (sym (ap (node_at more) j ∙ new)) g
    ]

    other_kind : kind_of x.text ≢ K.Root → (n : ℕ) → 0 < n → n < length more → kind_of (text_of more n) ≢ K.Root
    other_kind g n z b = elim (cases_lt n (length ns)) [
      | inl i ↦ subst (λ y. kind_of y.text ≢ K.Root) (sym (old n i)) (k.forest.others n z i)
      | inr i ↦ let j : n ≡ length ns = omega (arith, wide) in subst (λ y. kind_of y.text ≢ K.Root) (sym (ap (node_at more) j ∙ new)) g
    ]

    span_case : (span : Span) → IfSome x.span (IsSpanOf text) → x.span ≡ Some span → IsSpanOf text span
    span_case span g e = rw e at g

    other_span : IfSome x.span (IsSpanOf text) → (n : ℕ) (span : Span) → span_of more n ≡ Some span → IsSpanOf text span
    other_span g n span e = elim (cases_lt n (length ns)) [
      | inl i ↦ k.forest.spans n span (sym (ap (λ y. y.span) (old n i)) ∙ e)
      | inr i ↦ elim (cases_lt n (length more)) [
        | inl b ↦ let j : n ≡ length ns = omega (arith, wide) in span_case span g (sym (ap (λ y. y.span) (ap (node_at more) j ∙ new)) ∙ e)
        | inr b ↦ absurd (let o = ap (λ y. y.span) (get_or_past more n no_node b) in cc)
      ]
    ]

    parents : (n : ℕ) → parent_of more n ≡ parent_of ns n
    parents = field_pushed (λ y. y.parent) ns x loose

    lists : (n : ℕ) → children_of more n ≡ children_of ns n
    lists = field_pushed (λ y. y.children) ns x empty

    forest_more : length ns < 67108865 → kind_of x.text ≢ K.Root → IfSome x.span (IsSpanOf text) → IsForest (bare text more)
    forest_more few kind span = record {
      sound = IsSound-pushed ns x loose empty few k.forest.sound;
      some = omega (arith, wide);
      root = ap (λ y. kind_of y.text) (old 0 k.forest.some) ∙ k.forest.root;
      others = other_kind kind;
      containers = λ n p e.
          let f : parent_of ns n ≡ Some p = sym (parents n) ∙ e in
          subst (λ y. IsSome (block_of y.text)) (sym (old p (k.forest.sound.below n p f))) (k.forest.containers n p f);
      spans = other_span span;
      cursors = λ serial. tt;
    }

    more_last : (q : ℕ) (o : Option ℕ) → IsChildOf ns q o → IsChildOf more q o
    more_last q None i = tt
    more_last q (Some m) i = parents m ∙ i

    more_passed : (q : ℕ) (o : Option ℕ) → passed_of more q o ≡ passed_of ns q o
    more_passed q None = refl
    more_passed q (Some m) = ap (λ l. suc (position_or_len (eqb m) l)) (lists q)

    more_seat : (o : Option Seat) → IsSeat ns o → IsSeat more o
    more_seat None i = tt
    more_seat (Some s) i = (omega (arith, i.0, wide), subst (λ y. IsSome (block_of y.text)) (sym (old s.container i.0)) i.1, more_last s.container s.last i.2)

    more_place : (o : Option Seat) → IsSeat ns o → option_map (shown_seat more) o ≡ option_map (λ c. c) (option_map (shown_seat ns) o)
    more_place None i = refl
    more_place (Some s) i = let e = more_passed s.container s.last in cc

    pub Keeps-more : Keeps ns more (λ o. o) (λ c. c)
    Keeps-more = record { none = refl; seats = more_seat; shown = more_place }

  pub edited-made : (n : ℕ) (t : NodeText) (span : Option Span) (ms : List Node) → is_allowed ns (New n t span) ≡ true → IfSome span (IsSpanOf text) → n ≡ length ns → ms ≡ ns ++ new_node t span ∷ [] → Edited text ns ms ss ss (New n t span)
  edited-made n t span ms a g l e =
      let x : Node = new_node t span in
      let m = makeable ns n t span a in
      let same : Place → Place = λ c. c in
      let keeps = Keeps-more x refl refl in
      subst (λ y. Edited text ns y ss ss (New n t span)) (sym e) (record {
        stored = record { forest = forest_more x refl refl (let b = m.0 in omega arith) m.1 g; seats_in = same-seats ns (ns ++ x ∷ []) same keeps ss k.seats_in };
        shown = same-shown ns (ns ++ x ∷ []) same keeps ss k.seats_in;
      })

  -- a node that is marked or entered
  pub stored-marked : (n : ℕ) (d : Bool) (ms : List Node) → ms ≡ with_mark ns n d → IsStored text ms ss × (shown_seats ms ss ≡ shown_seats ns ss)
  stored-marked n d ms e =
      let us : List Node = with_mark ns n d in
      let m = SameButMarks-mark ns n d in
      let shape = SameShape-texts ns us m.links.same_length m.texts in
      let keeps = Keeps-same ns us m.links shape in
      let same : Place → Place = λ c. c in
      let all : IsStored text us ss × (shown_seats us ss ≡ shown_seats ns ss) = (
        record { forest = IsForest-linked_same text ns us k.forest shape m.links; seats_in = same-seats ns us same keeps ss k.seats_in },
        same-shown ns us same keeps ss k.seats_in ∙ each_same (shown_seats ns ss),
      ) in
      subst (λ x. IsStored text x ss × (shown_seats x ss ≡ shown_seats ns ss)) (sym e) all
