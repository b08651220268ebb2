-- What the frames owe, as one is taken and others are put.
use Rattle.std.proofs.Common.{◌≡◌, ℕ, suc, ◌+◌, ◌<◌, ◌≤◌, List, [], ◌∷◌, ◌++◌, length, Option, Some, None, refl, ap, sym, ◌∙◌, arith, append-nil, append_assoc, length-append, slice_get, subst, All}
use Rattle.css_text.specs.declared.lexer.Span.{Span}
use Rattle.css_tree.specs.declared.node.NodeText.{NodeText}
use Rattle.node_rows.specs.Nodes.{Node, new_node, text_of, span_of, parent_of, children_of, place_of, child_after, siblings, next_sibling_of, from_number}
use Rattle.node_rows.specs.Sound.{IsSound}
use Rattle.node_rows.specs.NumberTrees.{NumberTrees, no_trees, tree, number_trees, numbers, below}
use Rattle.std.proofs.Math.ListN.{get_or-append}
use Rattle.std.proofs.Math.Seq.{get_or-append_seam}
use Rattle.std.proofs.lemmas.List.Elements.{All-append, All-nil, All-cons}
use Rattle.node_rows.proofs.Behind.{from-next, sibling-some, first-some, place_is}
use Rattle.node_rows.proofs.Edits.{listed_once}
use Rattle.node_rows.proofs.Levels.{number_trees-more, number_trees-none}
use Rattle.node_store.specs.declared.item.Edit.{Edit}
use Rattle.node_store.specs.declared.item.Edit.TheVariants.{Set, SetRaw, New, Insert, Remove}
use Rattle.node_store.specs.declared.frame.Frame.{Frame}
use Rattle.node_store.specs.Copies.{copied_trees, copied, tree_size}
use Rattle.node_store.specs.Growth.{news, frame_trees, owed_size, owed, frame_list, IsFrame}
use Rattle.node_store.proofs.Ahead.{front-case}

no_more : (next : ℕ) → next + 0 ≡ next
no_more next = omega arith

module _ (ns : List Node) where
  owed_size-push : (fs : List Frame) (f : Frame) → owed_size ns (fs ++ f ∷ []) ≡ owed_size ns fs + length (numbers (frame_trees ns f))
  owed_size-push [] f = omega arith
  owed_size-push (g ∷ fs) f = let h = owed_size-push fs f in omega arith

  pub owed-push : (fs : List Frame) (f : Frame) (next : ℕ) → owed ns (fs ++ f ∷ []) next ≡ copied_trees ns (frame_trees ns f) f.parent f.at next ++ owed ns fs (next + length (numbers (frame_trees ns f)))
  owed-push [] f next = ap (copied_trees ns (frame_trees ns f) f.parent f.at) (no_more next) ∙ sym (append-nil (copied_trees ns (frame_trees ns f) f.parent f.at next))
  owed-push (g ∷ fs) f next =
      let k : ℕ = length (numbers (frame_trees ns f)) in
      let last : ℕ → List Edit = copied_trees ns (frame_trees ns g) g.parent g.at in
      let first : List Edit = copied_trees ns (frame_trees ns f) f.parent f.at next in
      let e : next + owed_size ns (fs ++ f ∷ []) ≡ next + k + owed_size ns fs = let h = owed_size-push fs f in omega arith in
      ap (λ l. l ++ last (next + owed_size ns (fs ++ f ∷ []))) (owed-push fs f next)
      ∙ (append_assoc first (owed ns fs (next + k)) (last (next + owed_size ns (fs ++ f ∷ [])))
      ∙ ap (λ j. first ++ (owed ns fs (next + k) ++ last j)) e)

  abbrev pub of_number : Option ℕ → NumberTrees
  of_number o = number_trees ns (from_number ns o)

  pub owed-frames : (fs : List Frame) (o : Option ℕ) (p at next : ℕ) → owed ns (fs ++ frame_list o p at) next ≡ copied_trees ns (of_number o) p at next ++ owed ns fs (next + length (numbers (of_number o)))
  owed-frames fs None p at next =
      let e = number_trees-none ns in
      ap (λ l. owed ns l next) (append-nil fs)
      ∙ (ap (owed ns fs) (sym (no_more next))
      ∙ ap (λ t. copied_trees ns t p at next ++ owed ns fs (next + length (numbers t))) (sym e))
  owed-frames fs (Some n) p at next = owed-push fs (record { node = n; parent = p; at = at }) next

  -- a frame is taken: its node is copied, and those behind it and below it are owed
  module _ (s : IsSound ns) where
    pub owed-step : (fs : List Frame) (f : Frame) (next : ℕ) → f.node < length ns
        → owed ns (fs ++ f ∷ []) next ≡ New next (text_of ns f.node) (span_of ns f.node) ∷ Insert next f.parent f.at ∷ owed ns ((fs ++ frame_list (next_sibling_of ns f.node) f.parent (suc f.at)) ++ frame_list (slice_get (children_of ns f.node) 0) next 0) (suc next)
    owed-step fs f next b =
        let m : ℕ = f.node in
        let c : NumberTrees = below ns m in
        let r : NumberTrees = number_trees ns (siblings ns m) in
        let q : ℕ = length (numbers c) in
        let more = number_trees-more ns s m (siblings ns m) b in
        let front : of_number (slice_get (children_of ns m) 0) ≡ c = ap (number_trees ns) (front-case ns s m (slice_get (children_of ns m) 0) refl) in
        let behind : of_number (next_sibling_of ns m) ≡ r = ap (number_trees ns) (from-next ns s m) in
        let head : List Edit → List Edit = λ l. New next (text_of ns m) (span_of ns m) ∷ Insert next f.parent f.at ∷ l in
        let a : List Edit = copied_trees ns c next 0 (suc next) in
        let d : List Edit = copied_trees ns r f.parent (suc f.at) (suc next + q) in
        let rest : List Edit = owed ns fs (suc next + q + length (numbers r)) in
        let whole : owed ns (fs ++ f ∷ []) next ≡ head ((a ++ d) ++ owed ns fs (next + suc (length (numbers c ++ numbers r)))) = owed-push fs f next ∙ ap (λ t. copied_trees ns t f.parent f.at next ++ owed ns fs (next + length (numbers t))) more in
        let size : next + suc (length (numbers c ++ numbers r)) ≡ suc next + q + length (numbers r) = omega (arith, length-append (numbers c) (numbers r)) in
        let one : owed ns ((fs ++ frame_list (next_sibling_of ns m) f.parent (suc f.at)) ++ frame_list (slice_get (children_of ns m) 0) next 0) (suc next) ≡ a ++ owed ns (fs ++ frame_list (next_sibling_of ns m) f.parent (suc f.at)) (suc next + q) =
        owed-frames (fs ++ frame_list (next_sibling_of ns m) f.parent (suc f.at)) (slice_get (children_of ns m) 0) next 0 (suc next)
        ∙ ap (λ t. copied_trees ns t next 0 (suc next) ++ owed ns (fs ++ frame_list (next_sibling_of ns m) f.parent (suc f.at)) (suc next + length (numbers t))) front in
        let two : owed ns (fs ++ frame_list (next_sibling_of ns m) f.parent (suc f.at)) (suc next + q) ≡ d ++ rest =
        owed-frames fs (next_sibling_of ns m) f.parent (suc f.at) (suc next + q)
        ∙ ap (λ t. copied_trees ns t f.parent (suc f.at) (suc next + q) ++ owed ns fs (suc next + q + length (numbers t))) behind in
        whole
        ∙ (ap (λ k. head ((a ++ d) ++ owed ns fs k)) size
        ∙ (ap head (append_assoc a d rest) ∙ ap head (sym (one ∙ ap (λ l. a ++ l) two))))

    -- the same, over what the calls have pushed
    pub owed-taken : (fs s1 s2 : List Frame) (f : Frame) (n : ℕ) → f.node < length ns → (es e1 e2 : List Edit) (o1 o2 : Option ℕ) (k p : ℕ)
        → e1 ≡ es ++ New n (text_of ns f.node) (span_of ns f.node) ∷ [] → e2 ≡ e1 ++ Insert k p f.at ∷ [] → k ≡ n → p ≡ f.parent
        → o1 ≡ next_sibling_of ns f.node → s1 ≡ fs ++ frame_list o1 f.parent (f.at + 1) → o2 ≡ slice_get (children_of ns f.node) 0 → s2 ≡ s1 ++ frame_list o2 n 0
        → e2 ++ owed ns s2 (suc n) ≡ es ++ owed ns (fs ++ f ∷ []) n
    owed-taken fs s1 s2 f n b es e1 e2 o1 o2 k p a1 a2 ek ep b1 c1 b2 c2 =
        let x : Edit = New n (text_of ns f.node) (span_of ns f.node) in
        let y : Edit = Insert n f.parent f.at in
        let more : f.at + 1 ≡ suc f.at = omega arith in
        let edits : e2 ≡ es ++ x ∷ y ∷ [] = a2 ∙ (ap (λ j. e1 ++ Insert j p f.at ∷ []) ek ∙ (ap (λ q. e1 ++ Insert n q f.at ∷ []) ep ∙ (ap (λ l. l ++ y ∷ []) a1 ∙ append_assoc es (x ∷ []) (y ∷ [])))) in
        let stack : s2 ≡ (fs ++ frame_list (next_sibling_of ns f.node) f.parent (suc f.at)) ++ frame_list (slice_get (children_of ns f.node) 0) n 0 =
        c2 ∙ (ap (λ l. l ++ frame_list o2 n 0) (c1 ∙ (ap (λ o. fs ++ frame_list o f.parent (f.at + 1)) b1 ∙ ap (λ q. fs ++ frame_list (next_sibling_of ns f.node) f.parent q) more))
        ∙ ap (λ o. (fs ++ frame_list (next_sibling_of ns f.node) f.parent (suc f.at)) ++ frame_list o n 0) b2) in
        ap (λ l. l ++ owed ns s2 (suc n)) edits
        ∙ (ap (λ l. (es ++ x ∷ y ∷ []) ++ owed ns l (suc n)) stack
        ∙ (append_assoc es (x ∷ y ∷ []) (owed ns ((fs ++ frame_list (next_sibling_of ns f.node) f.parent (suc f.at)) ++ frame_list (slice_get (children_of ns f.node) 0) n 0) (suc n))
        ∙ ap (λ l. es ++ l) (sym (owed-step fs f n b))))

    sibling_frame : (f : Frame) (q c : ℕ) → parent_of ns f.node ≡ Some q → f.at ≡ place_of ns q f.node → next_sibling_of ns f.node ≡ Some c → IsFrame ns (record { node = c; parent = f.parent; at = f.at + 1 })
    sibling_frame f q c e a g =
        let t = (sibling-some ns s f.node q c e g).0 in
        let h = place_is c (children_of ns q) (place_of ns q f.node + 1) (listed_once ns c q s t) (sym (ap (child_after ns f.node) e) ∙ g) in
        (q, t, omega arith)

    child_frame : (m n c : ℕ) → slice_get (children_of ns m) 0 ≡ Some c → IsFrame ns (record { node = c; parent = n; at = 0 })
    child_frame m n c g =
        let t = (first-some ns s m c g).0 in
        (m, t, sym (place_is c (children_of ns m) 0 (listed_once ns c m s t) g))

    behind_frames : (f : Frame) → IsFrame ns f → (o : Option ℕ) → o ≡ next_sibling_of ns f.node → All (IsFrame ns) (frame_list o f.parent (f.at + 1))
    behind_frames f h None e = All-nil (IsFrame ns)
    behind_frames f h (Some c) e = All-cons (IsFrame ns) _ [] (sibling_frame f h.0 c h.1 h.2 (sym e)) (All-nil (IsFrame ns))

    below_frames : (m n : ℕ) (o : Option ℕ) → o ≡ slice_get (children_of ns m) 0 → All (IsFrame ns) (frame_list o n 0)
    below_frames m n None e = All-nil (IsFrame ns)
    below_frames m n (Some c) e = All-cons (IsFrame ns) _ [] (child_frame m n c (sym e)) (All-nil (IsFrame ns))

    pub frames-first : (top n : ℕ) (o : Option ℕ) (s1 : List Frame) → o ≡ slice_get (children_of ns top) 0 → s1 ≡ [] ++ frame_list o n 0 → All (IsFrame ns) s1
    frames-first top n o s1 e g = subst (All (IsFrame ns)) (sym g) (below_frames top n o e)

    pub frames-taken : (fs s1 s2 : List Frame) (f : Frame) (n : ℕ) (o1 o2 : Option ℕ) → IsFrame ns f → o1 ≡ next_sibling_of ns f.node → s1 ≡ fs ++ frame_list o1 f.parent (f.at + 1) → o2 ≡ slice_get (children_of ns f.node) 0 → s2 ≡ s1 ++ frame_list o2 n 0
        → All (IsFrame ns) fs → All (IsFrame ns) s2
    frames-taken fs s1 s2 f n o1 o2 h b1 c1 b2 c2 all =
        subst (All (IsFrame ns)) (sym c2)
        (All-append (IsFrame ns) s1 (frame_list o2 n 0)
        (subst (All (IsFrame ns)) (sym c1) (All-append (IsFrame ns) fs (frame_list o1 f.parent (f.at + 1)) all (behind_frames f h o1 b1)))
        (below_frames f.node n o2 b2))

    -- the first frame
    owed-first : (top first : ℕ) → owed ns (frame_list (slice_get (children_of ns top) 0) first 0) (suc first) ≡ copied_trees ns (below ns top) first 0 (suc first)
    owed-first top first =
        let front : of_number (slice_get (children_of ns top) 0) ≡ below ns top = ap (number_trees ns) (front-case ns s top (slice_get (children_of ns top) 0) refl) in
        owed-frames [] (slice_get (children_of ns top) 0) first 0 (suc first)
        ∙ (append-nil (copied_trees ns (of_number (slice_get (children_of ns top) 0)) first 0 (suc first)) ∙ ap (λ t. copied_trees ns t first 0 (suc first)) front)

    -- the last frame, and those before it
    pub frame-last : (st st0 : List Frame) (f : Frame) → st0 ≡ st ++ f ∷ [] → All (IsFrame ns) st0 → IsFrame ns f
    frame-last st st0 f e all = subst (IsFrame ns) (get_or-append_seam st f [] f) (subst (All (IsFrame ns)) e all (length st) f (omega (arith, length-append st (f ∷ []))))

    pub frames-before : (st st0 : List Frame) (f : Frame) → st0 ≡ st ++ f ∷ [] → All (IsFrame ns) st0 → All (IsFrame ns) st
    frames-before st st0 f e all = λ k d b. subst (IsFrame ns) (get_or-append st (f ∷ []) d k b) (subst (All (IsFrame ns)) e all k d (omega (arith, length-append st (f ∷ []))))

    -- a turn keeps the whole
    pub whole-kept : (es e2 all : List Edit) (st0 st s2 : List Frame) (f : Frame) (number k k2 : ℕ) → e2 ++ owed ns s2 (suc number) ≡ es ++ owed ns (st ++ f ∷ []) number → st0 ≡ st ++ f ∷ [] → number ≡ length ns + k → k2 ≡ k + 1 → es ++ owed ns st0 (length ns + k) ≡ all → e2 ++ owed ns s2 (length ns + k2) ≡ all
    whole-kept es e2 all st0 st s2 f number k k2 a b c d g =
        let n : length ns + k2 ≡ suc number = omega arith in
        ap (λ j. e2 ++ owed ns s2 j) n
        ∙ (a ∙ (ap (λ l. es ++ owed ns l number) (sym b) ∙ (ap (λ j. es ++ owed ns st0 j) c ∙ g)))

    pub whole-first : (top first k : ℕ) (es : List Edit) (o : Option ℕ) (st : List Frame) → first ≡ length ns → k ≡ 1 → es ≡ [] ++ New first (text_of ns top) (span_of ns top) ∷ [] → o ≡ slice_get (children_of ns top) 0 → st ≡ [] ++ frame_list o first 0 → es ++ owed ns st (length ns + k) ≡ copied ns top
    whole-first top first k es o st a b c d e =
        let n : length ns + k ≡ suc (length ns) = omega arith in
        let x : ℕ → Edit = λ j. New j (text_of ns top) (span_of ns top) in
        ap (λ j. es ++ owed ns st j) n
        ∙ (ap (λ l. l ++ owed ns st (suc (length ns))) (c ∙ ap (λ j. x j ∷ []) a)
        ∙ ap (λ l. x (length ns) ∷ l)
        (ap (λ l. owed ns l (suc (length ns))) (e ∙ (ap (λ q. frame_list q first 0) d ∙ ap (λ j. frame_list (slice_get (children_of ns top) 0) j 0) a)) ∙ owed-first top (length ns)))

pub news-append : (es fs : List Edit) → news (es ++ fs) ≡ news es ++ news fs
news-append [] fs = refl
news-append (New n t s ∷ es) fs = ap (λ l. new_node t s ∷ l) (news-append es fs)
news-append (Insert n p at ∷ es) fs = news-append es fs
news-append (Set x n t ∷ es) fs = news-append es fs
news-append (SetRaw x n t ∷ es) fs = news-append es fs
news-append (Remove n ∷ es) fs = news-append es fs

news_trees : (ns : List Node) (t : NumberTrees) (p at next : ℕ) → length (news (copied_trees ns t p at next)) ≡ length (numbers t)
news_trees ns no_trees p at next = refl
news_trees ns (tree m c r) p at next =
    let a : List Edit = copied_trees ns c next 0 (suc next) in
    let b : List Edit = copied_trees ns r p (suc at) (suc next + length (numbers c)) in
    let e = ap length (news-append a b) in
    omega (arith, e, length-append (news a) (news b), length-append (numbers c) (numbers r), news_trees ns c next 0 (suc next), news_trees ns r p (suc at) (suc next + length (numbers c)))

-- a copy makes as many nodes as the tree has
pub news-size : (ns : List Node) (n : ℕ) → length (news (copied ns n)) ≡ tree_size ns n
news-size ns n = ap suc (news_trees ns (below ns n) (length ns) 0 (suc (length ns)))

-- the nodes that are made with one more node, and an insertion
pub news-taken : (es e1 e2 : List Edit) (ns n1 : List Node) (n k p at : ℕ) (t : NodeText) (span : Option Span) → e1 ≡ es ++ New n t span ∷ [] → e2 ≡ e1 ++ Insert k p at ∷ [] → n1 ≡ ns ++ new_node t span ∷ [] → ns ≡ news es → n1 ≡ news e2
news-taken es e1 e2 ns n1 n k p at t span a b c e =
    c ∙ (ap (λ l. l ++ new_node t span ∷ []) e
    ∙ (sym (news-append es (New n t span ∷ [])) ∙ (ap news (sym a) ∙ (sym (append-nil (news e1)) ∙ (sym (news-append e1 (Insert k p at ∷ [])) ∙ ap news (sym b))))))

pub news-one : (es : List Edit) (n : ℕ) (t : NodeText) (span : Option Span) → es ≡ [] ++ New n t span ∷ [] → news es ≡ new_node t span ∷ []
news-one es n t span e = ap news e

-- there are no more planned than the whole plan makes
pub news-few : (ns : List Node) (top : ℕ) (es rest : List Edit) (made : List Node) → es ++ rest ≡ copied ns top → made ≡ news es → length made ≤ tree_size ns top
news-few ns top es rest made e g =
    let a = ap length (news-append es rest) in
    let b = ap (λ l. length (news l)) e in
    let c = length-append (news es) (news rest) in
    let d = news-size ns top in
    let f = ap length g in
    omega arith
