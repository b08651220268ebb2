-- What each change leaves of each node, and what it makes of it.
use Rattle.std.proofs.Common.{◌≡◌, ◌≢◌, ℕ, ◌<◌, List, [], ◌∷◌, Bool, true, false, not, ◌&&◌, ◌||◌, length, Option, Some, None, refl, ap, sym, ◌∙◌, eqb, eq-eqb, insert, remove, length-set, inl, inr}
use Rattle.std.specs.List.{list_any}
use Rattle.std.proofs.lemmas.Bool.{cases_eq, ne_eqb}
use Rattle.css_tree.specs.declared.node.NodeText.{NodeText}
use Rattle.node_rows.specs.Nodes.{Node, node_at, parent_of, children_of, text_of, span_of, is_dirty, path, holds, place_of, linked, unlinked, with_text, with_parent, with_children}
use Rattle.node_rows.specs.NumberTrees.{numbers_below}
use Rattle.node_rows.specs.Marks.{with_mark, all_dirty, marked_where, mark, dirtied}
use Rattle.node_rows.specs.Sound.{IsSound}
use Rattle.node_rows.proofs.Below.{below-holds}
use Rattle.node_rows.proofs.Edits.{Relinked, Relinked-writes, IsSound-linked, IsSound-unlinked, parent-inside}
use Rattle.node_rows.proofs.Fields.{field_kept, field_other, field_same}
use Rattle.node_rows.proofs.Places.{place-inside, child-at-place}
use Rattle.node_rows.proofs.SameLinks.{SameLinks-text, IsSound-same, SameLinks, SameTexts, SameLinks-self, SameTexts-self, SameLinks-marked, SameTexts-marked}

-- a field that a write of a parent and one of children leave
relinked_kept : {A : Type 0} (f : Node → A) → ((x : Node) (o : Option ℕ) → f (record x { parent = o }) ≡ f x) → ((x : Node) (l : List ℕ) → f (record x { children = l }) ≡ f x) → (ns : List Node) (p n : ℕ) (xs : List ℕ) (o : Option ℕ) (m : ℕ) → f (node_at (with_parent (with_children ns p xs) n o) m) ≡ f (node_at ns m)
relinked_kept f h k ns p n xs o m = field_kept f _ n _ (h _ o) m ∙ field_kept f ns p _ (k _ xs) m

module _ (ns : List Node) (p at n : ℕ) where
  -- putting a node in and taking it out leave texts, spans and marks
  pub SameTexts-linked : SameTexts ns (linked ns p at n)
  SameTexts-linked = record {
    texts = relinked_kept (λ x. x.text) (λ x o. refl) (λ x l. refl) ns p n (insert (children_of ns p) at n) (Some p);
    spans = relinked_kept (λ x. x.span) (λ x o. refl) (λ x l. refl) ns p n (insert (children_of ns p) at n) (Some p);
  }

  pub dirty-linked : (m : ℕ) → is_dirty (linked ns p at n) m ≡ is_dirty ns m
  dirty-linked = relinked_kept (λ x. x.dirty) (λ x o. refl) (λ x l. refl) ns p n (insert (children_of ns p) at n) (Some p)

  pub Relinked-linked : p < length ns → n < length ns → Relinked ns (linked ns p at n) p n (insert (children_of ns p) at n) (Some p)
  Relinked-linked bp bn = Relinked-writes ns p n (insert (children_of ns p) at n) (Some p) bp bn

  pub SameTexts-unlinked : SameTexts ns (unlinked ns p at n)
  SameTexts-unlinked = record {
    texts = relinked_kept (λ x. x.text) (λ x o. refl) (λ x l. refl) ns p n (remove (children_of ns p) at) None;
    spans = relinked_kept (λ x. x.span) (λ x o. refl) (λ x l. refl) ns p n (remove (children_of ns p) at) None;
  }

  pub dirty-unlinked : (m : ℕ) → is_dirty (unlinked ns p at n) m ≡ is_dirty ns m
  dirty-unlinked = relinked_kept (λ x. x.dirty) (λ x o. refl) (λ x l. refl) ns p n (remove (children_of ns p) at) None

  pub Relinked-unlinked : p < length ns → n < length ns → Relinked ns (unlinked ns p at n) p n (remove (children_of ns p) at) None
  Relinked-unlinked bp bn = Relinked-writes ns p n (remove (children_of ns p) at) None bp bn

module _ (ns : List Node) (n : ℕ) (t : NodeText) where
  -- another text leaves the span and the mark of each node, and the texts of the others
  pub text-here : n < length ns → text_of (with_text ns n t) n ≡ t
  text-here b = field_same (λ x. x.text) ns n _ b

  pub text-other : (m : ℕ) → m ≢ n → text_of (with_text ns n t) m ≡ text_of ns m
  text-other m d = field_other (λ x. x.text) ns n _ m d

  pub span-with_text : (m : ℕ) → span_of (with_text ns n t) m ≡ span_of ns m
  span-with_text = field_kept (λ x. x.span) ns n _ refl

  pub dirty-with_text : (m : ℕ) → is_dirty (with_text ns n t) m ≡ is_dirty ns m
  dirty-with_text = field_kept (λ x. x.dirty) ns n _ refl

-- marks change nothing else
pub SameLinks-all : (ns ms : List Node) (is : List ℕ) → SameLinks ns ms → SameLinks ns (all_dirty ms is)
SameLinks-all ns ms [] h = h
SameLinks-all ns ms (i ∷ is) h = SameLinks-all ns (with_mark ms i true) is (SameLinks-marked ns ms i true h)

pub SameTexts-all : (ns ms : List Node) (is : List ℕ) → SameTexts ns ms → SameTexts ns (all_dirty ms is)
SameTexts-all ns ms [] h = h
SameTexts-all ns ms (i ∷ is) h = SameTexts-all ns (with_mark ms i true) is (SameTexts-marked ns ms i true h)

links_where : (ns : List Node) (n : ℕ) (b : Bool) → SameLinks ns (marked_where ns n b)
links_where ns n true = SameLinks-self ns
links_where ns n false = SameLinks-all ns ns (path ns n) (SameLinks-self ns)

texts_where : (ns : List Node) (n : ℕ) (b : Bool) → SameTexts ns (marked_where ns n b)
texts_where ns n true = SameTexts-self ns
texts_where ns n false = SameTexts-all ns ns (path ns n) (SameTexts-self ns)

module _ (ns : List Node) (n : ℕ) where
  pub SameLinks-mark : SameLinks ns (mark ns n)
  unfolding mark
  SameLinks-mark = links_where ns n (is_dirty ns n)

  pub SameTexts-mark : SameTexts ns (mark ns n)
  unfolding mark
  SameTexts-mark = texts_where ns n (is_dirty ns n)

  pub SameLinks-dirtied : SameLinks ns (dirtied ns n)
  unfolding dirtied
  SameLinks-dirtied = SameLinks-all ns ns (n ∷ numbers_below ns n) (SameLinks-self ns)

  pub SameTexts-dirtied : SameTexts ns (dirtied ns n)
  unfolding dirtied
  SameTexts-dirtied = SameTexts-all ns ns (n ∷ numbers_below ns n) (SameTexts-self ns)

-- which nodes are dirty then
pub dirty-marked : (ns : List Node) (n : ℕ) (d : Bool) → n < length ns → is_dirty (with_mark ns n d) n ≡ d
dirty-marked ns n d b = field_same (λ x. x.dirty) ns n _ b

pub dirty-other : (ns : List Node) (n : ℕ) (d : Bool) (m : ℕ) → m ≢ n → is_dirty (with_mark ns n d) m ≡ is_dirty ns m
dirty-other ns n d m h = field_other (λ x. x.dirty) ns n _ m h

or_true : (a : Bool) → (a || true) ≡ true
or_true true = refl
or_true false = refl

or_step : (a b c : Bool) → ((a || b) || c) ≡ (a || (b || c))
or_step true b c = refl
or_step false b c = refl

or_none : (a : Bool) → a ≡ (a || false)
or_none true = refl
or_none false = refl

dirty_one : (ns : List Node) (i m : ℕ) → m < length ns → is_dirty (with_mark ns i true) m ≡ (is_dirty ns m || eqb m i)
dirty_one ns i m b =
    elim (cases_eq m i) [
      | inl e ↦ rw (e, eq-eqb i i refl) (dirty-marked ns i true (rw (← e) b) ∙ sym (or_true (is_dirty ns i)))
      | inr d ↦ rw (ne_eqb m i d) (dirty-other ns i true m d ∙ or_none (is_dirty ns m))
    ]

pub dirty-all : (ns : List Node) (is : List ℕ) (m : ℕ) → m < length ns → is_dirty (all_dirty ns is) m ≡ (is_dirty ns m || list_any (eqb m) is)
dirty-all ns [] m b = or_none (is_dirty ns m)
dirty-all ns (i ∷ is) m b =
    let l : length (with_mark ns i true) ≡ length ns = length-set _ _ _ in
    dirty-all (with_mark ns i true) is m (rw l b)
    ∙ (ap (λ t. t || list_any (eqb m) is) (dirty_one ns i m b) ∙ or_step (is_dirty ns m) (eqb m i) (list_any (eqb m) is))

dirty_where : (ns : List Node) (n m : ℕ) (b : Bool) → m < length ns → is_dirty (marked_where ns n b) m ≡ (is_dirty ns m || (not b && holds ns m n))
dirty_where ns n m true h = or_none (is_dirty ns m)
dirty_where ns n m false h = dirty-all ns (path ns n) m h

-- a mark of a clean node makes it and its ancestors dirty
pub dirty-mark : (ns : List Node) (n m : ℕ) → m < length ns → is_dirty (mark ns n) m ≡ (is_dirty ns m || (not (is_dirty ns n) && holds ns m n))
unfolding mark
dirty-mark ns n m b = dirty_where ns n m (is_dirty ns n) b

pub dirty-dirtied : (ns : List Node) (n m : ℕ) → m < length ns → is_dirty (dirtied ns n) m ≡ (is_dirty ns m || list_any (eqb m) (n ∷ numbers_below ns n))
unfolding dirtied
dirty-dirtied ns n m b = dirty-all ns (n ∷ numbers_below ns n) m b

module _ (ns : List Node) (s : IsSound ns) where
  -- all that n holds is dirty then
  pub dirty-below : (n m : ℕ) → n < length ns → m < length ns → is_dirty (dirtied ns n) m ≡ (is_dirty ns m || holds ns n m)
  dirty-below n m bn b = dirty-dirtied ns n m b ∙ ap (λ t. is_dirty ns m || t) (below-holds ns s n bn m b)

  -- each change keeps the nodes sound
  pub sound-linked : (p at n : ℕ) → p < length ns → n < length ns → n ≢ 0 → parent_of ns n ≡ None → holds ns n p ≡ false → IsSound (linked ns p at n)
  sound-linked p at n bp bn nz loose apart = IsSound-linked ns _ p at n s (Relinked-linked ns p at n bp bn) bp bn nz loose apart

  pub sound-unlinked : (p n : ℕ) → parent_of ns n ≡ Some p → IsSound (unlinked ns p (place_of ns p n) n)
  sound-unlinked p n e =
      IsSound-unlinked ns _ p (place_of ns p n) n s (Relinked-unlinked ns p (place_of ns p n) n (s.below n p e) (parent-inside ns n p e)) e
      (place-inside ns s n p e) (child-at-place ns s n p e)

  pub sound-text : (n : ℕ) (t : NodeText) → IsSound (with_text ns n t)
  sound-text n t = IsSound-same ns _ (SameLinks-text ns n t) s

  pub sound-marked : (n : ℕ) (d : Bool) → IsSound (with_mark ns n d)
  sound-marked n d = IsSound-same ns _ (SameLinks-marked ns ns n d (SameLinks-self ns)) s

  pub sound-mark : (n : ℕ) → IsSound (mark ns n)
  sound-mark n = IsSound-same ns _ (SameLinks-mark ns n) s

  pub sound-dirtied : (n : ℕ) → IsSound (dirtied ns n)
  sound-dirtied n = IsSound-same ns _ (SameLinks-dirtied ns n) s
