-- What changes leave of the nodes' kinds, blocks and spans, so that a forest stays one.
use Rattle.std.proofs.Common.{◌≡◌, ℕ, ◌<◌, List, [], ◌∷◌, Bool, true, length, Some, IsSome, refl, ap, sym, ◌∙◌, subst, length-set, inl, inr}
use Rattle.std.proofs.lemmas.Bool.{cases_Bool, cases_eq}
use Rattle.css_tree.specs.declared.node.NodeText.{NodeText}
use Rattle.css_tree.specs.Parts.{kind_of, block_of}
use Rattle.node_rows.specs.Nodes.{Node, parent_of, text_of, span_of, is_dirty, path, linked, unlinked, with_text}
use Rattle.node_rows.specs.Sound.{IsSound}
use Rattle.node_rows.specs.NumberTrees.{numbers_below}
use Rattle.node_rows.specs.Marks.{with_mark, all_dirty, mark, dirtied}
use Rattle.node_rows.proofs.Fields.{field_kept, field_same, field_other}
use Rattle.node_rows.proofs.SameLinks.{SameLinks, SameTexts, SameLinks-self, SameTexts-self, SameLinks-marked, SameTexts-marked, IsSound-same}
use Rattle.node_store.specs.Forest.{IsForest}
use Rattle.node_store.specs.Seats.{bare}

-- kinds, blocks and spans are as they were
pub record SameShape (ns ms : List Node) : Type 0 where
  pub same_length : length ms ≡ length ns
  pub kinds : (n : ℕ) → kind_of (text_of ms n) ≡ kind_of (text_of ns n)
  pub blocks : (n : ℕ) → IsSome (block_of (text_of ns n)) → IsSome (block_of (text_of ms n))
  pub spans : (n : ℕ) → span_of ms n ≡ span_of ns n

pub SameShape-texts : (ns ms : List Node) → length ms ≡ length ns → SameTexts ns ms → SameShape ns ms
SameShape-texts ns ms l h = record {
  same_length = l;
  kinds = λ n. ap kind_of (h.texts n);
  blocks = λ n b. subst (λ t. IsSome (block_of t)) (sym (h.texts n)) b;
  spans = h.spans;
}

pub IsForest-shaped : (text : List ℕ) (ns ms : List Node) → IsForest (bare text ns) → SameShape ns ms → IsSound ms → ((n p : ℕ) → parent_of ms n ≡ Some p → IsSome (block_of (text_of ns p))) → IsForest (bare text ms)
IsForest-shaped text ns ms f h s c = record {
  sound = s;
  some = rw h.same_length f.some;
  root = h.kinds 0 ∙ f.root;
  others = λ n z b e. f.others n z (rw (← h.same_length) b) (sym (h.kinds n) ∙ e);
  containers = λ n p e. h.blocks p (c n p e);
  spans = λ n span e. f.spans n span (sym (h.spans n) ∙ e);
  cursors = λ serial. tt;
}

-- where links stay too
pub IsForest-linked_same : (text : List ℕ) (ns ms : List Node) → IsForest (bare text ns) → SameShape ns ms → SameLinks ns ms → IsForest (bare text ms)
IsForest-linked_same text ns ms f h l =
    IsForest-shaped text ns ms f h (IsSound-same ns ms l f.sound) (λ n p e. f.containers n p (sym (l.parents n) ∙ e))

pub SameLinks-then : (ns ls ms : List Node) → SameLinks ns ls → SameLinks ls ms → SameLinks ns ms
SameLinks-then ns ls ms a b = record {
  same_length = b.same_length ∙ a.same_length;
  parents = λ n. b.parents n ∙ a.parents n;
  lists = λ n. b.lists n ∙ a.lists n;
}

pub SameTexts-then : (ns ls ms : List Node) → SameTexts ns ls → SameTexts ls ms → SameTexts ns ms
SameTexts-then ns ls ms a b = record {
  texts = λ n. b.texts n ∙ a.texts n;
  spans = λ n. b.spans n ∙ a.spans n;
}

-- marks alone differ
pub record SameButMarks (ns ms : List Node) : Type 0 where
  pub links : SameLinks ns ms
  pub texts : SameTexts ns ms

pub SameButMarks-self : (ns : List Node) → SameButMarks ns ns
SameButMarks-self ns = record { links = SameLinks-self ns; texts = SameTexts-self ns }

pub SameButMarks-then : (ns ls ms : List Node) → SameButMarks ns ls → SameButMarks ls ms → SameButMarks ns ms
SameButMarks-then ns ls ms a b = record { links = SameLinks-then ns ls ms a.links b.links; texts = SameTexts-then ns ls ms a.texts b.texts }

pub SameButMarks-mark : (ns : List Node) (n : ℕ) (d : Bool) → SameButMarks ns (with_mark ns n d)
SameButMarks-mark ns n d = record { links = SameLinks-marked ns ns n d (SameLinks-self ns); texts = SameTexts-marked ns ns n d (SameTexts-self ns) }

all_marked : (ns ms : List Node) (is : List ℕ) → SameButMarks ns ms → SameButMarks ns (all_dirty ms is)
all_marked ns ms [] h = h
all_marked ns ms (i ∷ is) h = all_marked ns (with_mark ms i true) is (SameButMarks-then ns ms (with_mark ms i true) h (SameButMarks-mark ms i true))

pub marked-same : (ns : List Node) (n : ℕ) → SameButMarks ns (mark ns n)
unfolding mark
marked-same ns n = elim (cases_Bool (is_dirty ns n)) [ inl t ↦ rw t (SameButMarks-self ns) | inr f ↦ rw f (all_marked ns ns (path ns n) (SameButMarks-self ns)) ]

pub dirtied-same : (ns : List Node) (n : ℕ) → SameButMarks ns (dirtied ns n)
unfolding dirtied
dirtied-same ns n = all_marked ns ns (n ∷ numbers_below ns n) (SameButMarks-self ns)

pub IsForest-marked : (text : List ℕ) (ns ms : List Node) → IsForest (bare text ns) → SameButMarks ns ms → IsForest (bare text ms)
IsForest-marked text ns ms f h = IsForest-linked_same text ns ms f (SameShape-texts ns ms h.links.same_length h.texts) h.links

pub linked-texts : (ns : List Node) (p at n : ℕ) → SameTexts ns (linked ns p at n)
linked-texts ns p at n = record {
  texts = λ m. field_kept (λ x. x.text) _ n _ refl m ∙ field_kept (λ x. x.text) ns p _ refl m;
  spans = λ m. field_kept (λ x. x.span) _ n _ refl m ∙ field_kept (λ x. x.span) ns p _ refl m;
}

pub unlinked-texts : (ns : List Node) (p at n : ℕ) → SameTexts ns (unlinked ns p at n)
unlinked-texts ns p at n = record {
  texts = λ m. field_kept (λ x. x.text) _ n _ refl m ∙ field_kept (λ x. x.text) ns p _ refl m;
  spans = λ m. field_kept (λ x. x.span) _ n _ refl m ∙ field_kept (λ x. x.span) ns p _ refl m;
}

-- another text of the same kind, with a block where it was one
module _ (ns : List Node) (n : ℕ) (t : NodeText) (kind : kind_of t ≡ kind_of (text_of ns n)) (block : IsSome (block_of (text_of ns n)) → IsSome (block_of t)) (b : n < length ns) where
  pub SameShape-text : SameShape ns (with_text ns n t)
  SameShape-text = record {
    same_length = length-set _ _ _;
    kinds = λ m. elim (cases_eq m n) [
      | inl e ↦ rw e (ap kind_of (field_same (λ x. x.text) ns n _ b) ∙ kind)
      | inr d ↦ ap kind_of (field_other (λ x. x.text) ns n _ m d)
    ];
    blocks = λ m h. elim (cases_eq m n) [
      | inl e ↦ subst (λ k. IsSome (block_of (text_of (with_text ns n t) k))) (sym e) (subst (λ x. IsSome (block_of x)) (sym (field_same (λ x. x.text) ns n _ b)) (block (subst (λ k. IsSome (block_of (text_of ns k))) e h)))
      | inr d ↦ subst (λ x. IsSome (block_of x)) (sym (field_other (λ x. x.text) ns n _ m d)) h
    ];
    spans = λ m. field_kept (λ x. x.span) ns n _ refl m;
  }
