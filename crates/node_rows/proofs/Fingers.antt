-- The finger stays at its place where the children of its parent stay.
use Rattle.std.proofs.Common.{◌≡◌, ℕ, zero, suc, ◌<◌, length, remove, ◌+◌, ◌-◌, arith, List, [], ◌∷◌, ◌++◌, map, Option, Some, None, Bool, refl, ap, sym, ◌∙◌, subst, append-nil, append_assoc, slice_get}
use Rattle.css_text.specs.declared.lexer.Span.{Span}
use Rattle.css_tree.specs.declared.node.NodeText.{NodeText}
use Rattle.node_rows.specs.declared.finger.Finger.{Finger}
use Rattle.node_rows.specs.declared.growth.NewNode.{NewNode}
use Rattle.node_rows.specs.Growth.{made}
use Rattle.node_rows.specs.Nodes.{Node, parent_of, children_of, place_of, before_place, child_before, child_after, previous_sibling_of, next_sibling_of, unlinked, with_text}
use Rattle.node_rows.specs.Sound.{IsSound}
use Rattle.node_rows.specs.Fingers.{IsFinger}
use Rattle.node_rows.specs.Marks.{with_mark}
use Rattle.node_rows.specs.Ends.{with_span}
use Rattle.node_rows.proofs.Behind.{place_is, child_parent}
use Rattle.node_rows.proofs.Edits.{Relinked, Relinked-writes, field_pushed, listed_once, parent-inside}
use Rattle.node_rows.proofs.Fields.{field_kept}
use Rattle.node_rows.proofs.Places.{place-inside}
use Rattle.node_rows.proofs.Short.{child-inside}

pub IsFinger-kept : (ns ms : List Node) (o : Option Finger) → ((q : ℕ) → children_of ms q ≡ children_of ns q) → IsFinger ns o → IsFinger ms o
IsFinger-kept ns ms None h f = tt
IsFinger-kept ns ms (Some x) h f = ap (λ l. slice_get l x.place) (h x.parent) ∙ f

pub IsFinger-dirty : (ns : List Node) (n : ℕ) (d : Bool) (o : Option Finger) → IsFinger ns o → IsFinger (with_mark ns n d) o
IsFinger-dirty ns n d o f = IsFinger-kept ns (with_mark ns n d) o (field_kept (λ x. x.children) ns n _ refl) f

pub IsFinger-text : (ns : List Node) (n : ℕ) (t : NodeText) (o : Option Finger) → IsFinger ns o → IsFinger (with_text ns n t) o
IsFinger-text ns n t o f = IsFinger-kept ns (with_text ns n t) o (field_kept (λ x. x.children) ns n _ refl) f

pub IsFinger-span : (ns : List Node) (n : ℕ) (s : Option Span) (o : Option Finger) → IsFinger ns o → IsFinger (with_span ns n s) o
IsFinger-span ns n s o f = IsFinger-kept ns (with_span ns n s) o (field_kept (λ x. x.children) ns n _ refl) f

pub IsFinger-pushed : (ns : List Node) (x : Node) (o : Option Finger) → x.children ≡ [] → IsFinger ns o → IsFinger (ns ++ x ∷ []) o
IsFinger-pushed ns x o e f = IsFinger-kept ns (ns ++ x ∷ []) o (field_pushed (λ y. y.children) ns x e) f

pub IsFinger-grown : (xs : List NewNode) (ns : List Node) (o : Option Finger) → IsFinger ns o → IsFinger (ns ++ map made xs) o
IsFinger-grown [] ns o f = subst (λ ms. IsFinger ms o) (sym (append-nil ns)) f
IsFinger-grown (x ∷ xs) ns o f =
    subst (λ ms. IsFinger ms o) (append_assoc ns (made x ∷ []) (map made xs)) (IsFinger-grown xs (ns ++ made x ∷ []) o (IsFinger-pushed ns (made x) o refl f))

-- where the finger is at a child, its place is the child's
pub finger-place : (ns : List Node) (x : Finger) (p c : ℕ) → IsSound ns → IsFinger ns (Some x) → x.node ≡ c → parent_of ns c ≡ Some p → place_of ns p c ≡ x.place
finger-place ns x p c s f i e =
    let g : slice_get (children_of ns x.parent) x.place ≡ Some c = f ∙ ap (λ n. Some n) i in
    let h = child_parent ns (slice_get (children_of ns x.parent) x.place) x.parent c (child-inside ns x.parent x.place s) g in
    let j : p ≡ x.parent = cc in
    rw j (place_is c (children_of ns x.parent) x.place (listed_once ns c x.parent s h) g)

-- only n's parent and p's children differ
module _ (ns ms : List Node) (p n : ℕ) (xs : List ℕ) (o : Option ℕ) (r : Relinked ns ms p n xs o) where
  IsFinger-here : (x : Finger) → x.parent ≡ p → slice_get xs x.place ≡ Some x.node → IsFinger ms (Some x)
  IsFinger-here x e f = ap (λ l. slice_get l x.place) (ap (children_of ms) e ∙ r.list_here) ∙ f

earlier_left : (xs : List ℕ) (i : ℕ) → slice_get (remove xs (suc i)) i ≡ slice_get xs i
earlier_left [] i = refl
earlier_left (x ∷ xs) zero = refl
earlier_left (x ∷ xs) (suc i) = earlier_left xs i

later_left : (xs : List ℕ) (i : ℕ) → i < length xs → slice_get (remove xs i) i ≡ slice_get xs (i + 1)
later_left [] i h = absurd (omega arith)
later_left (x ∷ xs) zero h = refl
later_left (x ∷ xs) (suc i) h = let e : suc i + 1 ≡ suc (i + 1) = omega arith in rw e (later_left xs i (omega arith))

-- the finger beside the child n of p, once that is taken out
module _ (ns : List Node) (s : IsSound ns) (p n : ℕ) (e : parent_of ns n ≡ Some p) where
  abbrev at : ℕ
  at = place_of ns p n

  cuts : Relinked ns (unlinked ns p at n) p n (remove (children_of ns p) at) None
  cuts = Relinked-writes ns p n (remove (children_of ns p) at) None (s.below n p e) (parent-inside ns n p e)

  before_case : (c i : ℕ) → before_place (children_of ns p) i ≡ Some c → slice_get (remove (children_of ns p) i) (i - 1) ≡ Some c
  before_case c zero g = absurd cc
  before_case c (suc i) g = let h : suc i - 1 ≡ i = omega arith in rw h (earlier_left (children_of ns p) i ∙ g)

  pub IsFinger-before : (x : Finger) → x.parent ≡ p → x.place ≡ at - 1 → previous_sibling_of ns n ≡ Some x.node → IsFinger (unlinked ns p at n) (Some x)
  IsFinger-before x d h g =
      IsFinger-here ns _ p n (remove (children_of ns p) at) None cuts x d
      (ap (slice_get (remove (children_of ns p) at)) h ∙ before_case x.node at (sym (ap (child_before ns n) e) ∙ g))

  pub IsFinger-behind : (x : Finger) → x.parent ≡ p → x.place ≡ at → next_sibling_of ns n ≡ Some x.node → IsFinger (unlinked ns p at n) (Some x)
  IsFinger-behind x d h g =
      IsFinger-here ns _ p n (remove (children_of ns p) at) None cuts x d
      (ap (slice_get (remove (children_of ns p) at)) h ∙ (later_left (children_of ns p) at (place-inside ns s n p e) ∙ (sym (ap (child_after ns n) e) ∙ g)))
