-- The chain of ancestors as a relation.
use Rattle.std.proofs.Common.{◌⊎◌, inl, inr, ◌≡◌, ℕ, zero, suc, ◌<◌, List, [], Bool, true, false, length, Option, Some, None, refl, ap, sym, ◌∙◌, arith, eqb, ◌||◌}
use Rattle.std.specs.List.{list_any}
use Rattle.std.proofs.Common.{eq-eqb}
use Rattle.std.proofs.lemmas.List.{get_or_past}
use Rattle.std.proofs.lemmas.Bool.{false≢true, cases_lt}
use Rattle.node_rows.specs.Nodes.{Node, no_node, parent_of, up, holds}
use Rattle.node_rows.specs.Sound.{IsSound}
use Rattle.node_rows.proofs.Climb.{or_cases, same_from_eqb, path-step}
use Rattle.node_rows.proofs.Edits.{parent-inside}

-- a is c or stands above it
pub data Above (ns : List Node) (a : ℕ) : ℕ → Type 0 where
  here : {c : ℕ} → c ≡ a → Above ns a c
  below : {c p : ℕ} → parent_of ns c ≡ Some p → Above ns a p → Above ns a c

above_option : (ns : List Node) (a k c : ℕ) (o : Option ℕ) → parent_of ns c ≡ o → ((p : ℕ) → list_any (eqb a) (up ns k p) ≡ true → Above ns a p) → list_any (eqb a) (elim o as (λ _. List ℕ) [ None ↦ [] | Some p ↦ up ns k p ]) ≡ true → Above ns a c
above_option ns a k c None e f h = absurd (false≢true h)
above_option ns a k c (Some p) e f h = below e (f p h)

above_up : (ns : List Node) (a k c : ℕ) → list_any (eqb a) (up ns k c) ≡ true → Above ns a c
above_up ns a zero c h = absurd (false≢true h)
above_up ns a (suc k) c h =
    elim (or_cases (eqb a c) (list_any (eqb a) (elim (parent_of ns c) as (λ _. List ℕ) [ None ↦ [] | Some p ↦ up ns k p ])) h) [
      | inl t ↦ here (sym (same_from_eqb a c t))
      | inr f ↦ above_option ns a k c (parent_of ns c) refl (above_up ns a k) f
    ]

pub above_from_holds : (ns : List Node) (a c : ℕ) → holds ns a c ≡ true → Above ns a c
above_from_holds ns a c h = above_up ns a (length ns) c h

pub or_left : (x y : Bool) → x ≡ true → (x || y) ≡ true
or_left true y h = refl
or_left false y h = absurd (false≢true h)

pub or_right : (x y : Bool) → y ≡ true → (x || y) ≡ true
or_right true y h = refl
or_right false y h = h

holds_self : (ns : List Node) (a c k : ℕ) → c ≡ a → 0 < k → list_any (eqb a) (up ns k c) ≡ true
holds_self ns a c zero e b = absurd (omega arith)
holds_self ns a c (suc k) e b = or_left (eqb a c) _ (eq-eqb a c (sym e))

pub holds_from_above : {ns : List Node} {a c : ℕ} → IsSound ns → 0 < length ns → Above ns a c → holds ns a c ≡ true
holds_from_above {ns} {a} s z (here {c} e) = holds_self ns a c (length ns) e z
holds_from_above {ns} {a} s z (below {c} {p} e r) =
    ap (list_any (eqb a)) (path-step ns s c p (parent-inside ns c p e) e) ∙ or_right (eqb a c) _ (holds_from_above s z r)

pub above_parent : {ns : List Node} {m p : ℕ} (q : ℕ) → Above ns m p → parent_of ns m ≡ Some q → Above ns q p
above_parent {ns} {m} q (here {c} e) f = below (ap (λ k. parent_of ns k) e ∙ f) (here refl)
above_parent q (below e r) f = below e (above_parent q r f)

-- the parent's chain, where c isn't a itself
pub above_step : {ns : List Node} {a c : ℕ} (q : ℕ) → Above ns a c → parent_of ns c ≡ Some q → (c ≡ a) ⊎ Above ns a q
above_step q (here e) f = inl e
above_step {ns} {a} q (below {p} e r) f = let i : p ≡ q = cc in inr (above_at i r)
  where
    above_at : {p q : ℕ} → p ≡ q → Above ns a p → Above ns a q
    above_at i (here e) = here (sym i ∙ e)
    above_at i (below e r) = below (ap (λ k. parent_of ns k) (sym i) ∙ e) r
