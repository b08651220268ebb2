-- Which nodes stand above a node.
use Rattle.std.proofs.Common.{◌≡◌, ◌≢◌, ℕ, ◌<◌, List, [], ◌∷◌, ◌++◌, false, length, length-append, Some, None, refl, ap, sym, ◌∙◌, arith, eqb, ◌||◌}
use Rattle.std.specs.List.{list_any}
use Rattle.std.proofs.lemmas.Bool.{ne_eqb}
use Rattle.node_rows.specs.Nodes.{Node, parent_of, path, holds}
use Rattle.node_rows.specs.Sound.{IsSound}
use Rattle.node_rows.proofs.Climb.{path-step, path-top, path-chain, rooted, Rooted, top, under, chain}
use Rattle.node_rows.proofs.Edits.{IsSound-pushed, field_pushed}

pub holds_on : (ns : List Node) (a m p : ℕ) → IsSound ns → m < length ns → m ≢ a → parent_of ns m ≡ Some p → holds ns a m ≡ holds ns a p
holds_on ns a m p s b z e =
    ap (list_any (eqb a)) (path-step ns s m p b e) ∙ ap (λ t. t || list_any (eqb a) (path ns p)) (ne_eqb a m (λ i. z (sym i)))

pub holds_top : (ns : List Node) (a m : ℕ) → IsSound ns → m < length ns → m ≢ a → parent_of ns m ≡ None → holds ns a m ≡ false
holds_top ns a m s b z e = ap (list_any (eqb a)) (path-top ns s m b e) ∙ ap (λ t. t || false) (ne_eqb a m (λ i. z (sym i)))

chain-off : {ns : List Node} {m : ℕ} (r : Rooted ns m) (k : ℕ) → m < k → ((a b : ℕ) → parent_of ns a ≡ Some b → b < k) → list_any (eqb k) (chain r) ≡ false
unfolding chain
chain-off (top {n} e) k b f = rw (ne_eqb k n (λ i. omega arith)) refl
chain-off (under {n} {p} e r) k b f = rw (ne_eqb k n (λ i. omega arith)) (chain-off r k (f n p e) f)

-- a new node isn't above another
pub apart-pushed : (ns : List Node) (x : Node) → x.parent ≡ None → x.children ≡ [] → length ns < 67108865 → IsSound ns → (p : ℕ) → p < length ns → holds (ns ++ x ∷ []) (length ns) p ≡ false
apart-pushed ns x loose empty few s p b =
    let ms = ns ++ x ∷ [] in
    let t = IsSound-pushed ns x loose empty few s in
    let wide : p < length ms = omega (arith, length-append ns (x ∷ [])) in
    let r = rooted ms t p wide in
    ap (list_any (eqb (length ns))) (path-chain ms t p wide r)
    ∙ chain-off r (length ns) b (λ a q e. s.below a q (sym (field_pushed (λ y. y.parent) ns x loose a) ∙ e))
