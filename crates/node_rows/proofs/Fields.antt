-- What one write to a node leaves of the others.
use Rattle.std.proofs.Common.{◌≡◌, ◌≢◌, ℕ, zero, suc, ◌<◌, List, [], ◌∷◌, length, refl, ap, set}
use Rattle.std.proofs.lemmas.List.{get_or-set_other, get_or-set_same}
use Rattle.node_rows.specs.Nodes.{Node, node_at, no_node}

pub field_kept : {A : Type 0} (f : Node → A) (ns : List Node) (n : ℕ) (x : Node) → f x ≡ f (node_at ns n) → (m : ℕ) → f (node_at (set ns n x) m) ≡ f (node_at ns m)
field_kept f [] n x e m = refl
field_kept f (y ∷ ys) zero x e zero = e
field_kept f (y ∷ ys) zero x e (suc m) = refl
field_kept f (y ∷ ys) (suc n) x e zero = refl
field_kept f (y ∷ ys) (suc n) x e (suc m) = field_kept f ys n x e m

pub field_other : {A : Type 0} (f : Node → A) (ns : List Node) (n : ℕ) (x : Node) (m : ℕ) → m ≢ n → f (node_at (set ns n x) m) ≡ f (node_at ns m)
field_other f ns n x m h = ap f (get_or-set_other ns n m x no_node h)

pub field_same : {A : Type 0} (f : Node → A) (ns : List Node) (n : ℕ) (x : Node) → n < length ns → f (node_at (set ns n x) n) ≡ f x
field_same f ns n x h = ap f (get_or-set_same ns n x no_node h)
