-- The log grows with each turn.
use Rattle.std.proofs.Common.{◌≡◌, inl, inr, ℕ, ◌+◌, List, [], ◌∷◌, ◌++◌, length, Result, Ok, Err, ap, arith, length-append, ◌≤◌}
use Rattle.std.specs.declared.alloc.AllocError.{AllocError}
use Rattle.node_store.specs.declared.item.Item.TheVariants as I
use Rattle.node_store.specs.Forest.{Forest}
use Rattle.visitor_walk.specs.declared.turn.Open.{Open}
use Rattle.visitor_walk.specs.Turns.{SameBeside, Leaves, Enters}

pub grows_same : {f g : Forest} → SameBeside f g → length f.log ≤ length g.log
grows_same h = let e = ap length h.log in omega arith

pub grows_left : {f g : Forest} {o : Open} (r : Result (Unit {0}) AllocError) → Leaves f g o r → length f.log ≤ length g.log
grows_left {f} {g} {o} (Ok u) h = let e : length g.log ≡ length (f.log ++ I.Leave o.node ∷ []) = ap length h.log in let i : length (f.log ++ I.Leave o.node ∷ []) ≡ length f.log + 1 = length-append f.log (I.Leave o.node ∷ []) in omega arith
grows_left (Err x) h = let e = ap length h.log in omega arith

pub grows_entered : {f g : Forest} {old more : List Open} {o : Open} {child : ℕ} (r : Result (Unit {0}) AllocError) → Enters f g old more o child r → length f.log ≤ length g.log
grows_entered {f} {g} {child = child} r h = elim h.noted [
  | inl q ↦ let e = ap length q.1 in omega arith
  | inr q ↦ let e : length g.log ≡ length (f.log ++ I.Enter child ∷ []) = ap length q.1 in let i : length (f.log ++ I.Enter child ∷ []) ≡ length f.log + 1 = length-append f.log (I.Enter child ∷ []) in omega arith
]
