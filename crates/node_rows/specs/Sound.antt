-- What is true of the nodes of every forest.
use Rattle.std.specs.Prelude.{◌≡◌, ℕ, zero, suc, ◌<◌, ◌≤◌, List, Bool, true, false, length, Option, Some, None, nat_eq, count_by, if◌then◌else◌}
use Rattle.node_rows.specs.Nodes.{Node, parent_of, children_of}

-- walking up from n comes to a top within k nodes
abbrev pub reaches_top : List Node → ℕ → ℕ → Bool
reaches_top ns zero n = false
reaches_top ns (suc k) n = elim (parent_of ns n) [ None ↦ true | Some p ↦ reaches_top ns k p ]

-- o is p
abbrev pub is_number : Option ℕ → ℕ → Bool
is_number None p = false
is_number (Some q) p = nat_eq q p

-- A node is listed once by its parent and by no other, and no node stands below itself. The root has no parent.
pub record IsSound (ns : List Node) : Type 0 where
  pub few : length ns ≤ 67108865
  pub root : parent_of ns 0 ≡ None
  pub below : (n p : ℕ) → parent_of ns n ≡ Some p → p < length ns
  pub listed : (n p : ℕ) → count_by (nat_eq n) (children_of ns p) ≡ (if is_number (parent_of ns n) p then 1 else 0)
  pub topped : (n : ℕ) → n < length ns → reaches_top ns (length ns) n ≡ true
