-- What the printing of one node answers.
use Rattle.std.specs.Prelude.{◌≡◌, ℕ, List, ◌∷◌, true, false, map, nat_eq, Result, Ok, Err, if◌then◌else◌}
use Rattle.css_text.specs.declared.stop.Stop.{Stop}
use Rattle.css_text.specs.declared.stop.Stop.TheVariants.{Fault, Memory}
use Rattle.css_tree.specs.Print.{body, starts_below}
use Rattle.node_store.specs.declared.fault.TreeFault.{TreeFault}
use Rattle.node_store.specs.declared.fault.TreeFault.TheVariants.{NoSuchNode}
use Rattle.node_rows.specs.Nodes.{Node, depth_of}
use Rattle.node_rows.specs.NumberTrees.{tree_at, numbers_below}
use Rattle.node_store.specs.Forest.{Forest, is_given}
use Rattle.stringify.specs.declared.printed.Printed.{Printed}

-- the nodes that are printed with the body of n: n itself comes first, unless it is the root
abbrev pub body_numbers : List Node → ℕ → List ℕ
body_numbers ns n = if nat_eq n 0 then numbers_below ns n else n ∷ numbers_below ns n

abbrev pub body_starts : List Node → ℕ → List ℕ
body_starts ns n = if nat_eq n 0 then starts_below (depth_of ns n) (tree_at ns n) else 0 ∷ starts_below (depth_of ns n) (tree_at ns n)

-- the body of n, with the nodes in it and their starts
pub record IsBodyOf (ns : List Node) (n : ℕ) (p : Printed) : Type 0 where
  pub text : p.text ≡ body (depth_of ns n) (tree_at ns n)
  pub nodes : map (λ s. s.node) p.starts.items ≡ body_numbers ns n
  pub starts : map (λ s. s.at) p.starts.items ≡ body_starts ns n

-- A node that was given out is printed, unless memory is wanting; for another number it is NoSuchNode.
abbrev pub IsNodeAnswer : Forest → ℕ → Result Printed (Stop TreeFault) → Type 0
IsNodeAnswer f n (Ok p) = (is_given f n ≡ true) × IsBodyOf f.nodes n p
IsNodeAnswer f n (Err (Fault e)) = (is_given f n ≡ false) × (e ≡ NoSuchNode)
IsNodeAnswer f n (Err (Memory e)) = is_given f n ≡ true
