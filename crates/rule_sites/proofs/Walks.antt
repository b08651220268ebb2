-- A walk over the nodes of a sheet that was just read, by their numbers.
use Rattle.std.proofs.Common.{◌≡◌, ℕ, ◌+◌, List, [], ◌∷◌, ◌++◌, length, map, ap, sym, ◌∙◌, arith}
use Rattle.std.specs.List.{flat_map, range_with_len}
use Rattle.std.proofs.lemmas.List.{append-nil}
use Rattle.std.proofs.lemmas.List.Concat.{flat_map-append}
use Rattle.std.proofs.lemmas.List.FromFn.{map-range_with_len_more}
use Rattle.node_rows.specs.Nodes.{Node}
use Rattle.node_store.specs.Forest.{Forest, IsForest, tree_of}
use Rattle.node_store.specs.Fresh.{IsFresh}
use Rattle.rule_sites.specs.Context.{Context, contexts}
use Rattle.rule_sites.specs.ContextAt.{context_at}
use Rattle.rule_sites.proofs.Contexts.{nodes_in_order}

module _ {A : Type 0} (F : Context → List A) where
  -- what a walk has found at the nodes before number n
  abbrev pub found_before : List Node → ℕ → List A
  found_before ns n = flat_map F (map (context_at ns) (range_with_len 0 n))

  -- one node more
  pub found_more : (ns : List Node) (n : ℕ) → found_before ns n ++ F (context_at ns n) ≡ found_before ns (n + 1)
  found_more ns n =
      sym (ap (flat_map F) (map-range_with_len_more (context_at ns) 0 n n (omega arith))
      ∙ (flat_map-append F (map (context_at ns) (range_with_len 0 n)) (context_at ns n ∷ [])
      ∙ ap (λ z. found_before ns n ++ z) (append-nil (F (context_at ns n)))))

  -- at the end
  pub found_all : (f : Forest) → IsForest f → IsFresh f → found_before f.nodes (length f.nodes) ≡ flat_map F (contexts (tree_of f))
  found_all f i h = ap (flat_map F) (nodes_in_order f i h)
