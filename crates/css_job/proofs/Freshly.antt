-- A fresh forest: its nodes are as many as the tree's, and each of them is dirty.
use Rattle.std.proofs.Common.{◌≡◌, ◌<◌, length, ap, sym, ◌∙◌, arith}
use Rattle.std.proofs.lemmas.List.{length-map}
use Rattle.css_tree.specs.Numbered.{numbered}
use Rattle.node_rows.specs.Nodes.{is_dirty}
use Rattle.node_rows.proofs.Built.{nodes_of-at, nodes_of-length}
use Rattle.node_store.specs.Forest.{Forest}
use Rattle.node_store.specs.Fresh.{IsFresh, numbered_of}
use Rattle.visitor_machine.specs.Settled.{IsAllDirty}

module _ (f : Forest) (h : IsFresh f) where
  pub fresh_total : length f.nodes ≡ length (numbered h.tree)
  fresh_total = ap length h.are_nodes ∙ (nodes_of-length h.entries ∙ (sym (length-map h.entries numbered_of) ∙ ap length h.are_numbered))

  pub fresh_dirty : IsAllDirty f.nodes
  fresh_dirty n inside =
      let b : n < length h.entries = omega (arith, inside.0, ap length h.are_nodes, nodes_of-length h.entries) in
      ap (λ ns. is_dirty ns n) h.are_nodes ∙ ap (λ x. x.dirty) (nodes_of-at h.entries n b)
