-- The nodes of a sheet, each with what stands around it: the siblings before it and its ancestors.
use Rattle.std.specs.Prelude.{List, [], ◌∷◌, ◌++◌}
use Rattle.css_tree.specs.Tree.{Trees, none, node, Tree}

-- A node, the siblings before it, the first of them first, and its ancestors, its parent first and the root last.
pub record Context : Type 0 where
  pub node : Tree
  pub earlier : List Tree
  pub ancestors : List Tree

-- the nodes of a container in document order, with those below them: what stands before them there, and the container with its ancestors
unfoldable pub contexts_below : List Tree → List Tree → Trees → List Context
contexts_below ancestors earlier none = []
contexts_below ancestors earlier (node text span children rest) =
    let here : Tree = record { text = text; span = span; children = children } in
    record { node = here; earlier = earlier; ancestors = ancestors }
    ∷ (contexts_below (here ∷ ancestors) [] children ++ contexts_below ancestors (earlier ++ here ∷ []) rest)

-- all nodes of a sheet in document order, the root first
unfoldable pub contexts : Tree → List Context
contexts t = record { node = t; earlier = []; ancestors = [] } ∷ contexts_below (t ∷ []) [] t.children
