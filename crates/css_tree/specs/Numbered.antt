-- A tree's nodes in document order, each with the number of its parent. The numbering is this project's own.
use Rattle.std.specs.Prelude.{ℕ, suc, List, [], ◌∷◌, ◌++◌, Option}
use Rattle.css_text.specs.declared.lexer.Span.{Span}
use Rattle.css_tree.specs.declared.node.NodeText.{NodeText}
use Rattle.css_tree.specs.Tree.{Trees, none, node, Tree}

-- a node with the number of its parent
pub record Numbered : Type 0 where
  pub parent : ℕ
  pub text : NodeText
  pub span : Option Span

-- the number behind those of these trees, of which the first has the number n
unfoldable pub number_after : ℕ → Trees → ℕ
number_after n none = n
number_after n (node text span children rest) = number_after (number_after (suc n) children) rest

-- the nodes of these trees, whose parent has that number, and of which the first has the number n
unfoldable pub numbered_below : ℕ → ℕ → Trees → List Numbered
numbered_below parent n none = []
numbered_below parent n (node text span children rest) =
    record { parent = parent; text = text; span = span } ∷ (numbered_below n (suc n) children ++ numbered_below parent (number_after (suc n) children) rest)

-- the nodes of a tree from the root, 0, which is its own parent
unfoldable pub numbered : Tree → List Numbered
numbered t = record { parent = 0; text = t.text; span = t.span } ∷ numbered_below 0 1 t.children
