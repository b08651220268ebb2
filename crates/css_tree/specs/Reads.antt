-- Which plain tree a text reads as, which is this project's own. It judges a finished tree, by the pieces that its nodes are made of.
use Rattle.std.specs.Prelude.{◌≡◌, ℕ, List, ◌++◌, false, Some, None}
use Rattle.css_text.specs.Pieces.{cut}
use Rattle.css_text.specs.Ahead.{byte_len, begins_bom, without_bom}
use Rattle.css_tree.specs.declared.node.Block.{Block}
use Rattle.css_tree.specs.declared.node.NodeText.TheVariants as N
use Rattle.css_tree.specs.Tree.{Trees, Tree}
use Rattle.css_tree.specs.Print.{print}
use Rattle.css_tree.specs.Pieces.{Lexeme, join, end_of, pieces_of}
use Rattle.css_tree.specs.Nodes.{Nodes, none, comment, leaf, block, line, AreNodes, ends_with_semicolon}
use Rattle.css_tree.specs.Fields.{IsComment, IsLeaf, IsBlock, span_of}

-- what a container with these nodes keeps of its end
abbrev pub block_of_nodes : Nodes → List Lexeme → Block
block_of_nodes nodes after = record { semicolon = ends_with_semicolon false nodes; after = Some (join after) }

-- the trees of these nodes, each with its fields, its raws and its span
abbrev pub AreTrees : Nodes → Trees → Type 0
AreTrees none Trees.none = Unit {0}
AreTrees (comment before piece rest) (Trees.node text span Trees.none others) = IsComment before piece text span × AreTrees rest others
AreTrees (leaf before run ending rest) (Trees.node text span Trees.none others) = IsLeaf before run text span × AreTrees rest others
AreTrees (block before run opening children after closing rest) (Trees.node text span below others) =
    IsBlock before run opening (block_of_nodes children after) (end_of closing) text span × AreTrees children below × AreTrees rest others
AreTrees _ _ = ⊥

-- The text s reads as the tree t: t prints s, no form of a piece lacks its end, and the pieces of s are those of nodes that
-- t's are; t's text and span are those of the root.
pub record Reads (s : List ℕ) (t : Tree) : Type 0 where
  pub prints : print t ≡ s
  pub no_fault : (cut (without_bom s)).fault ≡ None
  pub nodes : Nodes
  pub behind : List Lexeme
  pub are_nodes : AreNodes 0 nodes behind
  pub are_all : line nodes ++ behind ≡ pieces_of s
  pub are_trees : AreTrees nodes t.children
  pub is_root : t.text ≡ N.Root (begins_bom s) (block_of_nodes nodes behind)
  pub is_span : t.span ≡ span_of 0 (byte_len s)
