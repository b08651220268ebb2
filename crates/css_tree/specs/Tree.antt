-- The plain tree of a style sheet: texts are lists of characters, and spans count bytes.
use Rattle.std.specs.Prelude.{Option}
use Rattle.css_text.specs.declared.lexer.Span.{Span}
use Rattle.css_tree.specs.declared.node.NodeText.{NodeText}

-- trees beside one another: the first one's text, its span, the trees below it, and the trees behind it
pub data Trees : Type 0 where
  none : Trees
  node : NodeText → Option Span → (children rest : Trees) → Trees

-- one tree
pub record Tree : Type 0 where
  pub text : NodeText
  pub span : Option Span
  pub children : Trees
