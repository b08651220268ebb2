-- Where the bodies of nodes stand in a sheet.
use Rattle.std.specs.Prelude.{◌≡◌, ℕ, List, [], ◌∷◌, ◌++◌, Option}
use Rattle.css_text.specs.Ahead.{byte_len}
use Rattle.css_text.specs.declared.lexer.Span.{Span}
use Rattle.css_tree.specs.declared.node.NodeText.{NodeText}
use Rattle.css_tree.specs.Laws.{start_of}
use Rattle.css_tree.specs.Print.{opening}

-- a node's body up to its children stands in the sheet s where its span starts
pub record Stands (s : List ℕ) (text : NodeText) (span : Option Span) : Type 0 where
  pub front : List ℕ
  pub rest : List ℕ
  pub all : s ≡ front ++ (opening text ++ rest)
  pub start : start_of span ≡ byte_len front ∷ []
