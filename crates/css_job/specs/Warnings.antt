-- The warnings on a text: those of stylelint's rule block-no-empty in this project's profile, or the one on a text that is no sheet.
use Rattle.std.specs.Prelude.{ℕ, ◌+◌, List, [], ◌∷◌, ◌++◌, Bool, true, false, Option, Some, Ok, Err, map, codes, if◌then◌else◌}
use Rattle.css_text.specs.declared.lexer.Span.{Span}
use Rattle.css_text.specs.declared.text.Place.{Place}
use Rattle.css_text.specs.Place.{place_of}
use Rattle.css_text.specs.Ahead.{byte_len}
use Rattle.css_tree.specs.declared.fault.SyntaxFault.{SyntaxFault}
use Rattle.css_tree.specs.declared.node.NodeText.{NodeText}
use Rattle.css_tree.specs.declared.node.NodeText.TheVariants as N
use Rattle.css_tree.specs.Tree.{Trees, none, node}
use Rattle.css_tree.specs.Laws.{start_of}
use Rattle.css_job.specs.declared.lint.warning.Severity.{Severity}
use Rattle.css_job.specs.declared.lint.warning.Severity.TheVariants.{Error}
use Rattle.css_job.specs.Faults.{kind_name}
use Rattle.css_job.specs.Reading.{Reading}

-- a warning: its place, its severity, its text, and the name of its rule
pub record Warning : Type 0 where
  pub place : Place
  pub severity : Severity
  pub text : List ℕ
  pub rule : List ℕ

-- a rule, or an at-rule with a block, that has no children
abbrev pub is_empty_block : NodeText → Trees → Bool
is_empty_block (N.AtRule before name after_name params between (Some block)) none = true
is_empty_block (N.Rule before selector between block) none = true
is_empty_block _ _ = false

-- what stands before the `{` in the body of a node with a block
abbrev pub before_brace : NodeText → List ℕ
before_brace (N.AtRule before name after_name params between block) = 64 ∷ (name ++ (after_name ++ (params.source ++ between)))
before_brace (N.Rule before selector between block) = selector.source ++ between
before_brace _ = []

-- the byte of a node's `{` in the text
abbrev pub brace_of : NodeText → Option Span → List ℕ
brace_of text span = map (λ start. start + byte_len (before_brace text)) (start_of span)

abbrev pub brace_of_empty : NodeText → Option Span → Trees → List ℕ
brace_of_empty text span children = if is_empty_block text children then brace_of text span else []

-- the bytes of the `{` of all empty blocks, in document order
abbrev pub empty_blocks : Trees → List ℕ
empty_blocks none = []
empty_blocks (node text span children rest) = brace_of_empty text span children ++ (empty_blocks children ++ empty_blocks rest)

abbrev pub empty_block_warning : Place → Warning
empty_block_warning place = record { place = place; severity = Error; text = codes "Unexpected empty block"; rule = codes "block-no-empty" }

abbrev pub syntax_warning : SyntaxFault → Warning
syntax_warning f = record { place = f.place; severity = Error; text = kind_name f.kind; rule = codes "CssSyntaxError" }

-- of a text with that reading
abbrev pub warnings : List ℕ → Reading → List Warning
warnings s (Ok t) = map (λ at. empty_block_warning (place_of s at)) (empty_blocks t.children)
warnings s (Err f) = syntax_warning f ∷ []
