-- Blocks, and where the parts of a node stand in its sheet, in bytes.
use Rattle.std.specs.Prelude.{ℕ, ◌+◌, List, [], ◌∷◌, ◌++◌, Bool, true, false, Option, Some, None}
use Rattle.css_text.specs.declared.lexer.Span.{Span}
use Rattle.css_text.specs.Ahead.{byte_len}
use Rattle.css_tree.specs.declared.node.NodeText.{NodeText}
use Rattle.css_tree.specs.declared.node.NodeText.TheVariants as N
use Rattle.css_tree.specs.Tree.{Tree}

-- a rule, or an at-rule with a block
abbrev pub is_block : NodeText → Bool
is_block (N.AtRule before name after_name params between (Some block)) = true
is_block (N.Rule before selector between block) = true
is_block _ = false

abbrev pub is_root : NodeText → Bool
is_root (N.Root bom block) = true
is_root _ = false

abbrev pub is_at_rule : NodeText → Bool
is_at_rule (N.AtRule before name after_name params between block) = true
is_at_rule _ = false

-- where a node's body starts; each node of a sheet that was read has its span
abbrev pub span_start : Option Span → ℕ
span_start None = 0
span_start (Some span) = span.start

abbrev pub start_byte : Tree → ℕ
start_byte t = span_start t.span

-- what stands before the `{` in the body of a node with a block
abbrev pub before_brace : NodeText → List ℕ
before_brace (N.AtRule before name after_name params between block) = 64 ∷ (name ++ (after_name ++ (params.source ++ between)))
before_brace (N.Rule before selector between block) = selector.source ++ between
before_brace _ = []

-- where the `{` of a block stands
abbrev pub brace_byte : Tree → ℕ
brace_byte t = start_byte t + byte_len (before_brace t.text)

-- what stands before the value in the body of a declaration
abbrev pub before_value : NodeText → List ℕ
before_value (N.Declaration before prop between value important important_raw tail) = prop ++ between
before_value _ = []

-- where a declaration's value starts
abbrev pub value_byte : Tree → ℕ
value_byte t = start_byte t + byte_len (before_value t.text)

-- a declaration's value as it is written; empty for any other node
abbrev pub value_of : NodeText → List ℕ
value_of (N.Declaration before prop between value important important_raw tail) = value.source
value_of _ = []
