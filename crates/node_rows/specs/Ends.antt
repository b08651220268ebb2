-- The end of a container, and another end of a body's bytes.
use Rattle.std.specs.Prelude.{ℕ, List, Option, Some, None, slice_set}
use Rattle.css_text.specs.declared.lexer.Span.{Span}
use Rattle.css_tree.specs.declared.node.Block.{Block}
use Rattle.css_tree.specs.declared.node.NodeText.{NodeText}
use Rattle.css_tree.specs.declared.node.NodeText.TheVariants as N
use Rattle.node_rows.specs.declared.node_list.NodeAt.{NodeAt}
use Rattle.node_rows.specs.Nodes.{Node, node_at, span_of}
use Rattle.node_rows.specs.NodeList.{entry_at}

-- the text with that end of its block; a declaration and a comment have none
abbrev pub with_block : NodeText → Block → NodeText
with_block (N.Root bom old) new = N.Root bom new
with_block (N.AtRule before name after_name params between old) new = N.AtRule before name after_name params between (Some new)
with_block (N.Rule before selector between old) new = N.Rule before selector between new
with_block (N.Declaration before prop between value important important_raw tail) new = N.Declaration before prop between value important important_raw tail
with_block (N.Comment before left text right) new = N.Comment before left text right

-- the bytes from the same start to that end
abbrev pub ended : ℕ → Span → Span
ended end s = record { start = s.start; end = end }

abbrev pub some_ended : ℕ → Option Span → Option Span
some_ended end None = None
some_ended end (Some s) = Some (ended end s)

abbrev pub with_span : List Node → ℕ → Option Span → List Node
with_span ns n span = slice_set ns n (record (node_at ns n) { span = span })

-- the body of n ends there
abbrev pub with_end : List Node → ℕ → ℕ → List Node
with_end ns n end = with_span ns n (some_ended end (span_of ns n))

-- the entry n has that end of its block
abbrev pub with_entry_block : List NodeAt → ℕ → Block → List NodeAt
with_entry_block es n block = slice_set es n (record (entry_at es n) { text = with_block (entry_at es n).text block })

-- the body of the entry n ends there
abbrev pub with_entry_end : List NodeAt → ℕ → ℕ → List NodeAt
with_entry_end es n end = slice_set es n (record (entry_at es n) { span = ended end (entry_at es n).span })
