-- An `@import` at the root after what no `@import` may follow.
use Rattle.std.specs.Prelude.{List, Bool, true, false, ◌&&◌, ◌||◌, not, codes}
use Rattle.std.specs.List.{list_any}
use Rattle.css_tree.specs.Print.{is_comment}
use Rattle.css_tree.specs.declared.node.NodeText.{NodeText}
use Rattle.rule_sites.specs.Blocks.{is_block, start_byte}
use Rattle.rule_sites.specs.Context.{Context}
use Rattle.rule_sites.specs.Finding.{Finding, unmended}
use Rattle.rules_tree.specs.AtRoot.{is_at, is_root_alone}
use Rattle.rules_tree.specs.FindingIf.{finding_if}

-- a comment, an `@charset`, an `@import` or an `@layer` without a block
abbrev pub may_precede : NodeText → Bool
may_precede text = is_comment text || is_at (codes "charset") text || is_at (codes "import") text || (is_at (codes "layer") text && not (is_block text))

abbrev pub is_late : Context → Bool
is_late c = is_root_alone c.ancestors && list_any (λ t. not (may_precede t.text)) c.earlier

-- at its start
unfoldable pub findings : Context → List Finding
findings c = finding_if (is_at (codes "import") c.node.text && is_late c) (unmended (start_byte c.node) (codes "Unexpected invalid position @import rule"))
