-- A block without nodes in it, where a comment counts as a node.
use Rattle.std.specs.Prelude.{List, Bool, true, false, ◌&&◌, codes}
use Rattle.css_tree.specs.Tree.{Trees, none, node}
use Rattle.rule_sites.specs.Blocks.{is_block, brace_byte}
use Rattle.rule_sites.specs.Context.{Context}
use Rattle.rule_sites.specs.Finding.{Finding, unmended}
use Rattle.rules_tree.specs.FindingIf.{finding_if}

abbrev pub is_empty : Trees → Bool
is_empty none = true
is_empty (node text span children rest) = false

-- at its `{`
unfoldable pub findings : Context → List Finding
findings c = finding_if (is_block c.node.text && is_empty c.node.children) (unmended (brace_byte c.node) (codes "Unexpected empty block"))
