-- A comment of which nothing is left without the white space around its text.
use Rattle.std.specs.Prelude.{List, [], Bool, true, false, codes}
use Rattle.css_tree.specs.declared.node.NodeText.{NodeText}
use Rattle.css_tree.specs.declared.node.NodeText.TheVariants as N
use Rattle.rule_sites.specs.Blocks.{start_byte}
use Rattle.rule_sites.specs.Context.{Context}
use Rattle.rule_sites.specs.Finding.{Finding, unmended}
use Rattle.rules_tree.specs.FindingIf.{finding_if}

abbrev pub is_empty_comment : NodeText → Bool
is_empty_comment (N.Comment before left [] right) = true
is_empty_comment _ = false

-- at its start
unfoldable pub findings : Context → List Finding
findings c = finding_if (is_empty_comment c.node.text) (unmended (start_byte c.node) (codes "Unexpected empty comment"))
