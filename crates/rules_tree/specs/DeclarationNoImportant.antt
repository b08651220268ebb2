-- A declaration that is marked important.
use Rattle.std.specs.Prelude.{List}
use Rattle.rule_sites.specs.Context.{Context}
use Rattle.rule_sites.specs.Finding.{Finding}
use Rattle.rules_tree.specs.FindingIf.{finding_if}
use Rattle.rules_tree.specs.Important.{is_marked, mark_finding}

-- at the mark's `!`
unfoldable pub findings : Context → List Finding
findings c = finding_if (is_marked c.node.text) (mark_finding c.node)
