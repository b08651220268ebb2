-- A declaration that is marked important, anywhere inside a keyframes at-rule.
use Rattle.std.specs.Prelude.{List, ◌&&◌}
use Rattle.std.specs.List.{list_any}
use Rattle.rule_sites.specs.Context.{Context}
use Rattle.rule_sites.specs.Finding.{Finding}
use Rattle.rule_sites.specs.Keyframes.{is_keyframes}
use Rattle.rules_tree.specs.FindingIf.{finding_if}
use Rattle.rules_tree.specs.Important.{is_marked, mark_finding}

-- at the mark's `!`
unfoldable pub findings : Context → List Finding
findings c = finding_if (is_marked c.node.text && list_any (λ t. is_keyframes t.text) c.ancestors) (mark_finding c.node)
