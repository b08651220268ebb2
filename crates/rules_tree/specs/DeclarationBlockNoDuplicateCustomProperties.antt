-- A custom property that an earlier declaration of its block has, both in the same case.
use Rattle.std.specs.Prelude.{ℕ, List, [], ◌++◌, ◌&&◌, codes, bytes_eq, Option, Some, None}
use Rattle.std.specs.List.{list_any}
use Rattle.rule_sites.specs.Blocks.{start_byte}
use Rattle.rule_sites.specs.Context.{Context}
use Rattle.rule_sites.specs.Finding.{Finding, unmended}
use Rattle.rules_tree.specs.FindingIf.{finding_if}
use Rattle.rules_tree.specs.Properties.{prop_of, props_of, is_custom, quoted}

-- at that byte, after declarations of these properties
abbrev pub of_prop : ℕ → List (List ℕ) → Option (List ℕ) → List Finding
of_prop at earlier None = []
of_prop at earlier (Some prop) = finding_if (is_custom prop && list_any (bytes_eq prop) earlier) (unmended at (codes "Unexpected duplicate " ++ quoted prop))

-- at the start of the later declaration
unfoldable pub findings : Context → List Finding
findings c = of_prop (start_byte c.node) (props_of c.earlier) (prop_of c.node.text)
