-- A property that an earlier declaration of its block has, in any case; of custom properties, variables of preprocessors and `src`
-- nothing is said.
use Rattle.std.specs.Prelude.{ℕ, List, [], ◌++◌, Bool, ◌&&◌, ◌||◌, not, codes, Option, Some, None}
use Rattle.std.specs.List.{list_any}
use Rattle.css_text.specs.Forms.{begins}
use Rattle.css_tree.specs.Mark.{is_text}
use Rattle.rule_sites.specs.Blocks.{start_byte}
use Rattle.rule_sites.specs.Context.{Context}
use Rattle.rule_sites.specs.Finding.{Finding, unmended}
use Rattle.rules_tree.specs.FindingIf.{finding_if}
use Rattle.rules_tree.specs.Properties.{prop_of, props_of, is_custom, is_same, quoted}

abbrev pub is_ignored : List ℕ → Bool
is_ignored prop = is_custom prop || begins 36 prop || is_text (codes "src") prop

-- at that byte, after declarations of these properties
abbrev pub of_prop : ℕ → List (List ℕ) → Option (List ℕ) → List Finding
of_prop at earlier None = []
of_prop at earlier (Some prop) = finding_if (not (is_ignored prop) && list_any (is_same prop) earlier) (unmended at (codes "Unexpected duplicate " ++ quoted prop))

-- at the start of the later declaration
unfoldable pub findings : Context → List Finding
findings c = of_prop (start_byte c.node) (props_of c.earlier) (prop_of c.node.text)
