-- A shorthand after a declaration of one of its longhands in the same block.
use Rattle.std.specs.Prelude.{ℕ, List, [], ◌∷◌, ◌++◌, codes, filter, Option, Some, None}
use Rattle.rule_sites.specs.Blocks.{start_byte}
use Rattle.rule_sites.specs.Context.{Context}
use Rattle.rule_sites.specs.Finding.{Finding, unmended}
use Rattle.rules_tree.specs.Properties.{prop_of, props_of, quoted}
use Rattle.rules_tree.specs.Shorthands.{is_longhand_of}

-- after these longhands of it, the first of which is named
abbrev pub after_longhands : ℕ → List ℕ → List (List ℕ) → List Finding
after_longhands at prop [] = []
after_longhands at prop (first ∷ others) = unmended at (codes "Unexpected shorthand " ++ (quoted prop ++ (codes " after " ++ quoted first))) ∷ []

-- at that byte, after declarations of these properties
abbrev pub of_prop : ℕ → List (List ℕ) → Option (List ℕ) → List Finding
of_prop at earlier None = []
of_prop at earlier (Some prop) = after_longhands at prop (filter (is_longhand_of prop) earlier)

-- at the start of the shorthand
unfoldable pub findings : Context → List Finding
findings c = of_prop (start_byte c.node) (props_of c.earlier) (prop_of c.node.text)
