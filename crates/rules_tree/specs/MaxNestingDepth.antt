-- Blocks inside one another.
use Rattle.std.specs.Prelude.{ℕ, ◌+◌, List, [], ◌∷◌, ◌++◌, Bool, ◌&&◌, not, nat_lt, codes, decimal, if◌then◌else◌}
use Rattle.css_tree.specs.Tree.{Tree}
use Rattle.rule_sites.specs.Blocks.{is_at_rule, is_block, start_byte}
use Rattle.rule_sites.specs.Context.{Context}
use Rattle.rule_sites.specs.Finding.{Finding, unmended}
use Rattle.rules_tree.specs.AtRoot.{is_root_alone}
use Rattle.rules_tree.specs.FindingIf.{finding_if}

-- a block with these ancestors, but no at-rule directly at the root
abbrev pub counts : Tree → List Tree → Bool
counts t ancestors = is_block t.text && not (is_at_rule t.text && is_root_alone ancestors)

-- how many of these count, of which each has the ones after it as its ancestors
abbrev pub enclosing : List Tree → ℕ
enclosing [] = 0
enclosing (t ∷ ancestors) = (if counts t ancestors then 1 else 0) + enclosing ancestors

-- at the start of a block with more than n enclosing blocks
unfoldable pub findings : ℕ → Context → List Finding
findings n c = finding_if (is_block c.node.text && nat_lt n (enclosing c.ancestors))
    (unmended (start_byte c.node) (codes "Expected nesting depth to be no more than " ++ decimal n))
