-- A sheet that is empty but for white space, after a byte order mark or without one.
use Rattle.std.specs.Prelude.{ℕ, List, Bool, true, false, ◌&&◌, codes, Option, Some, None}
use Rattle.std.specs.List.{list_all}
use Rattle.css_text.specs.Characters.{is_space}
use Rattle.css_tree.specs.declared.node.NodeText.{NodeText}
use Rattle.css_tree.specs.declared.node.NodeText.TheVariants as N
use Rattle.rule_sites.specs.Context.{Context}
use Rattle.rule_sites.specs.Finding.{Finding, unmended}
use Rattle.rules_tree.specs.BlockNoEmpty.{is_empty}
use Rattle.rules_tree.specs.FindingIf.{finding_if}

abbrev pub is_white : Option (List ℕ) → Bool
is_white None = true
is_white (Some s) = list_all is_space s

-- the root, where nothing but white space stands after its nodes
abbrev pub is_white_root : NodeText → Bool
is_white_root (N.Root bom block) = is_white block.after
is_white_root _ = false

-- at the sheet's start
unfoldable pub findings : Context → List Finding
findings c = finding_if (is_white_root c.node.text && is_empty c.node.children) (unmended 0 (codes "Unexpected empty source"))
