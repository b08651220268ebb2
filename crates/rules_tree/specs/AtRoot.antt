-- Names of at-rules, and which nodes stand at the root of a sheet.
use Rattle.std.specs.Prelude.{ℕ, List, [], ◌∷◌, Bool, true, false}
use Rattle.css_tree.specs.Mark.{is_text}
use Rattle.css_tree.specs.Tree.{Tree}
use Rattle.css_tree.specs.declared.node.NodeText.{NodeText}
use Rattle.css_tree.specs.declared.node.NodeText.TheVariants as N
use Rattle.rule_sites.specs.Blocks.{is_root}

-- an at-rule of that name, which is given in lower case
abbrev pub is_at : List ℕ → NodeText → Bool
is_at name (N.AtRule before written after_name params between block) = is_text name written
is_at name _ = false

-- these ancestors are the root alone
abbrev pub is_root_alone : List Tree → Bool
is_root_alone (t ∷ []) = is_root t.text
is_root_alone _ = false
