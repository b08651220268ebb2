-- What the rules find on small sheets.
use Rattle.std.specs.Prelude.{◌≡◌, ℕ, List, [], ◌∷◌, ◌++◌, true, false, Some, None, codes}
use Rattle.std.specs.List.{flat_map}
use Rattle.css_tree.specs.Examples.{plain, ending, at, sheet, in_rule, declared}
use Rattle.css_tree.specs.Tree.{Trees, none, node, Tree}
use Rattle.css_tree.specs.declared.node.NodeText.TheVariants.{AtRule, Rule, Declaration, Comment}
use Rattle.lint_config.specs.declared.rule.Rule.TheVariants as R
use Rattle.lint_config.specs.declared.setting.Choice.{Choice}
use Rattle.lint_config.specs.declared.setting.Choice.TheVariants.{On, Count, Always}
use Rattle.lint_config.specs.declared.rule.Rule.{Rule as RuleName}
use Rattle.rule_sites.specs.Context.{contexts}
use Rattle.rule_sites.specs.Finding.{Finding, unmended, mended}
use Rattle.rules_tree.specs.Findings.{findings}

abbrev pub found : RuleName → Choice → Tree → List Finding
found rule choice t = flat_map (findings rule choice) (contexts t)

-- `a{}` and `a{/**/}`
abbrev pub Blocks : Type 0
Blocks = (found R.BlockNoEmpty On (in_rule 3 (ending false []) none) ≡ unmended 1 (codes "Unexpected empty block") ∷ [])
    × (found R.BlockNoEmpty On (in_rule 7 (ending false []) (at 2 6 (Comment (Some []) [] [] []) none none)) ≡ [])

-- `/* */` and `/*x*/`
abbrev pub Comments : Type 0
Comments = (found R.CommentNoEmpty On (sheet false 5 (ending false []) (at 0 5 (Comment (Some []) (codes " ") [] []) none none)) ≡ unmended 0 (codes "Unexpected empty comment") ∷ [])
    × (found R.CommentNoEmpty On (sheet false 5 (ending false []) (at 0 5 (Comment (Some []) [] (codes "x") []) none none)) ≡ [])

-- `/** x*/`, `/**x */`, `/*!x*/` and `/***/`
abbrev pub WhitespaceInside : Type 0
WhitespaceInside = (found R.CommentWhitespaceInside Always (sheet false 7 (ending false []) (at 0 7 (Comment (Some []) [] (codes "* x") []) none none)) ≡ mended 5 (codes "Expected whitespace before \"*/\"") 5 5 (codes " ") ∷ [])
    × (found R.CommentWhitespaceInside Always (sheet false 7 (ending false []) (at 0 7 (Comment (Some []) [] (codes "*x") (codes " ")) none none)) ≡ mended 0 (codes "Expected whitespace after \"/*\"") 3 3 (codes " ") ∷ [])
    × (found R.CommentWhitespaceInside Always (sheet false 6 (ending false []) (at 0 6 (Comment (Some []) [] (codes "!x") []) none none)) ≡ [])
    × (found R.CommentWhitespaceInside Always (sheet false 5 (ending false []) (at 0 5 (Comment (Some []) [] (codes "*") []) none none)) ≡ [])

-- no text, white space, and a `;`
abbrev pub Sources : Type 0
Sources = (found R.NoEmptySource On (sheet false 0 (ending false []) none) ≡ unmended 0 (codes "Unexpected empty source") ∷ [])
    × (found R.NoEmptySource On (sheet true 4 (ending false (codes " ")) none) ≡ unmended 0 (codes "Unexpected empty source") ∷ [])
    × (found R.NoEmptySource On (sheet false 1 (ending false (codes ";")) none) ≡ [])

-- `a{}@import "b";`
abbrev pub Imports : Type 0
Imports = found R.NoInvalidPositionAtImportRule On (sheet false 15 (ending true []) (at 0 3 (Rule (Some []) (plain (codes "a")) [] (ending false [])) none (at 3 14 (AtRule (Some []) (codes "import") (codes " ") (plain (codes "\"b\"")) [] None) none none)))
    ≡ unmended 3 (codes "Unexpected invalid position @import rule") ∷ []

-- `a{b{c{}}}`
abbrev pub nested : Trees
nested = at 2 8 (Rule (Some []) (plain (codes "b")) [] (ending false [])) (at 4 7 (Rule (Some []) (plain (codes "c")) [] (ending false [])) none none) none

abbrev pub Depths : Type 0
Depths = (found R.MaxNestingDepth (Count 1) (in_rule 9 (ending false []) nested) ≡ unmended 4 (codes "Expected nesting depth to be no more than 1") ∷ [])
    × (found R.MaxNestingDepth (Count 1) (sheet false 9 (ending false []) (at 0 9 (AtRule (Some []) (codes "x") [] (plain []) [] (Some (ending false []))) nested none)) ≡ [])

-- two declarations in a rule
abbrev pub two : List ℕ → List ℕ → ℕ → Tree
two p q second = in_rule 40 (ending false []) (at 2 7 (declared [] p (codes "1")) none (at second 39 (declared [] q (codes "2")) none none))

abbrev pub Duplicates : Type 0
Duplicates = (found R.DeclarationBlockNoDuplicateCustomProperties On (two (codes "--x") (codes "--x") 8) ≡ unmended 8 (codes "Unexpected duplicate \"--x\"") ∷ [])
    × (found R.DeclarationBlockNoDuplicateCustomProperties On (two (codes "--x") (codes "--X") 8) ≡ [])
    × (found R.DeclarationBlockNoDuplicateProperties On (two (codes "top") (codes "TOP") 8) ≡ unmended 8 (codes "Unexpected duplicate \"TOP\"") ∷ [])
    × (found R.DeclarationBlockNoDuplicateProperties On (two (codes "src") (codes "SRC") 8) ≡ [])

abbrev pub Overrides : Type 0
Overrides = (found R.DeclarationBlockNoShorthandPropertyOverrides On (two (codes "margin-top") (codes "margin") 15) ≡ unmended 15 (codes "Unexpected shorthand \"margin\" after \"margin-top\"") ∷ [])
    × (found R.DeclarationBlockNoShorthandPropertyOverrides On (two (codes "margin") (codes "margin-top") 15) ≡ [])

-- a declaration `b:c` with this mark
abbrev pub marked : List ℕ → Trees
marked raw = at 24 37 (Declaration (Some []) (codes "b") (codes ":") (plain (codes "c")) true raw []) none none

-- `@-webkit-keyframes f{to{b:c!important}}`
abbrev pub in_keyframes : Tree
in_keyframes = sheet false 39 (ending false []) (at 0 39 (AtRule (Some []) (codes "-webkit-keyframes") (codes " ") (plain (codes "f")) [] (Some (ending false [])))
    (at 21 38 (Rule (Some []) (plain (codes "to")) [] (ending false [])) (marked (codes "!important")) none) none)

abbrev pub Marks : Type 0
Marks = (found R.DeclarationNoImportant On (in_rule 40 (ending false []) (marked (codes " !important"))) ≡ unmended 28 (codes "Unexpected !important") ∷ [])
    × (found R.DeclarationNoImportant On (in_rule 40 (ending false []) (marked (codes "/*!*/! important"))) ≡ unmended 32 (codes "Unexpected !important") ∷ [])
    × (found R.KeyframeDeclarationNoImportant On (in_rule 40 (ending false []) (marked (codes "!important"))) ≡ [])
    × (found R.KeyframeDeclarationNoImportant On in_keyframes ≡ unmended 27 (codes "Unexpected !important") ∷ [])
