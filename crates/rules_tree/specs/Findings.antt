-- The rules over the tree of a sheet: what each of them finds at a node, seen with its siblings and its ancestors.
use Rattle.std.specs.Prelude.{List, []}
use Rattle.lint_config.specs.declared.rule.Rule.{Rule}
use Rattle.lint_config.specs.declared.rule.Rule.TheVariants as R
use Rattle.lint_config.specs.declared.setting.Choice.{Choice}
use Rattle.lint_config.specs.declared.setting.Choice.TheVariants.{On, Count, Always}
use Rattle.rule_sites.specs.Context.{Context}
use Rattle.rule_sites.specs.Finding.{Finding, Finds}
use Rattle.rules_tree.specs.BlockNoEmpty
use Rattle.rules_tree.specs.CommentNoEmpty
use Rattle.rules_tree.specs.CommentWhitespaceInside
use Rattle.rules_tree.specs.NoEmptySource
use Rattle.rules_tree.specs.NoInvalidPositionAtImportRule
use Rattle.rules_tree.specs.MaxNestingDepth
use Rattle.rules_tree.specs.DeclarationBlockNoDuplicateCustomProperties
use Rattle.rules_tree.specs.DeclarationBlockNoDuplicateProperties
use Rattle.rules_tree.specs.DeclarationBlockNoShorthandPropertyOverrides
use Rattle.rules_tree.specs.DeclarationNoImportant
use Rattle.rules_tree.specs.KeyframeDeclarationNoImportant

-- Any other rule finds nothing here, and neither does a choice that the rule doesn't take.
unfoldable pub findings : Rule → Choice → Context → List Finding
findings R.BlockNoEmpty On c = BlockNoEmpty.findings c
findings R.CommentNoEmpty On c = CommentNoEmpty.findings c
findings R.CommentWhitespaceInside Always c = CommentWhitespaceInside.findings c
findings R.NoEmptySource On c = NoEmptySource.findings c
findings R.NoInvalidPositionAtImportRule On c = NoInvalidPositionAtImportRule.findings c
findings R.MaxNestingDepth (Count n) c = MaxNestingDepth.findings n c
findings R.DeclarationBlockNoDuplicateCustomProperties On c = DeclarationBlockNoDuplicateCustomProperties.findings c
findings R.DeclarationBlockNoDuplicateProperties On c = DeclarationBlockNoDuplicateProperties.findings c
findings R.DeclarationBlockNoShorthandPropertyOverrides On c = DeclarationBlockNoShorthandPropertyOverrides.findings c
findings R.DeclarationNoImportant On c = DeclarationNoImportant.findings c
findings R.KeyframeDeclarationNoImportant On c = KeyframeDeclarationNoImportant.findings c
findings _ _ c = []
