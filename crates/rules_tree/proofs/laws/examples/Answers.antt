use Rattle.std.proofs.Common.{refl}
use Rattle.std.specs.Fmt.{digits}
use Rattle.css_text.specs.Characters.{is_space, is_quote, is_single, ends_word}
use Rattle.css_text.specs.Forms.{begins_url}
use Rattle.css_text.specs.Pieces.{first, cut}
use Rattle.rule_sites.specs.Context.{contexts, contexts_below}
use Rattle.rule_sites.specs.Keyframes.{is_keyframes_name}
use Rattle.rules_tree.specs.Findings.{findings}
use Rattle.rules_tree.specs.BlockNoEmpty as SBlockNoEmpty
use Rattle.rules_tree.specs.CommentNoEmpty as SCommentNoEmpty
use Rattle.rules_tree.specs.CommentWhitespaceInside as SCommentWhitespaceInside
use Rattle.rules_tree.specs.NoEmptySource as SNoEmptySource
use Rattle.rules_tree.specs.NoInvalidPositionAtImportRule as SNoInvalidPositionAtImportRule
use Rattle.rules_tree.specs.MaxNestingDepth as SMaxNestingDepth
use Rattle.rules_tree.specs.DeclarationBlockNoDuplicateCustomProperties as SDeclarationBlockNoDuplicateCustomProperties
use Rattle.rules_tree.specs.DeclarationBlockNoDuplicateProperties as SDeclarationBlockNoDuplicateProperties
use Rattle.rules_tree.specs.DeclarationBlockNoShorthandPropertyOverrides as SDeclarationBlockNoShorthandPropertyOverrides
use Rattle.rules_tree.specs.DeclarationNoImportant as SDeclarationNoImportant
use Rattle.rules_tree.specs.KeyframeDeclarationNoImportant as SKeyframeDeclarationNoImportant
use Rattle.rules_tree.proofs.laws.examples.Goals as goal

pub returns-clause-blocks : goal.returns-clause-blocks
unfolding contexts contexts_below findings SBlockNoEmpty.findings
returns-clause-blocks c = (refl, refl)

pub returns-clause-comments : goal.returns-clause-comments
unfolding contexts contexts_below findings SCommentNoEmpty.findings
returns-clause-comments c = (refl, refl)

pub returns-clause-whitespace_inside : goal.returns-clause-whitespace_inside
unfolding contexts contexts_below findings SCommentWhitespaceInside.findings is_space
returns-clause-whitespace_inside c = (refl, refl, refl, refl)

pub returns-clause-sources : goal.returns-clause-sources
unfolding contexts contexts_below findings SNoEmptySource.findings is_space
returns-clause-sources c = (refl, refl, refl)

pub returns-clause-imports : goal.returns-clause-imports
unfolding contexts contexts_below findings SNoInvalidPositionAtImportRule.findings
returns-clause-imports c = refl

pub returns-clause-depths : goal.returns-clause-depths
unfolding contexts contexts_below findings SMaxNestingDepth.findings digits
returns-clause-depths c = (refl, refl)

pub returns-clause-duplicates : goal.returns-clause-duplicates
unfolding contexts contexts_below findings SDeclarationBlockNoDuplicateCustomProperties.findings SDeclarationBlockNoDuplicateProperties.findings
returns-clause-duplicates c = (refl, refl, refl, refl)

pub returns-clause-overrides : goal.returns-clause-overrides
unfolding contexts contexts_below findings SDeclarationBlockNoShorthandPropertyOverrides.findings
returns-clause-overrides c = (refl, refl)

pub returns-clause-marks : goal.returns-clause-marks
unfolding contexts contexts_below findings is_keyframes_name SDeclarationNoImportant.findings SKeyframeDeclarationNoImportant.findings cut first is_space is_quote is_single begins_url ends_word
returns-clause-marks c = (refl, refl, refl, refl)
