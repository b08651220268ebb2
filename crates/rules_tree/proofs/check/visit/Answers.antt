use Rattle.std.proofs.Common.{◌≡◌, ◌++◌, refl, subst}
use Rattle.std.specs.Prelude.{OnOk}
use Rattle.lint_config.specs.Rules.{entry_of}
use Rattle.lint_config.specs.declared.rule.Rule.TheVariants as R
use Rattle.lint_config.specs.declared.setting.Choice.TheVariants.{Count}
use Rattle.rule_sites.specs.ContextAt.{context_at}
use Rattle.rules_tree.specs.Findings.{findings}
use Rattle.rules_tree.specs.BlockNoEmpty as SBlockNoEmpty
use Rattle.rules_tree.specs.CommentNoEmpty as SCommentNoEmpty
use Rattle.rules_tree.specs.CommentWhitespaceInside as SCommentWhitespaceInside
use Rattle.rules_tree.specs.NoEmptySource as SNoEmptySource
use Rattle.rules_tree.specs.NoInvalidPositionAtImportRule as SNoInvalidPositionAtImportRule
use Rattle.rules_tree.specs.DeclarationBlockNoDuplicateCustomProperties as SDeclarationBlockNoDuplicateCustomProperties
use Rattle.rules_tree.specs.DeclarationBlockNoDuplicateProperties as SDeclarationBlockNoDuplicateProperties
use Rattle.rules_tree.specs.DeclarationBlockNoShorthandPropertyOverrides as SDeclarationBlockNoShorthandPropertyOverrides
use Rattle.rules_tree.specs.MaxNestingDepth as SMaxNestingDepth
use Rattle.rules_tree.specs.DeclarationNoImportant as SDeclarationNoImportant
use Rattle.rules_tree.specs.KeyframeDeclarationNoImportant as SKeyframeDeclarationNoImportant
use Rattle.rules_tree.proofs.Dispatch.{flagged, always, nothing, chosen, not_counted}
use Rattle.rules_tree.proofs.check.visit.Goals as goal

pub returns-in-BlockNoEmpty : goal.returns-in-BlockNoEmpty
unfolding findings entry_of
returns-in-BlockNoEmpty c =
    let w = c.args.work.now in
    let e = flagged w.text c.args.setting.now (context_at w.nodes c.args.n) R.BlockNoEmpty (SBlockNoEmpty.findings (context_at w.nodes c.args.n)) c.in-BlockNoEmpty.is refl c.requires.allowed refl in
    subst (λ z. OnOk c.visit.result (c.visit.new.sites.items ≡ c.args.sites.now.items ++ z)) e c.visit.ensures

pub returns-in-CommentNoEmpty : goal.returns-in-CommentNoEmpty
unfolding findings entry_of
returns-in-CommentNoEmpty c =
    let w = c.args.work.now in
    let e = flagged w.text c.args.setting.now (context_at w.nodes c.args.n) R.CommentNoEmpty (SCommentNoEmpty.findings (context_at w.nodes c.args.n)) c.in-CommentNoEmpty.is refl c.requires.allowed refl in
    subst (λ z. OnOk c.visit-in-CommentNoEmpty.result (c.visit-in-CommentNoEmpty.new.sites.items ≡ c.args.sites.now.items ++ z)) e c.visit-in-CommentNoEmpty.ensures

pub returns-in-CommentWhitespaceInside : goal.returns-in-CommentWhitespaceInside
unfolding findings entry_of
returns-in-CommentWhitespaceInside c =
    let w = c.args.work.now in
    let e = always w.text c.args.setting.now (context_at w.nodes c.args.n) R.CommentWhitespaceInside (SCommentWhitespaceInside.findings (context_at w.nodes c.args.n)) c.in-CommentWhitespaceInside.is refl c.requires.allowed refl in
    subst (λ z. OnOk c.visit-in-CommentWhitespaceInside.result (c.visit-in-CommentWhitespaceInside.new.sites.items ≡ c.args.sites.now.items ++ z)) e c.visit-in-CommentWhitespaceInside.ensures

pub returns-in-NoEmptySource : goal.returns-in-NoEmptySource
unfolding findings entry_of
returns-in-NoEmptySource c =
    let w = c.args.work.now in
    let e = flagged w.text c.args.setting.now (context_at w.nodes c.args.n) R.NoEmptySource (SNoEmptySource.findings (context_at w.nodes c.args.n)) c.in-NoEmptySource.is refl c.requires.allowed refl in
    subst (λ z. OnOk c.visit-in-NoEmptySource.result (c.visit-in-NoEmptySource.new.sites.items ≡ c.args.sites.now.items ++ z)) e c.visit-in-NoEmptySource.ensures

pub returns-in-NoInvalidPositionAtImportRule : goal.returns-in-NoInvalidPositionAtImportRule
unfolding findings entry_of
returns-in-NoInvalidPositionAtImportRule c =
    let w = c.args.work.now in
    let e = flagged w.text c.args.setting.now (context_at w.nodes c.args.n) R.NoInvalidPositionAtImportRule (SNoInvalidPositionAtImportRule.findings (context_at w.nodes c.args.n)) c.in-NoInvalidPositionAtImportRule.is refl c.requires.allowed refl in
    subst (λ z. OnOk c.visit-in-NoInvalidPositionAtImportRule.result (c.visit-in-NoInvalidPositionAtImportRule.new.sites.items ≡ c.args.sites.now.items ++ z)) e c.visit-in-NoInvalidPositionAtImportRule.ensures

pub returns-in-DeclarationBlockNoDuplicateCustomProperties : goal.returns-in-DeclarationBlockNoDuplicateCustomProperties
unfolding findings entry_of
returns-in-DeclarationBlockNoDuplicateCustomProperties c =
    let w = c.args.work.now in
    let e = flagged w.text c.args.setting.now (context_at w.nodes c.args.n) R.DeclarationBlockNoDuplicateCustomProperties (SDeclarationBlockNoDuplicateCustomProperties.findings (context_at w.nodes c.args.n)) c.in-DeclarationBlockNoDuplicateCustomProperties.is refl c.requires.allowed refl in
    subst (λ z. OnOk c.visit-in-DeclarationBlockNoDuplicateCustomProperties.result (c.visit-in-DeclarationBlockNoDuplicateCustomProperties.new.sites.items ≡ c.args.sites.now.items ++ z)) e c.visit-in-DeclarationBlockNoDuplicateCustomProperties.ensures

pub returns-in-DeclarationBlockNoDuplicateProperties : goal.returns-in-DeclarationBlockNoDuplicateProperties
unfolding findings entry_of
returns-in-DeclarationBlockNoDuplicateProperties c =
    let w = c.args.work.now in
    let e = flagged w.text c.args.setting.now (context_at w.nodes c.args.n) R.DeclarationBlockNoDuplicateProperties (SDeclarationBlockNoDuplicateProperties.findings (context_at w.nodes c.args.n)) c.in-DeclarationBlockNoDuplicateProperties.is refl c.requires.allowed refl in
    subst (λ z. OnOk c.visit-in-DeclarationBlockNoDuplicateProperties.result (c.visit-in-DeclarationBlockNoDuplicateProperties.new.sites.items ≡ c.args.sites.now.items ++ z)) e c.visit-in-DeclarationBlockNoDuplicateProperties.ensures

pub returns-in-DeclarationBlockNoShorthandPropertyOverrides : goal.returns-in-DeclarationBlockNoShorthandPropertyOverrides
unfolding findings entry_of
returns-in-DeclarationBlockNoShorthandPropertyOverrides c =
    let w = c.args.work.now in
    let e = flagged w.text c.args.setting.now (context_at w.nodes c.args.n) R.DeclarationBlockNoShorthandPropertyOverrides (SDeclarationBlockNoShorthandPropertyOverrides.findings (context_at w.nodes c.args.n)) c.in-DeclarationBlockNoShorthandPropertyOverrides.is refl c.requires.allowed refl in
    subst (λ z. OnOk c.visit-in-DeclarationBlockNoShorthandPropertyOverrides.result (c.visit-in-DeclarationBlockNoShorthandPropertyOverrides.new.sites.items ≡ c.args.sites.now.items ++ z)) e c.visit-in-DeclarationBlockNoShorthandPropertyOverrides.ensures

pub returns-in-DeclarationNoImportant : goal.returns-in-DeclarationNoImportant
unfolding findings entry_of
returns-in-DeclarationNoImportant c =
    let w = c.args.work.now in
    let e = flagged w.text c.args.setting.now (context_at w.nodes c.args.n) R.DeclarationNoImportant (SDeclarationNoImportant.findings (context_at w.nodes c.args.n)) c.in-DeclarationNoImportant.is refl c.requires.allowed refl in
    subst (λ z. OnOk c.visit-in-DeclarationNoImportant.result (c.visit-in-DeclarationNoImportant.new.sites.items ≡ c.args.sites.now.items ++ z)) e c.visit-in-DeclarationNoImportant.ensures

pub returns-in-KeyframeDeclarationNoImportant : goal.returns-in-KeyframeDeclarationNoImportant
unfolding findings entry_of
returns-in-KeyframeDeclarationNoImportant c =
    let w = c.args.work.now in
    let e = flagged w.text c.args.setting.now (context_at w.nodes c.args.n) R.KeyframeDeclarationNoImportant (SKeyframeDeclarationNoImportant.findings (context_at w.nodes c.args.n)) c.in-KeyframeDeclarationNoImportant.is refl c.requires.allowed refl in
    subst (λ z. OnOk c.visit-in-KeyframeDeclarationNoImportant.result (c.visit-in-KeyframeDeclarationNoImportant.new.sites.items ≡ c.args.sites.now.items ++ z)) e c.visit-in-KeyframeDeclarationNoImportant.ensures

pub returns-in-ShorthandPropertyNoRedundantValues : goal.returns-in-ShorthandPropertyNoRedundantValues
unfolding findings
returns-in-ShorthandPropertyNoRedundantValues c = nothing c.args.work.now.text c.args.setting.now (context_at c.args.work.now.nodes c.args.n) R.ShorthandPropertyNoRedundantValues c.args.sites.now.items c.in-ShorthandPropertyNoRedundantValues.is refl

pub returns-in-ColorNoInvalidHex : goal.returns-in-ColorNoInvalidHex
unfolding findings
returns-in-ColorNoInvalidHex c = nothing c.args.work.now.text c.args.setting.now (context_at c.args.work.now.nodes c.args.n) R.ColorNoInvalidHex c.args.sites.now.items c.in-ColorNoInvalidHex.is refl

pub returns-in-ColorHexLength : goal.returns-in-ColorHexLength
unfolding findings
returns-in-ColorHexLength c = nothing c.args.work.now.text c.args.setting.now (context_at c.args.work.now.nodes c.args.n) R.ColorHexLength c.args.sites.now.items c.in-ColorHexLength.is refl

pub returns-in-LengthZeroNoUnit : goal.returns-in-LengthZeroNoUnit
unfolding findings
returns-in-LengthZeroNoUnit c = nothing c.args.work.now.text c.args.setting.now (context_at c.args.work.now.nodes c.args.n) R.LengthZeroNoUnit c.args.sites.now.items c.in-LengthZeroNoUnit.is refl

pub returns-in-UnitNoUnknown : goal.returns-in-UnitNoUnknown
unfolding findings
returns-in-UnitNoUnknown c = nothing c.args.work.now.text c.args.setting.now (context_at c.args.work.now.nodes c.args.n) R.UnitNoUnknown c.args.sites.now.items c.in-UnitNoUnknown.is refl

pub returns-in-NoDuplicateSelectors : goal.returns-in-NoDuplicateSelectors
unfolding findings
returns-in-NoDuplicateSelectors c = nothing c.args.work.now.text c.args.setting.now (context_at c.args.work.now.nodes c.args.n) R.NoDuplicateSelectors c.args.sites.now.items c.in-NoDuplicateSelectors.is refl

pub returns-in-SelectorMaxId : goal.returns-in-SelectorMaxId
unfolding findings
returns-in-SelectorMaxId c = nothing c.args.work.now.text c.args.setting.now (context_at c.args.work.now.nodes c.args.n) R.SelectorMaxId c.args.sites.now.items c.in-SelectorMaxId.is refl

pub returns-in-SelectorMaxSpecificity : goal.returns-in-SelectorMaxSpecificity
unfolding findings
returns-in-SelectorMaxSpecificity c = nothing c.args.work.now.text c.args.setting.now (context_at c.args.work.now.nodes c.args.n) R.SelectorMaxSpecificity c.args.sites.now.items c.in-SelectorMaxSpecificity.is refl

pub returns-in-SelectorPseudoElementColonNotation : goal.returns-in-SelectorPseudoElementColonNotation
unfolding findings
returns-in-SelectorPseudoElementColonNotation c = nothing c.args.work.now.text c.args.setting.now (context_at c.args.work.now.nodes c.args.n) R.SelectorPseudoElementColonNotation c.args.sites.now.items c.in-SelectorPseudoElementColonNotation.is refl

pub returns-in-Count : goal.returns-in-Count
unfolding findings
returns-in-Count c =
    let w = c.args.work.now in
    let e = chosen w.text c.args.setting.now (context_at w.nodes c.args.n) R.MaxNestingDepth (Count c.in-Count.most) (SMaxNestingDepth.findings c.in-Count.most (context_at w.nodes c.args.n)) c.in-MaxNestingDepth.is c.in-Count.is refl in
    subst (λ z. OnOk c.visit-in-Count.result (c.visit-in-Count.new.sites.items ≡ c.args.sites.now.items ++ z)) e c.visit-in-Count.ensures

pub returns-in_default : goal.returns-in_default
unfolding entry_of
returns-in_default c = absurd (not_counted c.args.setting.now R.MaxNestingDepth c.in-MaxNestingDepth.is refl c.requires.allowed c.in_default.not-Count)
