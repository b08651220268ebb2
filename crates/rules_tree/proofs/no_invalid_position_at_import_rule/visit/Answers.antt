use Rattle.std.proofs.Common.{◌∙◌, sym}
use Rattle.std.specs.Str.{chars}
use Rattle.rule_sites.specs.ContextAt.{context_at}
use Rattle.rules_tree.specs.NoInvalidPositionAtImportRule.{findings}
use Rattle.rules_tree.proofs.Found.{found}
use Rattle.rules_tree.proofs.no_invalid_position_at_import_rule.visit.Goals as goal

pub returns-in_ok-push_message : goal.returns-in_ok-push_message
unfolding findings context_at chars
returns-in_ok-push_message c = found _ _ _ _ _ _ _ _ (sym c.is_late.ensures ∙ c.if-is_late.true) c.start_of-at.ensures.value c.in_ok-push_message.ensures.added
