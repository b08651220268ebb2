use Rattle.std.proofs.Common.{◌∙◌, sym, ap}
use Rattle.std.specs.Str.{chars}
use Rattle.rule_sites.specs.ContextAt.{context_at}
use Rattle.rules_tree.specs.KeyframeDeclarationNoImportant.{findings}
use Rattle.rules_tree.proofs.Found.{found}
use Rattle.rules_tree.proofs.keyframe_declaration_no_important.visit.Goals as goal

pub returns-in_ok-push_message : goal.returns-in_ok-push_message
unfolding findings context_at chars
returns-in_ok-push_message c = found _ _ _ _ _ _ _ _ (sym c.is_marked_inside.ensures ∙ c.if-is_marked_inside.true) c.mark_of-at.ensures.value c.in_ok-push_message.ensures.added
