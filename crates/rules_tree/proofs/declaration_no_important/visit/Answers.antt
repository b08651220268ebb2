use Rattle.std.proofs.Common.{◌∙◌, sym, ap}
use Rattle.std.specs.Str.{chars}
use Rattle.rule_sites.specs.ContextAt.{context_at}
use Rattle.rules_tree.specs.DeclarationNoImportant.{findings}
use Rattle.rules_tree.specs.Important.{is_marked}
use Rattle.rules_tree.proofs.Found.{found}
use Rattle.rules_tree.proofs.declaration_no_important.visit.Goals as goal

pub returns-in_ok-push_message : goal.returns-in_ok-push_message
unfolding findings context_at chars
returns-in_ok-push_message c = found _ _ _ _ _ _ _ _ (sym (c.is_marked.ensures ∙ ap is_marked c.text_of.ensures) ∙ c.if-is_marked.true) c.mark_of-at.ensures.value c.in_ok-push_message.ensures.added
