use Rattle.std.proofs.Common.{◌∙◌, sym, ap}
use Rattle.std.specs.Str.{chars}
use Rattle.rule_sites.specs.ContextAt.{context_at}
use Rattle.rules_tree.specs.CommentNoEmpty.{findings, is_empty_comment}
use Rattle.rules_tree.proofs.Found.{found}
use Rattle.rules_tree.proofs.comment_no_empty.visit.Goals as goal

pub returns-in_ok-push_message : goal.returns-in_ok-push_message
unfolding findings context_at chars
returns-in_ok-push_message c = found _ _ _ _ _ _ _ _ (sym (c.is_empty_comment.ensures ∙ ap is_empty_comment c.text_of.ensures) ∙ c.if-is_empty_comment.true) c.start_of-at.ensures.value c.in_ok-push_message.ensures.added
