use Rattle.std.proofs.Common.{◌∙◌, sym, refl, []}
use Rattle.std.specs.Str.{chars}
use Rattle.rule_sites.specs.ContextAt.{context_at}
use Rattle.rule_sites.proofs.Places.{after_front}
use Rattle.rules_tree.specs.NoEmptySource.{findings}
use Rattle.rules_tree.proofs.Found.{found}
use Rattle.rules_tree.proofs.no_empty_source.visit.Goals as goal

pub returns-in_ok-push_message : goal.returns-in_ok-push_message
unfolding findings context_at chars
returns-in_ok-push_message c = found _ _ _ _ _ _ _ _ (sym c.is_empty_sheet.ensures ∙ c.if-is_empty_sheet.true) refl c.in_ok-push_message.ensures.added

pub push_message-requires : goal.push_message-requires
push_message-requires c = after_front c.args.work.now.text [] c.args.work.now.text refl
