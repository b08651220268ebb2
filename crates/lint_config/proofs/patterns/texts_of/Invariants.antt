use Rattle.std.proofs.Common.{◌≡◌}
use Rattle.serde_json.specs.View.{items_view}
use Rattle.lint_config.specs.ConfigOf.{texts_of as item_texts}
use Rattle.lint_config.specs.ConfigView.{texts_view}
use Rattle.lint_config.proofs.Behind.{behind_texts}
use Rattle.lint_config.proofs.patterns.texts_of.Given as goal

abbrev pub invariant-loop-item : goal.invariant-loop-item
invariant-loop-item l = item_texts (items_view l.fn.items.items) ≡ behind_texts (texts_view l.texts.items) (item_texts (items_view l.item-iterator.rest.items))
