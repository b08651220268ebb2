use Rattle.std.proofs.Common.{◌≡◌, length}
use Rattle.serde_json.specs.View.{items_view}
use Rattle.lint_config.specs.ConfigOf.{overrides_of as overrides_from}
use Rattle.lint_config.specs.ConfigView.{overrides_view}
use Rattle.lint_config.proofs.Behind.{behind}
use Rattle.lint_config.proofs.reading.overrides_of.Given as goal

abbrev pub invariant-loop-item : goal.invariant-loop-item
invariant-loop-item l = overrides_from 0 (items_view l.fn.items.items) ≡ behind (overrides_view l.overrides.items) (overrides_from (length l.overrides.items) (items_view l.item-iterator.rest.items))
