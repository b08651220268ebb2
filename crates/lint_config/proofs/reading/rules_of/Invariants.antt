use Rattle.std.proofs.Common.{◌≡◌}
use Rattle.serde_json.specs.View.{members_view}
use Rattle.lint_config.specs.ConfigOf.{rules_of as rules_at}
use Rattle.lint_config.specs.ConfigView.{rules_view}
use Rattle.lint_config.specs.Keys.{rules_key}
use Rattle.lint_config.proofs.Behind.{behind}
use Rattle.lint_config.proofs.reading.rules_of.Given as goal

abbrev pub invariant-loop-name : goal.invariant-loop-name
invariant-loop-name l =
    (goal.iterator-loop-name).can_next l.name-iterator ×
    (goal.iterator-loop-name).is_finite l.name-iterator ×
    (rules_at (rules_key l.place) (members_view l.fn.members.entries) ≡ behind (rules_view l.rules.items) (rules_at (rules_key l.place) (members_view l.name-iterator)))
