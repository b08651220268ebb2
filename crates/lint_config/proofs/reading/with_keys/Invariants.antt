use Rattle.std.proofs.Common.{◌≡◌}
use Rattle.serde_json.specs.View.{members_view}
use Rattle.lint_config.specs.ConfigOf.{with_keys as keys_in}
use Rattle.lint_config.specs.ConfigView.{contents_view}
use Rattle.lint_config.proofs.reading.with_keys.Given as goal

abbrev pub invariant-loop-key : goal.invariant-loop-key
invariant-loop-key l =
    (goal.iterator-loop-key).can_next l.key-iterator ×
    (goal.iterator-loop-key).is_finite l.key-iterator ×
    (keys_in (members_view l.fn.members.entries) (contents_view l.fn.contents) ≡ keys_in (members_view l.key-iterator) (contents_view l.contents))
