use Rattle.std.proofs.Common.{◌≡◌, true, sym, subst, rules}
use Rattle.std.specs.Str.{chars}
use Rattle.lint_config.specs.Choices.{are_settings}
use Rattle.lint_config.specs.ConfigView.{contents_view}
use Rattle.lint_config.specs.Resolved.{rules_for}
use Rattle.lint_config.proofs.SoundSettings.{settings_allowed}
use Rattle.lint_config.proofs.resolve.settings.Goals as goal

pub returns-clause-allowed : goal.returns-clause-allowed
returns-clause-allowed c =
    let e : c.in_ok-enabled.field-0.items ≡ rules_for (contents_view c.config.inside.contents) (chars c.args.path.now) = search rules in
    subst (λ xs. are_settings xs ≡ true) (sym e) (settings_allowed (contents_view c.config.inside.contents) (chars c.args.path.now) c.config.invariant)
