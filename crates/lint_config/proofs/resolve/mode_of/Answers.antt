use Rattle.std.proofs.Common.{ap, ◌∙◌}
use Rattle.lint_config.specs.ModesView.{modes_view}
use Rattle.lint_config.specs.Resolved.{mode_in}
use Rattle.lint_config.proofs.Modes.{mode_in-modes_view}
use Rattle.lint_config.proofs.resolve.mode_of.Goals as goal

pub returns : goal.returns
returns c =
    c.copied.ensures ∙ c.get.ensures.value ∙ mode_in-modes_view c.name.result.now c.args.modes.now.entries
    ∙ ap (λ n. mode_in n (modes_view c.args.modes.now.entries)) c.name.ensures
