use Rattle.std.proofs.Common.{◌≡◌, true, Ok, ap, sym, ◌∙◌, subst}
use Rattle.lint_config.specs.Sound.{is_sound}
use Rattle.lint_config.proofs.BuiltInRead.{built_in_data, built_in_json, built_in_is, built_in_sound}
use Rattle.lint_config.proofs.config.Config.built_in.Goals as goal

pub invariant_of-result : goal.invariant_of-result
invariant_of-result c = subst (λ v. is_sound v ≡ true) (sym c.in_ok-contents.ensures) built_in_sound

pub returns-clause-reading : goal.returns-clause-reading
returns-clause-reading c = (built_in_data, built_in_json, built_in_is ∙ ap Ok (sym c.in_ok-contents.ensures))
