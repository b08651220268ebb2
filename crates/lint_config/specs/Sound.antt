-- What each configuration keeps: a rule has only choices that it takes, and a name that no rule has has none.
use Rattle.std.specs.Prelude.{Bool, true, false, List, ◌&&◌, Option, Some, None}
use Rattle.std.specs.List.{list_all}
use Rattle.lint_config.specs.declared.rule.Rule.{Rule}
use Rattle.lint_config.specs.declared.config.Mode.{Mode}
use Rattle.lint_config.specs.declared.config.Mode.TheVariants.{Off, Unknown, On}
use Rattle.lint_config.specs.Rules.{rule_named, primary_of}
use Rattle.lint_config.specs.Choices.{allows}
use Rattle.lint_config.specs.ConfigOf.{NamedMode, ConfigData}

-- whether the rule of a name, or a name that no rule has, can be set like this
abbrev pub fits_rule : Option Rule → Mode → Bool
fits_rule r Off = true
fits_rule None Unknown = true
fits_rule (Some r) Unknown = false
fits_rule None (On c s) = false
fits_rule (Some r) (On c s) = allows (primary_of r) c

abbrev pub fits_name : NamedMode → Bool
fits_name n = fits_rule (rule_named n.name) n.mode

abbrev pub are_sound : List NamedMode → Bool
are_sound ns = list_all fits_name ns

abbrev pub is_sound : ConfigData → Bool
is_sound c = are_sound c.rules && list_all (λ o. are_sound o.rules) c.overrides
