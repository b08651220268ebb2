-- The configuration that serves where none is given.
use Rattle.std.specs.Prelude.{ℕ, List, [], ◌∷◌, codes, None}
use Rattle.lint_config.specs.declared.rule.Rule.TheVariants.{BlockNoEmpty}
use Rattle.lint_config.specs.declared.setting.Choice.TheVariants.{On}
use Rattle.lint_config.specs.declared.config.Mode.TheVariants as mode
use Rattle.lint_config.specs.Rules.{name_of}
use Rattle.lint_config.specs.ConfigOf.{ConfigData, no_config}

abbrev pub built_in_text : List ℕ
built_in_text = codes "{\"rules\":{\"block-no-empty\":true}}"

abbrev pub built_in_config : ConfigData
built_in_config = record no_config { rules = record { name = name_of BlockNoEmpty; mode = mode.On On None } ∷ [] }
