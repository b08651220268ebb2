-- The built-in configuration is what its text says.
use Rattle.std.proofs.Common.{◌≡◌, true, Ok, codes, refl}
use Rattle.serde_json.proofs.OnLiterals.{serde_json_on_literals}
use Rattle.serde_json.specs.Data.{Data, boolean, object, no_members, member}
use Rattle.lint_config.specs.Rules.{entry_of, all_rules}
use Rattle.lint_config.specs.ConfigOf.{config_of}
use Rattle.lint_config.specs.Sound.{is_sound}
use Rattle.lint_config.specs.Reading.{IsJson}
use Rattle.lint_config.specs.BuiltIn.{built_in_text, built_in_config}

abbrev pub built_in_data : Data
built_in_data = object (member (codes "rules") (object (member (codes "block-no-empty") (boolean true) no_members)) no_members)

pub built_in_json : IsJson built_in_text built_in_data
unfolding serde_json_on_literals
built_in_json = record { utf8 = (built_in_text, (refl, refl)); reads = refl }

pub built_in_is : config_of built_in_data ≡ Ok built_in_config
unfolding entry_of all_rules
built_in_is = refl

pub built_in_sound : is_sound built_in_config ≡ true
unfolding entry_of all_rules
built_in_sound = refl
