-- What configurations are, and which settings they give, on small cases.
use Rattle.std.specs.Prelude.{◌≡◌, ℕ, List, [], ◌∷◌, codes, Some, None, true}
use Rattle.std.specs.Str.{chars}
use Rattle.serde_json.specs.Data.{Data, unsigned, null, boolean, number, string, array, object, no_items, item, Members, no_members, member}
use Rattle.lint_config.specs.declared.rule.Rule.TheVariants.{BlockNoEmpty, SelectorMaxId, SelectorMaxSpecificity}
use Rattle.lint_config.specs.declared.setting.Choice.TheVariants.{On, Count, Limit}
use Rattle.lint_config.specs.declared.setting.Severity.TheVariants.{Error, Warning}
use Rattle.lint_config.specs.declared.config.ConfigKind.TheVariants.{WrongShape, BadOption, Extends}
use Rattle.lint_config.specs.declared.config.Mode.TheVariants.{Off, Unknown}
use Rattle.lint_config.specs.declared.config.Mode.TheVariants as mode
use Rattle.lint_config.specs.RuleValues.{known_mode, mode_of}
use Rattle.lint_config.specs.Rules.{primary_of}
use Rattle.lint_config.specs.ConfigOf.{refused, config_of, no_config, ConfigData}
use Rattle.lint_config.specs.Resolved.{rules_for, unknown_for}

abbrev one : List ℕ → Data → Members
one key value = member key value no_members

abbrev of_rules : Data → Data
of_rules rules = object (one (codes "rules") rules)

-- which values are refused, and at which keys
abbrev pub Refusals : Type 0
Refusals = (config_of (array no_items) ≡ refused WrongShape [])
    × (config_of (object (one (codes "extends") (string (codes "x")))) ≡ refused Extends (codes "extends"))
    × (config_of (of_rules (object (one (codes "max-nesting-depth") (boolean true)))) ≡ refused BadOption (codes "rules.max-nesting-depth"))
    × (config_of (object (one (codes "overrides") (array (item null no_items)))) ≡ refused WrongShape (codes "overrides.0"))

abbrev with_severity : Data → Data
with_severity d = array (item d (item (object (one (codes "severity") (string (codes "warning")))) no_items))

-- what values set rules to
abbrev pub Modes : Type 0
Modes = (known_mode (primary_of BlockNoEmpty) (boolean true) ≡ Some (mode.On On None))
    × (known_mode (primary_of BlockNoEmpty) null ≡ Some Off)
    × (known_mode (primary_of BlockNoEmpty) (array no_items) ≡ None)
    × (known_mode (primary_of SelectorMaxId) (with_severity (number (unsigned 2))) ≡ Some (mode.On (Count 2) (Some Warning)))
    × (known_mode (primary_of SelectorMaxSpecificity) (string (codes "0,12,65535")) ≡ Some (mode.On (Limit 0 12 65535) None))
    × (known_mode (primary_of SelectorMaxSpecificity) (string (codes "0,12")) ≡ None)
    × (known_mode (primary_of SelectorMaxSpecificity) (string (codes "0,12,1,2")) ≡ None)
    × (known_mode (primary_of SelectorMaxSpecificity) (string (codes "0,012,1")) ≡ None)
    × (mode_of None (array (item null no_items)) ≡ Some Off)
    × (mode_of None (boolean true) ≡ Some Unknown)

-- two names for each file, of which an override for style sheets turns one off and sets the other again
abbrev config : ConfigData
config = record no_config {
  severity = Some Warning;
  overrides = record {
    patterns = codes "*.css" ∷ [];
    rules = record { name = codes "block-no-empty"; mode = Off } ∷ record { name = codes "selector-max-id"; mode = mode.On (Count 1) (Some Error) } ∷ [];
  } ∷ [];
  rules = record { name = codes "block-no-empty"; mode = mode.On On None } ∷ record { name = codes "nobody"; mode = Unknown } ∷ [];
}

-- what is on for a path
abbrev pub Resolves : Type 0
Resolves = (rules_for config (codes "a.txt") ≡ record { rule = BlockNoEmpty; choice = On; severity = Warning } ∷ [])
    × (rules_for config (codes "a/b.css") ≡ record { rule = SelectorMaxId; choice = Count 1; severity = Error } ∷ [])
    × (unknown_for config (codes "a/b.css") ≡ chars (codes "nobody") ∷ [])
