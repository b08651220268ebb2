-- What the definitions give on small cases.
use Rattle.std.specs.Prelude.{◌≡◌, Some, None, true, false, codes, [], length}
use Rattle.lint_config.specs.Rules.{all_rules, name_of, primary_of, rule_named}
use Rattle.lint_config.specs.Choices.{allows}
use Rattle.lint_config.specs.declared.rule.Rule.{Rule}
use Rattle.lint_config.specs.declared.rule.Rule.TheVariants.{BlockNoEmpty, SelectorMaxId, ColorHexLength}
use Rattle.lint_config.specs.declared.setting.Choice.TheVariants.{On, Count, Short, Double}

abbrev pub Names : Type 0
Names = (rule_named (codes "block-no-empty") ≡ Some BlockNoEmpty)
    × (rule_named (codes "selector-max-id") ≡ Some SelectorMaxId)
    × (rule_named (codes "block-no-Empty") ≡ None)
    × (rule_named [] ≡ None)
    × (length all_rules ≡ 20)

-- each rule is found by its name, so no two have one name
abbrev pub EachIsFound : Type 0
EachIsFound = (r : Rule) → rule_named (name_of r) ≡ Some r

abbrev pub Allowed : Type 0
Allowed = (allows (primary_of SelectorMaxId) (Count 1000) ≡ true)
    × (allows (primary_of SelectorMaxId) (Count 1001) ≡ false)
    × (allows (primary_of ColorHexLength) Short ≡ true)
    × (allows (primary_of ColorHexLength) Double ≡ false)
    × (allows (primary_of BlockNoEmpty) On ≡ true)
