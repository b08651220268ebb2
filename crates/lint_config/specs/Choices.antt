-- The settings that a rule can have.
use Rattle.std.specs.Prelude.{Bool, true, false, List, [], ◌∷◌, nat_le, ◌&&◌, not, bytes_eq}
use Rattle.std.specs.List.{list_any}
use Rattle.lint_config.specs.declared.rule.Primary.{Primary}
use Rattle.lint_config.specs.declared.rule.Primary.TheVariants.{Flag, AlwaysWord, ShortOrLong, SingleOrDouble, Thousand, Specificity}
use Rattle.lint_config.specs.declared.setting.Choice.{Choice}
use Rattle.lint_config.specs.declared.setting.Choice.TheVariants.{On, Count, Short, Long, Single, Double, Always, Limit}
use Rattle.lint_config.specs.declared.setting.Setting.{Setting}
use Rattle.lint_config.specs.Rules.{name_of, primary_of}

-- whether what a rule takes allows the choice
abbrev pub allows : Primary → Choice → Bool
allows Flag On = true
allows AlwaysWord Always = true
allows ShortOrLong Short = true
allows ShortOrLong Long = true
allows SingleOrDouble Single = true
allows SingleOrDouble Double = true
allows Thousand (Count n) = nat_le n 1000
allows Specificity (Limit a b c) = true
allows _ _ = false

-- Each setting has a choice that its rule takes, and no rule is set twice.
abbrev pub are_settings : List Setting → Bool
are_settings [] = true
are_settings (s ∷ rest) = allows (primary_of s.rule) s.choice && not (list_any (λ t. bytes_eq (name_of t.rule) (name_of s.rule)) rest) && are_settings rest
