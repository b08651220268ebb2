-- The settings of one file.
use Rattle.std.specs.Prelude.{ℕ, Bool, List, [], ◌∷◌, bytes_eq, filter_map, Option, Some, None, unwrap_or, if◌then◌else◌}
use Rattle.std.specs.List.{list_any}
use Rattle.std.specs.Str.{chars}
use Rattle.std.specs.Ordering.{nat_cmp, match_ordering}
use Rattle.std.specs.Cmp.Lexicographic.{slice_cmp}
use Rattle.lint_config.specs.declared.rule.Rule.{Rule}
use Rattle.lint_config.specs.declared.setting.Setting.{Setting}
use Rattle.lint_config.specs.declared.setting.Severity.{Severity}
use Rattle.lint_config.specs.declared.setting.Severity.TheVariants.{Error}
use Rattle.lint_config.specs.declared.config.Mode.{Mode}
use Rattle.lint_config.specs.declared.config.Mode.TheVariants.{Off, Unknown, On}
use Rattle.lint_config.specs.Rules.{all_rules, name_of}
use Rattle.lint_config.specs.Glob.{glob_of}
use Rattle.lint_config.specs.ConfigOf.{NamedMode, OverrideData, ConfigData}

-- A name is set, at its place in the order of the bytes. What it was set to before gives way.
abbrev pub set_name : NamedMode → List NamedMode → List NamedMode
set_name n [] = n ∷ []
set_name n (m ∷ ms) = match_ordering (slice_cmp nat_cmp n.name m.name) (n ∷ m ∷ ms) (record { name = m.name; mode = n.mode } ∷ ms) (m ∷ set_name n ms)

-- names are set one after another
abbrev pub set_names : List NamedMode → List NamedMode → List NamedMode
set_names [] ms = ms
set_names (n ∷ ns) ms = set_names ns (set_name n ms)

abbrev pub matches : List ℕ → OverrideData → Bool
matches path o = list_any (λ p. glob_of (chars p) path) o.patterns

-- an override of which some pattern matches the path sets its names
abbrev pub with_override : List ℕ → OverrideData → List NamedMode → List NamedMode
with_override path o ms = if matches path o then set_names o.rules ms else ms

-- the overrides in their order
abbrev pub overridden : List ℕ → List OverrideData → List NamedMode → List NamedMode
overridden path [] ms = ms
overridden path (o ∷ os) ms = overridden path os (with_override path o ms)

-- what each name is set to, for the characters of a path
unfoldable pub modes_for : ConfigData → List ℕ → List NamedMode
modes_for c path = overridden path c.overrides (set_names c.rules [])

abbrev pub mode_in : List ℕ → List NamedMode → Option Mode
mode_in name [] = None
mode_in name (n ∷ ns) = if bytes_eq name n.name then Some n.mode else mode_in name ns

-- a rule that is on, with its own severity or else the default one
abbrev pub setting_of : Severity → Rule → Option Mode → Option Setting
setting_of default r (Some (On choice severity)) = Some (record { rule = r; choice = choice; severity = unwrap_or severity default })
setting_of default r (Some Off) = None
setting_of default r (Some Unknown) = None
setting_of default r None = None

-- the rules that are on, in the order of the table
abbrev pub enabled_in : Severity → List NamedMode → List Rule → List Setting
enabled_in default ms rs = filter_map (λ r. setting_of default r (mode_in (name_of r) ms)) rs

-- the name, where it is on and no rule has it
abbrev pub unknown_name : List ℕ → Mode → Option (List ℕ)
unknown_name name Unknown = Some (chars name)
unknown_name name Off = None
unknown_name name (On choice severity) = None

abbrev pub unknown_in : List NamedMode → List (List ℕ)
unknown_in ms = filter_map (λ n. unknown_name n.name n.mode) ms

abbrev pub rules_for : ConfigData → List ℕ → List Setting
rules_for c path = enabled_in (unwrap_or c.severity Error) (modes_for c path) all_rules

abbrev pub unknown_for : ConfigData → List ℕ → List (List ℕ)
unknown_for c path = unknown_in (modes_for c path)
