-- The keys at which values are refused.
use Rattle.std.specs.Prelude.{◌≡◌, ℕ, List, codes}
use Rattle.std.specs.Str.{chars}
use Rattle.css_text.specs.declared.stop.Stop.{Stop}
use Rattle.css_text.specs.declared.stop.Stop.TheVariants.{Fault, Memory}
use Rattle.lint_config.specs.declared.config.ConfigKind.{ConfigKind}
use Rattle.lint_config.specs.declared.config.ConfigFault.{ConfigFault}
use Rattle.lint_config.specs.declared.config.ConfigFault.TheVariants.{BadJson, Refused}
use Rattle.lint_config.specs.declared.keys.Place.{Place}
use Rattle.lint_config.specs.declared.keys.Place.TheVariants.{Base, InOverride}
use Rattle.lint_config.specs.declared.keys.Key.{Key}
use Rattle.lint_config.specs.declared.keys.Key.TheVariants.{Top, OfOverride, Files, Rules, OneRule}
use Rattle.lint_config.specs.ConfigOf.{below, override_key}

abbrev pub rules_key : Place → List ℕ
rules_key Base = codes "rules"
rules_key (InOverride n) = below (override_key n) (codes "rules")

abbrev pub files_key : ℕ → List ℕ
files_key n = below (override_key n) (codes "files")

abbrev pub key_of : Key → List ℕ
key_of (Top name) = name.now
key_of (OfOverride n) = override_key n
key_of (Files n) = files_key n
key_of (Rules place) = rules_key place
key_of (OneRule place name) = below (rules_key place) name.now

-- It stops for this reason at this key, or for want of memory.
abbrev pub IsRefusal : ConfigKind → List ℕ → Stop ConfigFault → Type 0
IsRefusal kind key (Fault BadJson) = ⊥
IsRefusal kind key (Fault (Refused k t)) = (k ≡ kind) × (t ≡ chars key)
IsRefusal kind key (Memory e) = Unit {0}

-- It stops for want of memory.
abbrev pub IsMemory : Stop ConfigFault → Type 0
IsMemory (Fault f) = ⊥
IsMemory (Memory e) = Unit {0}
