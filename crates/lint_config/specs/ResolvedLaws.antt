-- What names are set to, whatever a configuration says.
use Rattle.std.specs.Prelude.{◌≡◌, ℕ, List, map, bytes_eq, Some, if◌then◌else◌}
use Rattle.std.specs.List.Sorted.{IsStrictlySortedBy}
use Rattle.std.specs.Ordering.{nat_cmp}
use Rattle.std.specs.Cmp.Lexicographic.{slice_cmp}
use Rattle.lint_config.specs.ConfigOf.{NamedMode, ConfigData}
use Rattle.lint_config.specs.Resolved.{set_name, modes_for, mode_in}

-- A name has what was set last, and the others keep what they have.
abbrev pub LastCounts : Type 0
LastCounts = (q : List ℕ) (n : NamedMode) (ms : List NamedMode) → mode_in q (set_name n ms) ≡ (if bytes_eq q n.name then Some n.mode else mode_in q ms)

-- The names ascend by their bytes, so that none stands twice.
abbrev pub NamesAscend : Type 0
NamesAscend = (c : ConfigData) (path : List ℕ) → IsStrictlySortedBy (slice_cmp nat_cmp) (map (λ n. n.name) (modes_for c path))
