-- What a value in a configuration sets a rule to.
use Rattle.std.specs.Prelude.{ℕ, ◌==◌, ◌&&◌, not, Bool, true, false, List, [], ◌∷◌, nat_le, nat_lt, codes, bytes_eq, length, Option, Some, None, is_some, option_map, option_and_then, if◌then◌else◌}
use Rattle.std.specs.Option.{option_map_or}
use Rattle.std.specs.List.{list_all, before_first, after_first}
use Rattle.std.specs.Char.{is_ascii_digit}
use Rattle.std.specs.Str.Parse.{digits_value}
use Rattle.serde_json.specs.Data.{Num, unsigned, Data, null, boolean, number, string, array, object, Items, no_items, item, Members, no_members, member}
use Rattle.serde_json.specs.Find.{as_null, as_str, as_array, as_object}
use Rattle.lint_config.specs.declared.rule.Rule.{Rule}
use Rattle.lint_config.specs.declared.rule.Primary.{Primary}
use Rattle.lint_config.specs.declared.rule.Primary.TheVariants.{Flag, AlwaysWord, ShortOrLong, SingleOrDouble, Thousand, Specificity}
use Rattle.lint_config.specs.declared.setting.Choice.{Choice}
use Rattle.lint_config.specs.declared.setting.Choice.TheVariants.{On, Count, Short, Long, Single, Double, Always, Limit}
use Rattle.lint_config.specs.declared.setting.Severity.{Severity}
use Rattle.lint_config.specs.declared.setting.Severity.TheVariants.{Error, Warning}
use Rattle.lint_config.specs.declared.config.Mode.{Mode}
use Rattle.lint_config.specs.declared.config.Mode.TheVariants.{Off, Unknown}
use Rattle.lint_config.specs.declared.config.Mode.TheVariants as mode
use Rattle.lint_config.specs.Rules.{primary_of}

-- whether a zero stands before another character
abbrev pub has_leading_zero : List ℕ → Bool
has_leading_zero [] = false
has_leading_zero (c ∷ []) = false
has_leading_zero (c ∷ d ∷ s) = c == 48

-- digits without a leading zero, so that each number is written in one way
unfoldable pub is_numeral : List ℕ → Bool
is_numeral s = list_all is_ascii_digit s && not (has_leading_zero s)

-- the number from 0 to 65535 that digits write, at least one
abbrev pub short_number : List ℕ → Option ℕ
short_number s = if nat_lt 0 (length s) && is_numeral s && nat_lt (digits_value 10 s) 65536 then Some (digits_value 10 s) else None

abbrev pub limit_from : Option ℕ → Option ℕ → Option ℕ → Option Choice
limit_from (Some a) (Some b) (Some c) = Some (Limit a b c)
limit_from _ _ _ = None

abbrev pub is_comma : ℕ → Bool
is_comma c = c == 44

-- three numbers between commas
abbrev pub limit_of : List ℕ → Option Choice
limit_of s = let rest = after_first is_comma s in limit_from (short_number (before_first is_comma s)) (short_number (before_first is_comma rest)) (short_number (after_first is_comma rest))

abbrev pub word_choice : Primary → List ℕ → Option Choice
word_choice AlwaysWord s = if bytes_eq s (codes "always") then Some Always else None
word_choice ShortOrLong s = if bytes_eq s (codes "short") then Some Short else (if bytes_eq s (codes "long") then Some Long else None)
word_choice SingleOrDouble s = if bytes_eq s (codes "single") then Some Single else (if bytes_eq s (codes "double") then Some Double else None)
word_choice Specificity s = limit_of s
word_choice Flag s = None
word_choice Thousand s = None

-- a number that is written as a whole one
abbrev pub number_choice : Primary → Num → Option Choice
number_choice Thousand (unsigned n) = if nat_le n 1000 then Some (Count n) else None
number_choice _ _ = None

abbrev pub flag_choice : Primary → Bool → Option Choice
flag_choice Flag true = Some On
flag_choice _ _ = None

-- the choice that a primary option stands for, where the rule takes it
abbrev pub choice_of : Primary → Data → Option Choice
choice_of p (boolean b) = flag_choice p b
choice_of p (number n) = number_choice p n
choice_of p (string s) = word_choice p s
choice_of p null = None
choice_of p (array ds) = None
choice_of p (object ms) = None

abbrev pub severity_word : List ℕ → Option Severity
severity_word s = if bytes_eq s (codes "error") then Some Error else (if bytes_eq s (codes "warning") then Some Warning else None)

abbrev pub severity_of : Data → Option Severity
severity_of d = option_and_then severity_word (as_str d)

-- the secondary options: an object whose only key may be `severity`
abbrev pub secondary_members : Members → Option (Option Severity)
secondary_members no_members = Some None
secondary_members (member k d no_members) = if bytes_eq k (codes "severity") then option_map Some (severity_of d) else None
secondary_members (member k d (member l e ms)) = None

abbrev pub secondary_of : Data → Option (Option Severity)
secondary_of d = option_and_then secondary_members (as_object d)

abbrev pub is_null : Data → Bool
is_null d = is_some (as_null d)

-- a primary option or null, with a severity
abbrev pub mode_with : Primary → Data → Option Severity → Option Mode
mode_with p d s = if is_null d then Some Off else option_map (λ c. mode.On c s) (choice_of p d)

abbrev pub mode_of_items : Primary → Items → Option Mode
mode_of_items p no_items = None
mode_of_items p (item d no_items) = mode_with p d None
mode_of_items p (item d (item e no_items)) = option_and_then (mode_with p d) (secondary_of e)
mode_of_items p (item d (item e (item f ds))) = None

abbrev pub mode_from : Primary → Data → Option Items → Option Mode
mode_from p d (Some ds) = mode_of_items p ds
mode_from p d None = mode_with p d None

-- what a value sets a rule to, or none where the rule isn't set like that
abbrev pub known_mode : Primary → Data → Option Mode
known_mode p d = mode_from p d (as_array d)

-- an unknown name takes each value
abbrev pub begins_null : Items → Bool
begins_null no_items = false
begins_null (item d ds) = is_null d

abbrev pub turns_off : Data → Bool
turns_off d = option_map_or begins_null (as_array d) (is_null d)

abbrev pub mode_of : Option Rule → Data → Option Mode
mode_of (Some r) d = known_mode (primary_of r) d
mode_of None d = Some (if turns_off d then Off else Unknown)
