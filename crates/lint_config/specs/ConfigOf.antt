-- What a configuration is, and which values are refused.
use Rattle.std.specs.Prelude.{ℕ, suc, ◌++◌, Bool, true, List, [], ◌∷◌, ◌==◌, ◌||◌, ◌&&◌, codes, decimal, bytes_eq, is_some, Option, Some, None, option_map, option_and_then, Result, Ok, Err, if◌then◌else◌}
use Rattle.std.specs.Str.{chars}
use Rattle.std.specs.List.{list_any}
use Rattle.serde_json.specs.Data.{Data, null, boolean, number, string, array, object, Items, no_items, item, Members, no_members, member}
use Rattle.serde_json.specs.Find.{get, as_bool, as_str, as_array, as_object}
use Rattle.lint_config.specs.declared.setting.Severity.{Severity}
use Rattle.lint_config.specs.declared.config.Mode.{Mode}
use Rattle.lint_config.specs.declared.config.ConfigKind.{ConfigKind}
use Rattle.lint_config.specs.declared.config.ConfigKind.TheVariants.{WrongShape, BadOption, Extends}
use Rattle.lint_config.specs.Rules.{rule_named}
use Rattle.lint_config.specs.RuleValues.{severity_of, mode_of}

-- a name of a rule with what it is set to; names, keys and patterns are bytes here
pub record NamedMode : Type 0 where
  pub name : List ℕ
  pub mode : Mode

-- rules for the files of which a pattern matches the path
pub record OverrideData : Type 0 where
  pub patterns : List (List ℕ)
  pub rules : List NamedMode

pub record ConfigData : Type 0 where
  pub severity : Option Severity
  pub ignore : Option Bool
  pub needless : Option Bool
  pub overrides : List OverrideData
  pub rules : List NamedMode

abbrev pub no_config : ConfigData
no_config = record { severity = None; ignore = None; needless = None; overrides = []; rules = [] }

-- what is refused, and at which key, as a text
pub record Refusal : Type 0 where
  pub kind : ConfigKind
  pub key : List ℕ

abbrev pub refused : {A : Type 0} → ConfigKind → List ℕ → Result A Refusal
refused kind key = Err (record { kind = kind; key = chars key })

abbrev pub and_then : {A B : Type 0} → Result A Refusal → (A → Result B Refusal) → Result B Refusal
and_then (Ok a) f = f a
and_then (Err e) f = Err e

-- the value, or the refusal of its key
abbrev pub or_refused : {A : Type 0} → ConfigKind → List ℕ → Option A → Result A Refusal
or_refused kind key None = refused kind key
or_refused kind key (Some a) = Ok a

-- keys are joined by dots
abbrev pub below : List ℕ → List ℕ → List ℕ
below key name = key ++ (46 ∷ name)

-- the first, and then the rest
abbrev pub followed_by : {A : Type 0} → Result (List A) Refusal → Result A Refusal → Result (List A) Refusal
followed_by rest first = and_then first (λ x. and_then rest (λ xs. Ok (x ∷ xs)))

abbrev pub rule_of : List ℕ → List ℕ → Data → Result NamedMode Refusal
rule_of key k d = and_then (or_refused BadOption (below key k) (mode_of (rule_named k) d)) (λ m. Ok (record { name = k; mode = m }))

-- the rules of one object, in the order of their names
abbrev pub rules_of : List ℕ → Members → Result (List NamedMode) Refusal
rules_of key no_members = Ok []
rules_of key (member k d ms) = followed_by (rules_of key ms) (rule_of key k d)

abbrev pub rules_in : List ℕ → Data → Result (List NamedMode) Refusal
rules_in key d = and_then (or_refused WrongShape key (as_object d)) (rules_of key)

-- patterns of file names
abbrev pub texts_of : Items → Option (List (List ℕ))
texts_of no_items = Some []
texts_of (item d ds) = option_and_then (λ s. option_map (λ ts. s ∷ ts) (texts_of ds)) (as_str d)

abbrev pub files_of : Data → Option (List (List ℕ))
files_of (string s) = Some (s ∷ [])
files_of (array ds) = texts_of ds
files_of null = None
files_of (boolean b) = None
files_of (number n) = None
files_of (object ms) = None

-- one of { } [ ]
abbrev pub is_bracket : ℕ → Bool
is_bracket c = c == 123 || c == 125 || c == 91 || c == 93

-- an empty text, one that begins with `!`, or one with a bracket
abbrev pub is_no_pattern : List ℕ → Bool
is_no_pattern [] = true
is_no_pattern (c ∷ cs) = c == 33 || list_any is_bracket (c ∷ cs)

abbrev pub patterns_of : List ℕ → List (List ℕ) → Result (List (List ℕ)) Refusal
patterns_of key ps = if list_any is_no_pattern ps then refused BadOption key else Ok ps

abbrev pub patterns_in : List ℕ → Data → Result (List (List ℕ)) Refusal
patterns_in key d = and_then (or_refused WrongShape key (files_of d)) (patterns_of key)

abbrev pub override_with : List ℕ → Data → Data → Result OverrideData Refusal
override_with key files rules = and_then (patterns_in (below key (codes "files")) files)
    (λ ps. and_then (rules_in (below key (codes "rules")) rules) (λ rs. Ok (record { patterns = ps; rules = rs })))

-- the values of `files` and `rules`, where there are just these
abbrev pub override_parts : Members → Option (Data × Data)
override_parts (member k f (member l r no_members)) = if bytes_eq k (codes "files") && bytes_eq l (codes "rules") then Some (f, r) else None
override_parts _ = None

abbrev pub override_of : List ℕ → Data → Result OverrideData Refusal
override_of key d = and_then (or_refused WrongShape key (option_and_then override_parts (as_object d))) (λ p. override_with key p.0 p.1)

abbrev pub override_key : ℕ → List ℕ
override_key n = below (codes "overrides") (decimal n)

-- the overrides from the number n on, in turn
abbrev pub overrides_of : ℕ → Items → Result (List OverrideData) Refusal
overrides_of n no_items = Ok []
overrides_of n (item d ds) = followed_by (overrides_of (suc n) ds) (override_of (override_key n) d)

abbrev pub overrides_in : List ℕ → Data → Result (List OverrideData) Refusal
overrides_in key d = and_then (or_refused WrongShape key (as_array d)) (overrides_of 0)

abbrev pub flag_of : List ℕ → Data → Result Bool Refusal
flag_of key d = or_refused WrongShape key (as_bool d)

abbrev pub with_severity : List ℕ → Data → ConfigData → Result ConfigData Refusal
with_severity k d c = and_then (or_refused WrongShape k (severity_of d)) (λ s. Ok (record c { severity = Some s }))

-- one key of a configuration
abbrev pub with_key : List ℕ → Data → ConfigData → Result ConfigData Refusal
with_key k d c =
    if bytes_eq k (codes "$schema") then Ok c
    else (if bytes_eq k (codes "defaultSeverity") then with_severity k d c
    else (if bytes_eq k (codes "ignoreDisables") then and_then (flag_of k d) (λ b. Ok (record c { ignore = Some b }))
    else (if bytes_eq k (codes "overrides") then and_then (overrides_in k d) (λ os. Ok (record c { overrides = os }))
    else (if bytes_eq k (codes "reportNeedlessDisables") then and_then (flag_of k d) (λ b. Ok (record c { needless = Some b }))
    else (if bytes_eq k (codes "rules") then and_then (rules_in k d) (λ rs. Ok (record c { rules = rs }))
    else refused WrongShape k)))))

-- the keys in the order of their bytes, which is that of an object's members
abbrev pub with_keys : Members → ConfigData → Result ConfigData Refusal
with_keys no_members c = Ok c
with_keys (member k d ms) c = and_then (with_key k d c) (with_keys ms)

abbrev pub config_of : Data → Result ConfigData Refusal
config_of d = and_then (or_refused WrongShape [] (as_object d))
    (λ ms. if is_some (get (codes "extends") d) then refused Extends (codes "extends") else with_keys ms no_config)
