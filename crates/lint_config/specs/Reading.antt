-- What the reading of a configuration answers.
use Rattle.std.specs.Prelude.{◌≡◌, ℕ, List, IsUtf8, Some, Result, Ok, Err}
use Rattle.serde_json.specs.Data.{Data}
use Rattle.serde_json.specs.Read.{read}
use Rattle.css_text.specs.declared.stop.Stop.{Stop}
use Rattle.css_text.specs.declared.stop.Stop.TheVariants.{Fault, Memory}
use Rattle.lint_config.specs.declared.config.ConfigFault.{ConfigFault}
use Rattle.lint_config.specs.declared.config.ConfigFault.TheVariants.{BadJson, Refused}
use Rattle.lint_config.specs.ConfigOf.{ConfigData, Refusal, config_of}

-- The definition's value, seen by `view`, or its refusal; of memory nothing is said.
abbrev pub Answers : {A B : Type 0} → (B → A) → Result A Refusal → Result B (Stop ConfigFault) → Type 0
Answers view expected (Ok value) = expected ≡ Ok (view value)
Answers view expected (Err (Fault BadJson)) = ⊥
Answers view expected (Err (Fault (Refused kind key))) = expected ≡ Err (record { kind = kind; key = key })
Answers view expected (Err (Memory e)) = Unit {0}

-- the bytes are UTF-8, and JSON for this value
pub record IsJson (bytes : List ℕ) (value : Data) : Type 0 where
  pub utf8 : IsUtf8 bytes
  pub reads : read bytes ≡ Some value

-- The configuration that the bytes are, or why they are none; of memory nothing is said.
abbrev pub IsReading : List ℕ → Result ConfigData (Stop ConfigFault) → Type 0
IsReading bytes (Ok config) = (value : Data) × IsJson bytes value × (config_of value ≡ Ok config)
IsReading bytes (Err (Fault BadJson)) = (value : Data) → ¬ IsJson bytes value
IsReading bytes (Err (Fault (Refused kind key))) = (value : Data) × IsJson bytes value × (config_of value ≡ Err (record { kind = kind; key = key }))
IsReading bytes (Err (Memory e)) = Unit {0}
