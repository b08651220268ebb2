-- What the scan of a plain statement has found at its steps.
use Rattle.std.specs.Prelude.{◌≡◌, ℕ, Some, ◌+◌, ◌-◌, ◌<◌, ◌≤◌, ◌==◌, ◌&&◌, ◌||◌, false, List, length, drop, slice_index}
use Rattle.std.specs.List.{prefix_len}
use Rattle.css_text.specs.Forms.{space_len}
use Rattle.css_text.specs.Shared.{part}
use Rattle.css_tree.specs.Classes.{Each}
use Rattle.css_parse.specs.Plain.{is_name, is_calm, brackets}

-- at the byte `i` stands no `(`, or none directly behind an `l`
abbrev pub OpensNoUrlAt : List ℕ → ℕ → Type 0
OpensNoUrlAt bytes i = (slice_index bytes i == 40 && (slice_index bytes (i - 1) == 108 || slice_index bytes (i - 1) == 76)) ≡ false

-- from the byte `from` up to `end` stand calm characters: so many round brackets are open before them, and so many behind them
pub record IsCalmRun (bytes : List ℕ) (from end before behind : ℕ) : Type 0 where
  pub order : from ≤ end
  pub within : end ≤ length bytes
  pub class : Each is_calm (part bytes from end)
  pub count : brackets before (part bytes from end) ≡ Some behind
  pub no_url : (i : ℕ) → from ≤ i → i < end → OpensNoUrlAt bytes i

-- from the byte `at` on stand a name up to `colon`, and calm characters up to `end`, whose round brackets are closed
pub record IsScanned (bytes : List ℕ) (at colon end : ℕ) : Type 0 where
  pub name_end : colon ≡ at + prefix_len is_name (drop at bytes)
  pub first : (slice_index bytes at == 40) ≡ false
  pub run : IsCalmRun bytes colon end 0 0

-- a name and its colon, and a value that begins before `end`
pub record IsValueStart (bytes : List ℕ) (at colon end value : ℕ) : Type 0 where
  pub some : at < colon
  pub no_hack : (slice_index bytes at == 42 || slice_index bytes at == 95) ≡ false
  pub colon_is : slice_index bytes colon ≡ 58
  pub value_is : value ≡ colon + 1 + space_len (drop (colon + 1) bytes)
  pub before : value < end
