-- The table of UTF-16 units before each block of 256 bytes.
use Rattle.std.specs.Prelude.{ℕ, ◌≡◌, ◌*◌, ◌<◌, ◌≤◌, List, length, take, slice_index, sum_by}
use Rattle.css_text.specs.Lines.{byte_units}

-- the first `count` entries of the table are right
pub record CountsUnits (table bytes : List ℕ) : Type 0 where
  pub each : (k : ℕ) → k < length table → slice_index table k ≡ sum_by byte_units (take (k * 256) bytes)
  pub small : (k : ℕ) → k < length table → slice_index table k ≤ 2 * length bytes

-- and the table reaches the end of the bytes
pub record IsBlockTable (table bytes : List ℕ) : Type 0 where
  pub counts : CountsUnits table bytes
  pub whole : length bytes < length table * 256
