-- A part of a string that texts share.
use Rattle.std.specs.Prelude.{ℕ, ◌-◌, ◌≤◌, List, take, drop}
use Rattle.std.specs.Str.{IsCharBoundary}

-- the bytes from start up to end
abbrev pub part : List ℕ → ℕ → ℕ → List ℕ
part bytes start end = take (end - start) (drop start bytes)

-- start and end are ends of characters, in this order
pub record IsPart (bytes : List ℕ) (start end : ℕ) : Type 0 where
  pub order : start ≤ end
  pub begins : IsCharBoundary bytes start
  pub ends : IsCharBoundary bytes end
