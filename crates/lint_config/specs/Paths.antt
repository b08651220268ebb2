-- One turn of a trial on the parts of a path.
use Rattle.std.specs.Prelude.{◌≡◌, ℕ, List, [], Option, Some, None}
use Rattle.std.specs.Borrow.{Bor}
use Rattle.std.specs.Option.{option_map}
use Rattle.std.specs.Str.{chars}
use Rattle.lint_config.specs.Glob.{parts, is_any_parts, part_matches}
use Rattle.lint_config.specs.Trial.{Trial, answer, IsOnTrial, GoesOn}
use Rattle.lint_config.specs.declared.paths.Attempt.{Attempt}
use Rattle.lint_config.specs.declared.paths.Turn.{Turn}
use Rattle.lint_config.specs.declared.paths.Turn.TheVariants.{Next, Done}

-- the parts of what is left, if a part is
abbrev pub parts_left : Option (Bor (List ℕ)) → List (List ℕ)
parts_left None = []
parts_left (Some s) = parts (chars s.now)

abbrev pub path_trial : Attempt → Trial (List ℕ) (List ℕ)
path_trial s = record {
  pattern = parts_left s.pattern;
  text = parts_left s.path;
  back = option_map (λ b. (parts_left b.pattern, parts_left b.path)) s.back;
}

abbrev pub PathTurn : Attempt → Turn → Type 0
PathTurn s (Next t) = (m : ℕ) → IsOnTrial is_any_parts part_matches m (path_trial s) → GoesOn is_any_parts part_matches m (path_trial s) (path_trial t)
PathTurn s (Done b) = b ≡ answer is_any_parts part_matches (path_trial s)
