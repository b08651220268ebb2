-- One turn of a trial on the characters of a part.
use Rattle.std.specs.Prelude.{◌≡◌, ℕ}
use Rattle.std.specs.Option.{option_map}
use Rattle.std.specs.Str.{chars}
use Rattle.lint_config.specs.Glob.{is_star, fits_char}
use Rattle.lint_config.specs.Trial.{Trial, answer, IsOnTrial, GoesOn}
use Rattle.lint_config.specs.declared.characters.Attempt.{Attempt}
use Rattle.lint_config.specs.declared.characters.Turn.{Turn}
use Rattle.lint_config.specs.declared.characters.Turn.TheVariants.{Next, Done}

abbrev pub char_trial : Attempt → Trial ℕ ℕ
char_trial s = record {
  pattern = chars s.pattern.now;
  text = chars s.text.now;
  back = option_map (λ b. (chars b.pattern.now, chars b.text.now)) s.back;
}

abbrev pub CharTurn : Attempt → Turn → Type 0
CharTurn s (Next t) = (m : ℕ) → IsOnTrial is_star fits_char m (char_trial s) → GoesOn is_star fits_char m (char_trial s) (char_trial t)
CharTurn s (Done b) = b ≡ answer is_star fits_char (char_trial s)
