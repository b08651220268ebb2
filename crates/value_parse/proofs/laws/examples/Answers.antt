use Rattle.std.proofs.Common.{◌≡◌, ◌<◌, ℕ, [], ◌∷◌, Some, None, refl, lit<, arith}
use Rattle.std.specs.Prelude.{codes}
use Rattle.css_text.specs.Characters.{is_space, is_quote, is_single}
use Rattle.css_text.specs.Forms.{begins_url}
use Rattle.css_text.specs.ValueParts.{ends_value, first_part}
use Rattle.value_parse.specs.NumberLengths.{sign_len, with_digits, fraction_len, exponent_len, decimal_len, number_len, is_unit, number_and_unit}
use Rattle.value_parse.specs.Number.{span}
use Rattle.value_parse.proofs.NumberForms.{told}
use Rattle.value_parse.proofs.laws.examples.Goals as goal

other : (c d : ℕ) → d < c → c ∷ [] ≡ d ∷ [] → ⊥
other c d l e = let f : c ≡ d = cc in absurd (omega arith)

pub returns-clause-unclosed : goal.returns-clause-unclosed
unfolding is_space is_quote is_single begins_url ends_value first_part
returns-clause-unclosed c = record { text = refl; are = (lit< tt, refl, refl, (refl, (λ e. cc), refl, refl, tt), tt); places = (refl, (refl, tt), tt) }

pub returns-clause-nested : goal.returns-clause-nested
unfolding is_space is_quote is_single begins_url ends_value first_part
returns-clause-nested c = record {
  text = refl;
  are = (lit< tt, refl, tt, (lit< tt, refl, tt, (refl, (λ e. cc), refl, refl, tt), (refl, ((λ e. cc), λ e. cc), refl, refl, (refl, (λ e. cc), refl, refl, tt))), (refl, (λ e. cc), refl, refl, tt));
  places = (refl, (refl, (refl, tt), (refl, (refl, tt))), (refl, tt));
}

pub returns-clause-marks : goal.returns-clause-marks
unfolding is_space is_quote is_single begins_url ends_value first_part
returns-clause-marks c = record {
  text = refl;
  are = (refl, ((λ e. cc), λ e. cc), refl, refl, (refl, ((λ e. cc), λ e. cc), refl, refl, (refl, ((λ e. absurd (other 41 40 (lit< tt) e)), λ e. refl), refl, refl, (refl, ((λ e. cc), λ e. cc), refl, refl, (refl, ((λ e. cc), λ e. cc), refl, refl, tt)))));
  places = (refl, (refl, (refl, (refl, (refl, tt)))));
}

pub returns-clause-names : goal.returns-clause-names
unfolding is_space is_quote is_single begins_url ends_value first_part
returns-clause-names c = record {
  text = refl;
  are = (lit< tt, tt, tt, tt, (refl, ((λ e. cc), λ e. cc), refl, refl, (lit< tt, refl, refl, tt, tt)));
  places = (refl, tt, (refl, (refl, tt, tt)));
}

pub returns-clause-forms : goal.returns-clause-forms
unfolding is_space is_quote is_single begins_url ends_value first_part
returns-clause-forms c = (
  record { text = refl; are = (refl, ((λ e. cc), λ e. cc), refl, refl, tt); places = (refl, tt) },
  record { text = refl; are = (refl, ((λ e. cc), λ e. cc), refl, refl, tt); places = (refl, tt) },
  record { text = refl; are = (refl, ((λ e. cc), λ e. cc), refl, refl, tt); places = (refl, tt) },
)

pub returns-clause-numbers : goal.returns-clause-numbers
unfolding sign_len with_digits fraction_len exponent_len decimal_len number_len is_unit number_and_unit
returns-clause-numbers c = (
  told (codes "-.5E3px") (Some (span 0 5, span 5 7)) refl,
  told (codes "1em") (Some (span 0 1, span 1 3)) refl,
  told (codes "0") (Some (span 0 1, span 1 1)) refl,
  told (codes "+1.50e-2%") (Some (span 0 8, span 8 9)) refl,
  told (codes "1e") (Some (span 0 1, span 1 2)) refl,
)

pub returns-clause-no_numbers : goal.returns-clause-no_numbers
unfolding sign_len with_digits fraction_len exponent_len decimal_len number_len is_unit number_and_unit
returns-clause-no_numbers c = (
  told (codes "1.") None refl,
  told (codes "e3") None refl,
  told (codes "1e+") None refl,
  told (codes "-") None refl,
  told (codes "1%%") None refl,
)
