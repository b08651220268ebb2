-- What is read behind what there is.
use Rattle.std.proofs.Common.{ℕ, List, ◌++◌, Option, option_map, Ok, Result}
use Rattle.lint_config.specs.ConfigOf.{Refusal, and_then}

abbrev pub behind : {A : Type 0} → List A → Result (List A) Refusal → Result (List A) Refusal
behind xs r = and_then r (λ rest. Ok (xs ++ rest))

-- the same of texts, of which some may be none
abbrev pub behind_texts : List (List ℕ) → Option (List (List ℕ)) → Option (List (List ℕ))
behind_texts xs o = option_map (λ rest. xs ++ rest) o
