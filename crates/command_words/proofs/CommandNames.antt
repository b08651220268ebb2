-- The command that a first word names, by the comparisons with each name.
use Rattle.std.proofs.Common.{◌≡◌, ℕ, List, true, false, None, refl}
use Rattle.std.specs.Prelude.{codes}
use Rattle.std.specs.Str.{chars}
use Rattle.css_tree.specs.Changes.{same_text}
use Rattle.command_words.specs.Words.{taken, transform_options, transform_of, lint_options, lint_of, command_with}

pub is_transform : (names : List (List ℕ)) (w : List ℕ) (ws : List (List ℕ)) → same_text w (chars (codes "transform")) ≡ true → transform_of names (taken transform_options ws) ≡ command_with names w ws
unfolding chars
is_transform names w ws e = rw e refl

pub is_lint : (names : List (List ℕ)) (w : List ℕ) (ws : List (List ℕ)) → same_text w (chars (codes "transform")) ≡ false → same_text w (chars (codes "lint")) ≡ true → lint_of (taken lint_options ws) ≡ command_with names w ws
unfolding chars
is_lint names w ws e f = rw (e, f) refl

pub is_neither : (names : List (List ℕ)) (w : List ℕ) (ws : List (List ℕ)) → same_text w (chars (codes "transform")) ≡ false → same_text w (chars (codes "lint")) ≡ false → None ≡ command_with names w ws
unfolding chars
is_neither names w ws e f = rw (e, f) refl
