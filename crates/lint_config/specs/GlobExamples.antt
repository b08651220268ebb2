-- Patterns and paths.
use Rattle.std.specs.Prelude.{◌≡◌, [], ◌∷◌, true, false, codes}
use Rattle.lint_config.specs.Glob.{glob_of, parts}

abbrev pub Matches : Type 0
Matches = (glob_of (codes "*.css") (codes "a/b.css") ≡ true)
    × (glob_of (codes "src/**/*.css") (codes "src/b.css") ≡ true)
    × (glob_of (codes "src/**/*.css") (codes "src/a/c/b.css") ≡ true)
    × (glob_of (codes "a?c") (97 ∷ 8364 ∷ 99 ∷ []) ≡ true)
    × (glob_of (codes "**") (codes "a/b") ≡ true)
    × (glob_of (codes "./a.css") (codes "././a.css") ≡ true)

abbrev pub Differs : Type 0
Differs = (glob_of (codes "src/*.css") (codes "src/a/b.css") ≡ false)
    × (glob_of (codes "a") (codes "A") ≡ false)
    × (glob_of (codes "a/*") (codes "a") ≡ false)
    × (glob_of (codes "a") (codes "b/a/c") ≡ false)
    × (glob_of (codes "./a.css") (codes "./a.css") ≡ false)
    × (glob_of (codes "a??c") (97 ∷ 8364 ∷ 99 ∷ []) ≡ false)

abbrev pub Cut : Type 0
Cut = (parts (codes "a//b/") ≡ codes "a" ∷ [] ∷ codes "b" ∷ [] ∷ [])
    × (parts [] ≡ [] ∷ [])
