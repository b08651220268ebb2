-- The names that the grammar of selectors knows, in any ASCII case.
use Rattle.std.specs.Prelude.{ℕ, Bool, true, false, ◌==◌, ◌&&◌, ◌||◌, List, [], ◌∷◌, codes}
use Rattle.std.specs.Char.{to_ascii_lowercase}
use Rattle.css_text.specs.Forms.{begins}

-- the text is this word, which is in lower case, in any ASCII case
abbrev pub spelled : List ℕ → List ℕ → Bool
spelled [] [] = true
spelled [] (c ∷ cs) = false
spelled (w ∷ ws) [] = false
spelled (w ∷ ws) (c ∷ cs) = to_ascii_lowercase c == w && spelled ws cs

-- the pseudo-elements that one colon may begin
unfoldable pub is_legacy : List ℕ → Bool
is_legacy name = spelled (codes "before") name || spelled (codes "after") name || spelled (codes "first-line") name || spelled (codes "first-letter") name

-- the pseudo-classes whose arguments are a list
unfoldable pub is_logical : List ℕ → Bool
is_logical name = spelled (codes "is") name || spelled (codes "not") name || spelled (codes "has") name || spelled (codes "where") name

-- a pseudo-class or pseudo-element may have arguments
abbrev pub takes_args : List ℕ → Bool
takes_args t = begins 58 t

-- its arguments are a list
abbrev pub takes_list : List ℕ → Bool
takes_list [] = false
takes_list (c ∷ cs) = c == 58 && is_logical cs
