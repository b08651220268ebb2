-- When a pattern matches a path. Both are lists of characters.
use Rattle.std.specs.Prelude.{ℕ, Bool, true, false, List, [], ◌∷◌, ◌==◌, ◌||◌, ◌&&◌, codes, bytes_eq, if◌then◌else◌}
use Rattle.std.specs.List.{list_any}

-- whether a list, or what is left of it after some of its elements, passes the test
abbrev pub some_suffix : {X : Type 0} → (List X → Bool) → List X → Bool
some_suffix test [] = test []
some_suffix test (x ∷ xs) = test (x ∷ xs) || some_suffix test xs

-- whether the list has a first element that passes, and the elements after it do
abbrev pub first_and_rest : {X : Type 0} → (X → Bool) → (List X → Bool) → List X → Bool
first_and_rest first rest [] = false
first_and_rest first rest (x ∷ xs) = first x && rest xs

abbrev pub is_nil : {X : Type 0} → List X → Bool
is_nil [] = true
is_nil (x ∷ xs) = false

-- whether a list of units matches a list of elements: a wild unit any run of elements, none included, and any other unit one
-- element that fits it
module _ {P X : Type 0} (wild : P → Bool) (fits : P → X → Bool) where
  abbrev pub units_match : List P → List X → Bool
  units_match [] = is_nil
  units_match (p ∷ ps) = if wild p then some_suffix (units_match ps) else first_and_rest (fits p) (units_match ps)

-- `*`
abbrev pub is_star : ℕ → Bool
is_star p = p == 42

-- `?` fits each character, and another one itself
abbrev pub fits_char : ℕ → ℕ → Bool
fits_char p c = p == 63 || p == c

-- a part of a pattern and a part of a path
abbrev pub part_matches : List ℕ → List ℕ → Bool
part_matches = units_match is_star fits_char

-- the part `**`
abbrev pub is_any_parts : List ℕ → Bool
is_any_parts p = bytes_eq p (codes "**")

abbrev pub parts_match : List (List ℕ) → List (List ℕ) → Bool
parts_match = units_match is_any_parts part_matches

-- `/`
abbrev pub is_slash : ℕ → Bool
is_slash c = c == 47

-- one more character before the first part
abbrev pub onto_first : ℕ → List (List ℕ) → List (List ℕ)
onto_first c [] = (c ∷ []) ∷ []
onto_first c (p ∷ ps) = (c ∷ p) ∷ ps

-- the parts between slashes, at least one
abbrev pub parts : List ℕ → List (List ℕ)
parts [] = [] ∷ []
parts (c ∷ cs) = if is_slash c then [] ∷ parts cs else onto_first c (parts cs)

-- the last part
abbrev pub last_of : List (List ℕ) → List ℕ
last_of [] = []
last_of (p ∷ []) = p
last_of (p ∷ q ∷ ps) = last_of (q ∷ ps)

-- without one `./` at the front
abbrev pub without_here : List ℕ → List ℕ
without_here (a ∷ b ∷ cs) = if a == 46 && b == 47 then cs else a ∷ b ∷ cs
without_here cs = cs

-- what a pattern is matched with: the parts of the path, and for a pattern without a slash the last of them
abbrev pub looked_at : List ℕ → List ℕ → List (List ℕ)
looked_at pattern path = if list_any is_slash pattern then parts (without_here path) else last_of (parts (without_here path)) ∷ []

unfoldable pub glob_of : List ℕ → List ℕ → Bool
glob_of pattern path = parts_match (parts pattern) (looked_at pattern path)
