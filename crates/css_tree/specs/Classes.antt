-- Classes of lists, by a test of their items.
use Rattle.std.specs.Prelude.{◌≡◌, List, [], ◌∷◌, Bool, true, false}

-- the test holds of each item
abbrev pub Each : {A : Type 0} → (A → Bool) → List A → Type 0
Each test [] = Unit {0}
Each test (x ∷ xs) = (test x ≡ true) × Each test xs

-- empty, or of the first item the test doesn't hold
abbrev pub BeginsWithout : {A : Type 0} → (A → Bool) → List A → Type 0
BeginsWithout test [] = Unit {0}
BeginsWithout test (x ∷ xs) = test x ≡ false

-- empty, or of the last item the test doesn't hold
abbrev pub EndsWithout : {A : Type 0} → (A → Bool) → List A → Type 0
EndsWithout test [] = Unit {0}
EndsWithout test (x ∷ []) = test x ≡ false
EndsWithout test (x ∷ y ∷ xs) = EndsWithout test (y ∷ xs)
