-- Runs of numbers that are linked both ways.
use Rattle.std.specs.Prelude.{◌≡◌, ℕ, zero, suc, List, [], ◌∷◌, Option, Some, None}

-- the numbers from o on, at most k
abbrev pub along : (ℕ → Option ℕ) → ℕ → Option ℕ → List ℕ
along after zero o = []
along after (suc k) None = []
along after (suc k) (Some n) = n ∷ along after k (after n)

-- xs stands between `before` and `behind`: it is entered at `first` and left at `last`
abbrev pub Segment : (ℕ → Option ℕ) → (ℕ → Option ℕ) → Option ℕ → Option ℕ → List ℕ → Option ℕ → Option ℕ → Type 0
Segment next prev before first [] last behind = (first ≡ behind) × (last ≡ before)
Segment next prev before first (x ∷ xs) last behind = (first ≡ Some x) × (prev x ≡ before) × Segment next prev (Some x) (next x) xs last behind

-- the last of xs, or b where there is none
abbrev pub end_of : Option ℕ → List ℕ → Option ℕ
end_of b [] = b
end_of b (x ∷ xs) = end_of (Some x) xs

-- the first of ys, or a where there is none
abbrev pub start_of : List ℕ → Option ℕ → Option ℕ
start_of [] a = a
start_of (y ∷ ys) a = Some y
