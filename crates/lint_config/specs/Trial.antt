-- How a list of units is tried on a list of elements, with a place to go back to: what the last wild unit stood before.
use Rattle.std.specs.Prelude.{◌≡◌, ℕ, suc, ◌+◌, ◌*◌, ◌<◌, ◌≤◌, Bool, true, false, List, [], ◌∷◌, ◌||◌, length, Option, Some, None, ⊤}
use Rattle.lint_config.specs.Glob.{some_suffix, units_match}

-- what is left of the units and of the elements, and what was left of both at the last wild unit
pub record Trial (P X : Type 0) : Type 0 where
  pub pattern : List P
  pub text : List X
  pub back : Option (List P × List X)

-- whether the list without some elements, at least one, passes the test
abbrev pub some_later : {X : Type 0} → (List X → Bool) → List X → Bool
some_later test [] = false
some_later test (x ∷ xs) = some_suffix test xs

module _ {P X : Type 0} (wild : P → Bool) (fits : P → X → Bool) where
  abbrev pub answer_from : List P → List X → Option (List P × List X) → Bool
  answer_from ps xs None = units_match wild fits ps xs
  answer_from ps xs (Some b) = units_match wild fits ps xs || some_later (units_match wild fits b.0) b.1

  -- what the trial is to answer
  abbrev pub answer : Trial P X → Bool
  answer s = answer_from s.pattern s.text s.back

  -- Where the units of the last wild unit match what follows it, those that are left match what follows here.
  abbrev pub IsCoveredBy : List P → List X → Option (List P × List X) → Type 0
  IsCoveredBy ps xs None = ⊤
  IsCoveredBy ps xs (Some b) = (length xs ≤ length b.1) × (some_suffix (units_match wild fits b.0) b.1 ≡ true → some_suffix (units_match wild fits ps) xs ≡ true)

  -- how often a trial with at most m units goes on
  abbrev pub rank_from : ℕ → List P → List X → Option (List P × List X) → ℕ
  rank_from m ps xs None = suc (length xs) * suc m + length ps
  rank_from m ps xs (Some b) = length b.1 * suc m + length ps

  abbrev pub rank : ℕ → Trial P X → ℕ
  rank m s = rank_from m s.pattern s.text s.back

  abbrev pub IsBackWithin : ℕ → Option (List P × List X) → Type 0
  IsBackWithin m None = ⊤
  IsBackWithin m (Some b) = length b.0 ≤ m

  pub record IsOnTrial (m : ℕ) (s : Trial P X) : Type 0 where
    pub within : length s.pattern ≤ m
    pub back : IsBackWithin m s.back
    pub covered : IsCoveredBy s.pattern s.text s.back

  -- t goes on with the trial s
  pub record GoesOn (m : ℕ) (s t : Trial P X) : Type 0 where
    pub same : answer t ≡ answer s
    pub on : IsOnTrial m t
    pub nearer : rank m t < rank m s

  -- what is left doesn't match
  pub record Fails (s : Trial P X) : Type 0 where
    pub no : units_match wild fits s.pattern s.text ≡ false
