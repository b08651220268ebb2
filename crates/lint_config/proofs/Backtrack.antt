-- The steps of a trial.
use Rattle.std.proofs.Common.{◌≡◌, ℕ, suc, ◌+◌, ◌*◌, ◌<◌, ◌≤◌, List, [], ◌∷◌, Bool, true, false, ◌||◌, ◌&&◌, if◌then◌else◌, Option, Some, None, length, refl, ap, sym, ◌∙◌, subst, arith}
use Rattle.std.proofs.Math.Nat.{mul-le-mul_right, suc-mul}
use Rattle.lint_config.specs.Glob.{some_suffix, first_and_rest, is_nil, units_match}
use Rattle.lint_config.specs.Trial.{Trial, some_later, answer_from, answer, IsCoveredBy, rank_from, IsBackWithin, IsOnTrial, GoesOn, Fails}

or_true : (a b : Bool) → b ≡ true → a || b ≡ true
or_true true b e = refl
or_true false b e = e

or_split : (a b c : Bool) → (a || b) || c ≡ true → (c ≡ true → a || b ≡ true) → a || b ≡ true
or_split true b c h k = refl
or_split false true c h k = refl
or_split false false c h k = k h

absorb : (a v : Bool) → (v ≡ true → a ≡ true) → a ≡ a || v
absorb true v h = refl
absorb false true h = h refl
absorb false false h = refl

-- the list itself, or a later one
pub suffix_or_later : {X : Type 0} (test : List X → Bool) (xs : List X) → some_suffix test xs ≡ test xs || some_later test xs
suffix_or_later test [] = elim (test []) as (λ b. b ≡ b || false) [ true ↦ refl | false ↦ refl ]
suffix_or_later test (x ∷ xs) = refl

later_suffix : {X : Type 0} (test : List X → Bool) (xs : List X) → some_later test xs ≡ true → some_suffix test xs ≡ true
later_suffix test [] h = cc
later_suffix test (x ∷ xs) h = or_true (test (x ∷ xs)) (some_suffix test xs) h

-- a suffix of a suffix
suffix_twice : {X : Type 0} (test : List X → Bool) (xs : List X) → some_suffix (some_suffix test) xs ≡ true → some_suffix test xs ≡ true
suffix_twice test [] h = h
suffix_twice test (x ∷ xs) h = or_split (test (x ∷ xs)) (some_suffix test xs) (some_suffix (some_suffix test) xs) h (λ e. or_true (test (x ∷ xs)) (some_suffix test xs) (suffix_twice test xs e))

first_true : (a b c d : Bool) → (a && b) || c ≡ true → (c ≡ true → d ≡ true) → (b ≡ true → d ≡ true) → d ≡ true
first_true true true c d h k l = l refl
first_true true false c d h k l = k h
first_true false b c d h k l = k h

here_true : (a b : Bool) → a ≡ true → a || b ≡ true
here_true true b e = refl
here_true false b e = cc

suffix_here : {X : Type 0} (test : List X → Bool) (xs : List X) → test xs ≡ true → some_suffix test xs ≡ true
suffix_here test [] h = h
suffix_here test (x ∷ xs) h = here_true (test (x ∷ xs)) (some_suffix test xs) h

first_suffix : {X : Type 0} (first : X → Bool) (rest : List X → Bool) (xs : List X) → some_suffix (first_and_rest first rest) xs ≡ true → some_later rest xs ≡ true
first_suffix first rest [] h = h
first_suffix first rest (x ∷ xs) h = first_true (first x) (rest xs) (some_suffix (first_and_rest first rest) xs) (some_suffix rest xs) h
    (λ e. later_suffix rest xs (first_suffix first rest xs e)) (suffix_here rest xs)

same_rest : (a b c : ℕ) → b < c → a + b < a + c
same_rest a b c h = omega arith

less_units : (n k m a b : ℕ) → n ≤ k → a < b → n * suc m + a < k * suc m + b
less_units n k m a b h l = let t : n * suc m ≤ k * suc m = mul-le-mul_right (suc m) h in omega arith

one_less : (n m a b : ℕ) → a ≤ m → n * suc m + a < suc n * suc m + b
one_less n m a b h = let t : suc n * suc m ≡ n * suc m + suc m = suc-mul n (suc m) in omega arith

module _ {P X : Type 0} (wild : P → Bool) (fits : P → X → Bool) where
  wild_units : (p : P) (ps : List P) → wild p ≡ true → units_match wild fits (p ∷ ps) ≡ some_suffix (units_match wild fits ps)
  wild_units p ps e = ap (λ b. if b then some_suffix (units_match wild fits ps) else first_and_rest (fits p) (units_match wild fits ps)) e

  plain_units : (p : P) (ps : List P) → wild p ≡ false → units_match wild fits (p ∷ ps) ≡ first_and_rest (fits p) (units_match wild fits ps)
  plain_units p ps e = ap (λ b. if b then some_suffix (units_match wild fits ps) else first_and_rest (fits p) (units_match wild fits ps)) e

  -- at a wild unit

  wild_same : (p : P) (ps : List P) (xs : List X) (back : Option (List P × List X)) → wild p ≡ true → IsCoveredBy wild fits (p ∷ ps) xs back
      → answer_from wild fits ps xs (Some (ps, xs)) ≡ answer_from wild fits (p ∷ ps) xs back
  wild_same p ps xs None e h = sym (suffix_or_later (units_match wild fits ps) xs) ∙ ap (λ f. f xs) (sym (wild_units p ps e))
  wild_same p ps xs (Some b) e h =
      sym (suffix_or_later (units_match wild fits ps) xs)
      ∙ absorb (some_suffix (units_match wild fits ps) xs) (some_later (units_match wild fits b.0) b.1)
      (λ l. suffix_twice (units_match wild fits ps) xs (ap (λ f. some_suffix f xs) (sym (wild_units p ps e)) ∙ h.1 (later_suffix (units_match wild fits b.0) b.1 l)))
      ∙ ap (λ f. f xs || some_later (units_match wild fits b.0) b.1) (sym (wild_units p ps e))

  wild_nearer : (m : ℕ) (p : P) (ps : List P) (xs : List X) (back : Option (List P × List X)) → IsCoveredBy wild fits (p ∷ ps) xs back
      → rank_from wild fits m ps xs (Some (ps, xs)) < rank_from wild fits m (p ∷ ps) xs back
  wild_nearer m p ps xs None h = less_units (length xs) (suc (length xs)) m (length ps) (suc (length ps)) (omega arith) (omega arith)
  wild_nearer m p ps xs (Some b) h = less_units (length xs) (length b.1) m (length ps) (suc (length ps)) h.0 (omega arith)

  pub at_wild : (m : ℕ) (s : Trial P X) (p : P) (ps : List P) → s.pattern ≡ p ∷ ps → wild p ≡ true → IsOnTrial wild fits m s
      → GoesOn wild fits m s (record { pattern = ps; text = s.text; back = Some (ps, s.text) })
  at_wild m s p ps e w h =
      let c = subst (λ q. IsCoveredBy wild fits q s.text s.back) e h.covered in
      let l : suc (length ps) ≤ m = subst (λ q. length q ≤ m) e h.within in
      record {
        same = wild_same p ps s.text s.back w c ∙ ap (λ q. answer_from wild fits q s.text s.back) (sym e);
        on = record { within = omega arith; back = omega arith; covered = (omega arith, λ t. t) };
        nearer = subst (λ q. rank_from wild fits m ps s.text (Some (ps, s.text)) < rank_from wild fits m q s.text s.back) (sym e) (wild_nearer m p ps s.text s.back c);
      }

  -- at a unit that fits the next element

  fits_same : (p : P) (ps : List P) (x : X) (xs : List X) → wild p ≡ false → fits p x ≡ true → units_match wild fits (p ∷ ps) (x ∷ xs) ≡ units_match wild fits ps xs
  fits_same p ps x xs w f = ap (λ g. g (x ∷ xs)) (plain_units p ps w) ∙ ap (λ b. b && units_match wild fits ps xs) f

  fits_answer : (p : P) (ps : List P) (x : X) (xs : List X) (back : Option (List P × List X)) → wild p ≡ false → fits p x ≡ true
      → answer_from wild fits ps xs back ≡ answer_from wild fits (p ∷ ps) (x ∷ xs) back
  fits_answer p ps x xs None w f = sym (fits_same p ps x xs w f)
  fits_answer p ps x xs (Some b) w f = ap (λ a. a || some_later (units_match wild fits b.0) b.1) (sym (fits_same p ps x xs w f))

  fits_covered : (p : P) (ps : List P) (x : X) (xs : List X) (back : Option (List P × List X)) → wild p ≡ false
      → IsCoveredBy wild fits (p ∷ ps) (x ∷ xs) back → IsCoveredBy wild fits ps xs back
  fits_covered p ps x xs None w h = tt
  fits_covered p ps x xs (Some b) w h =
      let l = h.0 in
      (omega arith, λ t. first_suffix (fits p) (units_match wild fits ps) (x ∷ xs) (ap (λ g. some_suffix g (x ∷ xs)) (sym (plain_units p ps w)) ∙ h.1 t))

  fits_nearer : (m : ℕ) (p : P) (ps : List P) (x : X) (xs : List X) (back : Option (List P × List X))
      → rank_from wild fits m ps xs back < rank_from wild fits m (p ∷ ps) (x ∷ xs) back
  fits_nearer m p ps x xs None = less_units (suc (length xs)) (suc (suc (length xs))) m (length ps) (suc (length ps)) (omega arith) (omega arith)
  fits_nearer m p ps x xs (Some b) = less_units (length b.1) (length b.1) m (length ps) (suc (length ps)) (omega arith) (omega arith)

  pub at_fitting : (m : ℕ) (s : Trial P X) (p : P) (ps : List P) (x : X) (xs : List X) → s.pattern ≡ p ∷ ps → s.text ≡ x ∷ xs → wild p ≡ false → fits p x ≡ true
      → IsOnTrial wild fits m s → GoesOn wild fits m s (record { pattern = ps; text = xs; back = s.back })
  at_fitting m s p ps x xs e d w f h =
      let c = subst (λ q. IsCoveredBy wild fits q (x ∷ xs) s.back) e (subst (λ y. IsCoveredBy wild fits s.pattern y s.back) d h.covered) in
      let l : suc (length ps) ≤ m = subst (λ q. length q ≤ m) e h.within in
      record {
        same = fits_answer p ps x xs s.back w f ∙ ap (λ q. answer_from wild fits q (x ∷ xs) s.back) (sym e) ∙ ap (λ y. answer_from wild fits s.pattern y s.back) (sym d);
        on = record { within = omega arith; back = h.back; covered = fits_covered p ps x xs s.back w c };
        nearer = subst (λ y. rank_from wild fits m ps xs s.back < rank_from wild fits m s.pattern y s.back) (sym d)
            (subst (λ q. rank_from wild fits m ps xs s.back < rank_from wild fits m q (x ∷ xs) s.back) (sym e) (fits_nearer m p ps x xs s.back));
      }

  -- where what is left doesn't match

  pub fails_past : (s : Trial P X) (x : X) (xs : List X) → s.pattern ≡ [] → s.text ≡ x ∷ xs → Fails wild fits s
  fails_past s x xs e d = record { no = ap (λ q. units_match wild fits q s.text) e ∙ ap is_nil d }

  pub fails_short : (s : Trial P X) (p : P) (ps : List P) → s.pattern ≡ p ∷ ps → s.text ≡ [] → wild p ≡ false → Fails wild fits s
  fails_short s p ps e d w = record { no = ap (λ q. units_match wild fits q s.text) e ∙ ap (units_match wild fits (p ∷ ps)) d ∙ ap (λ g. g []) (plain_units p ps w) }

  pub fails_unfit : (s : Trial P X) (p : P) (ps : List P) (x : X) (xs : List X) → s.pattern ≡ p ∷ ps → s.text ≡ x ∷ xs → wild p ≡ false → fits p x ≡ false → Fails wild fits s
  fails_unfit s p ps x xs e d w f = record { no = ap (λ q. units_match wild fits q s.text) e ∙ ap (units_match wild fits (p ∷ ps)) d ∙ ap (λ g. g (x ∷ xs)) (plain_units p ps w) ∙ ap (λ b. b && units_match wild fits ps xs) f }

  pub ends_none : (s : Trial P X) → Fails wild fits s → s.back ≡ None → answer wild fits s ≡ false
  ends_none s h e = ap (answer_from wild fits s.pattern s.text) e ∙ h.no

  pub ends_empty : (s : Trial P X) (qs : List P) → Fails wild fits s → s.back ≡ Some (qs, []) → answer wild fits s ≡ false
  ends_empty s qs h e = ap (answer_from wild fits s.pattern s.text) e ∙ ap (λ b. b || false) h.no

  true_or : (back : Option (List P × List X)) → answer_from wild fits [] [] back ≡ true
  true_or None = refl
  true_or (Some b) = refl

  pub ends_both : (s : Trial P X) → s.pattern ≡ [] → s.text ≡ [] → answer wild fits s ≡ true
  ends_both s e d = ap (λ q. answer_from wild fits q s.text s.back) e ∙ ap (λ y. answer_from wild fits [] y s.back) d ∙ true_or s.back

  pub goes_back : (m : ℕ) (s : Trial P X) (qs : List P) (y : X) (ys : List X) → Fails wild fits s → s.back ≡ Some (qs, y ∷ ys) → IsOnTrial wild fits m s
      → GoesOn wild fits m s (record { pattern = qs; text = ys; back = Some (qs, ys) })
  goes_back m s qs y ys n e h =
      let l : length qs ≤ m = subst (IsBackWithin wild fits m) e h.back in
      record {
        same = sym (suffix_or_later (units_match wild fits qs) ys) ∙ ap (λ b. b || some_suffix (units_match wild fits qs) ys) (sym n.no) ∙ ap (answer_from wild fits s.pattern s.text) (sym e);
        on = record { within = omega arith; back = omega arith; covered = (omega arith, λ t. t) };
        nearer = subst (λ b. rank_from wild fits m qs ys (Some (qs, ys)) < rank_from wild fits m s.pattern s.text b) (sym e) (one_less (length ys) m (length qs) (length s.pattern) l);
      }
