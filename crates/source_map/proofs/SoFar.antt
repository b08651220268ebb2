-- A slot of which some bytes are read.
use Rattle.std.proofs.Common.{◌≡◌, ℕ, ◌+◌, ◌-◌, ◌*◌, ◌^◌, ◌<◌, ◌≤◌, ◌==◌, Bool, true, false, nat_lt, List, [], ◌∷◌, ◌++◌, length, take, drop, Option, Some, None, Result, Ok, Err, refl, sym, ap, ◌∙◌, arith, if◌then◌else◌, add-one, add-zero}
use Rattle.std.proofs.lemmas.Grind.{common_steps}
use Rattle.std.proofs.Math.Nat.{pow-suc, mul-le-mul_left}
use Rattle.source_map.specs.declared.vlq.Number.{Number}
use Rattle.source_map.specs.Vlq.{digit_of, numbers}
use Rattle.source_map.specs.Answers.{first_six, with_sixth}
use Rattle.source_map.proofs.Numbers.{continued, low_step, last_step, stop_step, six_fault}

-- the fields read so far, and the number that is being read
pub record IsSoFar (at : ℕ) (slot : List ℕ) (i : ℕ) (fs : List ℕ) (n : Number) : Type 0 where
  pub digits : n.digits ≤ 7
  pub weight : n.weight ≡ 32 ^ n.digits
  pub value : n.value < n.weight
  pub few : length fs ≤ 6
  pub same : first_six (numbers at 0 slot) ≡ continued fs n.value n.weight (numbers (at + i) n.digits (drop i slot))

some_by : (b : Bool) (k : ℕ) (o : Option ℕ) (d : ℕ) → (k == 7) ≡ b → (if b then None else o) ≡ Some d → (k == 7 ≡ false) × (o ≡ Some d)
some_by true k o d e h = absurd (cc)
some_by false k o d e h = (e, h)

not_seven : (k : ℕ) → k ≤ 7 → (k == 7) ≡ false → k < 7
not_seven k h e = grind (arith, common_steps)

few_by : (b : Bool) (fs : List ℕ) (x : ℕ) → nat_lt (length fs) 6 ≡ b → length fs ≤ 6 → length (if b then fs ++ x ∷ [] else fs) ≤ 6
few_by true fs x e h = grind (arith, common_steps)
few_by false fs x e h = h

-- what is known of a digit that is taken
pub taken : (k b d : ℕ) → (if k == 7 then None else digit_of b) ≡ Some d → k ≤ 7 → (digit_of b ≡ Some d) × (k < 7)
taken k b d h l = let e = some_by (k == 7) k (digit_of b) d refl h in (e.1, not_seven k l e.0)

weight_more : (w k : ℕ) → w ≡ 32 ^ k → w * 32 ≡ 32 ^ (k + 1)
weight_more w k h = ap (λ x. x * 32) h ∙ sym (ap (λ j. 32 ^ j) (add-one k) ∙ pow-suc 32 k)

below : (v w d : ℕ) → v < w → d < 64 → 32 ≤ d → v + w * (d - 32) < w * 32
below v w d h l g = let m : w * (d - 32) ≤ w * 31 = mul-le-mul_left w (omega arith) in omega arith

pub so_far_low : (at : ℕ) (slot : List ℕ) (i : ℕ) (fs : List ℕ) (n : Number) (b d : ℕ) → IsSoFar at slot i fs n → drop i slot ≡ b ∷ drop (i + 1) slot
    → (if n.digits == 7 then None else digit_of b) ≡ Some d → d < 64 → 32 ≤ d
    → IsSoFar at slot (i + 1) fs (record { value = n.value + n.weight * (d - 32); digits = n.digits + 1; weight = n.weight * 32 })
so_far_low at slot i fs n b d s e h l g =
    let t = taken n.digits b d h s.digits in
    record {
      digits = omega (arith, t.1);
      weight = weight_more n.weight n.digits s.weight;
      value = below n.value n.weight d s.value l g;
      few = s.few;
      same = s.same ∙ ap (λ x. continued fs n.value n.weight (numbers (at + i) n.digits x)) e ∙ low_step fs n.value n.weight (at + i) n.digits b d (drop (i + 1) slot) t.0 t.1 g
          ∙ ap (λ x. continued fs (n.value + n.weight * (d - 32)) (n.weight * 32) (numbers x (n.digits + 1) (drop (i + 1) slot))) (omega arith);
    }

pub so_far_last : (at : ℕ) (slot : List ℕ) (i : ℕ) (fs : List ℕ) (n : Number) (b d : ℕ) → IsSoFar at slot i fs n → drop i slot ≡ b ∷ drop (i + 1) slot
    → (if n.digits == 7 then None else digit_of b) ≡ Some d → d < 32
    → IsSoFar at slot (i + 1) (with_sixth fs (n.value + n.weight * d)) (record { value = 0; digits = 0; weight = 1 })
so_far_last at slot i fs n b d s e h l =
    let t = taken n.digits b d h s.digits in
    record {
      digits = omega arith;
      weight = refl;
      value = omega arith;
      few = few_by (nat_lt (length fs) 6) fs (n.value + n.weight * d) refl s.few;
      same = s.same ∙ ap (λ x. continued fs n.value n.weight (numbers (at + i) n.digits x)) e ∙ last_step fs n.value n.weight (at + i) n.digits b d (drop (i + 1) slot) t.0 t.1 l
          ∙ ap (λ x. continued (with_sixth fs (n.value + n.weight * d)) 0 1 (numbers x 0 (drop (i + 1) slot))) (omega arith);
    }

pub so_far_stop : (at : ℕ) (slot : List ℕ) (i : ℕ) (fs : List ℕ) (n : Number) (b : ℕ) → IsSoFar at slot i fs n → drop i slot ≡ b ∷ drop (i + 1) slot
    → (if n.digits == 7 then None else digit_of b) ≡ None → numbers at 0 slot ≡ Err (at + i)
so_far_stop at slot i fs n b s e h =
    six_fault (numbers at 0 slot) (at + i) (s.same ∙ ap (λ x. continued fs n.value n.weight (numbers (at + i) n.digits x)) e ∙ ap (continued fs n.value n.weight) (stop_step (at + i) n.digits b (drop (i + 1) slot) h))

drop-all : (i : ℕ) (xs : List ℕ) → length xs ≤ i → drop i xs ≡ []
drop-all i xs h = grind (arith, common_steps)

take-whole : (xs : List ℕ) → length xs ≤ 6 → take 6 xs ≡ xs
take-whole xs h = grind (arith, common_steps)

end_by : (at : ℕ) (slot : List ℕ) (i k : ℕ) → length slot ≤ i → numbers (at + i) k (drop i slot) ≡ (if k == 0 then Ok [] else Err (at + i))
unfolding numbers
end_by at slot i k h = ap (numbers (at + i) k) (drop-all i slot h)

ended : (k e : ℕ) → k ≡ 0 → (let r : Result (List ℕ) ℕ = if k == 0 then Ok [] else Err e in r ≡ Ok [])
ended k e z = rw z refl

pub so_far_whole : (at : ℕ) (slot : List ℕ) (i : ℕ) (fs : List ℕ) (n : Number) → IsSoFar at slot i fs n → length slot ≤ i → n.digits ≡ 0 → first_six (numbers at 0 slot) ≡ Ok fs
so_far_whole at slot i fs n s h z =
    let e : numbers (at + i) n.digits (drop i slot) ≡ Ok [] = end_by at slot i n.digits h ∙ ended n.digits (at + i) z in
    s.same ∙ ap (continued fs n.value n.weight) e ∙ ap (λ l. Ok l) (take-whole fs s.few)

pub so_far_cut : (at : ℕ) (slot : List ℕ) (i : ℕ) (fs : List ℕ) (n : Number) → IsSoFar at slot i fs n → length slot ≤ i → (n.digits == 0) ≡ false → numbers at 0 slot ≡ Err (at + i)
so_far_cut at slot i fs n s h z =
    let e : numbers (at + i) n.digits (drop i slot) ≡ Err (at + i) = end_by at slot i n.digits h ∙ rw z refl in
    six_fault (numbers at 0 slot) (at + i) (s.same ∙ ap (continued fs n.value n.weight) e)

first_by : (r : Result (List ℕ) ℕ) → first_six r ≡ continued [] 0 1 r
first_by (Ok []) = refl
first_by (Ok (x ∷ ns)) = ap (λ y. Ok (take 6 (y ∷ ns))) (omega arith)
first_by (Err at) = refl

-- before the first byte
pub so_far_none : (at : ℕ) (slot fs : List ℕ) (n : Number) → fs ≡ [] → n ≡ record { value = 0; digits = 0; weight = 1 } → IsSoFar at slot 0 fs n
so_far_none at slot fs n e h = rw (e, h) (record {
  digits = omega arith;
  weight = refl;
  value = omega arith;
  few = omega arith;
  same = first_by (numbers at 0 slot) ∙ ap (λ x. continued [] 0 1 (numbers x 0 slot)) (sym (add-zero at));
})

pub so_far_same : (at : ℕ) (slot : List ℕ) (i : ℕ) (fs gs : List ℕ) (n m : Number) → IsSoFar at slot i fs n → gs ≡ fs → m ≡ n → IsSoFar at slot i gs m
so_far_same at slot i fs gs n m s e h = rw (e, h) s
