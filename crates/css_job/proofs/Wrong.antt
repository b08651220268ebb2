-- Bytes that aren't UTF-8 are UTF-8 up to a byte.
use Rattle.std.proofs.Common.{◌≡◌, ℕ, zero, suc, ◌<◌, ◌≤◌, List, length, take, Bool, true, false, refl, sym, subst, ◌∙◌, inl, inr, arith, true≢false}
use Rattle.std.specs.Str.{IsUtf8, is_utf8, IsValidUpTo}
use Rattle.std.specs.Str.Lossy.{utf8_valid_len}
use Rattle.std.proofs.lemmas.Bool.{cases_lt}
use Rattle.std.proofs.lemmas.List.{take_all}
use Rattle.std.proofs.lemmas.Str.{IsUtf8-nil, IsUtf8-from_is_utf8, is_utf8-from_IsUtf8, utf8_valid_len-IsValidUpTo}

-- the longest front of at most m bytes that is UTF-8
record Longest (bs : List ℕ) (m : ℕ) : Type 0 where
  pub size : ℕ
  pub within : size ≤ m
  pub front : IsUtf8 (take size bs)
  pub longest : (k : ℕ) → size < k → k ≤ m → ¬ (IsUtf8 (take k bs))

longest_more : (bs : List ℕ) (m : ℕ) (b : Bool) → is_utf8 (take (suc m) bs) ≡ b → Longest bs m → Longest bs (suc m)
longest_more bs m true e l = record { size = suc m; within = omega arith; front = IsUtf8-from_is_utf8 (take (suc m) bs) e; longest = λ k above below. absurd (omega arith) }
longest_more bs m false e l = record {
  size = l.size;
  within = omega (arith, l.within);
  front = l.front;
  longest = λ k above below u. elim (cases_lt m k) [
    | inl top ↦
        let same : k ≡ suc m = omega arith in
        true≢false (sym (is_utf8-from_IsUtf8 (take (suc m) bs) (subst (λ n. IsUtf8 (take n bs)) same u)) ∙ e)
    | inr low ↦ l.longest k above low u
  ];
}

longest_of : (bs : List ℕ) (m : ℕ) → Longest bs m
longest_of bs zero = record { size = 0; within = omega arith; front = IsUtf8-nil; longest = λ k above below. absurd (omega arith) }
longest_of bs (suc m) = longest_more bs m (is_utf8 (take (suc m) bs)) refl (longest_of bs m)

not_all : (bs : List ℕ) (m : ℕ) → is_utf8 bs ≡ false → length bs ≤ m → ¬ (IsUtf8 (take m bs))
not_all bs m e h u = true≢false (sym (is_utf8-from_IsUtf8 bs (subst IsUtf8 (take_all m bs h) u)) ∙ e)

valid_of : (bs : List ℕ) → is_utf8 bs ≡ false → (l : Longest bs (length bs)) → IsValidUpTo bs l.size
valid_of bs e l = elim (cases_lt l.size (length bs)) [
  | inl short ↦ record {
    short = short;
    front = l.front;
    longest = λ k above u. elim (cases_lt (length bs) k) [
      | inl past ↦ not_all bs k e (omega arith) u
      | inr within ↦ l.longest k above within u
    ];
  }
  | inr whole ↦ absurd (not_all bs l.size e whole l.front)
]

pub wrong_from : (bs : List ℕ) → is_utf8 bs ≡ false → IsValidUpTo bs (utf8_valid_len bs)
wrong_from bs e =
    let v = valid_of bs e (longest_of bs (length bs)) in
    subst (IsValidUpTo bs) (sym (utf8_valid_len-IsValidUpTo bs _ v)) v
