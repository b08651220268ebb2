-- What a source in memory gives.
use Rattle.std.proofs.Common.{◌≡◌, ℕ, ◌+◌, ◌-◌, ◌<◌, ◌≤◌, min, List, [], ◌++◌, length, take, drop, sym, ap, ◌∙◌, arith, length-drop, length-append, take-append-drop}
use Rattle.std.proofs.lemmas.List.{drop-drop, nil_from_length}
use Rattle.std.proofs.lemmas.List.{length-take-le}

pub gave : (left buf bytes : List ℕ) (i n : ℕ) → left ≡ drop i bytes → take n buf ≡ take n (drop i bytes) → left ≡ take n buf ++ drop (i + n) bytes
gave left buf bytes i n e f =
    e ∙ sym (take-append-drop n (drop i bytes)) ∙ ap (λ xs. xs ++ drop n (drop i bytes)) (sym f) ∙ ap (λ xs. take n buf ++ xs) (drop-drop n i bytes)

pub ended : (size : ℕ) (bytes : List ℕ) (i n : ℕ) → n ≡ min (length bytes - i) size → n ≡ 0 → 0 < size → drop (i + n) bytes ≡ []
ended size bytes i n e z lt = nil_from_length (drop (i + n) bytes) (omega (arith, length-drop (i + n) bytes))

-- what one more read adds is within a buffer
pub within_chunk : (xs buf : List ℕ) (n limit size : ℕ) → length xs ≤ limit → n ≤ length buf → length buf ≡ size → length (xs ++ take n buf) ≤ limit + size
within_chunk xs buf n limit size h l e = omega (arith, h, e, length-append xs (take n buf), length-take-le n buf l)
