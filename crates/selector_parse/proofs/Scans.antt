-- A scan, step by step.
use Rattle.std.proofs.Common.{◌≡◌, ℕ, suc, ◌+◌, ◌<◌, ◌≤◌, List, length, get_or, drop, Some, None, ap, ◌∙◌, arith}
use Rattle.std.proofs.lemmas.List.{at_drop_more, at_drop_all}
use Rattle.selector_parse.specs.declared.reading.Reading.{Reading}
use Rattle.selector_parse.specs.Reading.{step, or_on, scan_len, scan_last}

len_at : (q : Reading) (s : List ℕ) (i : ℕ) → i < length s → scan_len q (drop i s) ≡ or_on (step q (get_or s i 0)) 0 (λ p. suc (scan_len p (drop (i + 1) s)))
len_at q s i h = at_drop_more (scan_len q) s i 0 h

last_at : (q : Reading) (s : List ℕ) (i : ℕ) → i < length s → scan_last q (drop i s) ≡ or_on (step q (get_or s i 0)) q (λ p. scan_last p (drop (i + 1) s))
last_at q s i h = at_drop_more (scan_last q) s i 0 h

pub len_some : (q p : Reading) (s : List ℕ) (i : ℕ) → i < length s → step q (get_or s i 0) ≡ Some p → i + scan_len q (drop i s) ≡ (i + 1) + scan_len p (drop (i + 1) s)
len_some q p s i h e = let f = len_at q s i h ∙ ap (λ o. or_on o 0 (λ p. suc (scan_len p (drop (i + 1) s)))) e in omega arith

pub last_some : (q p : Reading) (s : List ℕ) (i : ℕ) → i < length s → step q (get_or s i 0) ≡ Some p → scan_last q (drop i s) ≡ scan_last p (drop (i + 1) s)
last_some q p s i h e = last_at q s i h ∙ ap (λ o. or_on o q (λ p. scan_last p (drop (i + 1) s))) e

pub len_none : (q : Reading) (s : List ℕ) (i : ℕ) → i < length s → step q (get_or s i 0) ≡ None → scan_len q (drop i s) ≡ 0
len_none q s i h e = len_at q s i h ∙ ap (λ o. or_on o 0 (λ p. suc (scan_len p (drop (i + 1) s)))) e

pub last_none : (q : Reading) (s : List ℕ) (i : ℕ) → i < length s → step q (get_or s i 0) ≡ None → scan_last q (drop i s) ≡ q
last_none q s i h e = last_at q s i h ∙ ap (λ o. or_on o q (λ p. scan_last p (drop (i + 1) s))) e

pub len_end : (q : Reading) (s : List ℕ) (i : ℕ) → length s ≤ i → scan_len q (drop i s) ≡ 0
len_end q s i h = at_drop_all (scan_len q) s i h

pub last_end : (q : Reading) (s : List ℕ) (i : ℕ) → length s ≤ i → scan_last q (drop i s) ≡ q
last_end q s i h = at_drop_all (scan_last q) s i h

pub ruleset scan_steps = (len_some, last_some, len_none, last_none, len_end, last_end)
