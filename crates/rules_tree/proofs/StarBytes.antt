-- Runs of `*`, and what stands after them, are the same in the bytes of a text as in its characters, from both ends.
use Rattle.std.proofs.Common.{◌≡◌, ℕ, zero, suc, ◌+◌, ◌-◌, ◌<◌, ◌≤◌, List, [], ◌∷◌, ◌++◌, Bool, true, false, length, reverse, take, drop, get_or, cond, eqb, refl, sym, ap, ap₂, subst, ◌∙◌, arith, one-add, inl, inr, ◌⊎◌, append_assoc}
use Rattle.std.specs.Prelude.{◌&&◌, not, nat_lt, if◌then◌else◌}
use Rattle.std.specs.List.{prefix_len}
use lib.Utf8.{encode, encodes}
use Rattle.std.proofs.lemmas.Bool.{ne_eqb, eq-eqb, cases_lt}
use Rattle.std.proofs.lemmas.Bool.Decides.{nat_tests}
use Rattle.std.proofs.lemmas.List.{reverse-append, append-nil, take_more, get_or-reverse, length-reverse}
use Rattle.css_text.specs.Characters.{is_space}
use Rattle.css_text.proofs.Bytes.{AllHigh, High, low_or_high, is_space-high}
use Rattle.rules_tree.specs.CommentWhitespaceInside.{stars, begins_black, lacks_space}

-- the same by recursion
abbrev black_after : List ℕ → Bool
black_after [] = false
black_after (c ∷ cs) = if eqb c 42 then black_after cs else not (is_space c)

lacks_by : (b : Bool) (c : ℕ) (cs : List ℕ) → eqb c 42 ≡ b → lacks_space cs ≡ black_after cs → lacks_space (c ∷ cs) ≡ black_after (c ∷ cs)
lacks_by true c cs e h =
    ap (λ v. begins_black (drop (cond v (1 + stars cs) 0) (c ∷ cs))) e
    ∙ (ap (λ n. begins_black (drop n (c ∷ cs))) (one-add (stars cs)) ∙ (h ∙ sym (ap (λ v. if v then black_after cs else not (is_space c)) e)))
lacks_by false c cs e h =
    ap (λ v. begins_black (drop (cond v (1 + stars cs) 0) (c ∷ cs))) e ∙ sym (ap (λ v. if v then black_after cs else not (is_space c)) e)

lacks_is : (s : List ℕ) → lacks_space s ≡ black_after s
lacks_is [] = refl
lacks_is (c ∷ cs) = lacks_by (eqb c 42) c cs refl (lacks_is cs)

-- a character is its only byte, or it begins with a byte past ASCII
abbrev IsShaped : (ℕ → List ℕ) → ℕ → Type 0
IsShaped f c = ((c < 128) × (f c ≡ c ∷ [])) ⊎ ((128 ≤ c) × (x : ℕ) × (xs : List ℕ) × (128 ≤ x) × (f c ≡ x ∷ xs))

not_star : (c : ℕ) → 128 ≤ c → eqb c 42 ≡ false
not_star c h = ne_eqb c 42 (λ e. omega arith)

-- each character spelled by f
abbrev spelled : (ℕ → List ℕ) → List ℕ → List ℕ
spelled f [] = []
spelled f (c ∷ cs) = f c ++ spelled f cs

module _ (f : ℕ → List ℕ) (shaped : (c : ℕ) → IsShaped f c) where
  stars_by : (c : ℕ) (cs : List ℕ) → IsShaped f c → stars (spelled f cs) ≡ stars cs → stars (spelled f (c ∷ cs)) ≡ stars (c ∷ cs)
  stars_by c cs (inl p) h = ap (λ z. stars (z ++ spelled f cs)) p.1 ∙ ap (λ n. cond (eqb c 42) (1 + n) 0) h
  stars_by c cs (inr p) h =
      ap (λ z. stars (z ++ spelled f cs)) p.4
      ∙ (ap (λ v. cond v (1 + stars (p.2 ++ spelled f cs)) 0) (not_star p.1 p.3) ∙ sym (ap (λ v. cond v (1 + stars cs) 0) (not_star c p.0)))

  stars_same : (cs : List ℕ) → stars (spelled f cs) ≡ stars cs
  stars_same [] = refl
  stars_same (c ∷ cs) = stars_by c cs (shaped c) (stars_same cs)

  black_by : (c : ℕ) (cs : List ℕ) → IsShaped f c → black_after (spelled f cs) ≡ black_after cs → black_after (spelled f (c ∷ cs)) ≡ black_after (c ∷ cs)
  black_by c cs (inl p) h = ap (λ z. black_after (z ++ spelled f cs)) p.1 ∙ ap (λ b. if eqb c 42 then b else not (is_space c)) h
  black_by c cs (inr p) h =
      ap (λ z. black_after (z ++ spelled f cs)) p.4
      ∙ (ap (λ v. if v then black_after (p.2 ++ spelled f cs) else not (is_space p.1)) (not_star p.1 p.3)
      ∙ (ap not (is_space-high p.1 p.3) ∙ (sym (ap not (is_space-high c p.0)) ∙ sym (ap (λ v. if v then black_after cs else not (is_space c)) (not_star c p.0)))))

  black_same : (cs : List ℕ) → black_after (spelled f cs) ≡ black_after cs
  black_same [] = refl
  black_same (c ∷ cs) = black_by c cs (shaped c) (black_same cs)

spelled-append : (f : ℕ → List ℕ) (xs ys : List ℕ) → spelled f (xs ++ ys) ≡ spelled f xs ++ spelled f ys
spelled-append f [] ys = refl
spelled-append f (x ∷ xs) ys = ap (λ z. f x ++ z) (spelled-append f xs ys) ∙ sym (append_assoc (f x) (spelled f xs) (spelled f ys))

-- in order
encode_shaped : (c : ℕ) → IsShaped encode c
encode_shaped c = elim (low_or_high c) [ inl p ↦ inl p | inr h ↦ inr (h.past, h.head, h.tail, h.head_high, h.is) ]

spelled_encodes : (cs : List ℕ) → spelled encode cs ≡ encodes cs
spelled_encodes [] = refl
spelled_encodes (c ∷ cs) = ap (λ z. encode c ++ z) (spelled_encodes cs)

-- and backwards
AllHigh-append : (xs ys : List ℕ) → AllHigh xs → AllHigh ys → AllHigh (xs ++ ys)
AllHigh-append [] ys p q = q
AllHigh-append (x ∷ xs) ys p q = (p.0, AllHigh-append xs ys p.1 q)

abbrev back : ℕ → List ℕ
back c = reverse (encode c)

reverse-cons : (x : ℕ) (xs : List ℕ) → reverse (x ∷ xs) ≡ reverse xs ++ x ∷ []
reverse-cons x xs = reverse-append (x ∷ []) xs

AllHigh-reverse : (xs : List ℕ) → AllHigh xs → AllHigh (reverse xs)
AllHigh-reverse [] p = tt
AllHigh-reverse (x ∷ xs) p = subst AllHigh (sym (reverse-cons x xs)) (AllHigh-append (reverse xs) (x ∷ []) (AllHigh-reverse xs p.1) (p.0, tt))

high_front : (zs rest : List ℕ) (x : ℕ) → AllHigh zs → zs ≡ rest ++ x ∷ [] → (y : ℕ) × (ys : List ℕ) × (128 ≤ y) × (zs ≡ y ∷ ys)
high_front [] [] x p e = cc
high_front [] (r ∷ rest) x p e = cc
high_front (y ∷ ys) rest x p e = (y, ys, p.0, refl)

back_high : (c : ℕ) → High c → IsShaped back c
back_high c h =
    let w = high_front (reverse (h.head ∷ h.tail)) (reverse h.tail) h.head (AllHigh-reverse (h.head ∷ h.tail) (h.head_high, h.tail_high)) (reverse-cons h.head h.tail) in
    inr (h.past, w.0, w.1, w.2, ap reverse h.is ∙ w.3)

back_shaped : (c : ℕ) → IsShaped back c
back_shaped c = elim (low_or_high c) [ inl p ↦ inl (p.0, ap reverse p.1) | inr h ↦ back_high c h ]

spelled_back : (cs : List ℕ) → spelled back (reverse cs) ≡ reverse (encodes cs)
spelled_back [] = refl
spelled_back (c ∷ cs) =
    ap (spelled back) (reverse-cons c cs) ∙ (spelled-append back (reverse cs) (c ∷ [])
    ∙ (ap₂ (λ x y. x ++ y) (spelled_back cs) (append-nil (back c)) ∙ sym (reverse-append (encode c) (encodes cs))))

pub stars_bytes : (cs : List ℕ) → stars (encodes cs) ≡ stars cs
stars_bytes cs = ap stars (sym (spelled_encodes cs)) ∙ stars_same encode encode_shaped cs

pub lacks_bytes : (cs : List ℕ) → lacks_space (encodes cs) ≡ lacks_space cs
lacks_bytes cs = ap lacks_space (sym (spelled_encodes cs)) ∙ (lacks_is (spelled encode cs) ∙ (black_same encode encode_shaped cs ∙ sym (lacks_is cs)))

pub stars_back : (cs : List ℕ) → stars (reverse (encodes cs)) ≡ stars (reverse cs)
stars_back cs = ap stars (sym (spelled_back cs)) ∙ stars_same back back_shaped (reverse cs)

pub lacks_back : (cs : List ℕ) → lacks_space (reverse (encodes cs)) ≡ lacks_space (reverse cs)
lacks_back cs = ap lacks_space (sym (spelled_back cs)) ∙ (lacks_is (spelled back (reverse cs)) ∙ (black_same back back_shaped (reverse cs) ∙ sym (lacks_is (reverse cs))))

-- what begins at a place
lt_yes : (a b : ℕ) → a < b → nat_lt a b ≡ true
lt_yes a b h = grind (arith, nat_tests)

lt_no : (a b : ℕ) → b ≤ a → nat_lt a b ≡ false
lt_no a b h = grind (arith, nat_tests)

lt_by : (n m : ℕ) → (n < m) ⊎ (m ≤ n) → nat_lt n m ≡ nat_lt (suc n) (suc m)
lt_by n m (inl h) = lt_yes n m h ∙ sym (lt_yes (suc n) (suc m) (omega arith))
lt_by n m (inr h) = lt_no n m h ∙ sym (lt_no (suc n) (suc m) (omega arith))

pub black_at : (s : List ℕ) (n : ℕ) → begins_black (drop n s) ≡ (nat_lt n (length s) && not (is_space (get_or s n 0)))
black_at [] zero = sym (ap (λ b. b && not (is_space 0)) (lt_no 0 0 (omega arith)))
black_at [] (suc n) = sym (ap (λ b. b && not (is_space 0)) (lt_no (suc n) 0 (omega arith)))
black_at (c ∷ cs) zero = sym (ap (λ b. b && not (is_space c)) (lt_yes 0 (length (c ∷ cs)) (omega arith)))
black_at (c ∷ cs) (suc n) = black_at cs n ∙ ap (λ b. b && not (is_space (get_or cs n 0))) (lt_by n (length cs) (cases_lt n (length cs)))

pub stars-within : (s : List ℕ) → stars s ≤ length s
stars-within [] = omega arith
stars-within (c ∷ cs) = within (eqb c 42) c cs refl (stars-within cs) where
  within : (b : Bool) (c : ℕ) (cs : List ℕ) → eqb c 42 ≡ b → stars cs ≤ length cs → stars (c ∷ cs) ≤ length (c ∷ cs)
  within true c cs e h = let n : stars (c ∷ cs) ≡ 1 + stars cs = ap (λ v. cond v (1 + stars cs) 0) e in omega arith
  within false c cs e h = let n : stars (c ∷ cs) ≡ 0 = ap (λ v. cond v (1 + stars cs) 0) e in omega arith

-- the end of a text
module _ (s : List ℕ) (n : ℕ) (h : 0 < n) (b : n ≤ length s) where
  last_first : reverse (take n s) ≡ get_or s (n - 1) 0 ∷ reverse (take (n - 1) s)
  last_first =
      let e : n - 1 + 1 ≡ n = omega arith in
      let k : n - 1 < length s = omega arith in
      ap (λ m. reverse (take m s)) (sym e) ∙ (ap reverse (take_more s (n - 1) 0 k) ∙ reverse-append (take (n - 1) s) (get_or s (n - 1) 0 ∷ []))

  pub one_star : get_or s (n - 1) 0 ≡ 42 → stars (reverse (take n s)) ≡ 1 + stars (reverse (take (n - 1) s))
  one_star e = ap stars last_first ∙ ap (λ v. cond v (1 + stars (reverse (take (n - 1) s))) 0) (eq-eqb (get_or s (n - 1) 0) 42 e)

  pub no_star : (get_or s (n - 1) 0 ≡ 42 → ⊥) → stars (reverse (take n s)) ≡ 0
  no_star e = ap stars last_first ∙ ap (λ v. cond v (1 + stars (reverse (take (n - 1) s))) 0) (ne_eqb (get_or s (n - 1) 0) 42 e)

-- what stands before the run of `*` at the end
pub last_at : (s : List ℕ) (n : ℕ) → n + stars (reverse s) ≡ length s → 0 < n → get_or (reverse s) (stars (reverse s)) 0 ≡ get_or s (n - 1) 0
last_at s n e h =
    let k : stars (reverse s) < length s = omega arith in
    let m : length s - 1 - stars (reverse s) ≡ n - 1 = omega arith in
    get_or-reverse s (stars (reverse s)) 0 k ∙ ap (λ i. get_or s i 0) m

black_by_end : (s : List ℕ) (n : ℕ) → n + stars (reverse s) ≡ length s → (0 < n) ⊎ (n ≤ 0) → lacks_space (reverse s) ≡ (nat_lt 0 n && not (is_space (get_or s (n - 1) 0)))
black_by_end s n e (inl h) =
    let k : nat_lt (stars (reverse s)) (length (reverse s)) ≡ true = lt_yes (stars (reverse s)) (length (reverse s)) (omega (arith, length-reverse s)) in
    let m : nat_lt 0 n ≡ true = lt_yes 0 n h in
    black_at (reverse s) (stars (reverse s)) ∙ (ap₂ (λ b c. b && not (is_space c)) (k ∙ sym m) (last_at s n e h))
black_by_end s n e (inr h) =
    let k : nat_lt (stars (reverse s)) (length (reverse s)) ≡ false = lt_no (stars (reverse s)) (length (reverse s)) (omega (arith, length-reverse s)) in
    let m : nat_lt 0 n ≡ false = lt_no 0 n h in
    black_at (reverse s) (stars (reverse s)) ∙ (ap (λ b. b && not (is_space (get_or (reverse s) (stars (reverse s)) 0))) k ∙ sym (ap (λ b. b && not (is_space (get_or s (n - 1) 0))) m))

-- what stands before the run of `*` at the end
pub black_back : (s : List ℕ) (n : ℕ) → n + stars (reverse s) ≡ length s → (nat_lt 0 n && not (is_space (get_or s (n - 1) 0))) ≡ lacks_space (reverse s)
black_back s n e = sym (black_by_end s n e (cases_lt 0 n))
