-- Runs of calm characters: how many of their round brackets are open, and that none opens `url(`.
use Rattle.std.proofs.Common.{◌≡◌, ℕ, zero, suc, ◌+◌, ◌-◌, ◌<◌, ◌≤◌, eqb, Bool, true, false, Option, Some, None, List, [], ◌∷◌, ◌++◌, length, take, drop, get_or, refl, ap, sym, ◌∙◌, subst, inl, inr, arith}
use Rattle.std.specs.Prelude.{◌==◌, ◌&&◌, ◌||◌}
use Rattle.std.specs.List.{prefix_len}
use Rattle.std.proofs.lemmas.Bool.{eqb-true, false≢true, cases_lt}
use Rattle.std.proofs.lemmas.List.{get_or_past}
use Rattle.css_text.specs.Shared.{part}
use Rattle.css_text.specs.Characters.{is_space, is_quote, is_single, ends_word}
use Rattle.css_tree.specs.Classes.{Each}
use Rattle.css_tree.proofs.Trim.{each-append}
use Rattle.css_parse.specs.Plain.{is_name, is_flat, is_calm, less, bracket, brackets, and_then, OpensNoUrl, IsClosed}
use Rattle.css_parse.specs.PlainScan.{OpensNoUrlAt, IsCalmRun}
use Rattle.css_parse.proofs.PlainSlices.{part-begins, part-split, drop-at, each-back, run-class}

-- Flat characters are calm, and none is a round bracket.

pub each-by : (test other : ℕ → Bool) → ((c : ℕ) → test c ≡ true → other c ≡ true) → (xs : List ℕ) → Each test xs → Each other xs
each-by test other f [] h = tt
each-by test other f (x ∷ xs) h = (f x h.0, each-by test other f xs h.1)

flat-calm : (c : ℕ) → is_flat c ≡ true → is_calm c ≡ true
unfolding is_calm
flat-calm c e = rw e refl

pub name-flat : (c : ℕ) → is_name c ≡ true → is_flat c ≡ true
unfolding is_flat
name-flat c e = rw e refl

pub space-flat : (c : ℕ) → is_space c ≡ true → is_flat c ≡ true
unfolding is_flat
space-flat c e = grind arith

no-open : (b : Bool) (c : ℕ) → is_flat c ≡ true → eqb c 40 ≡ b → b ≡ false
unfolding is_flat is_name is_space ends_word is_quote is_single
no-open true c h e = absurd (false≢true (subst (λ z. is_flat z ≡ true) (eqb-true c 40 e) h))
no-open false c h e = refl

no-close : (b : Bool) (c : ℕ) → is_flat c ≡ true → eqb c 41 ≡ b → b ≡ false
unfolding is_flat is_name is_space ends_word is_quote is_single
no-close true c h e = absurd (false≢true (subst (λ z. is_flat z ≡ true) (eqb-true c 41 e) h))
no-close false c h e = refl

pub flat-first : (c : ℕ) → is_flat c ≡ true → (c == 40) ≡ false
flat-first c h = no-open (eqb c 40) c h refl

flat-bracket : (n c : ℕ) → is_flat c ≡ true → bracket n c ≡ Some n
flat-bracket n c h = rw (no-open (eqb c 40) c h refl, no-close (eqb c 41) c h refl) refl

flat-brackets : (n : ℕ) (cs : List ℕ) → Each is_flat cs → brackets n cs ≡ Some n
flat-brackets n [] h = refl
flat-brackets n (c ∷ cs) h = ap (λ o. and_then o (λ m. brackets m cs)) (flat-bracket n c h.0) ∙ flat-brackets n cs h.1

-- Brackets of characters side by side.

then-more : (o : Option ℕ) (xs ys : List ℕ) → ((m : ℕ) → brackets m (xs ++ ys) ≡ and_then (brackets m xs) (λ k. brackets k ys))
    → and_then o (λ m. brackets m (xs ++ ys)) ≡ and_then (and_then o (λ m. brackets m xs)) (λ k. brackets k ys)
then-more None xs ys f = refl
then-more (Some m) xs ys f = f m

brackets-append : (xs ys : List ℕ) (n : ℕ) → brackets n (xs ++ ys) ≡ and_then (brackets n xs) (λ k. brackets k ys)
brackets-append [] ys n = refl
brackets-append (x ∷ xs) ys n = then-more (bracket n x) xs ys (brackets-append xs ys)

behind : (n m : ℕ) (xs ys : List ℕ) → brackets n xs ≡ Some m → brackets n (xs ++ ys) ≡ brackets m ys
behind n m xs ys e = brackets-append xs ys n ∙ ap (λ o. and_then o (λ k. brackets k ys)) e

then-flat : (o : Option ℕ) (ys : List ℕ) → Each is_flat ys → and_then o (λ k. brackets k ys) ≡ o
then-flat None ys h = refl
then-flat (Some m) ys h = flat-brackets m ys h

before-flat : (n : ℕ) (xs ys : List ℕ) → Each is_flat ys → brackets n (xs ++ ys) ≡ brackets n xs
before-flat n xs ys h = brackets-append xs ys n ∙ then-flat (brackets n xs) ys h

-- No `url(`.

pub each-at : (test : ℕ → Bool) (bs : List ℕ) (a b i : ℕ) → a ≤ i → i < b → b ≤ length bs → Each test (part bs a b) → test (get_or bs i 0) ≡ true
each-at test bs a b i h k l e =
    let x = each-back test (part bs a i) (part bs i b) (subst (Each test) (part-split bs a i b h (omega arith)) e) in
    (subst (Each test) (part-begins bs i b k l) x).0

flat-no_url : (bs : List ℕ) (i : ℕ) → is_flat (get_or bs i 0) ≡ true → OpensNoUrlAt bs i
flat-no_url bs i h = rw (no-open (eqb (get_or bs i 0) 40) (get_or bs i 0) h refl) refl

one-back : (a : ℕ) → a + 1 - 1 ≡ a
one-back a = omega arith

no_url-by : (n : ℕ) (bs : List ℕ) (a : ℕ) → a + n ≤ length bs → ((i : ℕ) → a < i → i < a + n → OpensNoUrlAt bs i) → OpensNoUrl (take n (drop a bs))
no_url-by zero bs a l h = tt
no_url-by (suc zero) bs a l h = subst (λ z. OpensNoUrl (take 1 z)) (sym (drop-at bs a (omega arith))) tt
no_url-by (suc (suc n)) bs a l h =
    let x = get_or bs a 0 in
    let y = get_or bs (a + 1) 0 in
    let two : drop (a + 1) bs ≡ y ∷ drop (a + 1 + 1) bs = drop-at bs (a + 1) (omega arith) in
    let one : drop a bs ≡ x ∷ y ∷ drop (a + 1 + 1) bs = drop-at bs a (omega arith) ∙ ap (λ z. x ∷ z) two in
    let here : (y == 40 && (x == 108 || x == 76)) ≡ false = subst (λ i. (y == 40 && (get_or bs i 0 == 108 || get_or bs i 0 == 76)) ≡ false) (one-back a) (h (a + 1) (omega arith) (omega arith)) in
    let rest : OpensNoUrl (take (suc n) (drop (a + 1) bs)) = no_url-by (suc n) bs (a + 1) (omega arith) (λ i j k. h i (omega arith) (omega arith)) in
    subst (λ z. OpensNoUrl (take (suc (suc n)) z)) (sym one) (here, subst (λ z. OpensNoUrl (take (suc n) z)) two rest)

within : (a b i : ℕ) → a ≤ b → i < a + (b - a) → i < b
within a b i h k = omega arith

no_url-part : (bs : List ℕ) (a b : ℕ) → a ≤ b → b ≤ length bs → ((i : ℕ) → a < i → i < b → OpensNoUrlAt bs i) → OpensNoUrl (part bs a b)
no_url-part bs a b h l f = no_url-by (b - a) bs a (omega arith) (λ i j k. f i j (within a b i h k))

-- Runs.

pub flat-run : (bs : List ℕ) (a b n : ℕ) → a ≤ b → b ≤ length bs → Each is_flat (part bs a b) → IsCalmRun bs a b n n
flat-run bs a b n h l e = record {
  order = h;
  within = l;
  class = each-by is_flat is_calm flat-calm (part bs a b) e;
  count = flat-brackets n (part bs a b) e;
  no_url = λ i j k. flat-no_url bs i (each-at is_flat bs a b i j k l e);
}

run-place : (bs : List ℕ) (a b c i : ℕ) → ((i : ℕ) → a ≤ i → i < b → OpensNoUrlAt bs i) → ((i : ℕ) → b ≤ i → i < c → OpensNoUrlAt bs i) → a ≤ i → i < c → OpensNoUrlAt bs i
run-place bs a b c i f g j k = elim (cases_lt i b) [
  | inl l ↦ f i j l
  | inr l ↦ g i l k
]

pub run-join : (bs : List ℕ) (a b c n m k : ℕ) → IsCalmRun bs a b n m → IsCalmRun bs b c m k → IsCalmRun bs a c n k
run-join bs a b c n m k x y =
    let e = part-split bs a b c x.order y.order in
    record {
      order = omega (arith, x.order, y.order);
      within = y.within;
      class = subst (Each is_calm) (sym e) (each-append is_calm (part bs a b) (part bs b c) x.class y.class);
      count = ap (brackets n) e ∙ (behind n m (part bs a b) (part bs b c) x.count ∙ y.count);
      no_url = λ i j l. run-place bs a b c i x.no_url y.no_url j l;
    }

-- a bracket
pub bracket-run : (bs : List ℕ) (i n m : ℕ) → i < length bs → is_calm (get_or bs i 0) ≡ true → bracket n (get_or bs i 0) ≡ Some m → OpensNoUrlAt bs i → IsCalmRun bs i (i + 1) n m
bracket-run bs i n m l h e u =
    let none : i + 1 - (i + 1) ≡ 0 = omega arith in
    let one : part bs i (i + 1) ≡ get_or bs i 0 ∷ [] = part-begins bs i (i + 1) (omega arith) (omega arith) ∙ ap (λ z. get_or bs i 0 ∷ take z (drop (i + 1) bs)) none in
    record {
      order = omega arith;
      within = omega arith;
      class = subst (Each is_calm) (sym one) (h, tt);
      count = ap (brackets n) one ∙ ap (λ o. and_then o (λ k. Some k)) e;
      no_url = λ j k o. let s : i ≡ j = omega arith in subst (OpensNoUrlAt bs) s u;
    }

pub some-within : (bs : List ℕ) (i : ℕ) → 0 < get_or bs i 0 → i < length bs
some-within bs i h = elim (cases_lt i (length bs)) [
  | inl l ↦ l
  | inr l ↦ absurd (omega (arith, h, get_or_past bs i 0 l))
]

open-calm : is_calm 40 ≡ true
unfolding is_calm is_flat is_name is_space ends_word is_quote is_single
open-calm = refl

close-calm : is_calm 41 ≡ true
unfolding is_calm is_flat is_name is_space ends_word is_quote is_single
close-calm = refl

and-none : (a b : Bool) → b ≡ false → (a && b) ≡ false
and-none true b e = e
and-none false b e = refl

one-more : (n : ℕ) → Some (suc n) ≡ Some (n + 1)
one-more n = let e : suc n ≡ n + 1 = omega arith in ap Some e

one-less : (n : ℕ) → 0 < n → less n ≡ Some (n - 1)
one-less zero h = absurd (omega arith)
one-less (suc n) h = let e : n ≡ suc n - 1 = omega arith in ap Some e

pub open-run : (bs : List ℕ) (i n : ℕ) → get_or bs i 0 ≡ 40 → (get_or bs (i - 1) 0 == 108 || get_or bs (i - 1) 0 == 76) ≡ false → IsCalmRun bs i (i + 1) n (n + 1)
open-run bs i n e u =
    bracket-run bs i n (n + 1) (some-within bs i (omega (arith, e))) (ap is_calm e ∙ open-calm) (ap (bracket n) e ∙ one-more n) (and-none (get_or bs i 0 == 40) (get_or bs (i - 1) 0 == 108 || get_or bs (i - 1) 0 == 76) u)

pub close-run : (bs : List ℕ) (i n : ℕ) → get_or bs i 0 ≡ 41 → 0 < n → IsCalmRun bs i (i + 1) n (n - 1)
close-run bs i n e h =
    bracket-run bs i n (n - 1) (some-within bs i (omega (arith, e))) (ap is_calm e ∙ close-calm) (ap (bracket n) e ∙ one-less n h) (rw e refl)

-- a bracket more, and the flat characters behind it
pub run-more : (bs : List ℕ) (from i next n m : ℕ) → IsCalmRun bs from i 0 n → IsCalmRun bs i (i + 1) n m → next ≡ i + 1 + prefix_len is_flat (drop (i + 1) bs) → next ≤ length bs → IsCalmRun bs from next 0 m
run-more bs from i next n m x y e l =
    run-join bs from (i + 1) next 0 m m (run-join bs from i (i + 1) 0 n m x y) (flat-run bs (i + 1) next m (omega arith) l (run-class is_flat bs (i + 1) next e))

-- a part of a closed run, between flat characters
pub closed-part : (bs : List ℕ) (a b c d : ℕ) → a ≤ b → b ≤ c → c ≤ d → IsCalmRun bs a d 0 0 → Each is_flat (part bs a b) → Each is_flat (part bs c d) → IsClosed (part bs b c)
closed-part bs a b c d h k l x e f =
    let s = part-split bs a b d h (omega arith) in
    let t = part-split bs b c d k l in
    let front = behind 0 0 (part bs a b) (part bs b d) (flat-brackets 0 (part bs a b) e) in
    let all = ap (brackets 0) t ∙ before-flat 0 (part bs b c) (part bs c d) f in
    record {
      closed = sym all ∙ (sym front ∙ (ap (brackets 0) (sym s) ∙ x.count));
      no_url = no_url-part bs b c k (omega (arith, x.within)) (λ i j m. x.no_url i (omega arith) (omega arith));
    }
