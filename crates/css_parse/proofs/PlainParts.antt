-- The parts of a plain statement: each begins and ends at an ASCII character.
use Rattle.std.proofs.Common.{◌≡◌, ℕ, suc, ◌+◌, ◌-◌, ◌<◌, List, [], ◌∷◌, ◌++◌, length, drop, get_or, refl, ap, sym, ◌∙◌, inl, inr, add-zero, arith}
use Rattle.std.specs.Str.{IsCharBoundary}
use Rattle.std.proofs.lemmas.List.{drop-drop, drop_at, get_or-drop, length-drop}
use Rattle.css_text.specs.Shared.{IsPart}
use Rattle.css_text.specs.Characters.{is_space}
use Rattle.css_tree.specs.Classes.{Each}
use Rattle.css_parse.specs.declared.plain.PlainLeaf.{PlainLeaf}
use Rattle.css_parse.specs.declared.plain.PlainHead.{PlainHead}
use Rattle.css_parse.specs.Plain.{is_calm, IsEnding, IsPlainLeaf, IsPlainHead}
use Rattle.css_parse.specs.Standing.{IsSheet}
use Rattle.css_parse.proofs.PlainClean.{calm-low, space-low}

drop-more : (bs : List ℕ) (a b : ℕ) (xs ys : List ℕ) → drop a bs ≡ xs ++ ys → b ≡ a + length xs → drop b bs ≡ ys
drop-more bs a b xs ys e k = ap (λ n. drop n bs) k ∙ (sym (drop-drop (length xs) a bs) ∙ (ap (drop (length xs)) e ∙ drop_at xs ys (length xs) refl))

inside : (bs : List ℕ) (a c : ℕ) (xs : List ℕ) → drop a bs ≡ c ∷ xs → a < length bs
inside bs a c xs e = let n : length bs - a ≡ suc (length xs) = sym (length-drop a bs) ∙ ap length e in omega arith

-- before an ASCII character
ascii-boundary : (bs : List ℕ) (a c : ℕ) (xs : List ℕ) → drop a bs ≡ c ∷ xs → c < 128 → IsCharBoundary bs a
ascii-boundary bs a c xs e h =
    let n : a < length bs = inside bs a c xs e in
    let k : get_or bs a 0 ≡ c = ap (λ i. get_or bs i 0) (sym (add-zero a)) ∙ (sym (get_or-drop a bs 0 0) ∙ ap (λ z. get_or z 0 0) e) in
    (omega arith, λ l m. absurd (omega (arith, m, k, h)))

calm-boundary : (bs : List ℕ) (a : ℕ) (xs ys : List ℕ) → 0 < length xs → Each is_calm xs → drop a bs ≡ xs ++ ys → IsCharBoundary bs a
calm-boundary bs a [] ys l h e = absurd (omega arith)
calm-boundary bs a (x ∷ xs) ys l h e = ascii-boundary bs a x (xs ++ ys) e (calm-low x h.0)

space-boundary : (bs : List ℕ) (a c : ℕ) (xs ys : List ℕ) → c < 128 → Each is_space xs → drop a bs ≡ xs ++ c ∷ ys → IsCharBoundary bs a
space-boundary bs a c [] ys l h e = ascii-boundary bs a c ys e l
space-boundary bs a c (x ∷ xs) ys l h e = ascii-boundary bs a x (xs ++ c ∷ ys) e (space-low x h.0)

ending-boundary : (bs : List ℕ) (a : ℕ) (blanks mark rest : List ℕ) → IsEnding blanks mark → drop a bs ≡ blanks ++ (mark ++ 59 ∷ rest) → IsCharBoundary bs a
ending-boundary bs a blanks mark rest (inl h) e =
    ascii-boundary bs a 59 rest (e ∙ (ap (λ z. z ++ (mark ++ 59 ∷ rest)) h.0 ∙ ap (λ z. z ++ 59 ∷ rest) h.1)) (omega arith)
ending-boundary bs a blanks mark rest (inr h) e = space-boundary bs a 33 blanks _ (omega arith) h.1 (e ∙ ap (λ z. blanks ++ (z ++ 59 ∷ rest)) h.2)

pub record LeafParts (bs : List ℕ) (at : ℕ) (p : PlainLeaf) : Type 0 where
  pub prop : IsPart bs at p.colon
  pub between : IsPart bs p.colon p.value
  pub value : IsPart bs p.value p.end
  pub mark : IsPart bs p.end p.semicolon
  pub short : p.semicolon < 67108864

pub leaf-parts : (bs : List ℕ) (at : ℕ) (p : PlainLeaf) → IsSheet bs → IsCharBoundary bs at → IsPlainLeaf bs at p → LeafParts bs at p
leaf-parts bs at p s b h =
    let colon = drop-more bs at p.colon h.name _ h.all h.colon_at in
    let back = drop-more bs p.colon (p.colon + 1) (58 ∷ []) _ colon refl in
    let value = drop-more bs (p.colon + 1) p.value h.back _ back h.value_at in
    let end = drop-more bs p.value p.end h.value _ value h.end_at in
    let bang = drop-more bs p.end (p.end + length h.blanks) h.blanks _ end refl in
    let k : p.semicolon ≡ p.end + length h.blanks + length h.mark = omega (arith, h.semicolon_at) in
    let semicolon = drop-more bs (p.end + length h.blanks) p.semicolon h.mark _ bang k in
    let b1 = ascii-boundary bs p.colon 58 _ colon (omega arith) in
    let b2 = calm-boundary bs p.value h.value _ h.value_some h.value_class value in
    let b3 = ending-boundary bs p.end h.blanks h.mark h.rest h.ending end in
    let b4 = ascii-boundary bs p.semicolon 59 h.rest semicolon (omega arith) in
    let n : p.semicolon < length bs = inside bs p.semicolon 59 h.rest semicolon in
    record {
      prop = record { order = omega (arith, h.colon_at); begins = b; ends = b1 };
      between = record { order = omega (arith, h.value_at); begins = b1; ends = b2 };
      value = record { order = omega (arith, h.end_at); begins = b2; ends = b3 };
      mark = record { order = omega (arith, k); begins = b3; ends = b4 };
      short = omega (arith, s.short);
    }

pub record HeadParts (bs : List ℕ) (at : ℕ) (p : PlainHead) : Type 0 where
  pub selector : IsPart bs at p.end
  pub between : IsPart bs p.end p.brace
  pub short : p.brace < 67108864
  pub rest : List ℕ
  pub brace : drop p.brace bs ≡ 123 ∷ rest

pub head-parts : (bs : List ℕ) (at : ℕ) (p : PlainHead) → IsSheet bs → IsCharBoundary bs at → IsPlainHead bs at p → HeadParts bs at p
head-parts bs at p s b h =
    let end = drop-more bs at p.end h.selector _ h.all h.end_at in
    let brace = drop-more bs p.end p.brace h.between _ end h.brace_at in
    let b1 = space-boundary bs p.end 123 h.between h.rest (omega arith) h.between_class end in
    let b2 = ascii-boundary bs p.brace 123 h.rest brace (omega arith) in
    let n : p.brace < length bs = inside bs p.brace 123 h.rest brace in
    record {
      selector = record { order = omega (arith, h.end_at); begins = b; ends = b1 };
      between = record { order = omega (arith, h.brace_at); begins = b1; ends = b2 };
      short = omega (arith, s.short);
      rest = h.rest;
      brace = brace;
    }
