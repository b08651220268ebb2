-- The statements that a scan has found.
use Rattle.std.proofs.Common.{◌≡◌, ℕ, ◌+◌, ◌-◌, ◌<◌, ◌≤◌, Bool, true, false, List, [], ◌∷◌, ◌++◌, length, drop, get_or, refl, ap, sym, ◌∙◌, subst, inl, inr, arith}
use Rattle.std.specs.Prelude.{◌==◌, ◌||◌}
use Rattle.std.specs.List.{prefix_len}
use Rattle.std.proofs.lemmas.Bool.{cases_lt}
use Rattle.css_text.specs.Shared.{part}
use Rattle.css_text.specs.Characters.{is_space, is_quote, is_single, ends_word}
use Rattle.css_tree.specs.Classes.{Each}
use Rattle.css_parse.specs.declared.plain.PlainLeaf.{PlainLeaf}
use Rattle.css_parse.specs.declared.plain.PlainHead.{PlainHead}
use Rattle.css_parse.specs.Plain.{is_name, is_flat, is_calm, mark_text, BeginsNoHack, IsClosed, IsPlainLeaf, IsPlainHead}
use Rattle.css_parse.specs.PlainScan.{IsCalmRun, IsScanned, IsValueStart}
use Rattle.css_parse.proofs.PlainSlices.{part-all, part-length, part-begins, part-none, part-starts, part-ends, part-within, drop-at, run-class, run-stops}
use Rattle.css_parse.proofs.PlainBrackets.{each-by, each-at, flat-first, name-flat, space-flat, flat-run, run-join, closed-part}

order : (a b n : ℕ) → b ≡ a + n → a ≤ b
order a b n e = omega arith

-- A name, and the flat characters behind it.

name-first : (bs : List ℕ) (at colon : ℕ) → at < colon → colon ≤ length bs → colon ≡ at + prefix_len is_name (drop at bs) → (get_or bs at 0 == 40) ≡ false
name-first bs at colon h k e = flat-first (get_or bs at 0) (name-flat (get_or bs at 0) (each-at is_name bs at colon at (omega arith) h k (run-class is_name bs at colon e)))

pub scanned-flat : (bs : List ℕ) (at colon end : ℕ) → colon ≡ at + prefix_len is_name (drop at bs) → end ≡ colon + prefix_len is_flat (drop colon bs) → end ≤ length bs → (at ≡ colon → get_or bs at 0 ≡ 58) → IsScanned bs at colon end
scanned-flat bs at colon end e f l h =
    let a : at ≤ colon = order at colon _ e in
    let b : colon ≤ end = order colon end _ f in
    record {
      name_end = e;
      first = elim (cases_lt at colon) [
        | inl k ↦ name-first bs at colon k (omega arith) e
        | inr k ↦ let s : at ≡ colon = omega arith in ap (λ z. z == 40) (h s)
      ];
      run = flat-run bs colon end 0 b l (run-class is_flat bs colon end f);
    }

-- A declaration.

colon-is_flat : is_flat 58 ≡ true
unfolding is_flat is_name is_space ends_word is_quote is_single
colon-is_flat = refl

no-hack : (bs : List ℕ) (a b : ℕ) → a < b → b ≤ length bs → (get_or bs a 0 == 42 || get_or bs a 0 == 95) ≡ false → BeginsNoHack (part bs a b)
no-hack bs a b h k e = subst BeginsNoHack (sym (part-begins bs a b h k)) e

-- its bytes up to the value's end
declared : (bs : List ℕ) (at colon value end : ℕ) → at ≤ colon → colon < length bs → get_or bs colon 0 ≡ 58 → colon + 1 ≤ value → value ≤ end
    → drop at bs ≡ part bs at colon ++ 58 ∷ (part bs (colon + 1) value ++ (part bs value end ++ drop end bs))
declared bs at colon value end h l e k m =
    part-all bs at colon h ∙ ap (λ z. part bs at colon ++ z) (drop-at bs colon l ∙ (ap (λ z. z ∷ drop (colon + 1) bs) e
    ∙ ap (λ z. 58 ∷ z) (part-all bs (colon + 1) value k ∙ ap (λ z. part bs (colon + 1) value ++ z) (part-all bs value end m))))

spaces-flat : (bs : List ℕ) (a b : ℕ) → Each is_space (part bs a b) → Each is_flat (part bs a b)
spaces-flat bs a b h = each-by is_space is_flat space-flat (part bs a b) h

-- its colon and the blanks behind it
colon-flat : (bs : List ℕ) (colon value : ℕ) → colon < value → value ≤ length bs → get_or bs colon 0 ≡ 58 → Each is_space (part bs (colon + 1) value) → Each is_flat (part bs colon value)
colon-flat bs colon value h k e c =
    let all : part bs colon value ≡ 58 ∷ part bs (colon + 1) value = part-begins bs colon value h k ∙ ap (λ z. z ∷ part bs (colon + 1) value) e in
    subst (Each is_flat) (sym all) (colon-is_flat, spaces-flat bs (colon + 1) value c)

closed-value : (bs : List ℕ) (at colon stop value end : ℕ) → IsScanned bs at colon stop → IsValueStart bs at colon stop value → value ≤ end → end ≤ stop → Each is_space (part bs end stop) → IsClosed (part bs value end)
closed-value bs at colon stop value end s v h k c =
    let b : colon + 1 ≤ value = order (colon + 1) value _ v.value_is in
    closed-part bs colon value end stop (omega arith) h k s.run
    (colon-flat bs colon value (omega arith) (omega (arith, s.run.within)) v.colon_is (run-class is_space bs (colon + 1) value v.value_is)) (spaces-flat bs end stop c)

abbrev leaf : ℕ → ℕ → ℕ → ℕ → PlainLeaf
leaf colon value end semicolon = record { colon = colon; value = value; end = end; semicolon = semicolon }

pub leaf-unmarked : (bs : List ℕ) (at colon value end : ℕ) → end < length bs → IsScanned bs at colon end → get_or bs end 0 ≡ 59 → IsValueStart bs at colon end value → is_space (get_or bs (end - 1) 0) ≡ false
    → IsPlainLeaf bs at (leaf colon value end end)
leaf-unmarked bs at colon value end l s e v t =
    let a : at ≤ colon = order at colon _ s.name_end in
    let b : colon + 1 ≤ value = order (colon + 1) value _ v.value_is in
    let n : end < length bs = l in
    let m : value < end = v.before in
    let o : at < colon = v.some in
    record {
      name = part bs at colon;
      back = part bs (colon + 1) value;
      value = part bs value end;
      blanks = [];
      mark = [];
      rest = drop (end + 1) bs;
      all = declared bs at colon value end a (omega arith) v.colon_is b (omega arith)
          ∙ ap (λ z. part bs at colon ++ 58 ∷ (part bs (colon + 1) value ++ (part bs value end ++ z))) (drop-at bs end n ∙ ap (λ z. z ∷ drop (end + 1) bs) e);
      name_some = rw (part-length bs at colon a (omega arith)) (omega arith);
      name_class = run-class is_name bs at colon s.name_end;
      name_begins = no-hack bs at colon o (omega arith) v.no_hack;
      back_class = run-class is_space bs (colon + 1) value v.value_is;
      value_some = rw (part-length bs value end (omega arith) (omega arith)) (omega arith);
      value_class = part-within is_calm bs colon value end end (omega arith) (omega arith) (omega arith) s.run.class;
      value_brackets = closed-value bs at colon end value end s v (omega arith) (omega arith) (part-none is_space bs end);
      value_begins = part-starts is_space bs value end m (omega arith) (run-stops is_space bs (colon + 1) value v.value_is (omega arith));
      value_ends = part-ends is_space bs value end m (omega arith) t;
      ending = inl (refl, refl);
      colon_at = rw (part-length bs at colon a (omega arith)) (omega arith);
      value_at = rw (part-length bs (colon + 1) value b (omega arith)) (omega arith);
      end_at = rw (part-length bs value end (omega arith) (omega arith)) (omega arith);
      semicolon_at = omega arith;
    }

pub leaf-marked : (bs : List ℕ) (at colon value end bang : ℕ) → bang < length bs → IsScanned bs at colon bang → IsValueStart bs at colon bang value → value < end → end < bang → Each is_space (part bs end bang)
    → is_space (get_or bs (end - 1) 0) ≡ false → drop bang bs ≡ mark_text ++ 59 ∷ drop (bang + 11) bs → IsPlainLeaf bs at (leaf colon value end (bang + 10))
leaf-marked bs at colon value end bang l s v m k c t e =
    let a : at ≤ colon = order at colon _ s.name_end in
    let b : colon + 1 ≤ value = order (colon + 1) value _ v.value_is in
    let n : bang < length bs = l in
    let o : at < colon = v.some in
    record {
      name = part bs at colon;
      back = part bs (colon + 1) value;
      value = part bs value end;
      blanks = part bs end bang;
      mark = mark_text;
      rest = drop (bang + 11) bs;
      all = declared bs at colon value end a (omega arith) v.colon_is b (omega arith)
          ∙ ap (λ z. part bs at colon ++ 58 ∷ (part bs (colon + 1) value ++ (part bs value end ++ z))) (part-all bs end bang (omega arith) ∙ ap (λ z. part bs end bang ++ z) e);
      name_some = rw (part-length bs at colon a (omega arith)) (omega arith);
      name_class = run-class is_name bs at colon s.name_end;
      name_begins = no-hack bs at colon o (omega arith) v.no_hack;
      back_class = run-class is_space bs (colon + 1) value v.value_is;
      value_some = rw (part-length bs value end (omega arith) (omega arith)) (omega arith);
      value_class = part-within is_calm bs colon value end bang (omega arith) (omega arith) (omega arith) s.run.class;
      value_brackets = closed-value bs at colon bang value end s v (omega arith) (omega arith) c;
      value_begins = part-starts is_space bs value end m (omega arith) (run-stops is_space bs (colon + 1) value v.value_is (omega arith));
      value_ends = part-ends is_space bs value end m (omega arith) t;
      ending = inr (rw (part-length bs end bang (omega arith) (omega arith)) (omega arith), c, refl);
      colon_at = rw (part-length bs at colon a (omega arith)) (omega arith);
      value_at = rw (part-length bs (colon + 1) value b (omega arith)) (omega arith);
      end_at = rw (part-length bs value end (omega arith) (omega arith)) (omega arith);
      semicolon_at = rw (part-length bs end bang (omega arith) (omega arith)) (omega arith);
    }

-- The head of a rule.

neither : (a b c : Bool) → a ≡ false → b ≡ false → c ≡ false → ((a || b) || c) ≡ false
neither a b c e f g = rw (e, f, g) refl

-- the name and what follows it
whole-run : (bs : List ℕ) (at colon brace : ℕ) → IsScanned bs at colon brace → IsCalmRun bs at brace 0 0
whole-run bs at colon brace s =
    let a : at ≤ colon = order at colon _ s.name_end in
    run-join bs at colon brace 0 0 0
    (flat-run bs at colon 0 a (omega (arith, s.run.order, s.run.within)) (each-by is_name is_flat name-flat (part bs at colon) (run-class is_name bs at colon s.name_end))) s.run

abbrev head : ℕ → ℕ → PlainHead
head end brace = record { end = end; brace = brace }

pub head-found : (bs : List ℕ) (at colon end brace : ℕ) → brace < length bs → IsScanned bs at colon brace → get_or bs brace 0 ≡ 123 → is_space (get_or bs at 0) ≡ false → (get_or bs at 0 == 45) ≡ false → at < end → end ≤ brace
    → Each is_space (part bs end brace) → is_space (get_or bs (end - 1) 0) ≡ false → IsPlainHead bs at (head end brace)
head-found bs at colon end brace n s e f d m k c t =
    let r = whole-run bs at colon brace s in
    record {
      selector = part bs at end;
      between = part bs end brace;
      rest = drop (brace + 1) bs;
      all = part-all bs at end (omega arith) ∙ ap (λ z. part bs at end ++ z) (part-all bs end brace k ∙ ap (λ z. part bs end brace ++ z) (drop-at bs brace n ∙ ap (λ z. z ∷ drop (brace + 1) bs) e));
      selector_some = rw (part-length bs at end (omega arith) (omega arith)) (omega arith);
      selector_class = part-within is_calm bs at at end brace (omega arith) (omega arith) k r.class;
      selector_brackets = closed-part bs at at end brace (omega arith) (omega arith) k r (part-none is_flat bs at) (spaces-flat bs end brace c);
      selector_begins = part-starts (λ c. is_space c || c == 45 || c == 40) bs at end m (omega arith) (neither (is_space (get_or bs at 0)) (get_or bs at 0 == 45) (get_or bs at 0 == 40) f d s.first);
      selector_ends = part-ends is_space bs at end m (omega arith) t;
      between_class = c;
      end_at = rw (part-length bs at end (omega arith) (omega arith)) (omega arith);
      brace_at = rw (part-length bs end brace k (omega arith)) (omega arith);
    }
