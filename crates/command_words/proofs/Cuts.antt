-- A text that is cut at an ASCII character: at its first `=`, and at commas.
use Rattle.std.proofs.Common.{◌≡◌, ℕ, ◌+◌, List, [], ◌∷◌, ◌++◌, Bool, Option, Some, None, Bor, refl, ap, sym, ◌∙◌, take, drop, length, ◌<◌, ◌≤◌, subst, arith}
use Rattle.std.proofs.Math.ListN.{take-append-drop}
use Rattle.std.specs.Option.{option_map}
use Rattle.std.specs.Str.{chars, IsUtf8, IsCharBoundary, NonePass, NoCharPasses}
use Rattle.std.specs.Str.Pattern.{FindsChar, HasCharAt}
use Rattle.std.specs.Char.{len_utf8}
use Rattle.std.specs.Prelude.{◌==◌}
use Rattle.std.proofs.lemmas.Str.{chars-append, chars_past_char, chars_from_encodes, IsUtf8-take, IsUtf8-drop, IsCharBoundary-before_ascii}
use Rattle.std.proofs.lemmas.Str.Pattern.{drop_at_char, IsSplitOnceResult}
use Rattle.std.proofs.lemmas.List.{length-drop}
use Rattle.command_words.specs.Words.{cut, between_commas}

abbrev is_at : ℕ → ℕ → Bool
is_at k d = d == k

-- the characters of a text without that character
none_of : (k : ℕ) (bs : List ℕ) → IsUtf8 bs → NoCharPasses (is_at k) bs → NonePass (is_at k) (chars bs)
none_of k bs u (cs, e, n) = subst (NonePass (is_at k)) (chars_from_encodes cs bs u e) n

starts_below : (k : ℕ) (bs : List ℕ) (i j : ℕ) → k < 128 → HasCharAt k bs i j → i < length bs
starts_below k bs i j small h =
    let e = ap length (drop_at_char k bs i j h small) in
    omega (arith, e, length-drop i bs)

bound : (k : ℕ) (bs : List ℕ) (i j : ℕ) → k < 128 → HasCharAt k bs i j → IsCharBoundary bs i
bound k bs i j small h = IsCharBoundary-before_ascii bs i (starts_below k bs i j small h) (omega (arith, h.byte small))

chars_at : (k : ℕ) (bs : List ℕ) (i j : ℕ) → k < 128 → IsUtf8 bs → HasCharAt k bs i j → chars bs ≡ chars (take i bs) ++ k ∷ chars (drop j bs)
chars_at k bs i j small u h =
    ap chars (sym (take-append-drop i bs)) ∙ chars-append (take i bs) (drop i bs) (IsUtf8-take bs i u (bound k bs i j small h))
    ∙ ap (λ x. chars (take i bs) ++ x) (chars_past_char (drop i bs) (drop j bs) k (IsUtf8-drop bs i u (bound k bs i j small h)) h.split)

-- a text in two around its first character of that kind
record IsCut (k : ℕ) (bs front back : List ℕ) : Type 0 where
  none : NonePass (is_at k) (chars front)
  whole : chars bs ≡ chars front ++ k ∷ chars back
  utf8 : IsUtf8 back

cut_found : (k : ℕ) (bs front back : List ℕ) (i j : ℕ) → k < 128 → IsUtf8 bs → FindsChar k bs (Some (i, j)) → front ≡ take i bs → back ≡ drop j bs → IsCut k bs front back
cut_found k bs front back i j small u (n, h) e d = record {
  none = subst (λ x. NonePass (is_at k) (chars x)) (sym e) (none_of k (take i bs) (IsUtf8-take bs i u (bound k bs i j small h)) n);
  whole = chars_at k bs i j small u h ∙ ap (λ x. chars x ++ k ∷ chars (drop j bs)) (sym e) ∙ ap (λ x. chars front ++ k ∷ chars x) (sym d);
  utf8 = subst IsUtf8 (sym d) (subst (λ m. IsUtf8 (drop m bs)) (sym h.ends) (IsUtf8-drop bs (i + len_utf8 k) u h.after));
}

cut_at : (cs ds : List ℕ) → NonePass (is_at 61) cs → cut (cs ++ 61 ∷ ds) ≡ Some (cs, ds)
cut_at [] ds h = refl
cut_at (c ∷ cs) ds h = rw (h.0, cut_at cs ds h.1) refl

cut_none : (cs : List ℕ) → NonePass (is_at 61) cs → cut cs ≡ None
cut_none [] h = refl
cut_none (c ∷ cs) h = rw (h.0, cut_none cs h.1) refl

-- what `split_once` gives at `=`
pub cut_gives : (bs : List ℕ) (r : Option (Bor (List ℕ) × Bor (List ℕ))) → IsUtf8 bs → IsSplitOnceResult 61 bs r → option_map (λ x. (chars x.0.now, chars x.1.now)) r ≡ cut (chars bs)
cut_gives bs None u h = sym (cut_none (chars bs) (none_of 61 bs u h))
cut_gives bs (Some x) u (i, j, f, e, d, _, _, _) =
    let c = cut_found 61 bs x.0.now x.1.now i j (omega arith) u f e d in
    sym (ap cut c.whole ∙ cut_at (chars x.0.now) (chars x.1.now) c.none)

names_at : (cs ds : List ℕ) → NonePass (is_at 44) cs → between_commas (cs ++ 44 ∷ ds) ≡ cs ∷ between_commas ds
names_at [] ds h = refl
names_at (c ∷ cs) ds h = rw (h.0, names_at cs ds h.1) refl

one_name : (cs : List ℕ) → NonePass (is_at 44) cs → between_commas cs ≡ cs ∷ []
one_name [] h = refl
one_name (c ∷ cs) h = rw (h.0, one_name cs h.1) refl

pub names_whole : (bs : List ℕ) → IsUtf8 bs → FindsChar 44 bs None → between_commas (chars bs) ≡ chars bs ∷ []
names_whole bs u n = one_name (chars bs) (none_of 44 bs u n)

names_cut : (bs front back : List ℕ) → IsCut 44 bs front back → between_commas (chars bs) ≡ chars front ∷ between_commas (chars back)
names_cut bs front back c = ap between_commas c.whole ∙ names_at (chars front) (chars back) c.none

-- what `split_once` gives at a comma
pub names_split : (bs front back : List ℕ) → IsUtf8 bs → ((i : ℕ) × (j : ℕ) × FindsChar 44 bs (Some (i, j)) × (front ≡ take i bs) × (back ≡ drop j bs) × (i ≤ j) × (length front ≡ i) × (length back + j ≡ length bs))
    → between_commas (chars bs) ≡ chars front ∷ between_commas (chars back)
names_split bs front back u (i, j, f, e, d, _, _, _) = names_cut bs front back (cut_found 44 bs front back i j (omega arith) u f e d)
