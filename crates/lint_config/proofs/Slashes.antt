-- The parts between slashes, where a text is cut at its first slash.
use Rattle.std.proofs.Common.{◌≡◌, ℕ, ◌+◌, List, [], ◌∷◌, ◌++◌, Bool, true, false, ◌||◌, if◌then◌else◌, Some, None, refl, ap, sym, ◌∙◌, take, drop, length, ◌<◌, ◌≤◌, subst, arith}
use Rattle.std.proofs.Math.ListN.{take-append-drop}
use Rattle.std.specs.Str.{chars, IsUtf8, IsCharBoundary, NonePass, NoCharPasses}
use Rattle.std.specs.Str.Pattern.{FindsChar, HasCharAt}
use Rattle.std.specs.List.{list_any}
use Rattle.std.proofs.lemmas.Str.{chars-append, chars_past_char, chars_from_encodes, IsUtf8-take, IsUtf8-drop, IsCharBoundary-before_ascii}
use Rattle.std.proofs.lemmas.Str.Pattern.{drop_at_char}
use Rattle.std.proofs.lemmas.List.{length-drop}
use Rattle.std.specs.Bool.{MatchBool}
use Rattle.std.specs.Char.{len_utf8}
use Rattle.lint_config.specs.Glob.{is_slash, onto_first, parts, last_of}

pub parts_whole : (cs : List ℕ) → NonePass is_slash cs → parts cs ≡ cs ∷ []
parts_whole [] h = refl
parts_whole (c ∷ cs) h = ap (λ b. if b then [] ∷ parts cs else onto_first c (parts cs)) h.0 ∙ ap (onto_first c) (parts_whole cs h.1)

pub parts_cut : (cs ds : List ℕ) → NonePass is_slash cs → parts (cs ++ 47 ∷ ds) ≡ cs ∷ parts ds
parts_cut [] ds h = refl
parts_cut (c ∷ cs) ds h = ap (λ b. if b then [] ∷ parts (cs ++ 47 ∷ ds) else onto_first c (parts (cs ++ 47 ∷ ds))) h.0 ∙ ap (onto_first c) (parts_cut cs ds h.1)

pub no_slash : (cs : List ℕ) → NonePass is_slash cs → list_any is_slash cs ≡ false
no_slash [] h = refl
no_slash (c ∷ cs) h = ap (λ b. b || list_any is_slash cs) h.0 ∙ no_slash cs h.1

pub some_slash : (cs ds : List ℕ) → list_any is_slash (cs ++ 47 ∷ ds) ≡ true
some_slash [] ds = refl
some_slash (c ∷ cs) ds = elim (is_slash c) as (λ b. b || list_any is_slash (cs ++ 47 ∷ ds) ≡ true) [ true ↦ refl | false ↦ some_slash cs ds ]

-- the characters of a text without a slash
pub none_of : (bs : List ℕ) → IsUtf8 bs → NoCharPasses is_slash bs → NonePass is_slash (chars bs)
none_of bs u (cs, e, n) = subst (NonePass is_slash) (chars_from_encodes cs bs u e) n

starts_below : (bs : List ℕ) (i j : ℕ) → HasCharAt 47 bs i j → i < length bs
starts_below bs i j h =
    let e = ap length (drop_at_char 47 bs i j h (omega arith)) in
    omega (arith, e, length-drop i bs)

bound : (bs : List ℕ) (i j : ℕ) → HasCharAt 47 bs i j → IsCharBoundary bs i
bound bs i j h = IsCharBoundary-before_ascii bs i (starts_below bs i j h) (omega (arith, h.byte (omega arith)))

-- the characters of a text at a slash
pub chars_at_slash : (bs : List ℕ) (i j : ℕ) → IsUtf8 bs → HasCharAt 47 bs i j → chars bs ≡ chars (take i bs) ++ 47 ∷ chars (drop j bs)
chars_at_slash bs i j u h =
    ap chars (sym (take-append-drop i bs)) ∙ chars-append (take i bs) (drop i bs) (IsUtf8-take bs i u (bound bs i j h))
    ∙ ap (λ x. chars (take i bs) ++ x) (chars_past_char (drop i bs) (drop j bs) 47 (IsUtf8-drop bs i u (bound bs i j h)) h.split)

pub parts_at_slash : (bs : List ℕ) (i j : ℕ) → IsUtf8 bs → FindsChar 47 bs (Some (i, j)) → parts (chars bs) ≡ chars (take i bs) ∷ parts (chars (drop j bs))
parts_at_slash bs i j u (n, h) = ap parts (chars_at_slash bs i j u h)
    ∙ parts_cut (chars (take i bs)) (chars (drop j bs)) (none_of (take i bs) (IsUtf8-take bs i u (bound bs i j h)) n)

-- what `contains` answers
pub contains_slash : (bs : List ℕ) (r : Bool) → IsUtf8 bs → MatchBool r ((i : ℕ) × (j : ℕ) × FindsChar 47 bs (Some (i, j)) × (i ≤ j) × (j ≤ length bs)) (FindsChar 47 bs None) → r ≡ list_any is_slash (chars bs)
contains_slash bs true u (i, j, (n, h), l, k) = sym (ap (list_any is_slash) (chars_at_slash bs i j u h) ∙ some_slash (chars (take i bs)) (chars (drop j bs)))
contains_slash bs false u h = sym (no_slash (chars bs) (none_of bs u h))

-- a text without a slash is one part
none_from : (cs : List ℕ) → list_any is_slash cs ≡ false → NonePass is_slash cs
none_from [] h = tt
none_from (c ∷ cs) h = elim (is_slash c) as (λ b. b || list_any is_slash cs ≡ false → (b ≡ false) × NonePass is_slash cs) [
  | true ↦ λ e. absurd (cc)
  | false ↦ λ e. (refl, none_from cs e)
] h

pub one_part : (cs : List ℕ) → list_any is_slash cs ≡ false → parts cs ≡ cs ∷ []
one_part cs h = parts_whole cs (none_from cs h)

utf8_after : (bs : List ℕ) (i j : ℕ) → IsUtf8 bs → HasCharAt 47 bs i j → IsUtf8 (drop j bs)
utf8_after bs i j u h = subst (λ k. IsUtf8 (drop k bs)) (sym h.ends) (IsUtf8-drop bs (i + len_utf8 47) u h.after)

-- what `split_once` gives
pub split_some : (bs front back : List ℕ) → IsUtf8 bs → ((i : ℕ) × (j : ℕ) × FindsChar 47 bs (Some (i, j)) × (front ≡ take i bs) × (back ≡ drop j bs) × (i ≤ j) × (length front ≡ i) × (length back + j ≡ length bs))
    → (parts (chars bs) ≡ chars front ∷ parts (chars back)) × IsUtf8 back
split_some bs front back u (i, j, f, e, d, _, _, _) = (
  parts_at_slash bs i j u f ∙ ap (λ x. chars x ∷ parts (chars (drop j bs))) (sym e) ∙ ap (λ x. chars front ∷ parts (chars x)) (sym d),
  subst IsUtf8 (sym d) (utf8_after bs i j u f.1),
)

pub split_none : (bs : List ℕ) → IsUtf8 bs → FindsChar 47 bs None → parts (chars bs) ≡ chars bs ∷ []
split_none bs u n = parts_whole (chars bs) (none_of bs u n)

last_onto : (p : List ℕ) (c : ℕ) (qs : List (List ℕ)) → last_of (p ∷ onto_first c qs) ≡ last_of (onto_first c qs)
last_onto p c [] = refl
last_onto p c (q ∷ qs) = refl

-- a part before others is not the last
pub last_after : (p cs : List ℕ) → last_of (p ∷ parts cs) ≡ last_of (parts cs)
last_after p [] = refl
last_after p (c ∷ cs) = elim (is_slash c) as (λ b. last_of (p ∷ (if b then [] ∷ parts cs else onto_first c (parts cs))) ≡ last_of (if b then [] ∷ parts cs else onto_first c (parts cs))) [
  | true ↦ refl
  | false ↦ last_onto p c (parts cs)
]
