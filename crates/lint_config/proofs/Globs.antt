-- A pattern with a slash, and one without.
use Rattle.std.proofs.Common.{◌≡◌, ℕ, List, [], ◌∷◌, Bool, true, false, ◌||◌, ◌&&◌, if◌then◌else◌, refl, ap, sym, ◌∙◌}
use Rattle.std.specs.Prelude.{bytes_eq}
use Rattle.std.specs.Bool.{Decides, one_answer}
use Rattle.std.specs.List.{list_any}
use Rattle.std.specs.Str.{chars, IsUtf8}
use lib.Utf8.{encode, encodes}
use Rattle.std.proofs.lemmas.Slice.Eq.{bytes_eq-Decides}
use Rattle.std.proofs.lemmas.Str.{encodes-chars}
use Rattle.lint_config.specs.Glob.{some_suffix, first_and_rest, is_nil, part_matches, is_any_parts, parts_match, is_slash, parts, last_of, without_here, glob_of}
use Rattle.lint_config.proofs.Slashes.{one_part}

chars_stars : chars (42 ∷ 42 ∷ []) ≡ 42 ∷ 42 ∷ []
unfolding chars
chars_stars = refl

encodes_stars : encodes (42 ∷ 42 ∷ []) ≡ 42 ∷ 42 ∷ []
unfolding encode
encodes_stars = refl

-- a text is `**` where its characters are
pub double_star : (bs : List ℕ) → IsUtf8 bs → bytes_eq bs (42 ∷ 42 ∷ []) ≡ is_any_parts (chars bs)
double_star bs u =
    let d = bytes_eq-Decides (chars bs) (42 ∷ 42 ∷ []) in
    one_answer {P = bs ≡ 42 ∷ 42 ∷ []} (bytes_eq bs (42 ∷ 42 ∷ [])) (bytes_eq (chars bs) (42 ∷ 42 ∷ [])) (bytes_eq-Decides bs (42 ∷ 42 ∷ []))
    (λ t. sym (encodes-chars bs u) ∙ ap encodes (d.0 t) ∙ encodes_stars, λ e. d.1 (ap chars e ∙ chars_stars))

-- two stars match each part
any_suffix : (s : List ℕ) → some_suffix is_nil s ≡ true
any_suffix [] = refl
any_suffix (c ∷ cs) = any_suffix cs

pub any_part : (s : List ℕ) → part_matches (42 ∷ 42 ∷ []) s ≡ true
any_part [] = refl
any_part (c ∷ cs) = ap (λ b. b || some_suffix (some_suffix is_nil) cs) (any_suffix cs)

and_true : (a : Bool) → a && true ≡ a
and_true true = refl
and_true false = refl

choose : (p s : List ℕ) (b : Bool) → Decides b (p ≡ 42 ∷ 42 ∷ []) → part_matches p s ≡ (if b then some_suffix is_nil else first_and_rest (part_matches p) is_nil) (s ∷ [])
choose p s true d = ap (λ q. part_matches q s) (d.0 refl) ∙ any_part s
choose p s false d = sym (and_true (part_matches p s))

-- a pattern of one part, and one part of a path
pub single : (p s : List ℕ) → part_matches p s ≡ parts_match (p ∷ []) (s ∷ [])
single p s = choose p s (is_any_parts p) (bytes_eq-Decides p (42 ∷ 42 ∷ []))

pub with_slash : (p t u : List ℕ) → list_any is_slash p ≡ true → u ≡ without_here t → parts_match (parts p) (parts u) ≡ glob_of p t
unfolding glob_of
with_slash p t u e d = ap (λ x. parts_match (parts p) (parts x)) d
    ∙ ap (λ b. parts_match (parts p) (if b then parts (without_here t) else last_of (parts (without_here t)) ∷ [])) (sym e)

pub without_slash : (p t u l : List ℕ) → list_any is_slash p ≡ false → u ≡ without_here t → l ≡ last_of (parts u) → part_matches p l ≡ glob_of p t
unfolding glob_of
without_slash p t u l e d f = single p l ∙ ap (λ x. parts_match (p ∷ []) (x ∷ [])) (f ∙ ap (λ x. last_of (parts x)) d)
    ∙ ap (λ q. parts_match q (last_of (parts (without_here t)) ∷ [])) (sym (one_part p e))
    ∙ ap (λ b. parts_match (parts p) (if b then parts (without_here t) else last_of (parts (without_here t)) ∷ [])) (sym e)
