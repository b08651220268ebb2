-- The place of a name by its bytes.
use Rattle.std.proofs.Common.{◌≡◌, ℕ, List, [], ◌∷◌, true, false, Some, None, if◌then◌else◌, length, refl, ap, sym, ◌∙◌, eqb, arith}
use Rattle.std.specs.Prelude.{nat_eq}
use Rattle.std.specs.List.{list_any}
use Rattle.std.specs.Str.{chars, IsUtf8}
use Rattle.std.proofs.lemmas.Str.{chars-nil, encodes-chars}
use lib.Utf8.{encodes}
use Rattle.command_words.specs.Words.{place_of_name}
use Rattle.command_words.specs.NamesLeft.{unless_picked, fresh_place}
use Rattle.command_words.proofs.SameWord.{same_from_eqb}

pub none_empty : (names : List (List ℕ)) (places bs : List ℕ) → eqb (length bs) 0 ≡ true → None ≡ fresh_place names places (chars bs)
none_empty names places [] h = rw chars-nil refl
none_empty names places (b ∷ bs) h = absurd (let e = same_from_eqb (length (b ∷ bs)) 0 h in omega arith)

by_chars : (names : List (List ℕ)) (places bs cs : List ℕ) → IsUtf8 bs → chars bs ≡ cs → eqb (length bs) 0 ≡ false → fresh_place names places cs ≡ unless_picked places (place_of_name names cs)
by_chars names places bs [] u e h = absurd (let z : bs ≡ [] = sym (encodes-chars bs u) ∙ ap encodes e in let q = ap (λ x. eqb (length x) 0) z in cc)
by_chars names places bs (c ∷ cs) u e h = refl

pub some_fresh : (names : List (List ℕ)) (places bs : List ℕ) (i : ℕ) → IsUtf8 bs → eqb (length bs) 0 ≡ false → Some i ≡ place_of_name names (chars bs) → list_any (λ j. nat_eq j i) places ≡ false → Some i ≡ fresh_place names places (chars bs)
some_fresh names places bs i u h e f =
    ap (λ b. if b then None else Some i) (sym f) ∙ ap (unless_picked places) e ∙ sym (by_chars names places bs (chars bs) u refl h)
