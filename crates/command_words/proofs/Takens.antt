-- What words give behind others, item by item.
use Rattle.std.proofs.Common.{◌≡◌, ℕ, List, [], ◌∷◌, ◌++◌, Option, Some, None, refl, ap, sym, ◌∙◌, append_assoc, map}
use Rattle.std.specs.Option.{option_map}
use Rattle.command_words.specs.GivenSeen.{given_seen, all_seen}
use Rattle.command_words.specs.declared.options.Given as G
use Rattle.command_words.specs.Words.{Given, Taken, Item, Optional, Plain, and_then, behind, and_item}

-- one item more at the end
abbrev pub with_last : Taken → Item → Taken
with_last s (Optional g) = record { options = s.options ++ g ∷ []; plain = s.plain }
with_last s (Plain w) = record { options = s.options; plain = s.plain ++ w ∷ [] }

abbrev joined : Taken → Taken → Taken
joined s t = record { options = s.options ++ t.options; plain = s.plain ++ t.plain }

joined_more : (s : Taken) (i : Item) (t : Taken) → joined s (and_then i t) ≡ joined (with_last s i) t
joined_more s (Optional g) t = ap (λ z. record { options = z; plain = s.plain ++ t.plain }) (sym (append_assoc s.options (g ∷ []) t.options))
joined_more s (Plain w) t = ap (λ z. record { options = s.options ++ t.options; plain = z }) (sym (append_assoc s.plain (w ∷ []) t.plain))

pub behind_more : (s : Taken) (i : Item) (o : Option Taken) → behind s (option_map (and_then i) o) ≡ behind (with_last s i) o
behind_more s i None = refl
behind_more s i (Some t) = ap (λ z. Some z) (joined_more s i t)

map_last : {A B : Type 0} (f : A → B) (xs : List A) (x : A) → map f (xs ++ x ∷ []) ≡ map f xs ++ f x ∷ []
map_last f [] x = refl
map_last f (y ∷ ys) x = ap (λ z. f y ∷ z) (map_last f ys x)

-- an option more, and a plain word more, as the definitions see them
pub option_more : (xs ys : List G.Given) (x : G.Given) (plain : List (List ℕ)) (i : Item) (t u v : Option Taken)
    → ys ≡ xs ++ x ∷ [] → i ≡ Optional (given_seen x) → t ≡ behind (record { options = all_seen xs; plain = plain }) u → u ≡ and_item (Some i) v
    → t ≡ behind (record { options = all_seen ys; plain = plain }) v
option_more xs ys x plain i t u v more is before now =
    let s : Taken = record { options = all_seen xs; plain = plain } in
    before ∙ (ap (behind s) (now ∙ ap (λ z. and_item (Some z) v) is) ∙ (behind_more s (Optional (given_seen x)) v
    ∙ ap (λ z. behind (record { options = z; plain = plain }) v) (sym (ap all_seen more ∙ map_last given_seen xs x))))

pub word_more : {A : Type 0} (f : A → List ℕ) (xs ys : List A) (x : A) (options : List Given) (i : Item) (t u v : Option Taken)
    → ys ≡ xs ++ x ∷ [] → i ≡ Plain (f x) → t ≡ behind (record { options = options; plain = map f xs }) u → u ≡ and_item (Some i) v
    → t ≡ behind (record { options = options; plain = map f ys }) v
word_more f xs ys x options i t u v more is before now =
    let s : Taken = record { options = options; plain = map f xs } in
    before ∙ (ap (behind s) (now ∙ ap (λ z. and_item (Some z) v) is) ∙ (behind_more s (Plain (f x)) v
    ∙ ap (λ z. behind (record { options = options; plain = z }) v) (sym (ap (map f) more ∙ map_last f xs x))))
