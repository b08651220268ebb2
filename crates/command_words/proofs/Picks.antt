-- Names are picked one after the other, each for a place that isn't picked yet.
use Rattle.std.proofs.Common.{◌≡◌, ℕ, suc, List, [], ◌∷◌, ◌++◌, Bool, true, false, ◌&&◌, ◌||◌, not, Option, Some, None, if◌then◌else◌, get_or, refl, ap, sym, subst, ◌∙◌, eq-eqb, nat_eq}
use Rattle.std.specs.Option.{option_map, option_and_then}
use Rattle.std.specs.List.{list_any}
use Rattle.css_tree.specs.Changes.{same_text}
use Rattle.command_words.specs.Words.{place_of_name, are_different, and_places, places_of, between_commas, picked_by}
use Rattle.command_words.specs.NamesLeft.{unless_picked, fresh_place}
use Rattle.command_words.proofs.Givens.{behind}
use Rattle.command_words.proofs.SameWord.{same_by, same_from_eqb, same_equal, equal_same}

-- the places that names pick behind those that are picked
abbrev pub picks : List (List ℕ) → List ℕ → List (List ℕ) → Option (List ℕ)
picks names places [] = Some []
picks names places (t ∷ ts) = option_and_then (λ i. option_map (λ js. i ∷ js) (picks names (places ++ i ∷ []) ts)) (fresh_place names places t)

abbrev holds_place : List ℕ → Option ℕ → Bool
holds_place places None = false
holds_place places (Some i) = list_any (λ j. nat_eq j i) places

abbrev is_picked : List (List ℕ) → List ℕ → List ℕ → Bool
is_picked names places t = holds_place places (place_of_name names t)

after : (n : List ℕ) (ns : List (List ℕ)) (t : List ℕ) (i : ℕ) (o : Option ℕ) → ((j : ℕ) → o ≡ Some j → t ≡ get_or ns j []) → option_map suc o ≡ Some i → t ≡ get_or (n ∷ ns) i []
after n ns t i None f k = absurd (cc)
after n ns t i (Some j) f k = let z : suc j ≡ i = cc in subst (λ m. t ≡ get_or (n ∷ ns) m []) z (f j refl)

-- the name at its place
at_place : (names : List (List ℕ)) (t : List ℕ) (i : ℕ) → place_of_name names t ≡ Some i → t ≡ get_or names i []
at_place [] t i h = absurd (cc)
at_place (n ∷ ns) t i h = elim (same_text n t) as (λ b. same_text n t ≡ b → (if b then Some 0 else option_map suc (place_of_name ns t)) ≡ Some i → t ≡ get_or (n ∷ ns) i []) [
  | true ↦ λ e k. let z : 0 ≡ i = cc in subst (λ m. t ≡ get_or (n ∷ ns) m []) z (sym (same_equal n t e))
  | false ↦ λ e k. after n ns t i (place_of_name ns t) (λ j. at_place ns t j) k
] refl h

one_place : (names : List (List ℕ)) (t u : List ℕ) (i j : ℕ) → place_of_name names t ≡ Some i → place_of_name names u ≡ Some j → nat_eq i j ≡ same_text t u
one_place names t u i j h k = same_by _ _
    (λ e. let z = same_from_eqb i j e in equal_same t u (at_place names t i h ∙ ap (λ m. get_or names m []) z ∙ sym (at_place names u j k)))
    (λ e. let z = same_equal t u e in eq-eqb i j (let q = ap (place_of_name names) z in cc))

no_place : (names : List (List ℕ)) (t u : List ℕ) (i : ℕ) → place_of_name names t ≡ Some i → place_of_name names u ≡ None → false ≡ same_text t u
no_place names t u i h k = same_by _ _ (λ e. absurd (cc)) (λ e. let z = same_equal t u e in absurd (let q = ap (place_of_name names) z in cc))

any_more : (places : List ℕ) (i j : ℕ) → list_any (λ p. nat_eq p j) (places ++ i ∷ []) ≡ (list_any (λ p. nat_eq p j) places || nat_eq i j)
any_more [] i j = elim (nat_eq i j) as (λ b. (b || false) ≡ b) [ true ↦ refl | false ↦ refl ]
any_more (p ∷ ps) i j = elim (nat_eq p j) as (λ b. (b || list_any (λ p. nat_eq p j) (ps ++ i ∷ [])) ≡ ((b || list_any (λ p. nat_eq p j) ps) || nat_eq i j)) [
  | true ↦ refl
  | false ↦ any_more ps i j
]

picked_more : (names : List (List ℕ)) (places : List ℕ) (t u : List ℕ) (i : ℕ) → place_of_name names t ≡ Some i → is_picked names (places ++ i ∷ []) u ≡ (is_picked names places u || same_text t u)
picked_more names places t u i h = by (place_of_name names u) refl
  where
    by : (o : Option ℕ) → place_of_name names u ≡ o → holds_place (places ++ i ∷ []) o ≡ (holds_place places o || same_text t u)
    by None k = no_place names t u i h k
    by (Some j) k = any_more places i j ∙ ap (λ b. list_any (λ p. nat_eq p j) places || b) (one_place names t u i j h k)

or_swap : (a b c d : Bool) → ((a || b) || (c || d)) ≡ ((a || c) || (b || d))
or_swap true b c d = refl
or_swap false true true d = refl
or_swap false true false d = refl
or_swap false false c d = refl

any_picked_more : (names : List (List ℕ)) (places : List ℕ) (t : List ℕ) (i : ℕ) → place_of_name names t ≡ Some i → (ts : List (List ℕ)) → list_any (is_picked names (places ++ i ∷ [])) ts ≡ (list_any (is_picked names places) ts || list_any (same_text t) ts)
any_picked_more names places t i h [] = refl
any_picked_more names places t i h (u ∷ us) =
    ap (λ b. b || list_any (is_picked names (places ++ i ∷ [])) us) (picked_more names places t u i h)
    ∙ ap (λ b. (is_picked names places u || same_text t u) || b) (any_picked_more names places t i h us)
    ∙ or_swap (is_picked names places u) (same_text t u) (list_any (is_picked names places) us) (list_any (same_text t) us)

both_none : (b : Bool) (n : Option (List ℕ)) → n ≡ (if b then n else n)
both_none true n = refl
both_none false n = refl

pulled : (i : ℕ) (a b d : Bool) (o : Option (List ℕ)) → option_map (λ js. i ∷ js) (if not (a || b) && d then o else None) ≡ (if not a && (not b && d) then option_map (λ js. i ∷ js) o else None)
pulled i true b d o = refl
pulled i false true d o = refl
pulled i false false true o = refl
pulled i false false false o = refl

-- what is picked, where no name is picked already and all are different
abbrev whole : List (List ℕ) → List ℕ → List (List ℕ) → Option (List ℕ)
whole names places ts = if not (list_any (is_picked names places) ts) && are_different ts then places_of names ts else None

held : (names : List (List ℕ)) (places : List ℕ) (c : ℕ) (cs : List ℕ) (ts : List (List ℕ)) (i : ℕ) (b : Bool) → place_of_name names (c ∷ cs) ≡ Some i →
    picks names (places ++ i ∷ []) ts ≡ whole names (places ++ i ∷ []) ts →
    option_and_then (λ k. option_map (λ js. k ∷ js) (picks names (places ++ k ∷ []) ts)) (if b then None else Some i)
    ≡ (if not (b || list_any (is_picked names places) ts) && are_different ((c ∷ cs) ∷ ts) then and_places (Some i) (places_of names ts) else None)
held names places c cs ts i true h e = refl
held names places c cs ts i false h e =
    ap (option_map (λ js. i ∷ js)) (e ∙ ap (λ b. if not b && are_different ts then places_of names ts else None) (any_picked_more names places (c ∷ cs) i h ts))
    ∙ pulled i (list_any (is_picked names places) ts) (list_any (same_text (c ∷ cs)) ts) (are_different ts) (places_of names ts)

first_picked : (names : List (List ℕ)) (places : List ℕ) (c : ℕ) (cs : List ℕ) (ts : List (List ℕ)) (o : Option ℕ) → place_of_name names (c ∷ cs) ≡ o →
    ((i : ℕ) → picks names (places ++ i ∷ []) ts ≡ whole names (places ++ i ∷ []) ts) →
    option_and_then (λ k. option_map (λ js. k ∷ js) (picks names (places ++ k ∷ []) ts)) (unless_picked places o)
    ≡ (if not (holds_place places o || list_any (is_picked names places) ts) && are_different ((c ∷ cs) ∷ ts) then and_places o (places_of names ts) else None)
first_picked names places c cs ts None h f = both_none _ None
first_picked names places c cs ts (Some i) h f = held names places c cs ts i (list_any (λ j. nat_eq j i) places) h (f i)

picks_is : (names : List (List ℕ)) (places : List ℕ) (ts : List (List ℕ)) → picks names places ts ≡ whole names places ts
picks_is names places [] = refl
picks_is names places ([] ∷ ts) = both_none _ None
picks_is names places ((c ∷ cs) ∷ ts) = first_picked names places c cs ts (place_of_name names (c ∷ cs)) refl (λ i. picks_is names (places ++ i ∷ []) ts)

none_held : (o : Option ℕ) (b : Bool) → b ≡ false → (holds_place [] o || b) ≡ false
none_held None b h = h
none_held (Some i) b h = h

nothing_picked : (names ts : List (List ℕ)) → list_any (is_picked names []) ts ≡ false
nothing_picked names [] = refl
nothing_picked names (t ∷ ts) = none_held (place_of_name names t) (list_any (is_picked names []) ts) (nothing_picked names ts)

-- names are picked as the definition says
picks_all : (names ts : List (List ℕ)) → (if are_different ts then places_of names ts else None) ≡ picks names [] ts
picks_all names ts = sym (picks_is names [] ts ∙ ap (λ b. if not b && are_different ts then places_of names ts else None) (nothing_picked names ts))

behind_none : (o : Option (List ℕ)) → o ≡ behind [] o
behind_none None = refl
behind_none (Some is) = refl

-- before the first name
pub picks_begin : (names : List (List ℕ)) (t : List ℕ) (places : List ℕ) → places ≡ [] → picked_by names t ≡ behind places (picks names places (between_commas t))
picks_begin names t places e = subst (λ ps. picked_by names t ≡ behind ps (picks names ps (between_commas t))) (sym e) (picks_all names (between_commas t) ∙ behind_none (picks names [] (between_commas t)))
