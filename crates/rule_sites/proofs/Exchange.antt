-- Sites node by node are the sites rule by rule in another order.
use Rattle.std.proofs.Common.{◌≡◌, List, [], ◌∷◌, ◌++◌, refl, sym, subst, append_assoc}
use Rattle.std.specs.Prelude.{ℕ}
use Rattle.std.specs.List.{flat_map}
use Rattle.std.specs.List.Sorted.{IsPermutation}
use Rattle.std.proofs.lemmas.List.Sorted.{IsPermutation-refl, IsPermutation-trans, IsPermutation-append_left, IsPermutation-append_right, IsPermutation-append_comm}
use Rattle.lint_config.specs.declared.setting.Setting.{Setting}
use Rattle.rule_sites.specs.Finding.{Finds, sites_at, all_sites}

-- the two in the middle change places
swapped : {C : Type 0} (a b c d : List C) → IsPermutation ((a ++ b) ++ (c ++ d)) ((a ++ c) ++ (b ++ d))
swapped a b c d =
    let inner : IsPermutation ((b ++ c) ++ d) ((c ++ b) ++ d) = IsPermutation-append_left d (b ++ c) (c ++ b) (IsPermutation-append_comm b c) in
    let p : IsPermutation (a ++ ((b ++ c) ++ d)) (a ++ ((c ++ b) ++ d)) = IsPermutation-append_right a ((b ++ c) ++ d) ((c ++ b) ++ d) inner in
    let left : a ++ ((b ++ c) ++ d) ≡ (a ++ b) ++ (c ++ d) = simp append_assoc in
    let right : a ++ ((c ++ b) ++ d) ≡ (a ++ c) ++ (b ++ d) = simp append_assoc in
    subst (λ z. IsPermutation z ((a ++ c) ++ (b ++ d))) left (subst (λ z. IsPermutation (a ++ ((b ++ c) ++ d)) z) right p)

none_each : {A C : Type 0} (xs : List A) → flat_map {X = A} {A = C} (λ x. []) xs ≡ []
none_each [] = refl
none_each (x ∷ xs) = none_each xs

-- for each x what f gives, and then what g gives
both_each : {A C : Type 0} (f g : A → List C) (xs : List A) → IsPermutation (flat_map (λ x. f x ++ g x) xs) (flat_map f xs ++ flat_map g xs)
both_each f g [] = IsPermutation-refl []
both_each f g (x ∷ xs) =
    IsPermutation-trans _ _ _
    (IsPermutation-append_right (f x ++ g x) (flat_map (λ y. f y ++ g y) xs) (flat_map f xs ++ flat_map g xs) (both_each f g xs))
    (swapped (f x) (g x) (flat_map f xs) (flat_map g xs))

pub exchanged : {A B C : Type 0} (f : B → A → List C) (bs : List B) (xs : List A) → IsPermutation (flat_map (λ x. flat_map (λ b. f b x) bs) xs) (flat_map (λ b. flat_map (f b) xs) bs)
exchanged f [] xs = subst (λ z. IsPermutation z []) (sym (none_each xs)) (IsPermutation-refl [])
exchanged f (b ∷ bs) xs =
    IsPermutation-trans _ _ _
    (both_each (f b) (λ x. flat_map (λ c. f c x) bs) xs)
    (IsPermutation-append_right (flat_map (f b) xs) (flat_map (λ x. flat_map (λ c. f c x) bs) xs) (flat_map (λ c. flat_map (f c) xs) bs) (exchanged f bs xs))

-- the sites at each node under all settings in turn are all the sites
pub by_nodes : {X : Type 0} (find : Finds X) (s : List ℕ) (xs : List X) (settings : List Setting) → IsPermutation (flat_map (λ x. flat_map (λ setting. sites_at find s setting x) settings) xs) (all_sites find s xs settings)
unfolding all_sites
by_nodes find s xs settings = exchanged (sites_at find s) settings xs
