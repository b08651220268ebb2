-- The order of sites is total, and a list that is sorted by it is in order.
use Rattle.std.proofs.Common.{◌≡◌, ℕ, suc, ◌+◌, List, [], ◌∷◌, Bool, true, false, refl, ap, sym, ◌∙◌, arith, get_or}
use Rattle.std.specs.Prelude.{encode_utf8_all}
use Rattle.std.specs.declared.cmp.Ordering.{Ordering}
use Rattle.std.specs.Ordering.{is_lt, is_le, ordering_reverse}
use Rattle.std.specs.declared.cmp.Ordering.TheVariants as O
use Rattle.std.specs.Cmp.{IsTotalOrder, IsStrictWeakOrder}
use Rattle.std.specs.List.Sorted.{IsSortedBy}
use Rattle.std.proofs.lemmas.Cmp.{nat_cmp_total, nat_list_cmp_total, on_total, then_total}
use Rattle.std.proofs.lemmas.List.Sorted.{ranks_by}
use Rattle.lint_config.specs.Rules.{name_of}
use Rattle.lint_config.specs.declared.found.Site.{Site}
use Rattle.rule_sites.specs.Ordered.{site_cmp, is_up_to_site, AreInOrder}

abbrev pub is_before : Site → Site → Bool
is_before a b = is_lt (site_cmp a b)

total : IsTotalOrder site_cmp
total = then_total (on_total (λ (a : Site). a.at) nat_cmp_total) (then_total (on_total (λ (a : Site). name_of a.rule) nat_list_cmp_total) (on_total (λ (a : Site). encode_utf8_all a.text) nat_list_cmp_total))

pub strict : IsStrictWeakOrder is_before
strict = ranks_by total (λ (a : Site). a)

turned : (o : Ordering) → is_lt o ≡ false → is_le (ordering_reverse o) ≡ true
turned O.Less h = absurd cc
turned O.Equal h = refl
turned O.Greater h = refl

up_to : (a b : Site) → is_before b a ≡ false → is_up_to_site a b ≡ true
up_to a b h = ap is_le (total.antisymm a b) ∙ turned (site_cmp b a) h

pub in_order_from_sorted : (xs : List Site) → IsSortedBy is_before xs → AreInOrder xs
in_order_from_sorted [] h = tt
in_order_from_sorted (a ∷ []) h = tt
in_order_from_sorted (a ∷ b ∷ rest) h = (up_to a b (h 0 a (omega arith) (omega arith)), in_order_from_sorted (b ∷ rest) (λ k d l m. next k d (h (suc k) d (omega arith) (omega arith))))
  where
    next : (k : ℕ) (d : Site) → is_before (get_or (a ∷ b ∷ rest) (suc k + 1) d) (get_or (b ∷ rest) k d) ≡ false → is_before (get_or (b ∷ rest) (k + 1) d) (get_or (b ∷ rest) k d) ≡ false
    next k d g = let e : suc k + 1 ≡ suc (k + 1) = omega arith in ap (λ i. is_before (get_or (a ∷ b ∷ rest) i d) (get_or (b ∷ rest) k d)) (sym e) ∙ g
