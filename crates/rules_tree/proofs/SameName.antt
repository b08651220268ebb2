-- Names of properties that are one.
use Rattle.std.proofs.Common.{◌≡◌, ℕ, List, [], ◌∷◌, Bool, true, false, refl, ap, ap₂, sym, ◌∙◌, subst, arith, eqb}
use Rattle.std.specs.Prelude.{◌&&◌, ◌||◌, ◌==◌, not, bytes_eq, codes, if◌then◌else◌}
use Rattle.std.specs.List.{list_any}
use Rattle.std.specs.Char.{to_ascii_lowercase}
use Rattle.std.proofs.lemmas.Bool.{false≢true, false_from_ne_true, or_parts}
use Rattle.std.proofs.lemmas.Bool.Decides.{nat_tests}
use Rattle.std.proofs.lemmas.Slice.Eq.{bytes_eq-Decides}
use Rattle.css_text.specs.Forms.{begins}
use Rattle.css_tree.specs.Mark.{is_text}
use Rattle.rule_sites.specs.Keyframes.{lower}
use Rattle.rules_tree.specs.DeclarationBlockNoDuplicateProperties.{is_ignored}
use Rattle.rules_tree.specs.FirstUses.{is_named}
use Rattle.rules_tree.specs.Properties.{is_custom, is_same, folded}

dash : (c : ℕ) → (to_ascii_lowercase (to_ascii_lowercase c) == 45) ≡ (to_ascii_lowercase c == 45)
dash c = grind (arith, nat_tests)

custom_lower : (s : List ℕ) → is_custom (lower s) ≡ is_custom s
custom_lower [] = refl
custom_lower (c ∷ []) = ap (λ b. b && false) (dash c)
custom_lower (c ∷ d ∷ ds) = ap (λ b. b && ((to_ascii_lowercase (to_ascii_lowercase d) == 45) && true)) (dash c) ∙ ap (λ b. (to_ascii_lowercase c == 45) && (b && true)) (dash d)

-- a custom property is no other property
distinct : (a b : List ℕ) → is_custom a ≡ true → is_custom b ≡ false → bytes_eq a b ≡ false
distinct a b e h = false_from_ne_true (bytes_eq a b) (λ k. false≢true (sym h ∙ (sym (ap is_custom ((bytes_eq-Decides a b).0 k)) ∙ e)))

distinct_other : (a b : List ℕ) → is_custom a ≡ false → is_custom b ≡ true → bytes_eq a b ≡ false
distinct_other a b e h = false_from_ne_true (bytes_eq a b) (λ k. false≢true (sym e ∙ (ap is_custom ((bytes_eq-Decides a b).0 k) ∙ h)))

fold_custom : (a : List ℕ) → is_custom a ≡ true → folded a ≡ a
fold_custom a e = ap (λ v. if v then a else lower a) e

fold_other : (a : List ℕ) → is_custom a ≡ false → folded a ≡ lower a
fold_other a e = ap (λ v. if v then a else lower a) e

custom_by : (v : Bool) (a b : List ℕ) → is_custom a ≡ true → is_custom b ≡ v → is_named a b ≡ bytes_eq a b
custom_by true a b e h = ap (λ z. bytes_eq z (folded b)) (fold_custom a e) ∙ ap (bytes_eq a) (fold_custom b h)
custom_by false a b e h =
    ap (λ z. bytes_eq z (folded b)) (fold_custom a e) ∙ (ap (bytes_eq a) (fold_other b h)
    ∙ (distinct a (lower b) e (custom_lower b ∙ h) ∙ sym (distinct a b e h)))

other_by : (v : Bool) (a b : List ℕ) → is_custom a ≡ false → is_custom b ≡ v → is_named a b ≡ is_same a b
other_by true a b e h =
    ap (λ z. bytes_eq z (folded b)) (fold_other a e) ∙ (ap (bytes_eq (lower a)) (fold_custom b h)
    ∙ (distinct_other (lower a) b (custom_lower a ∙ e) h ∙ sym (distinct_other (lower a) (lower b) (custom_lower a ∙ e) (custom_lower b ∙ h))))
other_by false a b e h = ap (λ z. bytes_eq z (folded b)) (fold_other a e) ∙ ap (bytes_eq (lower a)) (fold_other b h)

-- a custom property compares as it is written, any other in lower case
pub named_custom : (a b : List ℕ) → is_custom a ≡ true → is_named a b ≡ bytes_eq a b
named_custom a b e = custom_by (is_custom b) a b e refl

pub named_other : (a b : List ℕ) → is_custom a ≡ false → is_named a b ≡ is_same a b
named_other a b e = other_by (is_custom b) a b e refl

any_same : (f g : List ℕ → Bool) → ((q : List ℕ) → f q ≡ g q) → (xs : List (List ℕ)) → list_any f xs ≡ list_any g xs
any_same f g e [] = refl
any_same f g e (x ∷ xs) = ap₂ (λ a b. a || b) (e x) (any_same f g e xs)

-- among several names
pub any_custom : (a : List ℕ) (xs : List (List ℕ)) → is_custom a ≡ true → list_any (is_named a) xs ≡ (is_custom a && list_any (bytes_eq a) xs)
any_custom a xs e = any_same (is_named a) (bytes_eq a) (λ q. named_custom a q e) xs ∙ sym (ap (λ v. v && list_any (bytes_eq a) xs) e)

pub any_other : (a : List ℕ) (xs : List (List ℕ)) → is_ignored a ≡ false → list_any (is_named a) xs ≡ (not (is_ignored a) && list_any (is_same a) xs)
any_other a xs e =
    let p = or_parts (is_custom a || begins 36 a) (is_text (codes "src") a) e in
    let k = (or_parts (is_custom a) (begins 36 a) p.0).0 in
    any_same (is_named a) (is_same a) (λ q. named_other a q k) xs ∙ sym (ap (λ v. not v && list_any (is_same a) xs) e)
