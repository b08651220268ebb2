-- The settings of a file keep to what the rules take, and set no rule twice.
use Rattle.std.proofs.Common.{◌≡◌, ℕ, List, [], ◌∷◌, Bool, true, false, ◌&&◌, ◌||◌, not, Ordering, Less, Equal, Greater, Option, Some, None, if◌then◌else◌, unwrap_or, is_eq, nat_cmp, bytes_eq, refl, ap, sym, ◌∙◌, subst}
use Rattle.std.specs.List.{list_all, list_any, cons_option}
use Rattle.std.specs.Ordering.{match_ordering}
use Rattle.std.specs.Cmp.Lexicographic.{slice_cmp}
use Rattle.std.proofs.lemmas.Map.Text.{is_eq-slice_cmp}
use Rattle.std.proofs.lemmas.Slice.Eq.{bytes_eq-Decides}
use Rattle.lint_config.specs.declared.rule.Rule.{Rule}
use Rattle.lint_config.specs.declared.rule.Rule.TheVariants.{BlockNoEmpty}
use Rattle.lint_config.specs.declared.setting.Setting.{Setting}
use Rattle.lint_config.specs.declared.setting.Severity.{Severity}
use Rattle.lint_config.specs.declared.setting.Severity.TheVariants.{Error}
use Rattle.lint_config.specs.declared.config.Mode.{Mode}
use Rattle.lint_config.specs.declared.config.Mode.TheVariants.{Off, Unknown, On}
use Rattle.lint_config.specs.Rules.{entry_of, all_rules, rule_named, name_of, primary_of}
use Rattle.lint_config.specs.Choices.{allows, are_settings}
use Rattle.lint_config.specs.ConfigOf.{NamedMode, OverrideData, ConfigData}
use Rattle.lint_config.specs.Sound.{fits_rule, fits_name, are_sound, is_sound}
use Rattle.lint_config.specs.Resolved.{set_name, set_names, matches, with_override, overridden, modes_for, mode_in, setting_of, enabled_in, rules_for}
use Rattle.lint_config.proofs.SoundRead.{and_both, and_left, and_right, Passes}

-- ---- what names are set to

pub same_bytes : (k l : List ℕ) → slice_cmp nat_cmp k l ≡ Equal → k ≡ l
same_bytes k l e = (bytes_eq-Decides k l).0 (sym (is_eq-slice_cmp k l) ∙ ap is_eq e)

set_at : (o : Ordering) (n m : NamedMode) (ms set : List NamedMode) → slice_cmp nat_cmp n.name m.name ≡ o → fits_name n ≡ true → are_sound (m ∷ ms) ≡ true → are_sound set ≡ true
    → are_sound (match_ordering o (n ∷ m ∷ ms) (record { name = m.name; mode = n.mode } ∷ ms) (m ∷ set)) ≡ true
set_at Less n m ms set e h hs later = and_both (fits_name n) (are_sound (m ∷ ms)) h hs
set_at Equal n m ms set e h hs later =
    and_both (fits_rule (rule_named m.name) n.mode) (are_sound ms) (subst (λ k. fits_rule (rule_named k) n.mode ≡ true) (same_bytes n.name m.name e) h)
    (and_right (fits_name m) (are_sound ms) hs)
set_at Greater n m ms set e h hs later = and_both (fits_name m) (are_sound set) (and_left (fits_name m) (are_sound ms) hs) later

set_name_sound : (n : NamedMode) (ms : List NamedMode) → fits_name n ≡ true → are_sound ms ≡ true → are_sound (set_name n ms) ≡ true
set_name_sound n [] h hs = and_both (fits_name n) true h refl
set_name_sound n (m ∷ ms) h hs = set_at (slice_cmp nat_cmp n.name m.name) n m ms (set_name n ms) refl h hs (set_name_sound n ms h (and_right (fits_name m) (are_sound ms) hs))

set_names_sound : (ns ms : List NamedMode) → are_sound ns ≡ true → are_sound ms ≡ true → are_sound (set_names ns ms) ≡ true
set_names_sound [] ms h hs = hs
set_names_sound (n ∷ ns) ms h hs = set_names_sound ns (set_name n ms) (and_right (fits_name n) (are_sound ns) h) (set_name_sound n ms (and_left (fits_name n) (are_sound ns) h) hs)

choice_sound : (b : Bool) (x y : List NamedMode) → are_sound x ≡ true → are_sound y ≡ true → are_sound (if b then x else y) ≡ true
choice_sound true x y p q = p
choice_sound false x y p q = q

abbrev override_sound : OverrideData → Bool
override_sound o = are_sound o.rules

overridden_sound : (path : List ℕ) (os : List OverrideData) (ms : List NamedMode) → list_all override_sound os ≡ true → are_sound ms ≡ true → are_sound (overridden path os ms) ≡ true
overridden_sound path [] ms h hs = hs
overridden_sound path (o ∷ os) ms h hs =
    overridden_sound path os (with_override path o ms) (and_right (override_sound o) (list_all override_sound os) h)
    (choice_sound (matches path o) (set_names o.rules ms) ms (set_names_sound o.rules ms (and_left (override_sound o) (list_all override_sound os) h) hs) hs)

modes_sound : (c : ConfigData) (path : List ℕ) → is_sound c ≡ true → are_sound (modes_for c path) ≡ true
unfolding modes_for
modes_sound c path h =
    overridden_sound path c.overrides (set_names c.rules []) (and_right (are_sound c.rules) (list_all override_sound c.overrides) h)
    (set_names_sound c.rules [] (and_left (are_sound c.rules) (list_all override_sound c.overrides) h) refl)

found_at : (b : Bool) (name : List ℕ) (n : NamedMode) (rest : Option Mode) → bytes_eq name n.name ≡ b → fits_name n ≡ true → Passes (fits_rule (rule_named name)) rest
    → Passes (fits_rule (rule_named name)) (if b then Some n.mode else rest)
found_at true name n rest e h later = subst (λ k. fits_rule (rule_named k) n.mode ≡ true) (sym ((bytes_eq-Decides name n.name).0 e)) h
found_at false name n rest e h later = later

mode_in_fits : (name : List ℕ) (ms : List NamedMode) → are_sound ms ≡ true → Passes (fits_rule (rule_named name)) (mode_in name ms)
mode_in_fits name [] h = tt
mode_in_fits name (n ∷ ms) h = found_at (bytes_eq name n.name) name n (mode_in name ms) refl (and_left (fits_name n) (are_sound ms) h)
    (mode_in_fits name ms (and_right (fits_name n) (are_sound ms) h))

-- ---- the settings

abbrev same_rule : Rule → Rule → Bool
same_rule q r = bytes_eq (name_of q) (name_of r)

abbrev distinct : List Rule → Bool
distinct [] = true
distinct (r ∷ rs) = not (list_any (λ q. same_rule q r) rs) && distinct rs

rules_distinct : distinct all_rules ≡ true
unfolding all_rules entry_of
rules_distinct = refl

pub named_as_such : (r : Rule) → rule_named (name_of r) ≡ Some r
unfolding entry_of all_rules
named_as_such r = elim r as (λ r. rule_named (name_of r) ≡ Some r) [ BlockNoEmpty ↦ refl | _ ↦ refl ]

or_false : (a b : Bool) → a ≡ false → b ≡ false → (a || b) ≡ false
or_false true b p q = p
or_false false b p q = q

or_left : (a b : Bool) → (a || b) ≡ false → a ≡ false
or_left true b h = h
or_left false b h = refl

or_right : (a b : Bool) → (a || b) ≡ false → b ≡ false
or_right true b h = cc
or_right false b h = h

not_true : (b : Bool) → not b ≡ true → b ≡ false
not_true true h = cc
not_true false h = refl

not_false : (b : Bool) → b ≡ false → not b ≡ true
not_false true h = cc
not_false false h = refl

absent_at : (d : Severity) (q r : Rule) (o : Option Mode) (xs : List Setting) → same_rule q r ≡ false → list_any (λ t. same_rule t.rule r) xs ≡ false
    → list_any (λ t. same_rule t.rule r) (cons_option (setting_of d q o) xs) ≡ false
absent_at d q r None xs e h = h
absent_at d q r (Some Off) xs e h = h
absent_at d q r (Some Unknown) xs e h = h
absent_at d q r (Some (On c s)) xs e h = or_false (same_rule q r) (list_any (λ t. same_rule t.rule r) xs) e h

absent : (d : Severity) (ms : List NamedMode) (r : Rule) (rs : List Rule) → list_any (λ q. same_rule q r) rs ≡ false → list_any (λ t. same_rule t.rule r) (enabled_in d ms rs) ≡ false
absent d ms r [] h = refl
absent d ms r (q ∷ rs) h = absent_at d q r (mode_in (name_of q) ms) (enabled_in d ms rs) (or_left (same_rule q r) (list_any (λ q. same_rule q r) rs) h)
    (absent d ms r rs (or_right (same_rule q r) (list_any (λ q. same_rule q r) rs) h))

allowed_at : (d : Severity) (r : Rule) (o : Option Mode) (xs : List Setting) → Passes (fits_rule (Some r)) o → list_any (λ t. same_rule t.rule r) xs ≡ false → are_settings xs ≡ true
    → are_settings (cons_option (setting_of d r o) xs) ≡ true
allowed_at d r None xs e h hs = hs
allowed_at d r (Some Off) xs e h hs = hs
allowed_at d r (Some Unknown) xs e h hs = hs
allowed_at d r (Some (On c s)) xs e h hs =
    and_both (allows (primary_of r) c && not (list_any (λ t. same_rule t.rule r) xs)) (are_settings xs)
    (and_both (allows (primary_of r) c) (not (list_any (λ t. same_rule t.rule r) xs)) e (not_false (list_any (λ t. same_rule t.rule r) xs) h)) hs

enabled_allowed : (d : Severity) (ms : List NamedMode) (rs : List Rule) → are_sound ms ≡ true → distinct rs ≡ true → are_settings (enabled_in d ms rs) ≡ true
enabled_allowed d ms [] h apart = refl
enabled_allowed d ms (r ∷ rs) h apart =
    let first = not_true (list_any (λ q. same_rule q r) rs) (and_left (not (list_any (λ q. same_rule q r) rs)) (distinct rs) apart) in
    let fits = subst (λ o. Passes (fits_rule o) (mode_in (name_of r) ms)) (named_as_such r) (mode_in_fits (name_of r) ms h) in
    allowed_at d r (mode_in (name_of r) ms) (enabled_in d ms rs) fits (absent d ms r rs first)
    (enabled_allowed d ms rs h (and_right (not (list_any (λ q. same_rule q r) rs)) (distinct rs) apart))

pub settings_allowed : (c : ConfigData) (path : List ℕ) → is_sound c ≡ true → are_settings (rules_for c path) ≡ true
settings_allowed c path h = enabled_allowed (unwrap_or c.severity Error) (modes_for c path) all_rules (modes_sound c path h) rules_distinct
