-- Each configuration that is read keeps to what its rules take.
use Rattle.std.proofs.Common.{◌≡◌, ℕ, suc, List, [], Bool, true, false, ◌&&◌, Option, Some, None, Result, Ok, Err, if◌then◌else◌, codes, bytes_eq, nat_le, refl, subst}
use Rattle.std.specs.Prelude.{option_map, option_and_then, is_some}
use Rattle.std.specs.List.{list_all}
use Rattle.serde_json.specs.Data.{Num, unsigned, negative, float, Data, null, boolean, number, string, array, object, Items, no_items, item, Members, no_members, member}
use Rattle.serde_json.specs.Find.{as_array, as_object, get}
use Rattle.lint_config.specs.declared.rule.Rule.{Rule}
use Rattle.lint_config.specs.declared.rule.Primary.{Primary}
use Rattle.lint_config.specs.declared.rule.Primary.TheVariants.{Flag, AlwaysWord, ShortOrLong, SingleOrDouble, Thousand, Specificity}
use Rattle.lint_config.specs.declared.setting.Choice.{Choice}
use Rattle.lint_config.specs.declared.setting.Choice.TheVariants.{Count, Short, Long, Single, Double, Always}
use Rattle.lint_config.specs.declared.setting.Severity.{Severity}
use Rattle.lint_config.specs.declared.config.Mode.TheVariants.{Off, Unknown}
use Rattle.lint_config.specs.declared.config.Mode.TheVariants as mode
use Rattle.lint_config.specs.declared.config.ConfigKind.{ConfigKind}
use Rattle.lint_config.specs.declared.config.ConfigKind.TheVariants.{WrongShape, BadOption}
use Rattle.lint_config.specs.Rules.{primary_of, rule_named}
use Rattle.lint_config.specs.Choices.{allows}
use Rattle.lint_config.specs.RuleValues.{limit_from, word_choice, number_choice, flag_choice, choice_of, secondary_of, severity_of, is_null, mode_with, mode_of_items, mode_from, turns_off, mode_of}
use Rattle.lint_config.specs.ConfigOf.{OverrideData, ConfigData, Refusal, no_config, and_then, or_refused, below, followed_by, rule_of, rules_of, rules_in, patterns_in, override_with, override_parts, override_of, override_key, overrides_of, overrides_in, flag_of, with_key, with_keys, config_of}
use Rattle.lint_config.specs.Sound.{fits_rule, fits_name, are_sound, is_sound}

pub and_both : (a b : Bool) → a ≡ true → b ≡ true → (a && b) ≡ true
and_both true b p q = q
and_both false b p q = p

pub and_left : (a b : Bool) → (a && b) ≡ true → a ≡ true
and_left true b h = refl
and_left false b h = h

pub and_right : (a b : Bool) → (a && b) ≡ true → b ≡ true
and_right true b h = h
and_right false b h = cc

-- the test passes on what is there
abbrev pub Passes : {A : Type 0} → (A → Bool) → Option A → Type 0
Passes test None = Unit {0}
Passes test (Some a) = test a ≡ true

abbrev pub Holds : {A : Type 0} → (A → Bool) → Result A Refusal → Type 0
Holds test (Ok a) = test a ≡ true
Holds test (Err e) = Unit {0}

passes_if : {A : Type 0} (test : A → Bool) (b : Bool) (x y : Option A) → Passes test x → Passes test y → Passes test (if b then x else y)
passes_if test true x y p q = p
passes_if test false x y p q = q

passes_and_then : {A B : Type 0} (test : B → Bool) (o : Option A) (f : A → Option B) → ((a : A) → Passes test (f a)) → Passes test (option_and_then f o)
passes_and_then test None f h = tt
passes_and_then test (Some a) f h = h a

holds_if : {A : Type 0} (test : A → Bool) (b : Bool) (x y : Result A Refusal) → Holds test x → Holds test y → Holds test (if b then x else y)
holds_if test true x y p q = p
holds_if test false x y p q = q

holds_or_refused : {A : Type 0} (test : A → Bool) (kind : ConfigKind) (key : List ℕ) (o : Option A) → Passes test o → Holds test (or_refused kind key o)
holds_or_refused test kind key None h = tt
holds_or_refused test kind key (Some a) h = h

holds_and_then : {A B : Type 0} (test : A → Bool) (next : B → Bool) (r : Result A Refusal) (f : A → Result B Refusal)
    → Holds test r → ((a : A) → test a ≡ true → Holds next (f a)) → Holds next (and_then r f)
holds_and_then test next (Ok a) f h g = g a h
holds_and_then test next (Err e) f h g = tt

-- the same after what no test is on
holds_then : {A B : Type 0} (next : B → Bool) (r : Result A Refusal) (f : A → Result B Refusal) → ((a : A) → Holds next (f a)) → Holds next (and_then r f)
holds_then next (Ok a) f g = g a
holds_then next (Err e) f g = tt

holds_followed : {A : Type 0} (test : A → Bool) (rest : Result (List A) Refusal) (first : Result A Refusal)
    → Holds (list_all test) rest → Holds test first → Holds (list_all test) (followed_by rest first)
holds_followed test (Ok xs) (Ok x) hs h = and_both (test x) (list_all test xs) h hs
holds_followed test (Ok xs) (Err e) hs h = tt
holds_followed test (Err e) (Ok x) hs h = tt
holds_followed test (Err e) (Err f) hs h = tt

flag_fits : (p : Primary) (b : Bool) → Passes (allows p) (flag_choice p b)
flag_fits p b = elim p as (λ p. Passes (allows p) (flag_choice p b)) [ Flag ↦ elim b as (λ b. Passes (allows Flag) (flag_choice Flag b)) [ true ↦ refl | false ↦ tt ] | _ ↦ tt ]

count_fits : (n : ℕ) (b : Bool) → nat_le n 1000 ≡ b → Passes (allows Thousand) (if b then Some (Count n) else None)
count_fits n true e = e
count_fits n false e = tt

number_fits : (p : Primary) (n : Num) → Passes (allows p) (number_choice p n)
number_fits Thousand (unsigned n) = count_fits n (nat_le n 1000) refl
number_fits Thousand (negative z) = tt
number_fits Thousand (float x) = tt
number_fits Flag n = tt
number_fits AlwaysWord n = tt
number_fits ShortOrLong n = tt
number_fits SingleOrDouble n = tt
number_fits Specificity n = tt

limit_fits : (a b c : Option ℕ) → Passes (allows Specificity) (limit_from a b c)
limit_fits (Some a) (Some b) (Some c) = refl
limit_fits (Some a) (Some b) None = tt
limit_fits (Some a) None c = tt
limit_fits None b c = tt

word_fits : (p : Primary) (s : List ℕ) → Passes (allows p) (word_choice p s)
word_fits AlwaysWord s = passes_if (allows AlwaysWord) (bytes_eq s (codes "always")) (Some Always) None refl tt
word_fits ShortOrLong s = passes_if (allows ShortOrLong) (bytes_eq s (codes "short")) (Some Short) (if bytes_eq s (codes "long") then Some Long else None) refl
    (passes_if (allows ShortOrLong) (bytes_eq s (codes "long")) (Some Long) None refl tt)
word_fits SingleOrDouble s = passes_if (allows SingleOrDouble) (bytes_eq s (codes "single")) (Some Single) (if bytes_eq s (codes "double") then Some Double else None) refl
    (passes_if (allows SingleOrDouble) (bytes_eq s (codes "double")) (Some Double) None refl tt)
word_fits Specificity s = limit_fits _ _ _
word_fits Flag s = tt
word_fits Thousand s = tt

choice_fits : (p : Primary) (d : Data) → Passes (allows p) (choice_of p d)
choice_fits p (boolean b) = flag_fits p b
choice_fits p (number n) = number_fits p n
choice_fits p (string s) = word_fits p s
choice_fits p null = tt
choice_fits p (array ds) = tt
choice_fits p (object ms) = tt

on_fits : (r : Rule) (s : Option Severity) (o : Option Choice) → Passes (allows (primary_of r)) o → Passes (fits_rule (Some r)) (option_map (λ c. mode.On c s) o)
on_fits r s None h = tt
on_fits r s (Some c) h = h

with_fits : (r : Rule) (d : Data) (s : Option Severity) → Passes (fits_rule (Some r)) (mode_with (primary_of r) d s)
with_fits r d s = passes_if (fits_rule (Some r)) (is_null d) (Some Off) (option_map (λ c. mode.On c s) (choice_of (primary_of r) d)) refl
    (on_fits r s (choice_of (primary_of r) d) (choice_fits (primary_of r) d))

items_fit : (r : Rule) (ds : Items) → Passes (fits_rule (Some r)) (mode_of_items (primary_of r) ds)
items_fit r no_items = tt
items_fit r (item d no_items) = with_fits r d None
items_fit r (item d (item e no_items)) = passes_and_then (fits_rule (Some r)) (secondary_of e) (mode_with (primary_of r) d) (with_fits r d)
items_fit r (item d (item e (item f ds))) = tt

from_fits : (r : Rule) (d : Data) (o : Option Items) → Passes (fits_rule (Some r)) (mode_from (primary_of r) d o)
from_fits r d (Some ds) = items_fit r ds
from_fits r d None = with_fits r d None

mode_fits : (o : Option Rule) (d : Data) → Passes (fits_rule o) (mode_of o d)
mode_fits (Some r) d = from_fits r d (as_array d)
mode_fits None d = elim (turns_off d) as (λ b. fits_rule None (if b then Off else Unknown) ≡ true) [ true ↦ refl | false ↦ refl ]

rule_holds : (key k : List ℕ) (d : Data) → Holds fits_name (rule_of key k d)
rule_holds key k d = holds_and_then (fits_rule (rule_named k)) fits_name (or_refused BadOption (below key k) (mode_of (rule_named k) d)) (λ m. Ok (record { name = k; mode = m }))
    (holds_or_refused (fits_rule (rule_named k)) BadOption (below key k) (mode_of (rule_named k) d) (mode_fits (rule_named k) d)) (λ m h. h)

rules_hold : (key : List ℕ) (ms : Members) → Holds are_sound (rules_of key ms)
rules_hold key no_members = refl
rules_hold key (member k d ms) = holds_followed fits_name (rules_of key ms) (rule_of key k d) (rules_hold key ms) (rule_holds key k d)

rules_in_hold : (key : List ℕ) (d : Data) → Holds are_sound (rules_in key d)
rules_in_hold key d = holds_then are_sound (or_refused WrongShape key (as_object d)) (rules_of key) (rules_hold key)

abbrev override_sound : OverrideData → Bool
override_sound o = are_sound o.rules

override_holds : (key : List ℕ) (files rules : Data) → Holds override_sound (override_with key files rules)
override_holds key files rules = holds_then override_sound (patterns_in (below key (codes "files")) files) _
    (λ ps. holds_and_then are_sound override_sound (rules_in (below key (codes "rules")) rules) (λ rs. Ok (record { patterns = ps; rules = rs }))
    (rules_in_hold (below key (codes "rules")) rules) (λ rs h. h))

override_of_holds : (key : List ℕ) (d : Data) → Holds override_sound (override_of key d)
override_of_holds key d = holds_then override_sound (or_refused WrongShape key (option_and_then override_parts (as_object d))) (λ p. override_with key p.0 p.1)
    (λ p. override_holds key p.0 p.1)

overrides_hold : (n : ℕ) (ds : Items) → Holds (list_all override_sound) (overrides_of n ds)
overrides_hold n no_items = refl
overrides_hold n (item d ds) = holds_followed override_sound (overrides_of (suc n) ds) (override_of (override_key n) d) (overrides_hold (suc n) ds) (override_of_holds (override_key n) d)

overrides_in_hold : (key : List ℕ) (d : Data) → Holds (list_all override_sound) (overrides_in key d)
overrides_in_hold key d = holds_then (list_all override_sound) (or_refused WrongShape key (as_array d)) (overrides_of 0) (overrides_hold 0)

key_holds : (k : List ℕ) (d : Data) (c : ConfigData) → is_sound c ≡ true → Holds is_sound (with_key k d c)
key_holds k d c h =
    holds_if is_sound (bytes_eq k (codes "$schema")) _ _ h
    (holds_if is_sound (bytes_eq k (codes "defaultSeverity")) _ _ (holds_then is_sound (or_refused WrongShape k (severity_of d)) _ (λ s. h))
    (holds_if is_sound (bytes_eq k (codes "ignoreDisables")) _ _ (holds_then is_sound (flag_of k d) _ (λ b. h))
    (holds_if is_sound (bytes_eq k (codes "overrides")) _ _
    (holds_and_then (list_all override_sound) is_sound (overrides_in k d) _ (overrides_in_hold k d)
    (λ os g. and_both (are_sound c.rules) (list_all override_sound os) (and_left (are_sound c.rules) (list_all override_sound c.overrides) h) g))
    (holds_if is_sound (bytes_eq k (codes "reportNeedlessDisables")) _ _ (holds_then is_sound (flag_of k d) _ (λ b. h))
    (holds_if is_sound (bytes_eq k (codes "rules")) _ _
    (holds_and_then are_sound is_sound (rules_in k d) _ (rules_in_hold k d)
    (λ rs g. and_both (are_sound rs) (list_all override_sound c.overrides) g (and_right (are_sound c.rules) (list_all override_sound c.overrides) h)))
    tt)))))

keys_hold : (ms : Members) (c : ConfigData) → is_sound c ≡ true → Holds is_sound (with_keys ms c)
keys_hold no_members c h = h
keys_hold (member k d ms) c h = holds_and_then is_sound is_sound (with_key k d c) (with_keys ms) (key_holds k d c h) (keys_hold ms)

config_holds : (d : Data) → Holds is_sound (config_of d)
config_holds d = holds_then is_sound (or_refused WrongShape [] (as_object d)) _
    (λ ms. holds_if is_sound (is_some (get (codes "extends") d)) _ _ tt (keys_hold ms no_config refl))

pub config_sound : (d : Data) (c : ConfigData) → config_of d ≡ Ok c → is_sound c ≡ true
config_sound d c e = subst (Holds is_sound) e (config_holds d)
