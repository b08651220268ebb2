-- Names that are set one after another.
use Rattle.std.proofs.Common.{◌≡◌, ℕ, List, [], ◌∷◌, Bool, true, false, Ordering, Less, Equal, Greater, Option, Some, if◌then◌else◌, map, is_eq, nat_cmp, bytes_eq, refl, ap, sym, ◌∙◌}
use Rattle.std.specs.List.{AllByRecursion}
use Rattle.std.specs.List.Sorted.{IsStrictlySortedBy}
use Rattle.std.specs.Ordering.{match_ordering, ordering_reverse}
use Rattle.std.specs.Cmp.Lexicographic.{slice_cmp}
use Rattle.std.proofs.lemmas.Cmp.{nat_list_cmp_total}
use Rattle.std.proofs.lemmas.Map.Text.{is_eq-slice_cmp}
use Rattle.std.proofs.lemmas.Slice.Eq.{bytes_eq-Decides}
use Rattle.lint_config.specs.declared.config.Mode.{Mode}
use Rattle.lint_config.specs.ConfigOf.{NamedMode, OverrideData, ConfigData}
use Rattle.lint_config.specs.Resolved.{set_name, set_names, matches, with_override, overridden, modes_for, mode_in}
use Rattle.lint_config.proofs.SoundSettings.{same_bytes}

-- ---- what a name has

abbrev or_else : Bool → Mode → Option Mode → Option Mode
or_else b m rest = if b then Some m else rest

hidden : (b : Bool) (m k : Mode) (rest : Option Mode) → or_else b m rest ≡ or_else b m (or_else b k rest)
hidden true m k rest = refl
hidden false m k rest = refl

swapped : (a b : Bool) (m k : Mode) (rest : Option Mode) → (a ≡ true → b ≡ true → ⊥) → or_else a m (or_else b k rest) ≡ or_else b k (or_else a m rest)
swapped true true m k rest apart = absurd (apart refl refl)
swapped true false m k rest apart = refl
swapped false b m k rest apart = refl

not_both : (q k l : List ℕ) → slice_cmp nat_cmp k l ≡ Greater → bytes_eq q l ≡ true → bytes_eq q k ≡ true → ⊥
not_both q k l e h g =
    let same : k ≡ l = sym ((bytes_eq-Decides q k).0 g) ∙ (bytes_eq-Decides q l).0 h in
    let equal : is_eq (slice_cmp nat_cmp k l) ≡ true = is_eq-slice_cmp k l ∙ (bytes_eq-Decides k l).1 same in
    let greater : is_eq (slice_cmp nat_cmp k l) ≡ false = ap is_eq e in
    cc

had_at : (o : Ordering) (q : List ℕ) (n m : NamedMode) (ms set : List NamedMode) → slice_cmp nat_cmp n.name m.name ≡ o
    → mode_in q set ≡ or_else (bytes_eq q n.name) n.mode (mode_in q ms)
    → mode_in q (match_ordering o (n ∷ m ∷ ms) (record { name = m.name; mode = n.mode } ∷ ms) (m ∷ set)) ≡ or_else (bytes_eq q n.name) n.mode (mode_in q (m ∷ ms))
had_at Less q n m ms set e later = refl
had_at Equal q n m ms set e later =
    let same : bytes_eq q m.name ≡ bytes_eq q n.name = ap (bytes_eq q) (sym (same_bytes n.name m.name e)) in
    ap (λ b. or_else b n.mode (mode_in q ms)) same ∙ hidden (bytes_eq q n.name) n.mode m.mode (mode_in q ms)
    ∙ ap (λ b. or_else (bytes_eq q n.name) n.mode (or_else b m.mode (mode_in q ms))) (sym same)
had_at Greater q n m ms set e later =
    ap (or_else (bytes_eq q m.name) m.mode) later
    ∙ swapped (bytes_eq q m.name) (bytes_eq q n.name) m.mode n.mode (mode_in q ms) (not_both q n.name m.name e)

pub last_counts : (q : List ℕ) (n : NamedMode) (ms : List NamedMode) → mode_in q (set_name n ms) ≡ (if bytes_eq q n.name then Some n.mode else mode_in q ms)
last_counts q n [] = refl
last_counts q n (m ∷ ms) = had_at (slice_cmp nat_cmp n.name m.name) q n m ms (set_name n ms) refl (last_counts q n ms)

-- ---- their order

abbrev names : List NamedMode → List (List ℕ)
names ms = map (λ n. n.name) ms

abbrev Below : List ℕ → List NamedMode → Type 0
Below k ms = AllByRecursion (λ l. slice_cmp nat_cmp k l ≡ Less) (names ms)

below_lower : (k l : List ℕ) (ms : List NamedMode) → slice_cmp nat_cmp k l ≡ Less → Below l ms → Below k ms
below_lower k l [] e h = tt
below_lower k l (m ∷ ms) e h = (nat_list_cmp_total.trans k l m.name e h.0, below_lower k l ms e h.1)

below_at : (o : Ordering) (k : List ℕ) (n m : NamedMode) (ms set : List NamedMode) → slice_cmp nat_cmp k n.name ≡ Less → Below k (m ∷ ms) → Below k set
    → Below k (match_ordering o (n ∷ m ∷ ms) (record { name = m.name; mode = n.mode } ∷ ms) (m ∷ set))
below_at Less k n m ms set e h later = (e, h)
below_at Equal k n m ms set e h later = h
below_at Greater k n m ms set e h later = (h.0, later)

below_set : (k : List ℕ) (n : NamedMode) (ms : List NamedMode) → slice_cmp nat_cmp k n.name ≡ Less → Below k ms → Below k (set_name n ms)
below_set k n [] e h = (e, tt)
below_set k n (m ∷ ms) e h = below_at (slice_cmp nat_cmp n.name m.name) k n m ms (set_name n ms) e h (below_set k n ms e h.1)

abbrev Ascend : List NamedMode → Type 0
Ascend ms = IsStrictlySortedBy (slice_cmp nat_cmp) (names ms)

ascend_at : (o : Ordering) (n m : NamedMode) (ms : List NamedMode) → slice_cmp nat_cmp n.name m.name ≡ o → Ascend (m ∷ ms) → Ascend (set_name n ms)
    → Ascend (match_ordering o (n ∷ m ∷ ms) (record { name = m.name; mode = n.mode } ∷ ms) (m ∷ set_name n ms))
unfolding IsStrictlySortedBy
ascend_at Less n m ms e h later = ((e, below_lower n.name m.name ms e h.0), h)
ascend_at Equal n m ms e h later = h
ascend_at Greater n m ms e h later = (below_set m.name n ms (nat_list_cmp_total.antisymm m.name n.name ∙ ap ordering_reverse e) h.0, later)

set_name_ascend : (n : NamedMode) (ms : List NamedMode) → Ascend ms → Ascend (set_name n ms)
unfolding IsStrictlySortedBy
set_name_ascend n [] h = (tt, tt)
set_name_ascend n (m ∷ ms) h = ascend_at (slice_cmp nat_cmp n.name m.name) n m ms refl h (set_name_ascend n ms h.1)

set_names_ascend : (ns ms : List NamedMode) → Ascend ms → Ascend (set_names ns ms)
set_names_ascend [] ms h = h
set_names_ascend (n ∷ ns) ms h = set_names_ascend ns (set_name n ms) (set_name_ascend n ms h)

chosen_ascend : (b : Bool) (x y : List NamedMode) → Ascend x → Ascend y → Ascend (if b then x else y)
chosen_ascend true x y p q = p
chosen_ascend false x y p q = q

overridden_ascend : (path : List ℕ) (os : List OverrideData) (ms : List NamedMode) → Ascend ms → Ascend (overridden path os ms)
overridden_ascend path [] ms h = h
overridden_ascend path (o ∷ os) ms h =
    overridden_ascend path os (with_override path o ms) (chosen_ascend (matches path o) (set_names o.rules ms) ms (set_names_ascend o.rules ms h) h)

pub names_ascend : (c : ConfigData) (path : List ℕ) → IsStrictlySortedBy (slice_cmp nat_cmp) (map (λ n. n.name) (modes_for c path))
unfolding modes_for IsStrictlySortedBy
names_ascend c path = overridden_ascend path c.overrides (set_names c.rules []) (set_names_ascend c.rules [] tt)
