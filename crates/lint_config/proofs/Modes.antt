-- Names in a map of names.
use Rattle.std.proofs.Common.{◌≡◌, ℕ, List, [], ◌∷◌, Some, if◌then◌else◌, Bor, Ordering, Less, Equal, Greater, nat_cmp, refl, ap₂, ◌∙◌}
use Rattle.std.specs.Cmp.Lexicographic.{slice_cmp}
use Rattle.std.specs.Map.{lookup}
use Rattle.std.specs.BTreeMap.{is_at, insert_entry}
use Rattle.std.specs.Ordering.{match_ordering}
use Rattle.std.proofs.lemmas.Map.Text.{is_eq-slice_cmp}
use Rattle.lint_config.specs.declared.config.Mode.{Mode}
use Rattle.lint_config.specs.ModesView.{modes_view}
use Rattle.lint_config.specs.Resolved.{mode_in, set_name}

pub mode_in-modes_view : (name : List ℕ) (es : List (Bor (List ℕ) × Mode)) → lookup (is_at (λ k. slice_cmp nat_cmp name k.now)) es ≡ mode_in name (modes_view es)
mode_in-modes_view name [] = refl
mode_in-modes_view name (e ∷ es) = ap₂ (λ b rest. if b then Some e.1 else rest) (is_eq-slice_cmp name e.0.now) (mode_in-modes_view name es)

view-match_ordering : (o : Ordering) (a b c : List (Bor (List ℕ) × Mode)) → modes_view (match_ordering o a b c) ≡ match_ordering o (modes_view a) (modes_view b) (modes_view c)
view-match_ordering Less a b c = refl
view-match_ordering Equal a b c = refl
view-match_ordering Greater a b c = refl

pub modes_view-insert_entry : (es : List (Bor (List ℕ) × Mode)) (k : Bor (List ℕ)) (m : Mode)
    → modes_view (insert_entry (λ x y. slice_cmp nat_cmp x.now y.now) es k m) ≡ set_name (record { name = k.now; mode = m }) (modes_view es)
modes_view-insert_entry [] k m = refl
modes_view-insert_entry (e ∷ es) k m = view-match_ordering (slice_cmp nat_cmp k.now e.0.now) _ _ _ ∙ rw (modes_view-insert_entry es k m)
