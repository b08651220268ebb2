use Rattle.std.proofs.Common.{◌≡◌, ℕ, List, [], ◌∷◌, Bool, true, false, map, refl, sym, ap, ap₂, ◌∙◌, rules}
use Rattle.std.specs.Prelude.{if◌then◌else◌}
use Rattle.std.specs.Char.{to_ascii_lowercase}
use Rattle.std.specs.Cmp.Lexicographic.{slice_cmp}
use Rattle.std.specs.Ordering.{nat_cmp}
use Rattle.std.specs.Str.{chars}
use Rattle.std.proofs.lemmas.Iterator.{YieldsList-from_map, YieldsList-from_chars}
use Rattle.std.proofs.lemmas.Iterator.Consumers.{YieldsList-at}
use Rattle.std.proofs.lemmas.Iterator.Search.{cmp_from_yields_List}
use borrow.Author.Tests.{tests}
use Rattle.rule_sites.specs.Keyframes.{lower}
use Rattle.rules_tree.specs.Properties.{is_custom, folded}
use Rattle.rules_tree.proofs.property.compare_names.Goals as goal

map_same : (s : List ℕ) → map (λ (x : ℕ). x) s ≡ s
map_same [] = refl
map_same (x ∷ xs) = ap (λ z. x ∷ z) (map_same xs)

fold_map : (v : Bool) (s : List ℕ) → v ≡ is_custom s → map (λ (x : ℕ). if v then x else to_ascii_lowercase x) s ≡ folded s
fold_map true s e = map_same s ∙ ap (λ b. if b then s else lower s) e
fold_map false s e = ap (λ b. if b then s else lower s) e

pub returns : goal.returns
returns c =
    let va = c.is_custom-in_a.result in
    let vb = c.is_custom-in_b.result in
    cmp_from_yields_List (λ x y. y ≡ x) _ nat_cmp _ c.cmp.ensures.ran
    (YieldsList-from_map _ (λ x. if va then x else to_ascii_lowercase x) (YieldsList-from_chars c.args.a.now c.utf8.a cc) c.map-left.ensures.closure (λ x r q k. search (rules, tests)))
    (λ it e. YieldsList-at e (YieldsList-from_map _ (λ x. if vb then x else to_ascii_lowercase x) (YieldsList-from_chars c.args.b.now c.utf8.b cc) c.map-right.ensures.closure (λ x r q k. search (rules, tests))))
    (λ x y. refl)
    ∙ ap₂ (slice_cmp nat_cmp) (fold_map va (chars c.args.a.now) c.is_custom-in_a.ensures) (fold_map vb (chars c.args.b.now) c.is_custom-in_b.ensures)
