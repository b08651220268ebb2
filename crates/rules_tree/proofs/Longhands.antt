-- The first of a shorthand's longhands before it.
use Rattle.std.proofs.Common.{◌≡◌, ℕ, ◌+◌, ◌<◌, ◌≤◌, List, [], ◌∷◌, ◌++◌, Bool, true, false, length, map, filter, Some, None, refl, sym, ap, ap₂, ◌∙◌, arith, cond, slice_get, codes, Bor}
use Rattle.std.specs.Prelude.{Option, MatchOption, ◌&&◌, ◌||◌, not, bytes_eq, nat_lt, if◌then◌else◌}
use Rattle.std.specs.List.{list_any, list_all, find, range_with_len}
use Rattle.std.specs.Str.{chars}
use Rattle.std.proofs.lemmas.Bool.{and_parts, not-true, false≢true}
use Rattle.std.proofs.lemmas.Slice.Eq.{bytes_eq-Decides}
use Rattle.css_tree.specs.Mark.{is_text}
use Rattle.node_rows.specs.Nodes.{Node, text_of, parent_of}
use Rattle.node_rows.specs.NumberTrees.{tree_at}
use Rattle.node_store.specs.Forest.{Forest, IsForest}
use Rattle.node_store.specs.Fresh.{IsFresh}
use Rattle.rule_sites.specs.ContextAt.{earlier_of}
use Rattle.rule_sites.specs.Finding.{Finding, unmended}
use Rattle.rule_sites.specs.Keyframes.{lower}
use Rattle.rule_sites.specs.Laws.{stands_in}
use Rattle.rule_sites.proofs.Earlier.{earlier_are_smaller}
use Rattle.rules_tree.specs.DeclarationBlockNoShorthandPropertyOverrides.{after_longhands}
use Rattle.rules_tree.specs.FirstUses.{is_before, is_named, is_use}
use Rattle.rules_tree.specs.Names.{is_lower}
use Rattle.rules_tree.specs.Properties.{is_custom, props_of, quoted}
use Rattle.rules_tree.specs.Shorthands.{Shorthand, shorthands, longhands_in, longhands_of, is_longhand_of}
use Rattle.rules_tree.proofs.Finds.{only_before, first_is}
use Rattle.rules_tree.proofs.LowerWords.{same_by, text_is, lower_same}
use Rattle.rules_tree.proofs.SameName.{named_other}
use Rattle.rules_tree.proofs.Uses.{head_prop, prop_at, uses_same}

flip : (a b : List ℕ) → bytes_eq a b ≡ bytes_eq b a
flip a b = same_by _ _ (λ e. (bytes_eq-Decides b a).1 (sym ((bytes_eq-Decides a b).0 e))) (λ e. (bytes_eq-Decides a b).1 (sym ((bytes_eq-Decides b a).0 e)))

-- a name in lower case, of no custom property
abbrev is_good : List ℕ → Bool
is_good w = is_lower w && not (is_custom w)

text_named : (w q : List ℕ) → is_good w ≡ true → is_text w q ≡ is_named w q
text_named w q g =
    let p = and_parts (is_lower w) (not (is_custom w)) g in
    sym (named_other w q (not-true (is_custom w) p.1) ∙ (ap (λ z. bytes_eq z (lower q)) (lower_same w p.0) ∙ (flip w (lower q) ∙ text_is w q)))

texts_named : (ws : List (List ℕ)) (q : List ℕ) → list_all is_good ws ≡ true → list_any (λ w. is_text w q) ws ≡ list_any (λ w. is_named w q) ws
texts_named [] q g = refl
texts_named (w ∷ ws) q g = let p = and_parts (is_good w) (list_all is_good ws) g in ap₂ (λ a b. a || b) (text_named w q p.0) (texts_named ws q p.1)

found_good : (t : Shorthand → Bool) (ss : List Shorthand) → list_all (λ s. list_all is_good s.longhands) ss ≡ true → list_all is_good (longhands_in (find t ss)) ≡ true
found_good t [] g = refl
found_good t (s ∷ ss) g = let p = and_parts (list_all is_good s.longhands) (list_all (λ s. list_all is_good s.longhands) ss) g in by_test (t s) refl p.0 (found_good t ss p.1) where
  by_test : (b : Bool) → t s ≡ b → list_all is_good s.longhands ≡ true → list_all is_good (longhands_in (find t ss)) ≡ true → list_all is_good (longhands_in (find t (s ∷ ss))) ≡ true
  by_test true e h k = ap (λ v. list_all is_good (longhands_in (cond v (Some s) (find t ss)))) e ∙ h
  by_test false e h k = ap (λ v. list_all is_good (longhands_in (cond v (Some s) (find t ss)))) e ∙ k

longhands_good : (prop : List ℕ) → list_all is_good (longhands_of prop) ≡ true
longhands_good prop = found_good (λ s. is_text s.name prop) shorthands refl

any_map : (test : List ℕ → Bool) (names : List (Bor (List ℕ))) → list_any test (map (λ s. chars s.now) names) ≡ list_any (λ s. test (chars s.now)) names
any_map test [] = refl
any_map test (x ∷ xs) = ap (λ b. test (chars x.now) || b) (any_map test xs)

tests_same : (p : List ℕ) (names : List (Bor (List ℕ))) → map (λ s. chars s.now) names ≡ longhands_of p → (prop : List ℕ) → is_longhand_of p prop ≡ list_any (λ s. is_named (chars s.now) prop) names
tests_same p names e prop =
    texts_named (longhands_of p) prop (longhands_good p) ∙ (ap (list_any (λ w. is_named w prop)) (sym e) ∙ any_map (λ w. is_named w prop) names)

module _ (f : Forest) (i : IsForest f) (h : IsFresh f) (n : ℕ) (b : n < length f.nodes) (p : List ℕ) (names : List (Bor (List ℕ))) (e : map (λ s. chars s.now) names ≡ longhands_of p) (best : Option ℕ)
    (inv : (j : ℕ) → j ≤ length f.nodes → list_any (is_use f.nodes (parent_of f.nodes n) (λ prop. list_any (λ s. is_named (chars s.now) prop) names)) (range_with_len 0 j) ≡ is_before j best) where
  pub first_there : slice_get (filter (is_longhand_of p) (props_of (map (tree_at f.nodes) (earlier_of f.nodes n)))) 0 ≡ prop_at f.nodes (only_before n best)
  first_there =
      ap (λ z. slice_get (filter (is_longhand_of p) (props_of (map (tree_at f.nodes) z))) 0) (earlier_are_smaller f i h n b)
      ∙ (head_prop f.nodes (is_longhand_of p) (stands_in f.nodes (parent_of f.nodes n)) (range_with_len 0 n)
      ∙ ap (prop_at f.nodes) (first_is (is_use f.nodes (parent_of f.nodes n) (is_longhand_of p)) n best
      (λ j k. uses_same f.nodes (parent_of f.nodes n) (is_longhand_of p) (λ prop. list_any (λ s. is_named (chars s.now) prop) names) (tests_same p names e) (range_with_len 0 j) ∙ inv j (omega arith))))

pub none_found : (o x : Option (List ℕ)) → x ≡ o → o ≡ None → None ≡ x
none_found o x e h = sym (e ∙ h)

pub some_found : (r : Option (Bor (List ℕ))) (o x : Option (List ℕ)) → x ≡ o → MatchOption r (o ≡ None) (λ s. o ≡ Some (chars s.now)) → MatchOption r (None ≡ x) (λ s. Some (chars s.now) ≡ x)
some_found None o x e h = sym (e ∙ h)
some_found (Some s) o x e h = sym (e ∙ h)

-- what is found after longhands, by the first of them
pub after_none : (at : ℕ) (prop : List ℕ) (fs : List (List ℕ)) → None ≡ slice_get fs 0 → [] ≡ after_longhands at prop fs
after_none at prop [] e = refl
after_none at prop (x ∷ xs) e = cc

pub after_some : (at : ℕ) (prop first : List ℕ) (fs : List (List ℕ)) → Some first ≡ slice_get fs 0
    → unmended at (codes "Unexpected shorthand " ++ (quoted prop ++ (codes " after " ++ quoted first))) ∷ [] ≡ after_longhands at prop fs
after_some at prop first [] e = cc
after_some at prop first (x ∷ xs) e = let k : first ≡ x = cc in ap (λ z. unmended at (codes "Unexpected shorthand " ++ (quoted prop ++ (codes " after " ++ quoted z))) ∷ []) k
