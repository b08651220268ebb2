-- The map of first declarations: one node more, and what it says of the siblings before a node.
use Rattle.std.proofs.Common.{◌≡◌, ℕ, zero, suc, ◌+◌, ◌<◌, ◌≤◌, List, [], ◌∷◌, ◌++◌, Bool, true, false, length, map, filter, Some, None, refl, sym, ap, ap₂, ◌∙◌, arith, inl, inr, ◌⊎◌, cond, eqb, slice_get}
use Rattle.std.specs.Prelude.{Option, ◌&&◌, ◌||◌, bytes_eq, nat_lt, is_some}
use Rattle.std.specs.BTreeMap.{BTreeMap, get, Updates}
use Rattle.std.specs.Cmp.Lexicographic.{slice_cmp}
use Rattle.std.specs.List.{list_any, find, range_with_len}
use Rattle.std.specs.Ordering.{nat_cmp, ordering_then, is_eq}
use Rattle.std.specs.Str.{chars}
use Rattle.std.specs.declared.cmp.Ordering.{Ordering}
use Rattle.std.specs.declared.cmp.Ordering.TheVariants.{Less, Equal, Greater}
use Rattle.std.proofs.lemmas.Bool.{false≢true, eqb-true, eq-eqb, and_from, and_left, and_right, false_from_ne_true, cond-true, cond-false}
use Rattle.std.proofs.lemmas.Bool.Decides.{nat_tests}
use Rattle.std.proofs.lemmas.Map.Text.{is_eq-slice_cmp}
use Rattle.std.proofs.lemmas.Slice.Eq.{bytes_eq-Decides}
use Rattle.node_rows.specs.Nodes.{Node, text_of, parent_of}
use Rattle.node_rows.specs.NumberTrees.{tree_at}
use Rattle.node_rows.specs.Sound.{is_number}
use Rattle.node_store.specs.Forest.{Forest, IsForest}
use Rattle.node_store.specs.Fresh.{IsFresh}
use Rattle.rule_sites.specs.ContextAt.{earlier_of}
use Rattle.rule_sites.specs.Laws.{stands_in}
use Rattle.rule_sites.proofs.Earlier.{earlier_are_smaller}
use Rattle.rules_tree.specs.FirstUses.{property_cmp, has_prop, is_use, is_named, IsPropertyAt, AreFirstUses, is_before}
use Rattle.rules_tree.specs.Properties.{prop_of, props_of, folded}
use Rattle.rules_tree.specs.declared.property.Property.{Property}
use Rattle.rules_tree.proofs.Finds.{any_below, passed, kept, added}

is_eq_then : (o r : Ordering) → is_eq (ordering_then o r) ≡ (is_eq o && is_eq r)
is_eq_then Less r = refl
is_eq_then Equal r = refl
is_eq_then Greater r = refl

same_number : (a b : ℕ) → eqb a b ≡ true → is_eq (nat_cmp a b) ≡ true
same_number a b e = grind (arith, nat_tests)

other_number : (a b : ℕ) → eqb a b ≡ false → is_eq (nat_cmp a b) ≡ false
other_number a b e = grind (arith, nat_tests)

-- two properties compare as equal exactly where they are one
abbrev OneKey : ℕ → ℕ → List ℕ → List ℕ → Type 0
OneKey a b x y =
    ((a ≡ b) × (x ≡ y) × (is_eq (ordering_then (nat_cmp a b) (slice_cmp nat_cmp x y)) ≡ true) × ((eqb a b && bytes_eq y x) ≡ true))
    ⊎ ((is_eq (ordering_then (nat_cmp a b) (slice_cmp nat_cmp x y)) ≡ false) × ((eqb a b && bytes_eq y x) ≡ false))

key_by : (u v : Bool) (a b : ℕ) (x y : List ℕ) → eqb a b ≡ u → bytes_eq x y ≡ v → OneKey a b x y
key_by true true a b x y e h =
    let same : x ≡ y = (bytes_eq-Decides x y).0 h in
    inl (eqb-true a b e, same, is_eq_then (nat_cmp a b) (slice_cmp nat_cmp x y) ∙ and_from _ _ (same_number a b e) (is_eq-slice_cmp x y ∙ h), and_from _ _ e ((bytes_eq-Decides y x).1 (sym same)))
key_by true false a b x y e h =
    inr (is_eq_then (nat_cmp a b) (slice_cmp nat_cmp x y) ∙ and_right _ _ (is_eq-slice_cmp x y ∙ h), and_right _ _ (false_from_ne_true (bytes_eq y x) (λ k. false≢true (sym h ∙ (bytes_eq-Decides x y).1 (sym ((bytes_eq-Decides y x).0 k))))))
key_by false v a b x y e h =
    inr (is_eq_then (nat_cmp a b) (slice_cmp nat_cmp x y) ∙ and_left _ _ (other_number a b e), and_left _ _ e)

one_key : (a b : ℕ) (x y : List ℕ) → OneKey a b x y
one_key a b x y = key_by (eqb a b) (bytes_eq x y) a b x y refl refl

module _ (ns : List Node) where
  abbrev uses_of : Property → ℕ → Bool
  uses_of p = is_use ns (Some p.block) (is_named (chars p.name.now))

  -- node n is a declaration of the property
  use_at : (n : ℕ) (k p : Property) → parent_of ns n ≡ Some k.block → prop_of (text_of ns n) ≡ Some (chars k.name.now) → uses_of p n ≡ (eqb k.block p.block && is_named (chars p.name.now) (chars k.name.now))
  use_at n k p e h =
      ap (λ o. is_number o p.block && has_prop (is_named (chars p.name.now)) (prop_of (text_of ns n))) e
      ∙ ap (λ o. eqb k.block p.block && has_prop (is_named (chars p.name.now)) o) h

  found_same : (k p : Property) → k.block ≡ p.block → folded (chars k.name.now) ≡ folded (chars p.name.now) → (xs : List ℕ) → find (uses_of k) xs ≡ find (uses_of p) xs
  found_same k p e h xs =
      ap (λ b. find (λ m. is_number (parent_of ns m) b && has_prop (λ prop. bytes_eq (folded (chars k.name.now)) (folded prop)) (prop_of (text_of ns m))) xs) e
      ∙ ap (λ f. find (λ m. is_number (parent_of ns m) p.block && has_prop (λ prop. bytes_eq f (folded prop)) (prop_of (text_of ns m))) xs) h

  module _ (uses : BTreeMap Property ℕ) (n : ℕ) (inv : AreFirstUses ns uses n) where
    pub no_use : IsPropertyAt ns n None → AreFirstUses ns uses (n + 1)
    no_use h p = inv p ∙ passed (uses_of p) n (h (Some p.block) (is_named (chars p.name.now)))

    some_is : (o : Option ℕ) → is_some o ≡ true → (v : ℕ) × (o ≡ Some v)
    some_is None e = absurd (false≢true e)
    some_is (Some v) e = (v, refl)

    module _ (k : Property) (at : IsPropertyAt ns n (Some k)) where
      later_by : (p : Property) → OneKey k.block p.block (folded (chars k.name.now)) (folded (chars p.name.now)) → (v : ℕ) → get property_cmp uses k ≡ Some v → get property_cmp uses p ≡ find (uses_of p) (range_with_len 0 (n + 1))
      later_by p (inl w) v e = inv p ∙ kept (uses_of p) n v (sym (found_same k p w.0 w.1 (range_with_len 0 n)) ∙ (sym (inv k) ∙ e))
      later_by p (inr w) v e = inv p ∙ passed (uses_of p) n (use_at n k p at.0 at.1 ∙ w.1)

      -- a later declaration of a property
      pub later_use : is_some (get property_cmp uses k) ≡ true → AreFirstUses ns uses (n + 1)
      later_use e p = let w = some_is (get property_cmp uses k) e in later_by p (one_key k.block p.block (folded (chars k.name.now)) (folded (chars p.name.now))) w.0 w.1

      first_by : (new : BTreeMap Property ℕ) → Updates property_cmp uses new k (Some n) → get property_cmp uses k ≡ None → (p : Property) → OneKey k.block p.block (folded (chars k.name.now)) (folded (chars p.name.now)) → get property_cmp new p ≡ find (uses_of p) (range_with_len 0 (n + 1))
      first_by new u e p (inl w) =
          u.0 p ∙ (cond-true _ (Some n) (get property_cmp uses p) w.2
          ∙ added (uses_of p) n (sym (found_same k p w.0 w.1 (range_with_len 0 n)) ∙ (sym (inv k) ∙ e)) (use_at n k p at.0 at.1 ∙ w.3))
      first_by new u e p (inr w) =
          u.0 p ∙ (cond-false _ (Some n) (get property_cmp uses p) w.0 ∙ (inv p ∙ passed (uses_of p) n (use_at n k p at.0 at.1 ∙ w.1)))

      -- the first declaration of a property
      pub first_use : (new : BTreeMap Property ℕ) → is_some (get property_cmp uses k) ≡ false → Updates property_cmp uses new k (Some n) → AreFirstUses ns new (n + 1)
      first_use new e u p = first_by new u (none_is (get property_cmp uses k) e) p (one_key k.block p.block (folded (chars k.name.now)) (folded (chars p.name.now))) where
        none_is : (o : Option ℕ) → is_some o ≡ false → o ≡ None
        none_is None h = refl
        none_is (Some v) h = absurd (false≢true (sym h))

  -- in no block nothing is found
  pub no_block : (test : List ℕ → Bool) (xs : List ℕ) → None ≡ find (is_use ns None test) xs
  no_block test [] = refl
  no_block test (x ∷ xs) = no_block test xs

  -- the property of a node that was found
  abbrev pub prop_at : Option ℕ → Option (List ℕ)
  prop_at None = None
  prop_at (Some m) = prop_of (text_of ns m)

  module _ (f : List ℕ → Bool) (t : ℕ → Bool) where
    any_by : (b : Bool) (o : Option (List ℕ)) (x : ℕ) (xs : List ℕ) → t x ≡ b → prop_of (text_of ns x) ≡ o
        → list_any f (props_of (map (tree_at ns) (filter t xs))) ≡ list_any (λ m. t m && has_prop f (prop_of (text_of ns m))) xs
        → list_any f (props_of (map (tree_at ns) (filter t (x ∷ xs)))) ≡ list_any (λ m. t m && has_prop f (prop_of (text_of ns m))) (x ∷ xs)
    any_by false o x xs e k h = rw e h
    any_by true None x xs e k h = rw (e, k) h
    any_by true (Some p) x xs e k h = rw (e, k) (ap (λ z. f p || z) h)

    any_prop : (xs : List ℕ) → list_any f (props_of (map (tree_at ns) (filter t xs))) ≡ list_any (λ m. t m && has_prop f (prop_of (text_of ns m))) xs
    any_prop [] = refl
    any_prop (x ∷ xs) = any_by (t x) (prop_of (text_of ns x)) x xs refl refl (any_prop xs)

    head_by : (b c : Bool) (o : Option (List ℕ)) (x : ℕ) (xs : List ℕ) → t x ≡ b → prop_of (text_of ns x) ≡ o → has_prop f o ≡ c
        → slice_get (filter f (props_of (map (tree_at ns) (filter t xs)))) 0 ≡ prop_at (find (λ m. t m && has_prop f (prop_of (text_of ns m))) xs)
        → slice_get (filter f (props_of (map (tree_at ns) (filter t (x ∷ xs))))) 0 ≡ prop_at (find (λ m. t m && has_prop f (prop_of (text_of ns m))) (x ∷ xs))
    head_by false c o x xs e k j h = rw e h
    head_by true c None x xs e k j h = rw (e, k) h
    head_by true false (Some p) x xs e k j h = rw (e, k, j) h
    head_by true true (Some p) x xs e k j h = rw (e, k, j) (sym k)

    pub head_prop : (xs : List ℕ) → slice_get (filter f (props_of (map (tree_at ns) (filter t xs)))) 0 ≡ prop_at (find (λ m. t m && has_prop f (prop_of (text_of ns m))) xs)
    head_prop [] = refl
    head_prop (x ∷ xs) = head_by (t x) (has_prop f (prop_of (text_of ns x))) (prop_of (text_of ns x)) x xs refl refl refl (head_prop xs)

-- of the siblings before a node
module _ (f : Forest) (i : IsForest f) (h : IsFresh f) (n : ℕ) (b : n < length f.nodes) (test : List ℕ → Bool) where
  pub some_earlier : list_any test (props_of (map (tree_at f.nodes) (earlier_of f.nodes n))) ≡ list_any (is_use f.nodes (parent_of f.nodes n) test) (range_with_len 0 n)
  some_earlier =
      ap (λ z. list_any test (props_of (map (tree_at f.nodes) z))) (earlier_are_smaller f i h n b)
      ∙ any_prop f.nodes test (stands_in f.nodes (parent_of f.nodes n)) (range_with_len 0 n)

  pub earlier_found : is_before n (find (is_use f.nodes (parent_of f.nodes n) test) (range_with_len 0 (length f.nodes))) ≡ list_any test (props_of (map (tree_at f.nodes) (earlier_of f.nodes n)))
  earlier_found = sym (some_earlier ∙ any_below (is_use f.nodes (parent_of f.nodes n) test) n (length f.nodes) (omega arith))

-- one of two tests
shuffle : (a b c d : Bool) → ((a || b) || (c || d)) ≡ ((a || c) || (b || d))
shuffle true b c d = refl
shuffle false true true d = refl
shuffle false true false d = refl
shuffle false false true d = refl
shuffle false false false d = refl

module _ (ns : List Node) (block : Option ℕ) (f g h : List ℕ → Bool) (e : (prop : List ℕ) → h prop ≡ (f prop || g prop)) where
  has_either : (o : Option (List ℕ)) → has_prop h o ≡ (has_prop f o || has_prop g o)
  has_either None = refl
  has_either (Some prop) = e prop

  use_either : (t : Bool) (o : Option (List ℕ)) → (t && has_prop h o) ≡ ((t && has_prop f o) || (t && has_prop g o))
  use_either true o = has_either o
  use_either false o = refl

  pub uses_either : (xs : List ℕ) → list_any (is_use ns block h) xs ≡ (list_any (is_use ns block f) xs || list_any (is_use ns block g) xs)
  uses_either [] = refl
  uses_either (x ∷ xs) =
      ap₂ (λ a b. a || b) (use_either (stands_in ns block x) (prop_of (text_of ns x))) (uses_either xs)
      ∙ shuffle (is_use ns block f x) (is_use ns block g x) (list_any (is_use ns block f) xs) (list_any (is_use ns block g) xs)

module _ (ns : List Node) (block : Option ℕ) (f g : List ℕ → Bool) (e : (prop : List ℕ) → f prop ≡ g prop) where
  has_same : (o : Option (List ℕ)) → has_prop f o ≡ has_prop g o
  has_same None = refl
  has_same (Some prop) = e prop

  pub uses_same : (xs : List ℕ) → list_any (is_use ns block f) xs ≡ list_any (is_use ns block g) xs
  uses_same [] = refl
  uses_same (x ∷ xs) = ap₂ (λ a b. (stands_in ns block x && a) || b) (has_same (prop_of (text_of ns x))) (uses_same xs)

-- of no test
pub uses_none : (ns : List Node) (block : Option ℕ) (xs : List ℕ) → list_any (is_use ns block (λ prop. false)) xs ≡ false
uses_none ns block [] = refl
uses_none ns block (x ∷ xs) = ap₂ (λ a b. a || b) (none (stands_in ns block x) (prop_of (text_of ns x))) (uses_none ns block xs) where
  none : (t : Bool) (o : Option (List ℕ)) → (t && has_prop (λ prop. false) o) ≡ false
  none true None = refl
  none true (Some prop) = refl
  none false o = refl
