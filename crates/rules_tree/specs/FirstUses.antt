-- The first declaration of each property in each block, by the numbers of a sheet that was just read.
use Rattle.std.specs.Prelude.{◌≡◌, ℕ, List, Bool, false, ◌&&◌, bytes_eq, nat_lt, Option, Some, None}
use Rattle.std.specs.BTreeMap.{BTreeMap, get}
use Rattle.std.specs.Cmp.Lexicographic.{slice_cmp}
use Rattle.std.specs.List.{find, range_with_len}
use Rattle.std.specs.Ordering.{nat_cmp, on, then_cmp}
use Rattle.std.specs.Str.{chars}
use Rattle.std.specs.declared.cmp.Ordering.{Ordering}
use Rattle.node_rows.specs.Nodes.{Node, text_of, parent_of}
use Rattle.rule_sites.specs.Laws.{stands_in}
use Rattle.rules_tree.specs.Properties.{prop_of, folded}
use Rattle.rules_tree.specs.declared.property.Property.{Property}

-- properties by their blocks, and then by their names as they are compared
abbrev pub property_cmp : Property → Property → Ordering
property_cmp = then_cmp (on (λ p. p.block) nat_cmp) (on (λ p. folded (chars p.name.now)) (slice_cmp nat_cmp))

-- a declaration whose property passes the test
abbrev pub has_prop : (List ℕ → Bool) → Option (List ℕ) → Bool
has_prop test None = false
has_prop test (Some prop) = test prop

-- m stands in that block, and is a declaration of a property that passes the test
abbrev pub is_use : List Node → Option ℕ → (List ℕ → Bool) → ℕ → Bool
is_use ns block test m = stands_in ns block m && has_prop test (prop_of (text_of ns m))

-- one name, as names are compared
abbrev pub is_named : List ℕ → List ℕ → Bool
is_named name prop = bytes_eq (folded name) (folded prop)

-- the property of node n with its block, or none where n is no declaration in a block
abbrev pub IsPropertyAt : List Node → ℕ → Option Property → Type 0
IsPropertyAt ns n None = (block : Option ℕ) (test : List ℕ → Bool) → is_use ns block test n ≡ false
IsPropertyAt ns n (Some p) = (parent_of ns n ≡ Some p.block) × (prop_of (text_of ns n) ≡ Some (chars p.name.now))

-- of each property in each block, the first declaration among the nodes before n
abbrev pub AreFirstUses : List Node → BTreeMap Property ℕ → ℕ → Type 0
AreFirstUses ns uses n = (p : Property) → get property_cmp uses p ≡ find (is_use ns (Some p.block) (is_named (chars p.name.now))) (range_with_len 0 n)

-- a node that was found stands before n
abbrev pub is_before : ℕ → Option ℕ → Bool
is_before n None = false
is_before n (Some k) = nat_lt k n
