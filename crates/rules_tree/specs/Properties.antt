-- The properties of declarations.
use Rattle.std.specs.Prelude.{ℕ, List, [], ◌∷◌, ◌++◌, Bool, codes, bytes_eq, if◌then◌else◌, Option, Some, None}
use Rattle.css_text.specs.Forms.{begins_with}
use Rattle.css_tree.specs.Tree.{Tree}
use Rattle.css_tree.specs.declared.node.NodeText.{NodeText}
use Rattle.css_tree.specs.declared.node.NodeText.TheVariants as N
use Rattle.rule_sites.specs.Keyframes.{lower}

-- a declaration's property as it is written
abbrev pub prop_of : NodeText → Option (List ℕ)
prop_of (N.Declaration before prop between value important important_raw tail) = Some prop
prop_of _ = None

abbrev pub and_prop : Option (List ℕ) → List (List ℕ) → List (List ℕ)
and_prop None props = props
and_prop (Some prop) props = prop ∷ props

-- the properties of those that are declarations, in their order
abbrev pub props_of : List Tree → List (List ℕ)
props_of [] = []
props_of (t ∷ ts) = and_prop (prop_of t.text) (props_of ts)

abbrev pub is_custom : List ℕ → Bool
is_custom prop = begins_with (codes "--") prop

-- equal in lower ASCII case
abbrev pub is_same : List ℕ → List ℕ → Bool
is_same p q = bytes_eq (lower p) (lower q)

-- a property's name as it is compared: in lower ASCII case, but a custom property's as it is written
abbrev pub folded : List ℕ → List ℕ
folded prop = if is_custom prop then prop else lower prop

abbrev pub quoted : List ℕ → List ℕ
quoted s = 34 ∷ (s ++ 34 ∷ [])
