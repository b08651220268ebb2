-- What the definitions give on small cases.
use Rattle.std.specs.Prelude.{◌≡◌, ℕ, List, [], ◌∷◌, true, false, Option, Some, None, map, codes}
use Rattle.std.specs.List.{flat_map, range_with_len}
use Rattle.css_tree.specs.declared.node.NodeText.{NodeText}
use Rattle.css_tree.specs.declared.node.NodeText.TheVariants as N
use Rattle.css_tree.specs.Tree.{none, node, Tree}
use Rattle.node_rows.specs.Nodes.{Node}
use Rattle.lint_config.specs.declared.rule.Rule.{Rule}
use Rattle.lint_config.specs.declared.rule.Rule.TheVariants.{BlockNoEmpty, CommentNoEmpty}
use Rattle.lint_config.specs.declared.setting.Choice.TheVariants.{On}
use Rattle.lint_config.specs.declared.setting.Severity.TheVariants.{Error}
use Rattle.lint_config.specs.declared.setting.Setting.{Setting}
use Rattle.lint_config.specs.declared.found.Site.{Site}
use Rattle.rule_sites.specs.Context.{contexts}
use Rattle.rule_sites.specs.ContextAt.{earlier_of, ancestors_of, context_at}
use Rattle.rule_sites.specs.Blocks.{is_block, brace_byte, value_byte}
use Rattle.rule_sites.specs.Keyframes.{is_keyframes_name}
use Rattle.rule_sites.specs.Finding.{Finds, unmended, all_sites}
use Rattle.rule_sites.specs.Ordered.{is_up_to_site}

abbrev pub rule : List ℕ → List ℕ → NodeText
rule selector between = N.Rule None (record { source = selector; clean = selector }) between (record { semicolon = false; after = None })

abbrev pub declaration : List ℕ → List ℕ → List ℕ → NodeText
declaration prop between value = N.Declaration None prop between (record { source = value; clean = value }) false [] []

abbrev pub name_of : NodeText → List ℕ
name_of (N.Rule before selector between block) = selector.source
name_of _ = []

abbrev pub names : List Tree → List ℕ
names ts = flat_map (λ (t : Tree). name_of t.text) ts

-- r with the children a and d, and a with the children b and c
abbrev pub family : Tree
family = record { text = rule (codes "r") []; span = None; children = node (rule (codes "a") []) None (node (rule (codes "b") []) None none (node (rule (codes "c") []) None none none)) (node (rule (codes "d") []) None none none) }

abbrev pub family_node : List ℕ → Option ℕ → List ℕ → Node
family_node name parent children = record { text = rule name []; span = None; parent = parent; children = children; dirty = true }

-- the same by number
abbrev pub family_nodes : List Node
family_nodes = family_node (codes "r") None (1 ∷ 4 ∷ []) ∷ family_node (codes "a") (Some 0) (2 ∷ 3 ∷ []) ∷ family_node (codes "b") (Some 1) [] ∷ family_node (codes "c") (Some 1) [] ∷ family_node (codes "d") (Some 0) [] ∷ []

abbrev pub Around : Type 0
Around = (map (λ c. names (c.node ∷ [])) (contexts family) ≡ codes "r" ∷ codes "a" ∷ codes "b" ∷ codes "c" ∷ codes "d" ∷ [])
    × (map (λ c. names c.earlier) (contexts family) ≡ [] ∷ [] ∷ [] ∷ codes "b" ∷ codes "a" ∷ [])
    × (map (λ c. names c.ancestors) (contexts family) ≡ [] ∷ codes "r" ∷ codes "ar" ∷ codes "ar" ∷ codes "r" ∷ [])

abbrev pub ByNumber : Type 0
ByNumber = (earlier_of family_nodes 3 ≡ 2 ∷ [])
    × (earlier_of family_nodes 4 ≡ 1 ∷ [])
    × (ancestors_of family_nodes 3 ≡ 1 ∷ 0 ∷ [])
    × (map (context_at family_nodes) (range_with_len 0 5) ≡ contexts family)

-- the text starts at byte 10; é takes two bytes
abbrev pub at_ten : NodeText → Tree
at_ten text = record { text = text; span = Some (record { start = 10; end = 20 }); children = none }

abbrev pub Bytes : Type 0
Bytes = (brace_byte (at_ten (rule (233 ∷ []) (codes " "))) ≡ 13)
    × (value_byte (at_ten (declaration (codes "top") (codes ": ") (codes "0"))) ≡ 15)
    × (is_block (declaration (codes "top") (codes ": ") (codes "0")) ≡ false)
    × (is_block (N.AtRule None (codes "media") [] (record { source = []; clean = [] }) [] None) ≡ false)

abbrev pub KeyframesNames : Type 0
KeyframesNames = (is_keyframes_name (codes "KeyFrames") ≡ true)
    × (is_keyframes_name (codes "-WebKit-keyframes") ≡ true)
    × (is_keyframes_name (codes "-keyframes") ≡ false)
    × (is_keyframes_name (codes "--keyframes") ≡ false)
    × (is_keyframes_name (codes "-o2-keyframes") ≡ false)
    × (is_keyframes_name (codes "-o-keyframes-x") ≡ false)

abbrev pub on : Rule → Setting
on rule = record { rule = rule; choice = On; severity = Error }

-- each rule finds each number, and says a
abbrev pub find_each : Finds ℕ
find_each rule choice n = unmended n (codes "a") ∷ []

-- rule by rule
abbrev pub RuleByRule : Type 0
RuleByRule = (map (λ site. site.at) (all_sites find_each [] (5 ∷ 3 ∷ []) (on BlockNoEmpty ∷ on CommentNoEmpty ∷ [])) ≡ 5 ∷ 3 ∷ 5 ∷ 3 ∷ [])
    × (map (λ site. site.rule) (all_sites find_each [] (5 ∷ 3 ∷ []) (on BlockNoEmpty ∷ on CommentNoEmpty ∷ [])) ≡ BlockNoEmpty ∷ BlockNoEmpty ∷ CommentNoEmpty ∷ CommentNoEmpty ∷ [])

abbrev pub site : Rule → ℕ → List ℕ → Site
site rule at text = record { rule = rule; at = at; place = record { line = 1; column = 1 }; text = text; repair = None }

abbrev pub InOrder : Type 0
InOrder = (is_up_to_site (site CommentNoEmpty 3 (codes "b")) (site BlockNoEmpty 4 (codes "a")) ≡ true)
    × (is_up_to_site (site CommentNoEmpty 3 (codes "a")) (site BlockNoEmpty 3 (codes "b")) ≡ false)
    × (is_up_to_site (site BlockNoEmpty 3 (codes "a")) (site BlockNoEmpty 3 (codes "ab")) ≡ true)
    × (is_up_to_site (site BlockNoEmpty 3 (codes "b")) (site BlockNoEmpty 3 (codes "ab")) ≡ false)
