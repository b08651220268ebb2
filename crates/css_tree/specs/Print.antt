-- Printing, by recursion on the plain tree. The forms of bodies are CSS's; the semicolon scheme and what is
-- printed for absent raws are this project's own.
use Rattle.std.specs.Prelude.{ℕ, ◌+◌, ◌*◌, ◌==◌, List, [], ◌∷◌, ◌++◌, Bool, true, false, Option, Some, None, filter, replicate, if◌then◌else◌}
use Rattle.css_text.specs.Characters.{is_space}
use Rattle.css_text.specs.Ahead.{byte_len}
use Rattle.css_tree.specs.declared.node.Block.{Block}
use Rattle.css_tree.specs.declared.node.NodeText.{NodeText}
use Rattle.css_tree.specs.declared.node.NodeText.TheVariants.{Root, AtRule, Rule, Declaration, Comment}
use Rattle.css_tree.specs.Tree.{Trees, none, node, Tree}
use Rattle.css_tree.specs.Parts.{block_of, before_of, semicolon_text}

-- what a container says of its children: their depth, which is the number of their ancestors but the root, so 0 for the root's children as for
-- the top of a loose tree; whether its last declaration or blockless at-rule has a `;` behind it; and the `before` of its first child
pub record Container : Type 0 where
  pub depth : ℕ
  pub semicolon : Bool
  pub first_before : Option (List ℕ)

-- the depth below a node of that depth
abbrev pub depth_below : ℕ → NodeText → ℕ
depth_below depth (Root bom block) = 0
depth_below depth text = depth + 1

abbrev pub is_ended : Option Block → Bool
is_ended None = false
is_ended (Some block) = block.semicolon

abbrev pub before_first : Trees → Option (List ℕ)
before_first none = None
before_first (node text span children rest) = before_of text

abbrev pub container_of : ℕ → NodeText → Trees → Container
container_of depth text children = record { depth = depth_below depth text; semicolon = is_ended (block_of text); first_before = before_first children }

-- a line feed, and four spaces for each level
abbrev pub new_line : ℕ → List ℕ
new_line depth = 10 ∷ replicate (4 * depth) 32

-- the white space of a `before`, or a new line where there is none
abbrev pub like_first : ℕ → Option (List ℕ) → List ℕ
like_first depth (Some before) = filter is_space before
like_first depth None = new_line depth

-- what stands before a child, the first one or another
abbrev pub before_text : Container → Bool → Option (List ℕ) → List ℕ
before_text c is_first (Some before) = before
before_text c true None = if c.depth == 0 then [] else new_line c.depth
before_text c false None = like_first c.depth c.first_before

-- what stands behind the children of a container of that depth
abbrev pub after_text : ℕ → Option (List ℕ) → Trees → List ℕ
after_text depth (Some after) children = after
after_text depth None none = []
after_text depth None (node text span children rest) = new_line depth

abbrev pub brace_open : Option Block → List ℕ
brace_open None = []
brace_open (Some block) = 123 ∷ []

-- the body of a node up to its children
abbrev pub opening : NodeText → List ℕ
opening (Root bom block) = if bom then 0xfeff ∷ [] else []
opening (AtRule before name after_name params between block) = 64 ∷ (name ++ (after_name ++ (params.source ++ (between ++ brace_open block))))
opening (Rule before selector between block) = selector.source ++ (between ++ 123 ∷ [])
opening (Declaration before prop between value important important_raw tail) = prop ++ (between ++ (value.source ++ ((if important then important_raw else []) ++ tail)))
opening (Comment before left text right) = 47 ∷ 42 ∷ (left ++ (text ++ (right ++ 42 ∷ 47 ∷ [])))

abbrev pub closed_block : ℕ → Option Block → Trees → List ℕ
closed_block depth None children = []
closed_block depth (Some block) children = after_text depth block.after children ++ 125 ∷ []

-- the body of a node behind its children
abbrev pub closing : ℕ → NodeText → Trees → List ℕ
closing depth (Root bom block) children = after_text depth block.after children
closing depth text children = closed_block depth (block_of text) children

-- a declaration, or an at-rule without a block
abbrev pub takes_semicolon : NodeText → Bool
takes_semicolon (AtRule before name after_name params between None) = true
takes_semicolon (Declaration before prop between value important important_raw tail) = true
takes_semicolon _ = false

abbrev pub is_comment : NodeText → Bool
is_comment (Comment before left text right) = true
is_comment _ = false

-- all of these are comments
abbrev pub are_comments : Trees → Bool
are_comments none = true
are_comments (node text span children rest) = if is_comment text then are_comments rest else false

-- the `;` behind a child that these follow: at the last one that isn't a comment only where the container says so
abbrev pub semicolon_after : Container → NodeText → Trees → List ℕ
semicolon_after c text rest = if takes_semicolon text then (if are_comments rest then semicolon_text c.semicolon else 59 ∷ []) else []

-- children from the first one on, or from a later one on
unfoldable pub print_children : Container → Bool → Trees → List ℕ
print_children c is_first none = []
print_children c is_first (node text span children rest) =
    before_text c is_first (before_of text)
    ++ (opening text ++ (print_children (container_of c.depth text children) true children ++ (closing c.depth text children
    ++ (semicolon_after c text rest ++ print_children c false rest))))

-- a node of that depth without its `before` and the `;` behind it
unfoldable pub body : ℕ → Tree → List ℕ
body depth t = opening t.text ++ (print_children (container_of depth t.text t.children) true t.children ++ closing depth t.text t.children)

-- a whole sheet
unfoldable pub print : Tree → List ℕ
print t = body 0 t

-- The bytes at which the bodies of nodes start, in the order of printing: of children that are printed from the
-- byte `at` on.
unfoldable pub starts_children : ℕ → Container → Bool → Trees → List ℕ
starts_children at c is_first none = []
starts_children at c is_first (node text span children rest) =
    let start = at + byte_len (before_text c is_first (before_of text)) in
    let inner = container_of c.depth text children in
    let inside = start + byte_len (opening text) in
    let end = inside + byte_len (print_children inner true children ++ (closing c.depth text children ++ semicolon_after c text rest)) in
    start ∷ (starts_children inside inner true children ++ starts_children end c false rest)

-- of the nodes below a node of that depth, whose body is printed from the byte 0 on
unfoldable pub starts_below : ℕ → Tree → List ℕ
starts_below depth t = starts_children (byte_len (opening t.text)) (container_of depth t.text t.children) true t.children

-- of the nodes below the root
unfoldable pub starts : Tree → List ℕ
starts t = starts_below 0 t
