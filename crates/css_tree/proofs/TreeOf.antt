-- The tree of nodes that are given by their pieces, as a function.
use Rattle.std.proofs.Common.{ℕ, ◌+◌, ◌-◌, List, [], ◌∷◌, ◌++◌, Option, Some, None, length, take, drop}
use Rattle.css_text.specs.declared.lexer.Span.{Span}
use Rattle.css_text.specs.Characters.{is_space}
use Rattle.css_text.specs.Ahead.{byte_len, begins_bom}
use Rattle.css_tree.specs.declared.node.Block.{Block}
use Rattle.css_tree.specs.declared.node.NodeText.{NodeText}
use Rattle.css_tree.specs.declared.node.NodeText.TheVariants as N
use Rattle.css_tree.specs.Tree.{Trees, Tree}
use Rattle.css_tree.specs.Pieces.{Lexeme, Shape, shape, join, end_of, last_end}
use Rattle.css_tree.specs.Fields.{source_text, span_of, begins_at}
use Rattle.css_tree.specs.Nodes.{Nodes, none, comment, leaf, block}
use Rattle.css_tree.specs.Reads.{block_of_nodes}
use Rattle.css_tree.proofs.Split.{solid_by, tail_by, lead_by, unlead_by, solid, tail, lead, unlead, rest_of, first_list, hack, mark_of, value_of, important_of, is_marked}

-- the text of a declaration: a word, blanks, a colon, blanks, and the rest
abbrev pub declaration_text : List Lexeme → Lexeme → List Lexeme → NodeText
declaration_text b w r =
    let h = hack w.text in
    let after_colon = rest_of (unlead r) in
    let body = solid (unlead after_colon) in
    let m = mark_of body in
    N.Declaration (Some (join b ++ h)) (drop (length h) w.text)
    (join (lead r ++ (first_list (unlead r) ++ lead after_colon)))
    (source_text (value_of m body)) (is_marked m) (important_of m) (join (tail (unlead after_colon)))

-- behind the at-word
abbrev pub after_name_of : List Lexeme → List Lexeme → List Lexeme
after_name_of r [] = []
after_name_of r (p ∷ ps) = lead r

abbrev pub between_of : List Lexeme → List Lexeme → List Lexeme
between_of r [] = r
between_of r (p ∷ ps) = tail (unlead r)

abbrev pub at_rule_text : List Lexeme → Lexeme → List Lexeme → Option Block → NodeText
at_rule_text b w r blk =
    let params = solid (unlead r) in
    N.AtRule (Some (join b)) (drop 1 w.text) (join (after_name_of r params)) (source_text params) (join (between_of r params)) blk

abbrev pub leaf_text_by : Shape → List Lexeme → Lexeme → List Lexeme → NodeText
leaf_text_by Shape.at_name b w r = at_rule_text b w r None
leaf_text_by _ b w r = declaration_text b w r

abbrev pub no_text : NodeText
no_text = N.Comment None [] [] []

abbrev pub leaf_text : List Lexeme → List Lexeme → NodeText
leaf_text b [] = no_text
leaf_text b (w ∷ r) = leaf_text_by (shape w) b w r

abbrev pub rule_text : List Lexeme → List Lexeme → Block → NodeText
rule_text b r blk = N.Rule (Some (join b)) (source_text (solid r)) (join (tail r)) blk

abbrev pub block_text_by : Shape → List Lexeme → Lexeme → List Lexeme → Block → NodeText
block_text_by Shape.at_name b w r blk = at_rule_text b w r (Some blk)
block_text_by _ b w r blk = rule_text b (w ∷ r) blk

abbrev pub block_text : List Lexeme → List Lexeme → Block → NodeText
block_text b [] blk = rule_text b [] blk
block_text b (w ∷ r) blk = block_text_by (shape w) b w r blk

-- between `/*` and `*/`
abbrev pub inner_of : List ℕ → List ℕ
inner_of t = drop 2 (take (length t - 2) t)

abbrev pub comment_text : List Lexeme → Lexeme → NodeText
comment_text b p =
    let inner = inner_of p.text in
    let rest = unlead_by is_space inner in
    N.Comment (Some (join b)) (lead_by is_space inner) (solid_by is_space rest) (tail_by is_space rest)

abbrev pub hack_of_shape : Shape → List ℕ → List ℕ
hack_of_shape Shape.at_name t = []
hack_of_shape _ t = hack t

abbrev pub leaf_span : List Lexeme → Option Span
leaf_span [] = span_of 0 0
leaf_span (w ∷ r) = span_of (w.at + length (hack_of_shape (shape w) w.text)) (last_end (end_of w) r)

abbrev pub comment_span : Lexeme → Option Span
comment_span p = span_of p.at (end_of p)

unfoldable pub trees : Nodes → Trees
trees none = Trees.none
trees (comment b p f) = Trees.node (comment_text b p) (comment_span p) Trees.none (trees f)
trees (leaf b r e f) = Trees.node (leaf_text b r) (leaf_span r) Trees.none (trees f)
trees (block b r o k a c f) = Trees.node (block_text b r (block_of_nodes k a)) (span_of (begins_at r o) (end_of c)) (trees k) (trees f)

abbrev pub tree_of : List ℕ → Nodes → List Lexeme → Tree
tree_of s f a = record { text = N.Root (begins_bom s) (block_of_nodes f a); span = span_of 0 (byte_len s); children = trees f }
