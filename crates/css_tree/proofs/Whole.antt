-- Each node of a reading is whole.
use Rattle.std.proofs.Common.{◌≡◌, ◌<◌, inl, inr, ℕ, suc, zero, List, [], ◌∷◌, ◌++◌, Option, Some, None, IsSome, Bool, true, false, length, drop, refl, ◌∙◌, sym, ap, arith}
use Rattle.css_text.specs.declared.lexer.Span.{Span}
use Rattle.css_tree.specs.declared.node.Block.{Block}
use Rattle.css_tree.specs.declared.node.NodeText.{NodeText}
use Rattle.css_tree.specs.declared.node.NodeText.TheVariants as N
use Rattle.css_tree.specs.Tree.{Trees}
use Rattle.css_tree.specs.Pieces.{Lexeme, join, end_of}
use Rattle.css_tree.specs.Nodes.{Nodes, none, comment, leaf, block}
use Rattle.css_tree.specs.Mark.{mark_at, important_letters, EndsInMark}
use Rattle.css_tree.specs.Fields.{IsAtRule, IsLeaf, IsBlock, AreValueAndMark}
use Rattle.css_tree.specs.Reads.{AreTrees, block_of_nodes}
use Rattle.css_tree.specs.Whole.{has_text, IsWholeText, AreWhole, WholeNodes, HasEnd}
use Rattle.css_tree.proofs.Marks.{mark-length}

drop-text : (n : ℕ) (t : List ℕ) → n < length t → has_text (drop n t) ≡ true
drop-text n [] h = absurd (omega arith)
drop-text zero (c ∷ cs) h = refl
drop-text (suc n) (c ∷ cs) h = drop-text n cs (omega arith)

front-text : (xs ys : List ℕ) → has_text xs ≡ true → has_text (xs ++ ys) ≡ true
front-text [] ys h = absurd (cc)
front-text (x ∷ xs) ys h = refl

back-text : (xs ys : List ℕ) → has_text ys ≡ true → has_text (xs ++ ys) ≡ true
back-text [] ys h = h
back-text (x ∷ xs) ys h = refl

-- a mark begins with its `!`
place-text : (letters t : List ℕ) (n : ℕ) → mark_at false letters t ≡ Some n → has_text (drop n t) ≡ true
place-text letters t n e = let k = mark-length false letters t n e in drop-text n t (omega (arith, k))

mark-text : (body front : List Lexeme) (mark : List ℕ) → EndsInMark body front mark → has_text mark ≡ true
mark-text body front mark (inl h) = ap has_text h.is_mark ∙ place-text important_letters h.word.text h.place h.found
mark-text body front mark (inr h) = ap has_text h.is_mark ∙ front-text (drop h.place h.word.text) (join h.blanks ++ h.last.text) (place-text [] h.word.text h.place h.found)

flag-fits : (body value : List Lexeme) (marked : Bool) (important : List ℕ) → AreValueAndMark body value marked important → marked ≡ has_text important
flag-fits body value true important h = sym (ap has_text h.is_important ∙ back-text (join h.blanks) h.mark (mark-text body (value ++ h.blanks) h.mark h.found))
flag-fits body value false important h = sym (ap has_text h.is_important)

at_rule-whole : (b run : List Lexeme) (blk : Option Block) (end : ℕ) (t : NodeText) (sp : Option Span) → HasEnd blk → IsAtRule b run blk end t sp → IsSome sp × IsWholeText t
at_rule-whole b run blk end t sp k h = (rw h.is_span refl, rw h.is_node (refl, k, refl))

leaf-whole : (b run : List Lexeme) (t : NodeText) (sp : Option Span) → IsLeaf b run t sp → IsSome sp × IsWholeText t
leaf-whole b run t sp (inl h) = at_rule-whole b run None _ t sp tt h
leaf-whole b run t sp (inr h) = (rw h.is_span refl, rw h.is_node (refl, refl, flag-fits h.body h.value h.marked h.important h.value_and_mark))

block-whole : (b run : List Lexeme) (o : Lexeme) (f : Nodes) (a : List Lexeme) (end : ℕ) (t : NodeText) (sp : Option Span) → IsBlock b run o (block_of_nodes f a) end t sp → IsSome sp × IsWholeText t
block-whole b run o f a end t sp (inl h) = at_rule-whole b run (Some (block_of_nodes f a)) end t sp refl h
block-whole b run o f a end t sp (inr h) = (rw h.is_span refl, rw h.is_node (refl, refl, refl))

trees-whole : (f : Nodes) (ts : Trees) → AreTrees f ts → AreWhole ts
trees-whole none Trees.none t = tt
trees-whole none (Trees.node x sp k r) t = absurd t
trees-whole (comment b p f) Trees.none t = absurd t
trees-whole (comment b p f) (Trees.node x sp Trees.none r) t = (rw t.0.is_span refl, rw t.0.is_node refl, tt, trees-whole f r t.1)
trees-whole (comment b p f) (Trees.node x sp (Trees.node x' sp' k' r') r) t = absurd t
trees-whole (leaf b q e f) Trees.none t = absurd t
trees-whole (leaf b q e f) (Trees.node x sp Trees.none r) t = let k = leaf-whole b q x sp t.0 in (k.0, k.1, tt, trees-whole f r t.1)
trees-whole (leaf b q e f) (Trees.node x sp (Trees.node x' sp' k' r') r) t = absurd t
trees-whole (block b q o v a c f) Trees.none t = absurd t
trees-whole (block b q o v a c f) (Trees.node x sp k r) t = let w = block-whole b q o v a (end_of c) x sp t.0 in (w.0, w.1, trees-whole v k t.1, trees-whole f r t.2)

some-is : (sp : Option Span) (x : Span) → sp ≡ Some x → IsSome sp
some-is sp x e = rw e refl

root-whole : (t : NodeText) (bom : Bool) (f : Nodes) (a : List Lexeme) → t ≡ N.Root bom (block_of_nodes f a) → IsWholeText t
root-whole t bom f a e = rw e refl

pub whole_nodes : WholeNodes
whole_nodes s t h = (some-is t.span _ h.is_span, root-whole t.text _ h.nodes h.behind h.is_root, trees-whole h.nodes t.children h.are_trees)
