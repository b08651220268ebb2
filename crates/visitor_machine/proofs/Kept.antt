-- The nodes after each item of a run, and what they keep.
use Rattle.std.proofs.Common.{◌≡◌, ℕ, List, [], ◌∷◌, true, false, Option, Some, None, refl, ap, sym, ◌∙◌}
use Rattle.std.specs.Prelude.{◌&&◌}
use Rattle.std.proofs.lemmas.Bool.{false≢true, and_parts}
use Rattle.css_text.specs.declared.lexer.Span.{Span}
use Rattle.css_tree.specs.declared.node.NodeText.{NodeText}
use Rattle.css_tree.specs.Tree.{Trees, Tree}
use Rattle.css_tree.specs.Print.{print}
use Rattle.node_rows.specs.Nodes.{Node, children_of}
use Rattle.node_rows.specs.NumberTrees.{number_trees, plain, below, tree_at}
use Rattle.node_rows.specs.Marks.{with_mark}
use Rattle.node_rows.proofs.Climb.{same_from_eqb}
use Rattle.node_rows.proofs.SameLinks.{SameLinks, SameTexts, SameLinks-self, SameTexts-self, SameLinks-marked, SameTexts-marked, number_trees-same, plain-same}
use Rattle.node_store.specs.declared.item.Edit.{Edit}
use Rattle.node_store.specs.declared.item.Item.{Item}
use Rattle.node_store.specs.declared.item.Item.TheVariants as I
use Rattle.node_store.specs.Edits.{apply, can, entered}
use Rattle.node_store.proofs.FreshTree.{fresh_tree}
use Rattle.visitor_machine.specs.Hooks.{PickedHook}
use Rattle.visitor_machine.specs.Machine.{State, Move, ToPass, ToRoot, ToChild, ToEnterHook, ToExitHook, ToOnce, ToOnceExit, ToLeave, ToEnd, Nothing, item_of, turn, done}
use Rattle.visitor_machine.specs.Follow.{same_item, is_item, by_move, back, step, follow, start}
use Rattle.visitor_machine.specs.Calls.{IsQuiet}
use Rattle.visitor_machine.specs.Unchanged.{QuietTree, QuietSheet}
use Rattle.visitor_machine.proofs.Runs.{when_parts, by_move_parts, follow_parts, some_same}

abbrev entered_by : List Node → Option Item → List Node
entered_by ns None = ns
entered_by ns (Some i) = entered ns i

nodes_done : (hs : List PickedHook) (s : State) (m : Move) → (done hs s m).nodes ≡ entered_by s.nodes (item_of m)
nodes_done hs s ToPass = refl
nodes_done hs s ToRoot = refl
nodes_done hs s (ToChild n k) = refl
nodes_done hs s (ToEnterHook n h k) = refl
nodes_done hs s (ToExitHook n h k) = refl
nodes_done hs s (ToOnce h r) = refl
nodes_done hs s (ToOnceExit h r) = refl
nodes_done hs s (ToLeave n) = refl
nodes_done hs s ToEnd = refl
nodes_done hs s Nothing = refl

same_entered : (ns : List Node) (i j : Item) → same_item i j ≡ true → entered ns j ≡ entered ns i
same_entered ns I.Pass I.Pass h = refl
same_entered ns (I.Enter n) (I.Enter m) h = ap (λ k. with_mark ns k false) (sym (same_from_eqb n m h))
same_entered ns (I.Call p k m) (I.Call q l o) h = refl
same_entered ns (I.Leave n) (I.Leave m) h = refl
same_entered ns I.End I.End h = refl
same_entered ns _ _ h = absurd (false≢true h)

by_item : (ns : List Node) (i : Item) (o : Option Item) → is_item i o ≡ true → entered_by ns o ≡ entered ns i
by_item ns i None h = absurd (false≢true h)
by_item ns i (Some j) h = same_entered ns i j h

nodes_moved : (hs : List PickedHook) (s t : State) (i : Item) → by_move hs s i s.calling ≡ Some t → t.nodes ≡ entered s.nodes i
nodes_moved hs s t i e =
    let p = by_move_parts hs s i s.calling e in
    ap (λ u. u.nodes) (sym p.1) ∙ (nodes_done hs s (turn hs s) ∙ by_item s.nodes i (item_of (turn hs s)) p.0)

back_nodes : (most : ℕ) (s : State) (fault : Option (List ℕ)) → (back most s fault).nodes ≡ s.nodes
back_nodes most s None = refl
back_nodes most s (Some text) = refl

-- the nodes after an item
abbrev pub after_item : List Node → Item → List Node
after_item ns (I.Edit e) = apply ns e
after_item ns i = entered ns i

pub nodes_step : (hs : List PickedHook) (most : ℕ) (s t : State) (i : Item) → step hs most s i ≡ Some t → t.nodes ≡ after_item s.nodes i
nodes_step hs most s t (I.Edit x) e = ap (λ u. u.nodes) (sym (when_parts (s.calling && can s.nodes x) e).1)
nodes_step hs most s t (I.Back o) e = ap (λ u. u.nodes) (sym (when_parts s.calling e).1) ∙ back_nodes most s o
nodes_step hs most s t I.Pass e = nodes_moved hs s t I.Pass e
nodes_step hs most s t (I.Enter n) e = nodes_moved hs s t (I.Enter n) e
nodes_step hs most s t (I.Call p k m) e = nodes_moved hs s t (I.Call p k m) e
nodes_step hs most s t (I.Leave n) e = nodes_moved hs s t (I.Leave n) e
nodes_step hs most s t I.End e = nodes_moved hs s t I.End e

-- an edit that was followed could be made
pub edit_can : (hs : List PickedHook) (most : ℕ) (s t : State) (x : Edit) → step hs most s (I.Edit x) ≡ Some t → can s.nodes x ≡ true
edit_can hs most s t x e = (and_parts s.calling (can s.nodes x) (when_parts (s.calling && can s.nodes x) e).0).1

-- only marks differ
abbrev pub OnlyMarks : List Node → List Node → Type 0
OnlyMarks ns ms = SameLinks ns ms × SameTexts ns ms

only-self : (ns : List Node) → OnlyMarks ns ns
only-self ns = (SameLinks-self ns, SameTexts-self ns)

pub entered-marks : (ns : List Node) (i : Item) → OnlyMarks ns (entered ns i)
entered-marks ns (I.Enter n) = (SameLinks-marked ns ns n false (SameLinks-self ns), SameTexts-marked ns ns n false (SameTexts-self ns))
entered-marks ns I.Pass = only-self ns
entered-marks ns (I.Call p k m) = only-self ns
entered-marks ns (I.Edit x) = only-self ns
entered-marks ns (I.Back o) = only-self ns
entered-marks ns (I.Leave n) = only-self ns
entered-marks ns I.End = only-self ns

abbrev tree_with : NodeText → Option Span → Trees → Tree
tree_with text span children = record { text = text; span = span; children = children }

pub tree-same : (t u : Tree) → t.text ≡ u.text → t.span ≡ u.span → t.children ≡ u.children → t ≡ u
tree-same t u a b c = ap (λ x. tree_with x t.span t.children) a ∙ (ap (λ y. tree_with u.text y t.children) b ∙ ap (λ z. tree_with u.text u.span z) c)

-- where only marks differ, each node has the same tree
pub marks-tree : (ns ms : List Node) → OnlyMarks ns ms → (n : ℕ) → tree_at ms n ≡ tree_at ns n
marks-tree ns ms h n =
    tree-same (tree_at ms n) (tree_at ns n) (h.1.texts n) (h.1.spans n)
    (ap (λ l. plain ms (number_trees ms l)) (h.0.lists n) ∙ (ap (plain ms) (number_trees-same ns ms h.0 (children_of ns n)) ∙ plain-same ns ms h.1 (below ns n)))

-- an item that is no edit
quiet_one : (i : Item) (is : List Item) → IsQuiet (i ∷ is) → IsQuiet is × ((ns : List Node) → after_item ns i ≡ entered ns i)
quiet_one I.Pass is q = (q, λ ns. refl)
quiet_one (I.Enter n) is q = (q, λ ns. refl)
quiet_one (I.Call p k m) is q = (q, λ ns. refl)
quiet_one (I.Edit e) is q = absurd q
quiet_one (I.Back o) is q = (q, λ ns. refl)
quiet_one (I.Leave n) is q = (q, λ ns. refl)
quiet_one I.End is q = (q, λ ns. refl)

quiet_follow : (hs : List PickedHook) (most : ℕ) (s t : State) (log : List Item) → IsQuiet log → follow hs most s log ≡ Some t → (n : ℕ) → tree_at t.nodes n ≡ tree_at s.nodes n
quiet_follow hs most s t [] q e n = ap (λ u. tree_at u.nodes n) (sym (some_same e))
quiet_follow hs most s t (i ∷ is) q e n =
    let p = follow_parts hs most s i is t e in
    let u = quiet_one i is q in
    quiet_follow hs most p.mid t is u.0 p.rest n
    ∙ (ap (λ ms. tree_at ms n) (nodes_step hs most s p.mid i p.first ∙ u.1 s.nodes) ∙ marks-tree s.nodes (entered s.nodes i) (entered-marks s.nodes i) n)

pub quiet_tree : QuietTree
quiet_tree hs most ns log t q e n = quiet_follow hs most (start hs ns) t log q e n

pub quiet_sheet : QuietSheet
quiet_sheet hs most f log t i h q e = ap print (quiet_tree hs most f.nodes log t q e 0 ∙ fresh_tree f i h) ∙ h.reads.prints
