-- A node that a run leaves untouched keeps its tree, and its bytes.
use Rattle.std.proofs.Common.{◌≡◌, inl, inr, ℕ, zero, suc, ◌<◌, List, [], ◌∷◌, ◌++◌, Bool, true, false, not, length, Some, None, refl, ap, sym, ◌∙◌, arith, subst, append_assoc, append-nil}
use Rattle.std.proofs.lemmas.Bool.{false≢true, and_parts}
use Rattle.css_tree.specs.Parts.{before_of}
use Rattle.css_tree.specs.Print.{Container, container_of, before_text, opening, closing, semicolon_after, print_children, print, body}
use Rattle.node_rows.specs.Nodes.{Node, parent_of, children_of, text_of, holds}
use Rattle.node_rows.specs.NumberTrees.{number_trees, plain, tree_at}
use Rattle.node_rows.specs.NodeList.{nodes_of}
use Rattle.node_rows.specs.declared.node_list.NodeAt.{NodeAt}
use Rattle.node_rows.specs.Sound.{IsSound}
use Rattle.node_rows.proofs.Built.{nodes_of-at, nodes_of-length}
use Rattle.node_rows.proofs.Climb.{Rooted, top, under, rooted}
use Rattle.node_rows.proofs.Edits.{parent-inside}
use Rattle.node_rows.proofs.Levels.{Each, Each-map, children_each, number_trees-more}
use Rattle.node_rows.proofs.SameLinks.{IsSound-same}
use Rattle.node_store.specs.declared.item.Item.{Item}
use Rattle.node_store.specs.declared.item.Item.TheVariants as I
use Rattle.node_store.specs.Edits.{apply, entered}
use Rattle.node_store.specs.Forest.{Forest, IsForest}
use Rattle.node_store.specs.Fresh.{IsFresh}
use Rattle.node_store.proofs.FreshTree.{fresh_tree}
use Rattle.visitor_machine.specs.Hooks.{PickedHook}
use Rattle.visitor_machine.specs.Machine.{State}
use Rattle.visitor_machine.specs.Follow.{step, follow, start}
use Rattle.visitor_machine.specs.Altered.{altered, is_within, is_untouched, StandsIn, IsPart, Untouched}
use Rattle.visitor_machine.proofs.Above.{Above, here, below, above_from_holds}
use Rattle.visitor_machine.proofs.Kept.{after_item, nodes_step, edit_can, entered-marks}
use Rattle.visitor_machine.proofs.Members.{Mem}
use Rattle.visitor_machine.proofs.Moves.{changed}
use Rattle.visitor_machine.proofs.Places.{child_mem}
use Rattle.visitor_machine.proofs.Runs.{follow_parts, some_same}
use Rattle.visitor_machine.proofs.SameBelow.{SameBelow, marks_below, edit_below, tree_kept}
use Rattle.visitor_machine.proofs.Stood.{AllStand, reading-stands}

-- an item that alters nothing below n
abbrev Leaves : List Node → ℕ → Item → Type 0
Leaves ns n (I.Edit e) = is_within ns n (altered ns e) ≡ false
Leaves ns n i = Unit {0}

is_not : (b : Bool) → not b ≡ true → b ≡ false
is_not true h = absurd (false≢true h)
is_not false h = refl

untouched_parts : (ns : List Node) (n : ℕ) (i : Item) (is : List Item) → is_untouched ns n (i ∷ is) ≡ true → Leaves ns n i × (is_untouched (after_item ns i) n is ≡ true)
untouched_parts ns n (I.Edit e) is h = let p = and_parts (not (is_within ns n (altered ns e))) (is_untouched (apply ns e) n is) h in (is_not (is_within ns n (altered ns e)) p.0, p.1)
untouched_parts ns n I.Pass is h = (tt, h)
untouched_parts ns n (I.Enter m) is h = (tt, h)
untouched_parts ns n (I.Call p k m) is h = (tt, h)
untouched_parts ns n (I.Back o) is h = (tt, h)
untouched_parts ns n (I.Leave m) is h = (tt, h)
untouched_parts ns n I.End is h = (tt, h)

-- what the nodes keep by an item
record Keeps (n : ℕ) (ns ms : List Node) : Type 0 where
  sound : IsSound ms
  tree : tree_at ms n ≡ tree_at ns n
  inside : n < length ms

keeps_below : (n : ℕ) (ns ms : List Node) → IsSound ns → n < length ns → IsSound ms → SameBelow n ns ms → Keeps n ns ms
keeps_below n ns ms s b t h = let g = h.grows in record { sound = t; tree = tree_kept ns ms n s h b; inside = omega arith }

keeps_marks : (n : ℕ) (ns : List Node) (i : Item) → IsSound ns → n < length ns → Keeps n ns (entered ns i)
keeps_marks n ns i s b = let o = entered-marks ns i in keeps_below n ns _ s b (IsSound-same ns _ o.0 s) (marks_below n ns _ o)

keeps_item : (hs : List PickedHook) (most : ℕ) (s t : State) (n : ℕ) (i : Item) → IsSound s.nodes → n < length s.nodes → Leaves s.nodes n i → step hs most s i ≡ Some t → Keeps n s.nodes (after_item s.nodes i)
keeps_item hs most s t n (I.Edit e) g b l h =
    let c = changed s.nodes e g (omega arith) (edit_can hs most s t e h) in
    keeps_below n s.nodes (apply s.nodes e) g b c.sound (edit_below s.nodes n g b e l)
keeps_item hs most s t n I.Pass g b l h = keeps_marks n s.nodes I.Pass g b
keeps_item hs most s t n (I.Enter m) g b l h = keeps_marks n s.nodes (I.Enter m) g b
keeps_item hs most s t n (I.Call p k m) g b l h = keeps_marks n s.nodes (I.Call p k m) g b
keeps_item hs most s t n (I.Back o) g b l h = keeps_marks n s.nodes (I.Back o) g b
keeps_item hs most s t n (I.Leave m) g b l h = keeps_marks n s.nodes (I.Leave m) g b
keeps_item hs most s t n I.End g b l h = keeps_marks n s.nodes I.End g b

keeps_follow : (hs : List PickedHook) (most : ℕ) (s t : State) (n : ℕ) (log : List Item) → IsSound s.nodes → n < length s.nodes → is_untouched s.nodes n log ≡ true → follow hs most s log ≡ Some t → Keeps n s.nodes t.nodes
keeps_follow hs most s t n [] g b u e = subst (λ x. Keeps n s.nodes x.nodes) (some_same e) (record { sound = g; tree = refl; inside = b })
keeps_follow hs most s t n (i ∷ is) g b u e =
    let p = follow_parts hs most s i is t e in
    let v = untouched_parts s.nodes n i is u in
    let q = nodes_step hs most s p.mid i p.first in
    let k : Keeps n s.nodes p.mid.nodes = subst (λ x. Keeps n s.nodes x) (sym q) (keeps_item hs most s p.mid n i g b v.0 p.first) in
    let r = keeps_follow hs most p.mid t n is k.sound k.inside (subst (λ x. is_untouched x n is ≡ true) (sym q) v.1) p.rest in
    record { sound = r.sound; tree = r.tree ∙ k.tree; inside = r.inside }

-- In a fresh forest each node is in the tree.

parent_given : (es : List NodeAt) (n : ℕ) → n < length es → parent_of (nodes_of es) n ≡ None → n ≡ 0
parent_given es zero b e = refl
parent_given es (suc n) b e = let f = ap (λ x. x.parent) (nodes_of-at es (suc n) b) in absurd cc

in_tree : (ns : List Node) → IsSound ns → ((n : ℕ) → n < length ns → parent_of ns n ≡ None → n ≡ 0) → {n : ℕ} → Rooted ns n → n < length ns → Above ns 0 n
in_tree ns s f (top {n} e) b = here (f n b e)
in_tree ns s f (under {n} {p} e r) b = below e (in_tree ns s f r (s.below n p e))

fresh_in_tree : (f : Forest) → IsForest f → IsFresh f → (n : ℕ) → n < length f.nodes → Above f.nodes 0 n
fresh_in_tree f i h n b =
    let e = h.are_nodes in
    let given : (n : ℕ) → n < length f.nodes → parent_of f.nodes n ≡ None → n ≡ 0 = λ n b j. parent_given h.entries n (omega (arith, ap (λ x. length x) e, nodes_of-length h.entries, b)) (ap (λ x. parent_of x n) (sym e) ∙ j) in
    in_tree f.nodes i.sound given (rooted f.nodes i.sound n b) b

-- The trees of a list, and the one of a member.

inside_each : (ns : List Node) (s : IsSound ns) (p : ℕ) → Each (λ c. c < length ns) (children_of ns p)
inside_each ns s p = Each-map _ _ (λ c e. parent-inside ns c p e) (children_of ns p) (children_each ns p s)

member_stands : (s : List ℕ) (ns : List Node) (g : IsSound ns) (n : ℕ) (is : List ℕ) → Each (λ c. c < length ns) is → Mem n is → AllStand s (plain ns (number_trees ns is)) → StandsIn s (tree_at ns n) × AllStand s (tree_at ns n).children
member_stands s ns g n [] b m a = absurd m
member_stands s ns g n (i ∷ is) b m a =
    let c : AllStand s (plain ns (number_trees ns (i ∷ is))) → StandsIn s (tree_at ns i) × AllStand s (tree_at ns i).children × AllStand s (plain ns (number_trees ns is)) = λ x. subst (λ t. AllStand s (plain ns t)) (number_trees-more ns g i is b.0) x in
    let d = c a in
    elim m [
      | inl e ↦ subst (λ k. StandsIn s (tree_at ns k) × AllStand s (tree_at ns k).children) (sym e) (d.0, d.1)
      | inr r ↦ member_stands s ns g n is b.1 r d.2
    ]

node_stands : (s : List ℕ) (ns : List Node) → IsSound ns → StandsIn s (tree_at ns 0) × AllStand s (tree_at ns 0).children → {n : ℕ} → Above ns 0 n → StandsIn s (tree_at ns n) × AllStand s (tree_at ns n).children
node_stands s ns g r (here {c} e) = subst (λ k. StandsIn s (tree_at ns k) × AllStand s (tree_at ns k).children) (sym e) r
node_stands s ns g r (below {c} {p} e a) = member_stands s ns g c (children_of ns p) (inside_each ns g p) (child_mem ns c p g e) (node_stands s ns g r a).1

-- A node's body in the printing of the whole.

-- some body of the node is a part of the text
abbrev HasBody : List Node → ℕ → List ℕ → Type 0
HasBody ns n text = (depth : ℕ) × IsPart (body depth (tree_at ns n)) text

part-within : (x y z : List ℕ) → IsPart x y → IsPart y z → IsPart x z
part-within x y z a b = (b.0 ++ a.0, a.1 ++ b.1, b.2 ∙ (ap (λ t. b.0 ++ (t ++ b.1)) a.2 ∙ simp append_assoc))

member_printed : (ns : List Node) (g : IsSound ns) (n : ℕ) (c : Container) (first : Bool) (is : List ℕ) → Each (λ c. c < length ns) is → Mem n is → IsPart (body c.depth (tree_at ns n)) (print_children c first (plain ns (number_trees ns is)))
unfolding print_children body
member_printed ns g n c first [] b m = absurd m
member_printed ns g n c first (i ∷ is) b m =
    let kids = plain ns (number_trees ns (children_of ns i)) in
    let others = plain ns (number_trees ns is) in
    let front = before_text c first (before_of (text_of ns i)) in
    let mid = body c.depth (tree_at ns i) in
    let semi = semicolon_after c (text_of ns i) others in
    let rest = print_children c false others in
    let e : print_children c first (plain ns (number_trees ns (i ∷ is))) ≡ front ++ (mid ++ (semi ++ rest)) =
    ap (λ t. print_children c first (plain ns t)) (number_trees-more ns g i is b.0) ∙ simp append_assoc in
    elim m [
      | inl j ↦ subst (λ k. IsPart (body c.depth (tree_at ns k)) (print_children c first (plain ns (number_trees ns (i ∷ is))))) (sym j) (front, semi ++ rest, e)
      | inr r ↦
          let p = member_printed ns g n c false is b.1 r in
          (front ++ (mid ++ (semi ++ p.0)), p.1, e ∙ (ap (λ t. front ++ (mid ++ (semi ++ t))) p.2 ∙ simp append_assoc))
    ]

body_holds : (ns : List Node) (depth p : ℕ) → IsPart (print_children (container_of depth (text_of ns p) (tree_at ns p).children) true (tree_at ns p).children) (body depth (tree_at ns p))
unfolding body
body_holds ns depth p = (opening (text_of ns p), closing depth (text_of ns p) (tree_at ns p).children, refl)

printed_in : (ns : List Node) → IsSound ns → {n : ℕ} → Above ns 0 n → HasBody ns n (print (tree_at ns 0))
unfolding print
printed_in ns g (here {c} e) = subst (λ k. HasBody ns k (body 0 (tree_at ns 0))) (sym e) (0, ([], [], sym (append-nil _)))
printed_in ns g (below {c} {p} e a) =
    let h = printed_in ns g a in
    let k = container_of h.0 (text_of ns p) (tree_at ns p).children in
    (k.depth, part-within _ _ _ (member_printed ns g c k true (children_of ns p) (inside_each ns g p) (child_mem ns c p g e)) (part-within _ _ _ (body_holds ns h.0 p) h.1))

stands_printed : (s : List ℕ) (ns : List Node) (n : ℕ) → IsSound ns → (w : StandsIn s (tree_at ns n)) → holds ns 0 n ≡ true → IsPart w.text (print (tree_at ns 0))
stands_printed s ns n g w h = let p = printed_in ns g (above_from_holds ns 0 n h) in subst (λ x. IsPart x (print (tree_at ns 0))) (w.prints p.0) p.1

-- the law
pub untouched : Untouched
untouched hs most f log t n i h e b u =
    let k = keeps_follow hs most (start hs f.nodes) t n log i.sound b u e in
    let root : StandsIn f.text (tree_at f.nodes 0) × AllStand f.text (tree_at f.nodes 0).children = subst (λ x. StandsIn f.text x × AllStand f.text x.children) (sym (fresh_tree f i h)) (reading-stands f.text h.tree h.reads) in
    let w : StandsIn f.text (tree_at t.nodes n) = subst (λ x. StandsIn f.text x) (sym k.tree) (node_stands f.text f.nodes i.sound root (fresh_in_tree f i h n b)).0 in
    record { tree = k.tree; stands = w; printed = stands_printed f.text t.nodes n k.sound w }
