-- What the reader makes of a whole text is its reading, and a text has no other.
use Rattle.std.proofs.Common.{◌≡◌, ℕ, List, [], ◌∷◌, ◌++◌, Bool, true, false, if◌then◌else◌, drop, Option, Some, None, refl, ◌∙◌, sym, ap, subst, append-nil, true≢false}
use Rattle.std.proofs.lemmas.Bool.{eqb-true}
use Rattle.css_text.specs.declared.lexer.Span.{Span}
use Rattle.css_text.specs.Pieces.{Unclosed, cut}
use Rattle.css_text.specs.Ahead.{byte_len, bom_len, begins_bom, without_bom}
use Rattle.css_text.proofs.Join.{cut_joins}
use Rattle.css_tree.specs.declared.node.NodeText.{NodeText}
use Rattle.css_tree.specs.declared.node.NodeText.TheVariants as N
use Rattle.css_tree.specs.Tree.{Trees, Tree}
use Rattle.css_tree.specs.Pieces.{Lexeme, pieces_of, join}
use Rattle.css_tree.specs.Fault.{Fault, State, begin, fits, step, end_fault, fault_from, lexical_at, lexical_fault, fault}
use Rattle.css_tree.specs.Print.{print, body, container_of}
use Rattle.css_tree.specs.Nodes.{Nodes, line, AreNodes}
use Rattle.css_tree.specs.Reads.{Reads, AreTrees, block_of_nodes}
use Rattle.css_tree.specs.Laws.{OneReading, FaultOrReading, PrintsBack}
use Rattle.css_tree.proofs.Reader.{finish, closed, Outcome, fails, ok, outcome}
use Rattle.css_tree.proofs.TreeOf.{tree_of, trees}
use Rattle.css_tree.proofs.Agrees.{fault_in, agrees}
use Rattle.css_tree.proofs.Sound.{sound, Holds, line_rest}
use Rattle.css_tree.proofs.Complete.{complete, at_end}
use Rattle.css_tree.proofs.Formed.{AllFormed, formed-front, cut-formed, join-located}
use Rattle.css_tree.proofs.Fields.{trees-fixed, trees-exist}
use Rattle.css_tree.proofs.Printed.{printed, join-append}

-- what the reader makes of a whole text
abbrev pub read : List ℕ → Outcome
read s = outcome (pieces_of s) (lexical_fault s) [] [] [] []

lexical-none : (at : ℕ) (u : Option Unclosed) → u ≡ None → lexical_at at u ≡ None
lexical-none at u e = rw e refl

none-lexical : (at : ℕ) (u : Option Unclosed) → lexical_at at u ≡ None → u ≡ None
none-lexical at None e = refl
none-lexical at (Some u) e = absurd (cc)

-- the reader gives the nodes of a reading back
pub read_back : (s : List ℕ) (t : Tree) (h : Reads s t) → read s ≡ ok (finish h.nodes h.behind)
unfolding lexical_fault
read_back s t h =
    ap (λ z. outcome (pieces_of s) z [] [] [] []) (lexical-none _ _ h.no_fault)
    ∙ (ap (λ z. outcome z None [] [] [] []) (sym h.are_all ∙ ap (λ z. line h.nodes ++ z) (sym (append-nil h.behind))) ∙ complete h.nodes h.behind at_end None [] tt h.are_nodes)

abbrev tree_with : NodeText → Option Span → Trees → Tree
tree_with text span children = record { text = text; span = span; children = children }

-- a reading is the tree of its nodes
pub tree_is : (s : List ℕ) (t : Tree) (h : Reads s t) → t ≡ tree_of s h.nodes h.behind
tree_is s t h =
    ap (λ z. tree_with z t.span t.children) h.is_root
    ∙ (ap (λ z. tree_with (N.Root (begins_bom s) (block_of_nodes h.nodes h.behind)) z t.children) h.is_span
    ∙ ap (λ z. tree_with (N.Root (begins_bom s) (block_of_nodes h.nodes h.behind)) (Some (record { start = 0; end = byte_len s })) z) (trees-fixed h.nodes t.children h.are_trees))

tree_in : List ℕ → Tree → Outcome → Tree
tree_in s t (fails f) = t
tree_in s t (ok (finish f a)) = tree_of s f a
tree_in s t (ok (closed f a c r)) = t

pub one_reading : OneReading
unfolding tree_in
one_reading s t u h k =
    tree_is s t h ∙ (ap (tree_in s t) (sym (read_back s t h) ∙ read_back s u k) ∙ sym (tree_is s u k))

-- The text of all pieces.

bom-joins : (s : List ℕ) (b : Bool) → begins_bom s ≡ b → (if b then 0xfeff ∷ [] else []) ++ (if b then drop 1 s else s) ≡ s
bom-joins s false e = refl
bom-joins [] true e = absurd (true≢false (sym e))
bom-joins (c ∷ cs) true e = ap (λ z. z ∷ cs) (sym (eqb-true c 0xfeff e))

pub pieces-join : (s : List ℕ) → (cut (without_bom s)).fault ≡ None → (if begins_bom s then 0xfeff ∷ [] else []) ++ join (pieces_of s) ≡ s
unfolding pieces_of
pieces-join s e = ap (λ z. (if begins_bom s then 0xfeff ∷ [] else []) ++ z) (join-located (cut (without_bom s)).tokens (bom_len s) ∙ cut_joins (without_bom s) e) ∙ bom-joins s (begins_bom s) refl

pub pieces-formed : (s : List ℕ) → AllFormed (pieces_of s)
unfolding pieces_of
pieces-formed s = cut-formed (without_bom s) (bom_len s)

tree-prints : (s : List ℕ) (f : Nodes) (a : List Lexeme) → (cut (without_bom s)).fault ≡ None → AreNodes 0 f a → line f ++ a ≡ pieces_of s → AreTrees f (trees f) → print (tree_of s f a) ≡ s
unfolding print body
tree-prints s f a l h e t =
    let m : AllFormed (line f ++ a) = subst (λ z. AllFormed z) (sym e) (pieces-formed s) in
    let c = container_of 0 (N.Root (begins_bom s) (block_of_nodes f a)) (trees f) in
    ap (λ z. (if begins_bom s then 0xfeff ∷ [] else []) ++ (z ++ join a)) (printed f (trees f) a 0 c true false h (formed-front (line f) a m) t refl)
    ∙ (ap (λ z. (if begins_bom s then 0xfeff ∷ [] else []) ++ z) (sym (join-append (line f) a) ∙ ap join e) ∙ pieces-join s l)

-- nodes of all pieces make a reading
pub nodes-read : (s : List ℕ) (f : Nodes) (a : List Lexeme) → (cut (without_bom s)).fault ≡ None → AreNodes 0 f a → line f ++ a ≡ pieces_of s → Reads s (tree_of s f a)
nodes-read s f a l h e =
    let m : AllFormed (line f ++ a) = subst (λ z. AllFormed z) (sym e) (pieces-formed s) in
    let t = trees-exist f 0 a h (formed-front (line f) a m) in
    record { prints = tree-prints s f a l h e t; no_fault = l; nodes = f; behind = a; are_nodes = h; are_all = e; are_trees = t; is_root = refl; is_span = refl }

or-none : (f g : Option Fault) → ◌≡◌ {A = Option Fault} (elim f [ Some x ↦ Some x | None ↦ g ]) None → g ≡ None
or-none (Some f) g e = absurd (cc)
or-none None g e = e

end-none : (l : Option Fault) (st : State) → end_fault l st ≡ None → l ≡ None
end-none (Some f) st e = absurd (cc)
end-none None st e = refl

lexless : (qs : List Lexeme) (l : Option Fault) (st : State) → fault_from st qs l ≡ None → l ≡ None
unfolding fault_from
lexless [] l st e = end-none l st e
lexless (p ∷ qs) l st e = lexless qs l (step st p) (or-none (fits st p) _ e)

no-lexical : (s : List ℕ) → fault s ≡ None → (cut (without_bom s)).fault ≡ None
unfolding fault lexical_fault
no-lexical s e = none-lexical _ _ (lexless (pieces_of s) _ begin e)

pub fault-is : (s : List ℕ) → fault_in (read s) ≡ fault s
unfolding fault
fault-is s = agrees (pieces_of s) (lexical_fault s) [] [] [] []

pub read-holds : (s : List ℕ) → Holds [] (pieces_of s) (read s)
read-holds s = sound (pieces_of s) (lexical_fault s) [] [] [] [] tt refl

finish-read : (s : List ℕ) (f : Nodes) (a : List Lexeme) → (cut (without_bom s)).fault ≡ None → Holds [] (pieces_of s) (ok (finish f a)) → Reads s (tree_of s f a)
unfolding line_rest
finish-read s f a l h = nodes-read s f a l h.0 h.1

-- what the reader makes of a text is its reading
pub read-reads : (s : List ℕ) (f : Nodes) (a : List Lexeme) → read s ≡ ok (finish f a) → Reads s (tree_of s f a)
read-reads s f a e = finish-read s f a (no-lexical s (sym (fault-is s) ∙ ap fault_in e)) (subst (λ z. Holds [] (pieces_of s) z) e (read-holds s))

of_outcome : (s : List ℕ) (x : Outcome) → fault_in x ≡ None → (cut (without_bom s)).fault ≡ None → Holds [] (pieces_of s) x → (t : Tree) × Reads s t
of_outcome s (fails f) e l h = absurd (cc)
of_outcome s (ok (finish f a)) e l h = (tree_of s f a, finish-read s f a l h)
of_outcome s (ok (closed f a c r)) e l h = absurd h.0

pub fault_or_reading : FaultOrReading
fault_or_reading s = (
  (λ e. of_outcome s (read s) (fault-is s ∙ e) (no-lexical s e) (read-holds s)),
  (λ t h. sym (fault-is s) ∙ ap fault_in (read_back s t h)),
)

pub prints_back : PrintsBack
prints_back s t h = h.prints

-- the tree that the reader makes of a text, if any
abbrev pub tree_read : List ℕ → Outcome → Option Tree
tree_read s (fails f) = None
tree_read s (ok (finish f a)) = Some (tree_of s f a)
tree_read s (ok (closed f a c r)) = None

some-tree : (t u : Tree) → ◌≡◌ {A = Option Tree} (Some t) (Some u) → t ≡ u
some-tree t u e = cc

none-tree : (u : Tree) → ◌≡◌ {A = Option Tree} None (Some u) → ⊥
none-tree u e = cc

tree-by : (s : List ℕ) (t : Tree) (x : Outcome) → read s ≡ x → tree_read s x ≡ Some t → Reads s t
tree-by s t (fails f) e k = absurd (none-tree t k)
tree-by s t (ok (finish f a)) e k = subst (λ z. Reads s z) (some-tree (tree_of s f a) t k) (read-reads s f a e)
tree-by s t (ok (closed f a c r)) e k = absurd (none-tree t k)

-- a text reads as the tree that is computed
pub reads-as : (s : List ℕ) (t : Tree) → tree_read s (read s) ≡ Some t → Reads s t
reads-as s t e = tree-by s t (read s) refl e
