-- The forest of a list of nodes is a forest.
use Rattle.std.proofs.Common.{◌≡◌, ℕ, zero, suc, ◌<◌, List, [], length, Option, Some, IsSome, ap, sym, ◌∙◌, subst, arith, inl, inr}
use Rattle.std.proofs.lemmas.Bool.{cases_lt}
use Rattle.std.proofs.lemmas.List.{get_or_past}
use Rattle.css_text.specs.declared.lexer.Span.{Span}
use Rattle.css_tree.specs.Parts.{kind_of, block_of}
use Rattle.node_store.specs.declared.seat.Seat.{Seat}
use Rattle.node_rows.specs.declared.node_list.NodeAt.{NodeAt}
use Rattle.node_rows.specs.Nodes.{Node, no_node, text_of, span_of}
use Rattle.node_rows.specs.Sound.{IsSound}
use Rattle.node_store.specs.Forest.{IsForest, IsSpanOf}
use Rattle.node_store.specs.Seats.{bare, IsStored}
use Rattle.node_rows.specs.NodeList.{entry_at, parent_in, nodes_of}
use Rattle.node_store.specs.NodeList.{IsNodeList}
use Rattle.node_rows.proofs.Built.{nodes_of-at, nodes_of-length}
use Rattle.node_rows.proofs.Edits.{parent-inside}

-- a node with a span was given out
pub span-inside : (ns : List Node) (n : ℕ) (span : Span) → span_of ns n ≡ Some span → n < length ns
span-inside ns n span e = elim (cases_lt n (length ns)) [ inl h ↦ h | inr h ↦ absurd (let i = ap (λ x. x.span) (get_or_past ns n no_node h) in cc) ]

container_of : (text : List ℕ) (es : List NodeAt) → IsNodeList text es → (n p : ℕ) → n < length es → parent_in n (entry_at es n) ≡ Some p → IsSome (block_of (entry_at es p).text)
container_of text es h zero p b e = absurd cc
container_of text es h (suc n) p b e =
    let i : (entry_at es (suc n)).parent ≡ p = cc in
    subst (λ k. IsSome (block_of (entry_at es k).text)) i (h.containers (suc n) (omega arith) b)

module _ (text : List ℕ) (es : List NodeAt) (h : IsNodeList text es) (s : IsSound (nodes_of es)) where
  inside : (n : ℕ) → n < length (nodes_of es) → n < length es
  inside n b = omega (arith, nodes_of-length es)

  text_is : (n : ℕ) → n < length es → text_of (nodes_of es) n ≡ (entry_at es n).text
  text_is n b = ap (λ x. x.text) (nodes_of-at es n b)

  pub IsForest-built : IsForest (bare text (nodes_of es))
  IsForest-built = record {
    sound = s;
    some = omega (arith, h.some, nodes_of-length es);
    root = ap kind_of (text_is 0 h.some) ∙ h.root;
    others = λ n z b e. h.others n z (inside n b) (sym (ap kind_of (text_is n (inside n b))) ∙ e);
    containers = λ n p e.
        let b = inside n (parent-inside (nodes_of es) n p e) in
        let c = container_of text es h n p b (sym (ap (λ x. x.parent) (nodes_of-at es n b)) ∙ e) in
        subst (λ t. IsSome (block_of t)) (sym (text_is p (inside p (s.below n p e)))) c;
    spans = λ n span e.
        let b = inside n (span-inside (nodes_of es) n span e) in
        let i : Some (entry_at es n).span ≡ Some span = sym (ap (λ x. x.span) (nodes_of-at es n b)) ∙ e in
        let j : (entry_at es n).span ≡ span = cc in
        subst (IsSpanOf text) j (h.spans n b);
    cursors = λ serial. tt;
  }

  pub IsStored-built : (seats : List (Option Seat)) → seats ≡ [] → IsStored text (nodes_of es) seats
  IsStored-built seats e = subst (IsStored text (nodes_of es)) (sym e) (record { forest = IsForest-built; seats_in = λ serial. tt })
