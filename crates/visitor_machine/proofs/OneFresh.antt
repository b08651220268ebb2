-- Fresh forests of one text have the same nodes.
use Rattle.std.proofs.Common.{◌≡◌, ℕ, List, [], ◌∷◌, Some, map, refl, ap, sym, ◌∙◌, subst}
use Rattle.css_text.specs.declared.lexer.Span.{Span}
use Rattle.css_tree.specs.declared.node.NodeText.{NodeText}
use Rattle.css_tree.specs.Reads.{Reads}
use Rattle.css_tree.specs.Numbered.{numbered}
use Rattle.css_tree.proofs.Reading.{one_reading}
use Rattle.node_rows.specs.declared.node_list.NodeAt.{NodeAt}
use Rattle.node_rows.specs.NodeList.{nodes_of}
use Rattle.node_store.specs.Fresh.{numbered_of}
use Rattle.visitor_machine.specs.Unchanged.{OneFresh}

abbrev entry : ℕ → NodeText → Span → NodeAt
entry parent text span = record { parent = parent; text = text; span = span }

entry_same : (a b : NodeAt) → numbered_of a ≡ numbered_of b → a ≡ b
entry_same a b e =
    let s : Some a.span ≡ Some b.span = ap (λ x. x.span) e in
    let q : a.span ≡ b.span = cc in
    ap (λ x. entry x a.text a.span) (ap (λ x. x.parent) e) ∙ (ap (λ x. entry b.parent x a.span) (ap (λ x. x.text) e) ∙ ap (λ x. entry b.parent b.text x) q)

entries_same : (xs ys : List NodeAt) → map numbered_of xs ≡ map numbered_of ys → xs ≡ ys
entries_same [] [] e = refl
entries_same [] (y ∷ ys) e = absurd cc
entries_same (x ∷ xs) [] e = absurd cc
entries_same (x ∷ xs) (y ∷ ys) e =
    let h : numbered_of x ≡ numbered_of y = cc in
    let t : map numbered_of xs ≡ map numbered_of ys = cc in
    ap (λ z. z ∷ xs) (entry_same x y h) ∙ ap (λ zs. y ∷ zs) (entries_same xs ys t)

pub one_fresh : OneFresh
one_fresh f g h k e =
    let t = one_reading f.text h.tree k.tree h.reads (subst (λ s. Reads s k.tree) (sym e) k.reads) in
    let es = entries_same h.entries k.entries (h.are_numbered ∙ (ap numbered t ∙ sym k.are_numbered)) in
    h.are_nodes ∙ (ap nodes_of es ∙ sym k.are_nodes)
