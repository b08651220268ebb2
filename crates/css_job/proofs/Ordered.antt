-- The braces of empty blocks are in the order of the text.
use Rattle.std.proofs.Common.{◌≡◌, ℕ, ◌+◌, ◌≤◌, List, [], ◌∷◌, ◌++◌, Bool, true, false, refl, sym, ap, subst, arith, map, cond}
use Rattle.std.specs.Prelude.{Option}
use Rattle.css_text.specs.Ahead.{byte_len}
use Rattle.css_text.specs.declared.lexer.Span.{Span}
use Rattle.css_text.proofs.Slices.{byte_len-append}
use Rattle.css_tree.specs.declared.node.NodeText.{NodeText}
use Rattle.css_tree.specs.Tree.{Trees, none, node}
use Rattle.css_tree.specs.Parts.{before_of}
use Rattle.css_tree.specs.Print.{Container, container_of, before_text, opening, closing, semicolon_after, print_children, starts_children, starts, starts_below}
use Rattle.css_tree.specs.Laws.{start_of, span_starts}
use Rattle.css_tree.specs.Whole.{AreWhole}
use Rattle.css_tree.proofs.Starts.{starts_at_spans}
use Rattle.css_tree.proofs.Whole.{whole_nodes}
use Rattle.css_job.specs.Warnings.{is_empty_block, before_brace, brace_of_empty, empty_blocks}
use Rattle.css_job.specs.Laws.{Rising, InOrder}
use Rattle.css_job.proofs.Brace.{follows}
use Rattle.css_job.proofs.Stand.{split_starts, as_many}

-- rising numbers from lo on, all of them before hi
Ordered : ℕ → List ℕ → ℕ → Type 0
Ordered lo [] hi = lo ≤ hi
Ordered lo (x ∷ xs) hi = (lo ≤ x) × Ordered (x + 1) xs hi

from_lower : (xs : List ℕ) (low lo hi : ℕ) → low ≤ lo → Ordered lo xs hi → Ordered low xs hi
unfolding Ordered
from_lower [] low lo hi l h = omega (arith, l, h)
from_lower (x ∷ xs) low lo hi l h = (omega (arith, l, h.0), h.1)

then : (xs ys : List ℕ) (lo mid hi : ℕ) → Ordered lo xs mid → Ordered mid ys hi → Ordered lo (xs ++ ys) hi
unfolding Ordered
then [] ys lo mid hi h k = from_lower ys lo mid hi h k
then (x ∷ xs) ys lo mid hi h k = (h.0, then xs ys (x + 1) mid hi h.1 k)

rising_of : (xs : List ℕ) (lo hi : ℕ) → Ordered lo xs hi → Rising xs
unfolding Ordered
rising_of [] lo hi h = tt
rising_of (x ∷ []) lo hi h = tt
rising_of (x ∷ y ∷ zs) lo hi h = (omega (arith, h.1.0), rising_of (y ∷ zs) (x + 1) hi h.1)

one_brace : (b : Bool) (text : NodeText) (span : Option Span) (kids : Trees) (at start : ℕ) → is_empty_block text kids ≡ b → start_of span ≡ start ∷ [] → at ≤ start → Ordered at (cond b (map (λ x. x + byte_len (before_brace text)) (start_of span)) []) (start + byte_len (opening text))
unfolding Ordered
one_brace false text span kids at start e s l = omega (arith, l)
one_brace true text span kids at start e s l =
    subst (λ z. Ordered at (map (λ x. x + byte_len (before_brace text)) z) (start + byte_len (opening text))) (sym s)
    (omega (arith, l), omega (arith, ap byte_len (follows text kids e), byte_len-append (before_brace text) (123 ∷ [])))

ordered_in : (ts : Trees) (at : ℕ) (c : Container) (f : Bool) → AreWhole ts → starts_children at c f ts ≡ span_starts ts → Ordered at (empty_blocks ts) (at + byte_len (print_children c f ts))
unfolding Ordered starts_children span_starts print_children
ordered_in none at c f w h = omega arith
ordered_in (node text span kids rest) at c f w h =
    let B = before_text c f (before_of text) in
    let O = opening text in
    let inner = container_of c.depth text kids in
    let K = print_children inner true kids in
    let C = closing c.depth text kids in
    let S = semicolon_after c text rest in
    let R = print_children c false rest in
    let start = at + byte_len B in
    let inside = start + byte_len O in
    let end = inside + byte_len (K ++ (C ++ S)) in
    let parts = split_starts start (starts_children inside inner true kids) (starts_children end c false rest) (span_starts kids) (span_starts rest) span w.0 (as_many inside inner true kids w.2) h in
    let brace = one_brace (is_empty_block text kids) text span kids at start refl parts.head (omega arith) in
    let below = ordered_in kids inside inner true w.2 parts.inside in
    let behind = ordered_in rest end c false w.3 parts.behind in
    let gap : inside + byte_len K ≤ end = omega (arith, byte_len-append K (C ++ S)) in
    let size : end + byte_len R ≡ at + byte_len (B ++ (O ++ (K ++ (C ++ (S ++ R))))) = omega (arith, byte_len-append B (O ++ (K ++ (C ++ (S ++ R)))), byte_len-append O (K ++ (C ++ (S ++ R))), byte_len-append K (C ++ (S ++ R)), byte_len-append C (S ++ R), byte_len-append S R, byte_len-append K (C ++ S), byte_len-append C S) in
    subst (Ordered at (empty_blocks (node text span kids rest))) size
    (then (brace_of_empty text span kids) (empty_blocks kids ++ empty_blocks rest) at inside (end + byte_len R) brace
    (then (empty_blocks kids) (empty_blocks rest) inside (inside + byte_len K) (end + byte_len R) below (from_lower (empty_blocks rest) (inside + byte_len K) end (end + byte_len R) gap behind)))

pub in_order : InOrder
unfolding starts starts_below
in_order s t h = rising_of (empty_blocks t.children) _ _ (ordered_in t.children (byte_len (opening t.text)) (container_of 0 t.text t.children) true (whole_nodes s t h).2 (starts_at_spans s t h))
