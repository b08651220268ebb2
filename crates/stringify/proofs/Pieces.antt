-- What is printed of trees: their text, their numbers and their starts.
use Rattle.std.proofs.Common.{◌≡◌, ℕ, ◌+◌, List, [], ◌∷◌, ◌++◌, Bool, true, false, map, refl, ap, sym, ◌∙◌, subst, arith, cond, append_assoc, append-nil, eq-eqb}
use Rattle.std.specs.Prelude.{nat_eq}
use Rattle.std.specs.Char.{len_utf8}
use Rattle.std.proofs.lemmas.List.{map-append}
use Rattle.std.proofs.lemmas.List.Sums.{sum_by-append}
use Rattle.css_text.specs.Ahead.{byte_len}
use Rattle.css_tree.specs.Parts.{before_of}
use Rattle.css_tree.specs.Print.{Container, container_of, before_text, opening, closing, semicolon_after, print_children, body, starts_children, starts_below}
use Rattle.node_rows.specs.Nodes.{Node, text_of, depth_of, parent_of}
use Rattle.node_rows.specs.NumberTrees.{NumberTrees, no_trees, tree, numbers, plain, below, tree_at}
use Rattle.stringify.specs.declared.printed.Start.{Start}
use Rattle.stringify.specs.Sheet.{Sheet, put, begin, start_of, begun, printed, container_at, ended, semicolon_of, semicolon_in, with_body}
use Rattle.stringify.proofs.Puts.{sheet}

abbrev pub nodes_in : List Start → List ℕ
nodes_in ss = map (λ s. s.node) ss

abbrev pub ats_in : List Start → List ℕ
ats_in ss = map (λ s. s.at) ss

byte_len-append : (xs ys : List ℕ) → byte_len (xs ++ ys) ≡ byte_len xs + byte_len ys
byte_len-append xs ys = sum_by-append len_utf8 xs ys

-- y is x with the printing of the trees behind it
pub record Shows (ns : List Node) (c : Container) (is_first : Bool) (ts : NumberTrees) (x y : Sheet) : Type 0 where
  pub text : y.text ≡ x.text ++ print_children c is_first (plain ns ts)
  pub nodes : nodes_in y.starts ≡ nodes_in x.starts ++ numbers ts
  pub ats : ats_in y.starts ≡ ats_in x.starts ++ starts_children (byte_len x.text) c is_first (plain ns ts)

nodes_more : (ss : List Start) (n at : ℕ) → nodes_in (ss ++ start_of n at ∷ []) ≡ nodes_in ss ++ n ∷ []
nodes_more ss n at = map-append (λ s. s.node) ss (start_of n at ∷ [])

ats_more : (ss : List Start) (n at : ℕ) → ats_in (ss ++ start_of n at ∷ []) ≡ ats_in ss ++ at ∷ []
ats_more ss n at = map-append (λ s. s.at) ss (start_of n at ∷ [])

texts : (x b o k e m r : List ℕ) → ((((x ++ b) ++ o) ++ k) ++ (e ++ m)) ++ r ≡ x ++ (b ++ (o ++ (k ++ (e ++ (m ++ r)))))
texts x b o k e m r = simp append_assoc refl

four : (x k r : List ℕ) (n : ℕ) → ((x ++ n ∷ []) ++ k) ++ r ≡ x ++ n ∷ (k ++ r)
four x k r n = simp append_assoc refl

-- the same trees, when the first tree and what follows it are shown
shows_tree : (ns : List Node) (c : Container) (b : Bool) (n : ℕ) (children rest : NumberTrees) (x x2 y : Sheet)
    → Shows ns (container_of c.depth (text_of ns n) (plain ns children)) true children (begun ns c b n x) x2
    → Shows ns c false rest (put (closing c.depth (text_of ns n) (plain ns children) ++ semicolon_after c (text_of ns n) (plain ns rest)) x2) y
    → Shows ns c b (tree n children rest) x y
unfolding print_children starts_children
shows_tree ns c b n children rest x x2 y h i =
    let t = text_of ns n in
    let inner = plain ns children in
    let ci = container_of c.depth t inner in
    let before = before_text c b (before_of t) in
    let opens = opening t in
    let kids = print_children ci true inner in
    let close = closing c.depth t inner in
    let semi = semicolon_after c t (plain ns rest) in
    let more = print_children c false (plain ns rest) in
    let start = byte_len x.text + byte_len before in
    let inside = start + byte_len opens in
    let end = inside + byte_len (kids ++ (close ++ semi)) in
    let at_start : byte_len (x.text ++ before) ≡ start = byte_len-append x.text before in
    let at_inside : byte_len ((x.text ++ before) ++ opens) ≡ inside = byte_len-append (x.text ++ before) opens ∙ ap (λ k. k + byte_len opens) at_start in
    let at_end : byte_len (x2.text ++ (close ++ semi)) ≡ end =
    ap (λ l. byte_len (l ++ (close ++ semi))) h.text
    ∙ (byte_len-append (((x.text ++ before) ++ opens) ++ kids) (close ++ semi)
    ∙ omega (arith, byte_len-append ((x.text ++ before) ++ opens) kids, byte_len-append kids (close ++ semi), at_inside)) in
    record {
      text = i.text ∙ (ap (λ l. (l ++ (close ++ semi)) ++ more) h.text ∙ texts x.text before opens kids close semi more);
      nodes = i.nodes ∙ (ap (λ l. l ++ numbers rest) (h.nodes ∙ ap (λ l. l ++ numbers children) (nodes_more x.starts n (byte_len (x.text ++ before))))
          ∙ four (nodes_in x.starts) (numbers children) (numbers rest) n);
      ats = i.ats
          ∙ (ap (λ k. ats_in x2.starts ++ starts_children k c false (plain ns rest)) at_end
          ∙ (ap (λ l. l ++ starts_children end c false (plain ns rest)) (h.ats
          ∙ (ap (λ k. ats_in (begun ns c b n x).starts ++ starts_children k ci true inner) at_inside
          ∙ ap (λ l. l ++ starts_children inside ci true inner) (ats_more x.starts n (byte_len (x.text ++ before)) ∙ ap (λ k. ats_in x.starts ++ k ∷ []) at_start)))
          ∙ four (ats_in x.starts) (starts_children inside ci true inner) (starts_children end c false (plain ns rest)) start));
    }

pub shows : (ns : List Node) (c : Container) (b : Bool) (ts : NumberTrees) (x : Sheet) → Shows ns c b ts x (printed ns c b ts x)
unfolding printed print_children starts_children
shows ns c b no_trees x = record { text = sym (append-nil x.text); nodes = sym (append-nil (nodes_in x.starts)); ats = sym (append-nil (ats_in x.starts)) }
shows ns c b (tree n children rest) x =
    let inner = plain ns children in
    let ci = container_of c.depth (text_of ns n) inner in
    let x2 = printed ns ci true children (begun ns c b n x) in
    let x3 = put (closing c.depth (text_of ns n) inner ++ semicolon_after c (text_of ns n) (plain ns rest)) x2 in
    shows_tree ns c b n children rest x x2 (printed ns c false rest x3) (shows ns ci true children (begun ns c b n x)) (shows ns c false rest x3)

-- what is printed of a node; b says whether it is the root
pub record BodyShown (ns : List Node) (n : ℕ) (b : Bool) (y : Sheet) : Type 0 where
  pub text : y.text ≡ body (depth_of ns n) (tree_at ns n)
  pub nodes : nodes_in y.starts ≡ cond b (numbers (below ns n)) (n ∷ numbers (below ns n))
  pub ats : ats_in y.starts ≡ cond b (starts_below (depth_of ns n) (tree_at ns n)) (0 ∷ starts_below (depth_of ns n) (tree_at ns n))

no_semicolon : (ns : List Node) (n : ℕ) → semicolon_of ns n n ≡ []
no_semicolon ns n = ap (λ t. cond t [] (semicolon_in ns n (parent_of ns n))) (eq-eqb n n refl)

ends_in : (o k e m : List ℕ) → m ≡ [] → (o ++ k) ++ (e ++ m) ≡ o ++ (k ++ e)
ends_in o k e m h = ap (λ l. (o ++ k) ++ (e ++ l)) h ∙ (ap (λ l. (o ++ k) ++ l) (append-nil e) ∙ append_assoc o k e)

body_of : (ns : List Node) (n : ℕ) (b : Bool) → BodyShown ns n b (ended ns n n (printed ns (container_at ns n) true (below ns n) (put (opening (text_of ns n)) (cond b (sheet [] []) (begin n (sheet [] []))))))
unfolding body starts_below
body_of ns n true =
    let h = shows ns (container_at ns n) true (below ns n) (put (opening (text_of ns n)) (sheet [] [])) in
    let close = closing (depth_of ns n) (text_of ns n) (plain ns (below ns n)) in
    record {
      text = ap (λ l. l ++ (close ++ semicolon_of ns n n)) h.text ∙ ends_in (opening (text_of ns n)) (print_children (container_at ns n) true (plain ns (below ns n))) close (semicolon_of ns n n) (no_semicolon ns n);
      nodes = h.nodes;
      ats = h.ats;
    }
body_of ns n false =
    let h = shows ns (container_at ns n) true (below ns n) (put (opening (text_of ns n)) (begin n (sheet [] []))) in
    let close = closing (depth_of ns n) (text_of ns n) (plain ns (below ns n)) in
    record {
      text = ap (λ l. l ++ (close ++ semicolon_of ns n n)) h.text ∙ ends_in (opening (text_of ns n)) (print_children (container_at ns n) true (plain ns (below ns n))) close (semicolon_of ns n n) (no_semicolon ns n);
      nodes = h.nodes;
      ats = h.ats;
    }

pub body-shown : (ns : List Node) (n : ℕ) (y : Sheet) → y ≡ with_body ns n (sheet [] []) → BodyShown ns n (nat_eq n 0) y
unfolding with_body
body-shown ns n y e = subst (BodyShown ns n (nat_eq n 0)) (sym e) (body_of ns n (nat_eq n 0))
