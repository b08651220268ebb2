-- In the text of a reading each node's body stands where its span starts.
use Rattle.std.proofs.Common.{◌≡◌, ℕ, zero, suc, ◌+◌, ◌<◌, ◌≤◌, List, [], ◌∷◌, ◌++◌, length, Bool, true, false, Some, None, refl, sym, ap, subst, ◌∙◌, append_assoc, arith, length-append, inl, inr}
use Rattle.std.specs.Prelude.{Option, IsSome}
use Rattle.std.specs.List.{range_with_len}
use Rattle.std.proofs.lemmas.Bool.{false≢true, cases_eq}
use Rattle.css_text.specs.Ahead.{byte_len}
use Rattle.css_text.specs.declared.lexer.Span.{Span}
use Rattle.css_text.proofs.Slices.{byte_len-append}
use Rattle.css_tree.specs.Tree.{Trees, none, node}
use Rattle.css_tree.specs.Parts.{before_of}
use Rattle.css_tree.specs.Print.{Container, container_of, before_text, opening, closing, semicolon_after, print_children, print, body, starts_children, starts, starts_below}
use Rattle.css_tree.specs.Laws.{start_of, span_starts}
use Rattle.css_tree.specs.Whole.{AreWhole}
use Rattle.css_tree.specs.Reads.{Reads}
use Rattle.css_tree.proofs.Starts.{starts_at_spans}
use Rattle.css_tree.proofs.Whole.{whole_nodes}
use Rattle.node_rows.specs.Nodes.{Node, text_of, span_of}
use Rattle.node_rows.specs.NumberTrees.{NumberTrees, no_trees, tree, plain, below, numbers, numbers_below, tree_at}
use Rattle.node_rows.proofs.Levels.{Each}
use Rattle.node_store.specs.Forest.{tree_of}
use Rattle.node_store.proofs.FreshTree.{fresh_tree}
use Rattle.rule_sites.specs.Laws.{EachStands}
use Rattle.rule_sites.specs.Stands.{Stands}
use Rattle.rule_sites.proofs.Numbers.{numbers_in_order}

cons_split : (a x : ℕ) (us xs : List ℕ) → a ∷ us ≡ x ∷ xs → (a ≡ x) × (us ≡ xs)
cons_split a x us xs e = let h : a ≡ x = cc in let t : us ≡ xs = cc in (h, t)

split_append : (us xs bs ys : List ℕ) → length us ≡ length xs → us ++ bs ≡ xs ++ ys → (us ≡ xs) × (bs ≡ ys)
split_append [] [] bs ys h e = (refl, e)
split_append [] (x ∷ xs) bs ys h e = absurd (omega arith)
split_append (a ∷ us) [] bs ys h e = absurd (omega arith)
split_append (a ∷ us) (x ∷ xs) bs ys h e =
    let t = cons_split a x (us ++ bs) (xs ++ ys) e in
    let r = split_append us xs bs ys (omega arith) t.1 in
    (ap (λ z. z ∷ us) t.0 ∙ ap (λ z. x ∷ z) r.0, r.1)

record StartsSplit (n : ℕ) (us bs xs ys : List ℕ) (o : Option Span) : Type 0 where
  head : start_of o ≡ n ∷ []
  inside : us ≡ xs
  behind : bs ≡ ys

split_starts : (n : ℕ) (us bs xs ys : List ℕ) (o : Option Span) → IsSome o → length us ≡ length xs → n ∷ (us ++ bs) ≡ start_of o ++ (xs ++ ys) → StartsSplit n us bs xs ys o
split_starts n us bs xs ys None s h e = absurd (false≢true s)
split_starts n us bs xs ys (Some p) s h e =
    let t = cons_split n p.start (us ++ bs) (xs ++ ys) e in
    let r = split_append us xs bs ys h t.1 in
    record { head = ap (λ z. z ∷ []) (sym t.0); inside = r.0; behind = r.1 }

start_one : (o : Option Span) → IsSome o → length (start_of o) ≡ 1
start_one None s = absurd (false≢true s)
start_one (Some p) s = refl

-- as many starts as spans
as_many : (at : ℕ) (c : Container) (f : Bool) (ts : Trees) → AreWhole ts → length (starts_children at c f ts) ≡ length (span_starts ts)
unfolding starts_children span_starts
as_many at c f none w = refl
as_many at c f (node text span children rest) w =
    let inner = container_of c.depth text children in
    let inside = at + byte_len (before_text c f (before_of text)) + byte_len (opening text) in
    let end = inside + byte_len (print_children inner true children ++ (closing c.depth text children ++ semicolon_after c text rest)) in
    omega (
      arith,
      start_one span w.0,
      length-append (start_of span) (span_starts children ++ span_starts rest),
      length-append (span_starts children) (span_starts rest),
      length-append (starts_children inside inner true children) (starts_children end c false rest),
      as_many inside inner true children w.2,
      as_many end c false rest w.3,
    )

each-append : (P : ℕ → Type 0) (xs ys : List ℕ) → Each P xs → Each P ys → Each P (xs ++ ys)
each-append P [] ys h k = k
each-append P (x ∷ xs) ys h k = (h.0, each-append P xs ys h.1 k)

each-range : (P : ℕ → Type 0) (a k n : ℕ) → Each P (range_with_len a k) → a ≤ n → n < a + k → P n
each-range P a zero n h l b = absurd (omega arith)
each-range P a (suc k) n h l b =
    elim (cases_eq n a) [
      | inl e ↦ subst P (sym e) h.0
      | inr d ↦ each-range P (a + 1) k n h.1 (omega arith) (omega arith)
    ]

module _ (s : List ℕ) (ns : List Node) where
  abbrev StandsAt : ℕ → Type 0
  StandsAt m = Stands s (text_of ns m) (span_of ns m)

  -- trees that are printed after a front of the text
  stand_in : (nt : NumberTrees) (front behind : List ℕ) (c : Container) (f : Bool) → s ≡ front ++ (print_children c f (plain ns nt) ++ behind) → AreWhole (plain ns nt) → starts_children (byte_len front) c f (plain ns nt) ≡ span_starts (plain ns nt) → Each StandsAt (numbers nt)
  unfolding starts_children span_starts print_children
  stand_in no_trees front behind c f e w h = tt
  stand_in (tree m ch r) front behind c f e w h =
      let kids = plain ns ch in
      let others = plain ns r in
      let text = text_of ns m in
      let B = before_text c f (before_of text) in
      let O = opening text in
      let inner = container_of c.depth text kids in
      let K = print_children inner true kids in
      let C = closing c.depth text kids in
      let S = semicolon_after c text others in
      let R = print_children c false others in
      let first = front ++ B in
      let second = first ++ O in
      let third = second ++ (K ++ (C ++ S)) in
      let at_first : byte_len first ≡ byte_len front + byte_len B = byte_len-append front B in
      let at_second : byte_len second ≡ byte_len front + byte_len B + byte_len O = byte_len-append first O ∙ ap (λ k. k + byte_len O) at_first in
      let at_third : byte_len third ≡ byte_len front + byte_len B + byte_len O + byte_len (K ++ (C ++ S)) = byte_len-append second (K ++ (C ++ S)) ∙ ap (λ k. k + byte_len (K ++ (C ++ S))) at_second in
      let parts = split_starts _ _ _ (span_starts kids) (span_starts others) (span_of ns m) w.0 (as_many _ inner true kids w.2) h in (
        record { front = first; rest = (K ++ (C ++ (S ++ R))) ++ behind; all = e ∙ simp append_assoc; start = parts.head ∙ ap (λ z. z ∷ []) (sym at_first) },
        each-append StandsAt (numbers ch) (numbers r)
            (stand_in ch second ((C ++ (S ++ R)) ++ behind) inner true (e ∙ simp append_assoc) w.2 (ap (λ z. starts_children z inner true kids) at_second ∙ parts.inside))
            (stand_in r third behind c false (e ∙ simp append_assoc) w.3 (ap (λ z. starts_children z c false others) at_third ∙ parts.behind)),
      )

  stand_below : Reads s (tree_at ns 0) → Each StandsAt (numbers_below ns 0)
  unfolding print body starts starts_below
  stand_below h =
      let t = tree_at ns 0 in
      stand_in (below ns 0) (opening t.text) (closing 0 t.text t.children) (container_of 0 t.text t.children) true (sym h.prints) (whole_nodes s t h).2 (starts_at_spans s t h)

  stand_root : Reads s (tree_at ns 0) → StandsAt 0
  unfolding print body
  stand_root h = record { front = []; rest = _; all = sym h.prints; start = ap start_of h.is_span }

  stand_all : Reads s (tree_at ns 0) → Each StandsAt (0 ∷ numbers_below ns 0)
  stand_all h = (stand_root h, stand_below h)

pub each_stands : EachStands
each_stands f i h n b =
    let r : Reads f.text (tree_of f) = subst (Reads f.text) (sym (fresh_tree f i h)) h.reads in
    each-range (StandsAt f.text f.nodes) 0 (length f.nodes) n (subst (Each (StandsAt f.text f.nodes)) (numbers_in_order f i h) (stand_all f.text f.nodes r)) (omega arith) (omega arith)
