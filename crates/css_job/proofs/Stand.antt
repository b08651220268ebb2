-- In the text of a reading each node's body stands where its span starts.
use Rattle.std.proofs.Common.{◌≡◌, ℕ, ◌+◌, ◌<◌, List, [], ◌∷◌, ◌++◌, length, Bool, true, false, Some, None, refl, sym, ap, ◌∙◌, append_assoc, append-nil, arith, map, length-append}
use Rattle.std.specs.Prelude.{Option, IsSome}
use Rattle.std.specs.List.{flat_map}
use Rattle.std.proofs.lemmas.Bool.{false≢true}
use Rattle.std.proofs.lemmas.List.{map-append}
use Rattle.std.proofs.lemmas.List.Concat.{flat_map-cons}
use Rattle.std.proofs.lemmas.Grind.{flat_map-append}
use Rattle.css_text.specs.Ahead.{byte_len}
use Rattle.css_text.specs.Place.{place_of}
use Rattle.css_text.specs.declared.lexer.Span.{Span}
use Rattle.css_text.proofs.Slices.{byte_len-append}
use Rattle.css_tree.specs.Tree.{Trees, none, node}
use Rattle.css_tree.specs.Parts.{before_of}
use Rattle.css_tree.specs.Print.{Container, container_of, before_text, opening, closing, semicolon_after, print_children, print, body, starts_children, starts, starts_below}
use Rattle.css_tree.specs.Laws.{start_of, span_starts}
use Rattle.css_tree.specs.Whole.{AreWhole}
use Rattle.css_tree.specs.Reads.{Reads}
use Rattle.css_tree.proofs.Starts.{starts_at_spans}
use Rattle.css_tree.proofs.Whole.{whole_nodes}
use Rattle.node_rows.specs.Nodes.{Node, text_of, span_of, siblings_in}
use Rattle.node_rows.specs.Sound.{IsSound}
use Rattle.node_rows.specs.NumberTrees.{NumberTrees, no_trees, tree, plain, below, number_trees, tree_at}
use Rattle.node_rows.proofs.Climb.{path-top}
use Rattle.node_rows.proofs.Levels.{number_trees-none}
use Rattle.css_job.specs.Warnings.{Warning, brace_of_empty, empty_blocks, empty_block_warning}
use Rattle.css_job.specs.Walk.{Entry, entries, later_on, later, onward, found, EachStands}

cons_split : (a x : ℕ) (us xs : List ℕ) → a ∷ us ≡ x ∷ xs → (a ≡ x) × (us ≡ xs)
cons_split a x us xs e = let h : a ≡ x = cc in let t : us ≡ xs = cc in (h, t)

split_append : (us xs bs ys : List ℕ) → length us ≡ length xs → us ++ bs ≡ xs ++ ys → (us ≡ xs) × (bs ≡ ys)
split_append [] [] bs ys h e = (refl, e)
split_append [] (x ∷ xs) bs ys h e = absurd (omega arith)
split_append (a ∷ us) [] bs ys h e = absurd (omega arith)
split_append (a ∷ us) (x ∷ xs) bs ys h e =
    let t = cons_split a x (us ++ bs) (xs ++ ys) e in
    let r = split_append us xs bs ys (omega arith) t.1 in
    (ap (λ z. z ∷ us) t.0 ∙ ap (λ z. x ∷ z) r.0, r.1)

pub record StartsSplit (n : ℕ) (us bs xs ys : List ℕ) (o : Option Span) : Type 0 where
  pub head : start_of o ≡ n ∷ []
  pub inside : us ≡ xs
  pub behind : bs ≡ ys

pub split_starts : (n : ℕ) (us bs xs ys : List ℕ) (o : Option Span) → IsSome o → length us ≡ length xs → n ∷ (us ++ bs) ≡ start_of o ++ (xs ++ ys) → StartsSplit n us bs xs ys o
split_starts n us bs xs ys None s h e = absurd (false≢true s)
split_starts n us bs xs ys (Some p) s h e =
    let t = cons_split n p.start (us ++ bs) (xs ++ ys) e in
    let r = split_append us xs bs ys h t.1 in
    record { head = ap (λ z. z ∷ []) (sym t.0); inside = r.0; behind = r.1 }

start_one : (o : Option Span) → IsSome o → length (start_of o) ≡ 1
start_one None s = absurd (false≢true s)
start_one (Some p) s = refl

-- as many starts as spans
pub as_many : (at : ℕ) (c : Container) (f : Bool) (ts : Trees) → AreWhole ts → length (starts_children at c f ts) ≡ length (span_starts ts)
unfolding starts_children span_starts
as_many at c f none w = refl
as_many at c f (node text span children rest) w =
    let inner = container_of c.depth text children in
    let inside = at + byte_len (before_text c f (before_of text)) + byte_len (opening text) in
    let end = inside + byte_len (print_children inner true children ++ (closing c.depth text children ++ semicolon_after c text rest)) in
    omega (
      arith,
      start_one span w.0,
      length-append (start_of span) (span_starts children ++ span_starts rest),
      length-append (span_starts children) (span_starts rest),
      length-append (starts_children inside inner true children) (starts_children end c false rest),
      as_many inside inner true children w.2,
      as_many end c false rest w.3,
    )

each_append : (s : List ℕ) (ns : List Node) (xs ys : List Entry) → EachStands s ns xs → EachStands s ns ys → EachStands s ns (xs ++ ys)
each_append s ns [] ys h k = k
each_append s ns (x ∷ xs) ys h k = (h.0, each_append s ns xs ys h.1 k)

module _ (s : List ℕ) (ns : List Node) where
  -- trees that are printed behind a front of the text
  stand_in : (nt : NumberTrees) (front behind : List ℕ) (c : Container) (f : Bool) → s ≡ front ++ (print_children c f (plain ns nt) ++ behind) → AreWhole (plain ns nt) → starts_children (byte_len front) c f (plain ns nt) ≡ span_starts (plain ns nt) → EachStands s ns (entries nt)
  unfolding entries starts_children span_starts print_children
  stand_in no_trees front behind c f e w h = tt
  stand_in (tree m ch r) front behind c f e w h =
      let kids = plain ns ch in
      let others = plain ns r in
      let text = text_of ns m in
      let B = before_text c f (before_of text) in
      let O = opening text in
      let inner = container_of c.depth text kids in
      let K = print_children inner true kids in
      let C = closing c.depth text kids in
      let S = semicolon_after c text others in
      let R = print_children c false others in
      let first = front ++ B in
      let second = first ++ O in
      let third = second ++ (K ++ (C ++ S)) in
      let at_first : byte_len first ≡ byte_len front + byte_len B = byte_len-append front B in
      let at_second : byte_len second ≡ byte_len front + byte_len B + byte_len O = byte_len-append first O ∙ ap (λ k. k + byte_len O) at_first in
      let at_third : byte_len third ≡ byte_len front + byte_len B + byte_len O + byte_len (K ++ (C ++ S)) = byte_len-append second (K ++ (C ++ S)) ∙ ap (λ k. k + byte_len (K ++ (C ++ S))) at_second in
      let parts = split_starts _ _ _ (span_starts kids) (span_starts others) (span_of ns m) w.0 (as_many _ inner true kids w.2) h in (
        record { front = first; behind = (K ++ (C ++ (S ++ R))) ++ behind; all = e ∙ simp append_assoc; start = parts.head ∙ ap (λ z. z ∷ []) (sym at_first) },
        each_append s ns (entries ch) (entries r)
            (stand_in ch second ((C ++ (S ++ R)) ++ behind) inner true (e ∙ simp append_assoc) w.2 (ap (λ z. starts_children z inner true kids) at_second ∙ parts.inside))
            (stand_in r third behind c false (e ∙ simp append_assoc) w.3 (ap (λ z. starts_children z c false others) at_third ∙ parts.behind)),
      )

  pub stand : Reads s (tree_at ns 0) → EachStands s ns (entries (below ns 0))
  unfolding print body starts starts_below
  stand h =
      let t = tree_at ns 0 in
      stand_in (below ns 0) (opening t.text) (closing 0 t.text t.children) (container_of 0 t.text t.children) true (sym h.prints) (whole_nodes s t h).2 (starts_at_spans s t h)

  abbrev warned : ℕ → Warning
  warned at = empty_block_warning (place_of s at)

  -- the warnings on the entries are those on the trees
  pub found_all : (nt : NumberTrees) → flat_map (found s ns) (entries nt) ≡ map warned (empty_blocks (plain ns nt))
  unfolding entries
  found_all no_trees = refl
  found_all (tree m ch r) =
      let e : Entry = record { number = m; children = ch } in
      let b = brace_of_empty (text_of ns m) (span_of ns m) (plain ns ch) in
      flat_map-cons (found s ns) e (entries ch ++ entries r)
      ∙ (ap (λ z. found s ns e ++ z) (flat_map-append (found s ns) (entries ch) (entries r) ∙ (ap (λ z. z ++ flat_map (found s ns) (entries r)) (found_all ch) ∙ ap (λ z. map warned (empty_blocks (plain ns ch)) ++ z) (found_all r)))
      ∙ sym (map-append warned b (empty_blocks (plain ns ch) ++ empty_blocks (plain ns r)) ∙ ap (λ z. map warned b ++ z) (map-append warned (empty_blocks (plain ns ch)) (empty_blocks (plain ns r)))))

-- behind the root stands all that is below it
pub onward_root : (ns : List Node) → IsSound ns → 0 < length ns → onward ns 0 ≡ entries (below ns 0)
unfolding onward later entries
onward_root ns s b =
    ap (λ z. entries (below ns 0) ++ z) (ap (later_on ns) (path-top ns s 0 b s.root) ∙ (append-nil _ ∙ (ap (λ z. entries (number_trees ns (siblings_in ns 0 z))) s.root ∙ ap entries (number_trees-none ns)))) ∙ append-nil (entries (below ns 0))
