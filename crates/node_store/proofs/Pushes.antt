-- A list of nodes with one more behind it.
use Rattle.std.proofs.Common.{◌≡◌, ◌≢◌, ℕ, ◌+◌, ◌<◌, ◌≤◌, List, [], ◌∷◌, ◌++◌, Bool, true, false, length, IsSome, refl, ap, sym, ◌∙◌, subst, arith, eqb, cond, length-append, ◌⊎◌, inl, inr, ◌&&◌, ◌||◌, eq-eqb}
use Rattle.std.specs.List.{list_any}
use Rattle.std.proofs.lemmas.Bool.{and_parts, cases_lt, cases_Bool, false≢true}
use Rattle.std.proofs.lemmas.Bool.Decides.{nat_tests}
use Rattle.std.proofs.lemmas.List.{map-append, length-map}
use Rattle.std.proofs.Math.ListN.{get_or-append}
use Rattle.std.proofs.Math.Seq.{get_or-append_seam}
use Rattle.css_tree.specs.declared.node.Kind.TheVariants as K
use Rattle.css_tree.specs.Parts.{kind_of, block_of}
use Rattle.node_rows.specs.declared.node_list.NodeAt.{NodeAt}
use Rattle.node_store.specs.Forest.{IsSpanOf}
use Rattle.node_rows.specs.NodeList.{no_entry, entry_at, path_from, are_ordered, is_document_order, path_after, last_path, parents_in, Earlier}
use Rattle.node_store.specs.NodeList.{IsNodeList}
use Rattle.node_rows.proofs.Built.{order-earlier}

or_right : (a b : Bool) → b ≡ true → (a || b) ≡ true
or_right true b h = refl
or_right false b h = h

both : (a b : Bool) → a ≡ true → b ≡ true → (a && b) ≡ true
both true b e f = f
both false b e f = absurd (false≢true e)

ordered_push : (path : List ℕ) (n : ℕ) (ps : List ℕ) (p : ℕ) → are_ordered path n ps ≡ true → list_any (eqb p) (path_after path n ps) ≡ true → are_ordered path n (ps ++ p ∷ []) ≡ true
ordered_push path n [] p h k = both (list_any (eqb p) path) true k refl
ordered_push path n (q ∷ ps) p h k =
    let s = and_parts (list_any (eqb q) path) (are_ordered (n ∷ path_from q path) (n + 1) ps) h in
    both (list_any (eqb q) path) (are_ordered (n ∷ path_from q path) (n + 1) (ps ++ p ∷ [])) s.0 (ordered_push (n ∷ path_from q path) (n + 1) ps p s.1 k)

pub order-push : (parents : List ℕ) (p : ℕ) → is_document_order parents ≡ true → list_any (eqb p) (last_path parents) ≡ true → is_document_order (parents ++ p ∷ []) ≡ true
order-push parents p h k = ordered_push (0 ∷ []) 1 parents p h k

-- the last node is on its path
first_in : (n : ℕ) (rest : List ℕ) → list_any (eqb n) (n ∷ rest) ≡ true
first_in n rest = ap (λ b. b || list_any (eqb n) rest) (eq-eqb n n refl)

last_in : (m : ℕ) (rest : List ℕ) (n : ℕ) (ps : List ℕ) → m + 1 ≡ n → list_any (eqb (m + length ps)) (path_after (m ∷ rest) n ps) ≡ true
last_in m rest n [] e = ap (λ k. list_any (eqb k) (m ∷ rest)) (omega arith) ∙ first_in m rest
last_in m rest n (p ∷ ps) e = ap (λ k. list_any (eqb k) (path_after (n ∷ path_from p (m ∷ rest)) (n + 1) ps)) (omega arith) ∙ last_in n (path_from p (m ∷ rest)) (n + 1) ps refl

pub last-on_path : (parents : List ℕ) → list_any (eqb (length parents)) (last_path parents) ≡ true
last-on_path parents = ap (λ k. list_any (eqb k) (last_path parents)) (omega arith) ∙ last_in 0 [] 1 parents refl

-- the root is on each path, as the last of it
abbrev pub EndsInRoot : List ℕ → Type 0
EndsInRoot ms = (front : List ℕ) × (ms ≡ front ++ 0 ∷ [])

root_in : (front : List ℕ) → list_any (eqb 0) (front ++ 0 ∷ []) ≡ true
root_in [] = refl
root_in (m ∷ ms) = or_right (eqb 0 m) (list_any (eqb 0) (ms ++ 0 ∷ [])) (root_in ms)

from_case : (b : Bool) (m p : ℕ) (ms : List ℕ) → EndsInRoot (path_from p (ms ++ 0 ∷ [])) → EndsInRoot (cond b (m ∷ (ms ++ 0 ∷ [])) (path_from p (ms ++ 0 ∷ [])))
from_case true m p ms h = (m ∷ ms, refl)
from_case false m p ms h = h

last_case : (b : Bool) → (b || false) ≡ true → EndsInRoot (cond b (0 ∷ []) [])
last_case true h = ([], refl)
last_case false h = absurd (false≢true h)

skip : (b c : Bool) → b ≡ false → (b || c) ≡ true → c ≡ true
skip true c e h = absurd (false≢true (sym e))
skip false c e h = h

sides : (p m : ℕ) → eqb p m ≡ eqb m p
sides p m = grind (arith, nat_tests)

from_ends : (p : ℕ) (front : List ℕ) → list_any (eqb p) (front ++ 0 ∷ []) ≡ true → EndsInRoot (path_from p (front ++ 0 ∷ []))
from_ends p [] h = last_case (eqb 0 p) (ap (λ b. b || false) (sides 0 p) ∙ h)
from_ends p (m ∷ ms) h =
    elim (cases_Bool (eqb m p)) [
      | inl t ↦ rw t (m ∷ ms, refl)
      | inr f ↦ rw f (from_ends p ms (skip (eqb p m) (list_any (eqb p) (ms ++ 0 ∷ [])) (sides p m ∙ f) h))
    ]

path_ends : (path : List ℕ) (p : ℕ) → EndsInRoot path → list_any (eqb p) path ≡ true → EndsInRoot (path_from p path)
path_ends path p e h = subst (λ l. EndsInRoot (path_from p l)) (sym e.1) (from_ends p e.0 (ap (list_any (eqb p)) (sym e.1) ∙ h))

after_ends : (path : List ℕ) (n : ℕ) (ps : List ℕ) → EndsInRoot path → are_ordered path n ps ≡ true → EndsInRoot (path_after path n ps)
after_ends path n [] e h = e
after_ends path n (p ∷ ps) e h =
    let s = and_parts (list_any (eqb p) path) (are_ordered (n ∷ path_from p path) (n + 1) ps) h in
    let r = path_ends path p e s.0 in
    after_ends (n ∷ path_from p path) (n + 1) ps (n ∷ r.0, ap (λ l. n ∷ l) r.1) s.1

pub root-on_path : (parents : List ℕ) → is_document_order parents ≡ true → list_any (eqb 0) (last_path parents) ≡ true
root-on_path parents h = let e = after_ends (0 ∷ []) 1 parents ([], refl) h in ap (list_any (eqb 0)) e.1 ∙ root_in e.0

parents_push : (es : List NodeAt) (e : NodeAt) → 0 < length es → parents_in (es ++ e ∷ []) ≡ parents_in es ++ e.parent ∷ []
parents_push [] e b = absurd (omega arith)
parents_push (x ∷ xs) e b = map-append (λ y. y.parent) xs (e ∷ [])

module _ (text : List ℕ) (es : List NodeAt) (e : NodeAt) (h : IsNodeList text es) (few : length es < 33554433) (on : list_any (eqb e.parent) (last_path (parents_in es)) ≡ true) where
  abbrev pub grown : List NodeAt
  grown = es ++ e ∷ []

  wide : length grown ≡ length es + 1
  wide = length-append es (e ∷ [])

  old : (k : ℕ) → k < length es → entry_at grown k ≡ entry_at es k
  old k b = get_or-append es (e ∷ []) no_entry k b

  new : entry_at grown (length es) ≡ e
  new = get_or-append_seam es e [] no_entry

  ordered : is_document_order (parents_in grown) ≡ true
  ordered = ap is_document_order (parents_push es e h.some) ∙ order-push (parents_in es) e.parent h.order on

  earlier : Earlier grown
  earlier = order-earlier grown ordered

  parent_old : e.parent < length es
  parent_old = let i = earlier (length es) h.some (omega (arith, wide)) in omega (arith, ap (λ y. y.parent) new)

  -- the entry k is an old one or the new one
  each : (P : NodeAt → Type 0) → ((k : ℕ) → k < length es → P (entry_at es k)) → P e → (k : ℕ) → k < length grown → (k < length es) ⊎ (length es ≤ k) → P (entry_at grown k)
  each P f g k b (inl i) = subst P (sym (old k i)) (f k i)
  each P f g k b (inr i) = let j : k ≡ length es = omega (arith, wide) in subst P (sym (ap (entry_at grown) j ∙ new)) g

  other_each : kind_of e.text ≢ K.Root → (k : ℕ) → 0 < k → k < length grown → (k < length es) ⊎ (length es ≤ k) → kind_of (entry_at grown k).text ≢ K.Root
  other_each g k z b (inl i) = subst (λ y. kind_of y.text ≢ K.Root) (sym (old k i)) (h.others k z i)
  other_each g k z b (inr i) = let j : k ≡ length es = omega (arith, wide) in subst (λ y. kind_of y.text ≢ K.Root) (sym (ap (entry_at grown) j ∙ new)) g

  container_each : IsSome (block_of (entry_at es e.parent).text) → (k : ℕ) → 0 < k → k < length grown → (k < length es) ⊎ (length es ≤ k) → IsSome (block_of (entry_at grown (entry_at grown k).parent).text)
  container_each g k z b (inl i) =
      let p : (entry_at es k).parent < k = let q = earlier k z b in omega (arith, ap (λ y. y.parent) (old k i)) in
      subst (λ y. IsSome (block_of (entry_at grown y.parent).text)) (sym (old k i)) (subst (λ y. IsSome (block_of y.text)) (sym (old (entry_at es k).parent (omega arith))) (h.containers k z i))
  container_each g k z b (inr i) =
      let j : k ≡ length es = omega (arith, wide) in
      subst (λ y. IsSome (block_of (entry_at grown y.parent).text)) (sym (ap (entry_at grown) j ∙ new)) (subst (λ y. IsSome (block_of y.text)) (sym (old e.parent parent_old)) g)

  pub IsNodeList-push : kind_of e.text ≢ K.Root → IsSome (block_of (entry_at es e.parent).text) → IsSpanOf text e.span → IsNodeList text grown
  IsNodeList-push kind container span = record {
    some = omega (arith, wide);
    few = omega (arith, wide);
    order = ordered;
    root = ap (λ y. kind_of y.text) (old 0 h.some) ∙ h.root;
    others = λ k z b. other_each kind k z b (cases_lt k (length es));
    containers = λ k z b. container_each container k z b (cases_lt k (length es));
    spans = λ k b. each (λ y. IsSpanOf text y.span) h.spans span k b (cases_lt k (length es));
  }

-- the list of a root alone
pub IsNodeList-root : (text : List ℕ) (e : NodeAt) → kind_of e.text ≡ K.Root → IsSpanOf text e.span → IsNodeList text (e ∷ [])
IsNodeList-root text e kind span = record {
  some = omega arith;
  few = omega arith;
  order = refl;
  root = kind;
  others = λ k z b. absurd (omega arith);
  containers = λ k z b. absurd (omega arith);
  spans = λ k b. let i : k ≡ 0 = omega arith in subst (λ y. IsSpanOf text y.span) (sym (ap (entry_at (e ∷ [])) i)) span;
}

pub parents-count : (es : List NodeAt) → 0 < length es → length (parents_in es) + 1 ≡ length es
parents-count [] b = absurd (omega arith)
parents-count (x ∷ xs) b = omega (arith, length-map xs (λ y. y.parent))

-- a span without bytes at the start of the empty text
pub no_bytes : IsSpanOf [] (record { start = 0; end = 0 })
no_bytes = record { order = omega arith; start = (omega arith, λ l. absurd (omega arith)); end = (omega arith, λ l. absurd (omega arith)) }
