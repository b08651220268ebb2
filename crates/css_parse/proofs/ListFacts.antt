-- What the list of a reading's nodes meets, together.
use Rattle.std.proofs.Common.{◌≡◌, ◌≢◌, ℕ, zero, suc, ◌+◌, ◌<◌, ◌≤◌, List, [], ◌∷◌, ◌++◌, length, Option, Some, None, IsSome, Result, Ok, Err, refl, ◌∙◌, sym, ap, subst, arith}
use Rattle.std.specs.Str.{chars, IsUtf8, IsCharBoundary}
use lib.Utf8.{encodes}
use Rattle.std.proofs.lemmas.Str.{IsCharBoundary-start, IsCharBoundary-end}
use Rattle.css_text.specs.Ahead.{byte_len}
use Rattle.css_text.proofs.Transport.{length-bytes}
use Rattle.css_tree.specs.declared.node.Kind.TheVariants as K
use Rattle.css_tree.specs.Parts.{kind_of, block_of}
use Rattle.css_tree.specs.Pieces.{Lexeme, pieces_of}
use Rattle.css_tree.specs.Nodes.{Nodes, none, comment, leaf, block, line}
use Rattle.css_tree.specs.Reads.{Reads}
use Rattle.css_tree.specs.Numbered.{number_after}
use Rattle.css_tree.proofs.TreeOf.{trees, tree_of}
use Rattle.css_tree.proofs.Reader.{finish, ok}
use Rattle.css_tree.proofs.Reading.{read, read-reads, read-holds}
use Rattle.css_tree.proofs.Sound.{Holds, line_rest}
use Rattle.css_tree.proofs.Sizes.{two_bytes, at_most_half}
use Rattle.node_rows.specs.declared.node_list.NodeAt.{NodeAt}
use Rattle.node_rows.specs.NodeList.{no_entry, entry_at}
use Rattle.node_store.specs.NodeList.{IsNodeList}
use Rattle.node_store.specs.Forest.{IsSpanOf}
use Rattle.css_parse.specs.Machine.{count, flat}
use Rattle.css_text.specs.declared.stop.Stop.{Stop}
use Rattle.css_text.specs.declared.stop.Stop.TheVariants as StopOf
use Rattle.css_text.specs.Place.{place_of}
use Rattle.css_tree.specs.declared.fault.SyntaxFault.{SyntaxFault}
use Rattle.css_tree.specs.Fault.{Fault, fault}
use Rattle.css_tree.proofs.Reading.{fault_or_reading}
use Rattle.css_parse.specs.Machine.{faulty, done}
use Rattle.css_parse.specs.Reading.{whole, IsRead}
use Rattle.css_parse.proofs.FaultPlaces.{fault-boundary}
use Rattle.css_parse.specs.Answer.{IsListed, IsNodes, IsFaultOf}
use Rattle.css_parse.proofs.Order.{in_order}
use Rattle.css_parse.proofs.Listed.{IsReading, root_of, all-numbered, count-trees, reading_of, fault_of}
use Rattle.css_parse.proofs.NodeFacts.{All, all-at, IsNoRoot, no_roots, IsContainer, in_containers, count-length, IsCutAt, cuts, pieces-sit, sit-front, AllSit}

count-shift : (f : Nodes) (n : ℕ) → count (suc n) f ≡ suc (count n f)
unfolding count
count-shift none n = refl
count-shift (comment b p f) n = count-shift f (suc n)
count-shift (leaf b r e f) n = count-shift f (suc n)
count-shift (block b r o k a c f) n = ap (λ z. count z f) (count-shift k (suc n)) ∙ count-shift f (count (suc n) k)

flat-length : (f : Nodes) → length (flat 0 1 f) ≡ number_after 0 (trees f)
flat-length f = omega (arith, count-length f 0 1, count-shift f 0, count-trees f 0)

module _ (s : List ℕ) (f : Nodes) (a : List Lexeme) (bs : List ℕ) (u : IsUtf8 bs) (e : bs ≡ encodes s) (c : chars bs ≡ s) (short : length bs ≤ 67108864) (r : read s ≡ ok (finish f a)) where
  es : List NodeAt
  es = root_of s f a ∷ flat 0 1 f

  reads : Reads s (tree_of s f a)
  reads = read-reads s f a r

  all : line f ++ a ≡ pieces_of s
  unfolding line_rest
  all = all_by (subst (λ x. Holds [] (pieces_of s) x) r (read-holds s))
    where
      all_by : Holds [] (pieces_of s) (ok (finish f a)) → line f ++ a ≡ pieces_of s
      all_by h = h.1

  size : length bs ≡ byte_len s
  size = ap length e ∙ length-bytes s

  few : 1 + length (flat 0 1 f) ≤ 33554433
  few = let h = at_most_half s (tree_of s f a) reads in omega (arith, h, flat-length f, size, short)

  spans : All (λ x. IsCutAt bs x.span) (flat 0 1 f)
  spans =
      cuts bs f 0 1 (IsCharBoundary-start bs u) (sit-front bs (line f) a (subst (λ z. AllSit bs z) (ap pieces_of c ∙ sym all) (pieces-sit bs u).0)) (two_bytes s (tree_of s f a) reads)

  span_at : (n : ℕ) → n < length es → IsSpanOf s (entry_at es n).span
  unfolding es
  span_at zero l = record { order = omega arith; start = subst (λ z. IsCharBoundary z 0) e (IsCharBoundary-start bs u); end = subst (λ z. IsCharBoundary z (byte_len s)) e (subst (IsCharBoundary bs) size (IsCharBoundary-end bs)) }
  span_at (suc n) l =
      let h : IsCutAt bs (entry_at (flat 0 1 f) n).span = all-at (λ x. IsCutAt bs x.span) (flat 0 1 f) n no_entry (omega arith) spans in
      record { order = h.order; start = subst (λ z. IsCharBoundary z (entry_at (flat 0 1 f) n).span.start) e h.low; end = subst (λ z. IsCharBoundary z (entry_at (flat 0 1 f) n).span.end) e h.high }

  other_at : (n : ℕ) → 0 < n → n < length es → kind_of (entry_at es n).text ≢ K.Root
  unfolding es
  other_at zero z l = absurd (omega arith)
  other_at (suc n) z l = all-at IsNoRoot (flat 0 1 f) n no_entry (omega arith) (no_roots f 0 1)

  container_at : (n : ℕ) → 0 < n → n < length es → IsSome (block_of (entry_at es (entry_at es n).parent).text)
  unfolding es
  container_at zero z l = absurd (omega arith)
  container_at (suc n) z l = all-at (λ x. IsContainer (root_of s f a ∷ flat 0 1 f) no_entry x.parent) (flat 0 1 f) n no_entry (omega arith) (in_containers f (root_of s f a) no_entry refl)

  list : IsNodeList s es
  unfolding es
  list = record { some = omega arith; few = omega (arith, few); order = in_order f; root = refl; others = other_at; containers = container_at; spans = span_at }

pub listed : (s bs : List ℕ) (xs : List NodeAt) → IsUtf8 bs → bs ≡ encodes s → chars bs ≡ s → length bs ≤ 67108864 → IsReading s xs → IsListed s xs
unfolding es
listed s bs xs u e c short h =
    subst (IsListed s) (sym h.entries)
    (record { list = list s h.nodes h.behind bs u e c short h.is_read; tree = tree_of s h.nodes h.behind; reads = read-reads s h.nodes h.behind h.is_read; are_numbered = all-numbered s h.nodes h.behind })

-- what reading a text answers, of the machine's answer
pub nodes_of : (r : Result (List NodeAt) (Stop Fault)) (s bs : List ℕ) → IsUtf8 bs → bs ≡ encodes s → chars bs ≡ s → length bs ≤ 67108864 → IsRead r (chars bs) → IsNodes r s
nodes_of (Ok es) s bs u e c short h = listed s bs es u e c short (reading_of s es (subst (λ z. whole z ≡ done es) c h))
nodes_of (Err (StopOf.Fault f)) s bs u e c short h =
    let k = fault_of s f (subst (λ z. whole z ≡ faulty f) c h) in
    (k, subst (λ z. IsCharBoundary z f.at) e (fault-boundary bs f u (ap fault c ∙ k)))
nodes_of (Err (StopOf.Memory x)) s bs u e c short h = tt

some-none : (f : Fault) → ◌≡◌ {A = Option Fault} (Some f) None → ⊥
some-none f e = cc

-- the fault of a text, with its place
pub refusal : (f : Fault) (x : SyntaxFault) (s : List ℕ) → fault s ≡ Some f → x ≡ record { kind = f.kind; at = f.at; place = place_of s f.at } → IsFaultOf x s
refusal f x s e h =
    subst (λ z. IsFaultOf z s) (sym h)
    (record { is_fault = e; is_place = refl; no_reading = λ t r. some-none f (sym e ∙ (fault_or_reading s).1 t r) })
