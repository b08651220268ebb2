-- The nodes of a list give its entries back, and a write to one of them is one to the other.
use Rattle.std.proofs.Common.{◌≡◌, ℕ, zero, suc, ◌+◌, ◌<◌, ◌≤◌, List, [], ◌∷◌, ◌++◌, length, Some, refl, ap, sym, ◌∙◌, subst, arith, eqb, cond, set, length-set, length-append, ◌⊎◌, inl, inr}
use Rattle.std.proofs.lemmas.Bool.{cases_lt}
use Rattle.std.proofs.Math.ListN.{get_or-append}
use Rattle.std.proofs.Math.Seq.{get_or-append_seam}
use Rattle.css_tree.specs.declared.node.Block.{Block}
use Rattle.node_rows.specs.declared.node_list.NodeAt.{NodeAt}
use Rattle.node_rows.specs.Nodes.{Node, node_at, text_of, with_text}
use Rattle.node_rows.specs.NodeList.{no_entry, entry_at, children_from, children_in, parent_in, nodes_from, nodes_of, Earlier}
use Rattle.node_rows.specs.Appended.{appended, IsAppendable}
use Rattle.node_rows.specs.Ends.{with_block, ended, some_ended, with_span, with_end, with_entry_block, with_entry_end}
use Rattle.node_rows.specs.Entries.{entry_of, entries_of, parent_or_root, IsBuilt}
use Rattle.node_rows.proofs.Built.{entry_node, nodes_of-at, nodes_of-length, nodes_of-push}

parent-later : (n : ℕ) (e : NodeAt) → 0 < n → parent_or_root (parent_in n e) ≡ e.parent
parent-later zero e h = absurd (omega arith)
parent-later (suc n) e h = refl

entry-later : (all : List NodeAt) (n : ℕ) (e : NodeAt) → parent_or_root (parent_in n e) ≡ e.parent → entry_of (entry_node all n e) ≡ e
entry-later all n e h = ap (λ p. record e { parent = p }) h

later-back : (all : List NodeAt) (n : ℕ) (es : List NodeAt) → 0 < n → entries_of (nodes_from all n es) ≡ es
later-back all n [] h = refl
later-back all n (e ∷ es) h =
    let a = entry-later all n e (parent-later n e h) in
    let b = later-back all (n + 1) es (omega arith) in cc

pub entries-back : (es : List NodeAt) → (entry_at es 0).parent ≡ 0 → entries_of (nodes_of es) ≡ es
entries-back [] h = refl
entries-back (e ∷ es) h =
    let a = entry-later (e ∷ es) 0 e (sym h) in
    let b = later-back (e ∷ es) (0 + 1) es (omega arith) in cc

-- the list of the nodes is the one that they were made of
pub record Made (ns : List Node) (es : List NodeAt) : Type 0 where
  pub is_built : IsBuilt ns
  pub back : entries_of ns ≡ es

pub made-of : (ns : List Node) (es : List NodeAt) → ns ≡ nodes_of es → 0 < length es → (entry_at es 0).parent ≡ 0 → Earlier es → Made ns es
made-of ns es h some root early =
    let back : entries_of ns ≡ es = ap entries_of h ∙ entries-back es root in
    record {
      is_built = record {
        some = omega (arith, some, ap length h, nodes_of-length es);
        built = h ∙ ap nodes_of (sym back);
        earlier = subst Earlier (sym back) early;
      };
      back = back;
    }

map-length : (ns : List Node) → length (entries_of ns) ≡ length ns
map-length [] = refl
map-length (x ∷ ns) = ap suc (map-length ns)

first-entry : (es : List NodeAt) → 0 < length es → (entry_at (entries_of (nodes_of es)) 0).parent ≡ 0
first-entry [] h = absurd (omega arith)
first-entry (e ∷ es) h = refl

module _ (ns : List Node) (es : List NodeAt) (h : IsBuilt ns) (v : entries_of ns ≡ es) where
  built : ns ≡ nodes_of es
  built = h.built ∙ ap nodes_of v

  pub same-length : length es ≡ length ns
  same-length = ap length (sym v) ∙ map-length ns

  some : 0 < length es
  some = omega (arith, same-length, h.some)

  early : Earlier es
  early = subst Earlier v h.earlier

  root : (entry_at es 0).parent ≡ 0
  root = ap (λ l. (entry_at l 0).parent) (sym v ∙ ap entries_of built) ∙ first-entry es some

  module _ (e : NodeAt) (few : length es < 67108865) (p : e.parent < length es) where
    pub appendable : IsAppendable ns e
    appendable = record { few = omega (arith, same-length); earlier = λ b. omega (arith, same-length) }

    early-each : (k : ℕ) → 0 < k → k < length (es ++ e ∷ []) → (k < length es) ⊎ (length es ≤ k) → (entry_at (es ++ e ∷ []) k).parent < k
    early-each k z b (inl i) = let j = early k z i in omega (arith, ap (λ y. y.parent) (get_or-append es (e ∷ []) no_entry k i))
    early-each k z b (inr i) =
        let l : k ≡ length es = omega (arith, length-append es (e ∷ [])) in
        omega (arith, ap (λ m. (entry_at (es ++ e ∷ []) m).parent) l, ap (λ y. y.parent) (get_or-append_seam es e [] no_entry))

    early-push : Earlier (es ++ e ∷ [])
    early-push k z b = early-each k z b (cases_lt k (length es))

    pub made-push : (ms : List Node) → ms ≡ appended ns e → Made ms (es ++ e ∷ [])
    made-push ms a =
        made-of ms (es ++ e ∷ []) (a ∙ (ap (λ l. appended l e) built ∙ sym (nodes_of-push es e early-push)))
        (omega (arith, some, length-append es (e ∷ [])))
        (ap (λ y. y.parent) (get_or-append es (e ∷ []) no_entry 0 some) ∙ root)
        early-push

-- Another entry with the same parent.

children_from-set : (n p : ℕ) (es : List NodeAt) (k : ℕ) (x : NodeAt) → x.parent ≡ (entry_at es k).parent → children_from n p (set es k x) ≡ children_from n p es
children_from-set n p [] k x h = refl
children_from-set n p (e ∷ es) zero x h = ap (λ q. cond (eqb q p) (n ∷ children_from (n + 1) p es) (children_from (n + 1) p es)) h
children_from-set n p (e ∷ es) (suc k) x h = ap (λ l. cond (eqb e.parent p) (n ∷ l) l) (children_from-set (n + 1) p es k x h)

children_in-set : (es : List NodeAt) (k : ℕ) (x : NodeAt) → x.parent ≡ (entry_at es k).parent → (p : ℕ) → children_in (set es k x) p ≡ children_in es p
children_in-set [] k x h p = refl
children_in-set (e ∷ es) zero x h p = refl
children_in-set (e ∷ es) (suc k) x h p = children_from-set 1 p es k x h

nodes_from-same : (all others : List NodeAt) → ((p : ℕ) → children_in all p ≡ children_in others p) → (n : ℕ) (es : List NodeAt) → nodes_from all n es ≡ nodes_from others n es
nodes_from-same all others h n [] = refl
nodes_from-same all others h n (e ∷ es) = let a = ap (λ l. record (entry_node all n e) { children = l }) (h n) in let b = nodes_from-same all others h (n + 1) es in cc

nodes_from-set : (all : List NodeAt) (n : ℕ) (es : List NodeAt) (k : ℕ) (x : NodeAt) → nodes_from all n (set es k x) ≡ set (nodes_from all n es) k (entry_node all (n + k) x)
nodes_from-set all n [] k x = refl
nodes_from-set all n (e ∷ es) zero x = ap (λ m. entry_node all m x ∷ nodes_from all (n + 1) es) (omega arith)
nodes_from-set all n (e ∷ es) (suc k) x =
    ap (λ l. entry_node all n e ∷ l) (nodes_from-set all (n + 1) es k x ∙ ap (λ m. set (nodes_from all (n + 1) es) k (entry_node all m x)) (omega arith))

parent_in-same : (n : ℕ) (x e : NodeAt) → x.parent ≡ e.parent → parent_in n x ≡ parent_in n e
parent_in-same zero x e h = refl
parent_in-same (suc n) x e h = ap Some h

-- a write to an entry is one to its node
nodes_of-set : (es : List NodeAt) (n : ℕ) (x : NodeAt) → n < length es → x.parent ≡ (entry_at es n).parent → nodes_of (set es n x) ≡ set (nodes_of es) n (record (node_at (nodes_of es) n) { text = x.text; span = Some x.span })
nodes_of-set es n x b h =
    nodes_from-same (set es n x) es (children_in-set es n x h) 0 (set es n x)
    ∙ (nodes_from-set es 0 es n x
    ∙ (ap (λ m. set (nodes_of es) n (entry_node es m x)) (omega arith)
    ∙ (ap (λ o. set (nodes_of es) n (record (entry_node es n x) { parent = o })) (parent_in-same n x (entry_at es n) h)
    ∙ ap (λ y. set (nodes_of es) n (record y { text = x.text; span = Some x.span })) (sym (nodes_of-at es n b)))))

parents-set : (es : List NodeAt) (n : ℕ) (x : NodeAt) → x.parent ≡ (entry_at es n).parent → (k : ℕ) → (entry_at (set es n x) k).parent ≡ (entry_at es k).parent
parents-set [] n x h k = refl
parents-set (e ∷ es) zero x h zero = h
parents-set (e ∷ es) zero x h (suc k) = refl
parents-set (e ∷ es) (suc n) x h zero = refl
parents-set (e ∷ es) (suc n) x h (suc k) = parents-set es n x h k

module _ (ns : List Node) (es : List NodeAt) (h : IsBuilt ns) (v : entries_of ns ≡ es) (n : ℕ) (b : n < length es) where
  is_built : ns ≡ nodes_of es
  is_built = h.built ∙ ap nodes_of v

  same_node : node_at ns n ≡ entry_node es n (entry_at es n)
  same_node = ap (λ l. node_at l n) is_built ∙ nodes_of-at es n b

  made-set : (ms : List Node) (x : NodeAt) → x.parent ≡ (entry_at es n).parent → ms ≡ set ns n (record (node_at ns n) { text = x.text; span = Some x.span }) → Made ms (set es n x)
  made-set ms x p a =
      let wide : length (set es n x) ≡ length es = length-set _ _ _ in
      made-of ms (set es n x)
      (a ∙ (ap (λ l. set l n (record (node_at l n) { text = x.text; span = Some x.span })) is_built ∙ sym (nodes_of-set es n x b p)))
      (omega (arith, wide, b))
      (parents-set es n x p 0 ∙ root ns es h v)
      (λ k z w. let e = parents-set es n x p k in let i = early ns es h v k z (omega (arith, wide)) in omega arith)

  pub made-block : (ms : List Node) (block : Block) → ms ≡ with_text ns n (with_block (text_of ns n) block) → Made ms (with_entry_block es n block)
  made-block ms block a =
      made-set ms (record (entry_at es n) { text = with_block (entry_at es n).text block }) refl
      (a ∙ (ap (λ t. with_text ns n (with_block t block)) (ap (λ y. y.text) same_node)
      ∙ ap (λ o. set ns n (record (node_at ns n) { text = with_block (entry_at es n).text block; span = o })) (ap (λ y. y.span) same_node)))

  pub made-end : (ms : List Node) (end : ℕ) → ms ≡ with_end ns n end → Made ms (with_entry_end es n end)
  made-end ms end a =
      made-set ms (record (entry_at es n) { span = ended end (entry_at es n).span }) refl
      (a ∙ (ap (λ o. with_span ns n (some_ended end o)) (ap (λ y. y.span) same_node)
      ∙ ap (λ t. set ns n (record (node_at ns n) { text = t; span = Some (ended end (entry_at es n).span) })) (ap (λ y. y.text) same_node)))
