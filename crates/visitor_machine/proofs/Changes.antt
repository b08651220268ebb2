-- What an edit changes, as far as the two invariants need it.
use Rattle.std.proofs.Common.{◌⊎◌, inl, inr, ◌≡◌, ◌≢◌, ℕ, zero, suc, ◌<◌, List, [], ◌∷◌, ◌++◌, Bool, true, false, length, Option, Some, refl, ap, sym, ◌∙◌, arith, length-set, length-append, drop, subst}
use Rattle.std.specs.Prelude.{nat_eq}
use Rattle.std.proofs.lemmas.Bool.{false≢true, ne_eqb, cases_Bool}
use Rattle.node_rows.specs.Nodes.{Node, node_at, new_node, parent_of, children_of, text_of, is_dirty, with_text}
use Rattle.node_rows.specs.Sound.{IsSound}
use Rattle.node_rows.specs.Marks.{mark}
use Rattle.visitor_machine.specs.Machine.{kind_at, key_at}
use Rattle.css_tree.specs.declared.node.NodeText.{NodeText}
use Rattle.css_text.specs.declared.lexer.Span.{Span}
use Rattle.css_tree.specs.Parts.{kind_of}
use Rattle.visitor_machine.specs.Hooks.{key_of}
use Rattle.node_rows.proofs.Fields.{field_kept, field_other}
use Rattle.node_rows.proofs.Edits.{IsSound-pushed, field_pushed}
use Rattle.node_rows.proofs.SameLinks.{SameLinks, IsSound-same}
use Rattle.node_rows.proofs.Edits.{parent-inside}
use Rattle.visitor_machine.proofs.Above.{Above, here, below}
use Rattle.visitor_machine.proofs.Members.{Mem}
use Rattle.visitor_machine.proofs.Marks.{Marking, marking}

-- c was a dirty child of q in the tree before, and what covered it covers it still
pub record Covered (ns ms : List Node) (g : ℕ → ℕ → ℕ) (c q : ℕ) : Type 0 where
  pub child : parent_of ns c ≡ Some q
  pub in_tree : Above ns 0 c
  pub dirty : is_dirty ns c ≡ true
  pub grows : is_dirty ns q ≡ true → is_dirty ms q ≡ true
  pub stays : (k : ℕ) → Mem c (drop k (children_of ns q)) → Mem c (drop (g q k) (children_of ms q))

-- c was clean in the tree before, nothing touched it, and it says the same
pub record Quiet (ns ms : List Node) (t : ℕ → Bool) (c : ℕ) : Type 0 where
  pub in_tree : Above ns 0 c
  pub clean : is_dirty ns c ≡ false
  pub untouched : t c ≡ false
  pub kind : kind_at ms c ≡ kind_at ns c
  pub key : key_at ms c ≡ key_at ns c

pub record Changed (ns ms : List Node) (t : ℕ → Bool) (g : ℕ → ℕ → ℕ) : Type 0 where
  pub sound : IsSound ms
  pub some : 0 < length ms
  pub marks : (c q : ℕ) → parent_of ms c ≡ Some q → Above ms 0 c → is_dirty ms c ≡ true → (is_dirty ms q ≡ true) ⊎ Covered ns ms g c q
  pub visits : (c : ℕ) → Above ms 0 c → is_dirty ms c ≡ false → Quiet ns ms t c

pub above_same : {ns ms : List Node} {a c : ℕ} → ((n : ℕ) → parent_of ms n ≡ parent_of ns n) → Above ms a c → Above ns a c
above_same h (here e) = here e
above_same h (below {c} e r) = below (sym (h c) ∙ e) (above_same h r)

pub above_inside : {ns : List Node} {c : ℕ} → 0 < length ns → Above ns 0 c → c < length ns
above_inside z (here {c} e) = omega arith
above_inside {ns} z (below {c} {p} e r) = parent-inside ns c p e

-- what is clean afterwards was clean before, where marks only grow
pub clean_before : (ns ms : List Node) (c : ℕ) → (is_dirty ns c ≡ true → is_dirty ms c ≡ true) → is_dirty ms c ≡ false → is_dirty ns c ≡ false
clean_before ns ms c f h = elim (cases_Bool (is_dirty ns c)) [ inl t ↦ absurd (false≢true (sym h ∙ f t)) | inr i ↦ i ]

-- n's text is written, and then n is marked
pub changed_text : (ns ks ms : List Node) (n : ℕ) → IsSound ns → 0 < length ns → SameLinks ns ks → ((m : ℕ) → is_dirty ks m ≡ is_dirty ns m) → ((m : ℕ) → m ≢ n → text_of ks m ≡ text_of ns m) → Marking ks ms n → Changed ns ms (λ m. nat_eq m n) (λ q k. k)
changed_text ns ks ms n s z l d t h =
    let same : (m : ℕ) → parent_of ms m ≡ parent_of ns m = λ m. h.tree.links.parents m ∙ l.parents m in
    let lists : (m : ℕ) → children_of ms m ≡ children_of ns m = λ m. h.tree.links.lists m ∙ l.lists m in
    let grows : (m : ℕ) → is_dirty ns m ≡ true → is_dirty ms m ≡ true = λ m i. h.grows m (d m ∙ i) in
    record {
      sound = IsSound-same ks ms h.tree.links (IsSound-same ns ks l s);
      some = let i = l.same_length in let j = h.tree.links.same_length in omega arith;
      marks = λ c q e a i. elim (cases_Bool (is_dirty ks c)) [
        | inr f ↦ inl (h.news c q i f (sym (h.tree.links.parents c) ∙ e))
        | inl j ↦ inr (record {
          child = sym (same c) ∙ e;
          in_tree = above_same same a;
          dirty = sym (d c) ∙ j;
          grows = grows q;
          stays = λ k m. subst (λ xs. Mem c (drop k xs)) (sym (lists q)) m;
        })
      ];
      visits = λ c a i.
          let apart : c ≢ n = λ e. false≢true (sym i ∙ (ap (λ k. is_dirty ms k) e ∙ h.at_node)) in
          record {
            in_tree = above_same same a;
            clean = clean_before ns ms c (grows c) i;
            untouched = ne_eqb c n apart;
            kind = ap kind_of (h.tree.texts c ∙ t c apart);
            key = ap key_of (h.tree.texts c ∙ t c apart);
          };
    }

links_text : (ns : List Node) (n : ℕ) (t : NodeText) → SameLinks ns (with_text ns n t)
links_text ns n t = record { same_length = length-set _ _ _; parents = field_kept (λ x. x.parent) ns n _ refl; lists = field_kept (λ x. x.children) ns n _ refl }

pub changed_set : (ns : List Node) (n : ℕ) (t : NodeText) → IsSound ns → n < length ns → Changed ns (mark (with_text ns n t) n) (λ m. nat_eq m n) (λ q k. k)
changed_set ns n t s b =
    let ks = with_text ns n t in
    let l = links_text ns n t in
    changed_text ns ks (mark ks n) n s (omega arith) l (field_kept (λ x. x.dirty) ns n _ refl) (field_other (λ x. x.text) ns n _)
    (marking ks n (IsSound-same ns ks l s) (let i = l.same_length in omega arith))

-- a raw is written: kind and key stay
pub changed_raw : (ns : List Node) (n : ℕ) (t : NodeText) → IsSound ns → 0 < length ns → kind_of t ≡ kind_at ns n → key_of t ≡ key_at ns n → Changed ns (with_text ns n t) (λ m. false) (λ q k. k)
changed_raw ns n t s z ek ey =
    let ks = with_text ns n t in
    let l = links_text ns n t in
    let d : (m : ℕ) → is_dirty ks m ≡ is_dirty ns m = field_kept (λ x. x.dirty) ns n _ refl in
    record {
      sound = IsSound-same ns ks l s;
      some = let i = l.same_length in omega arith;
      marks = λ c q e a i. inr (record {
        child = sym (l.parents c) ∙ e;
        in_tree = above_same l.parents a;
        dirty = sym (d c) ∙ i;
        grows = λ j. d q ∙ j;
        stays = λ k m. subst (λ xs. Mem c (drop k xs)) (sym (l.lists q)) m;
      });
      visits = λ c a i. record {
        in_tree = above_same l.parents a;
        clean = sym (d c) ∙ i;
        untouched = refl;
        kind = field_kept (λ x. kind_of x.text) ns n _ ek c;
        key = field_kept (λ x. key_of x.text) ns n _ ey c;
      };
    }

pushed_at : (ns : List Node) (x : Node) (m : ℕ) → m < length ns → node_at (ns ++ x ∷ []) m ≡ node_at ns m
pushed_at [] x m h = absurd (omega arith)
pushed_at (y ∷ ys) x zero h = refl
pushed_at (y ∷ ys) x (suc m) h = pushed_at ys x m (omega arith)

-- one more loose node
pub changed_new : (ns : List Node) (t : NodeText) (span : Option Span) → IsSound ns → 0 < length ns → length ns < 67108865 → Changed ns (ns ++ new_node t span ∷ []) (λ m. false) (λ q k. k)
changed_new ns t span s z few =
    let ms = ns ++ new_node t span ∷ [] in
    let parents : (m : ℕ) → parent_of ms m ≡ parent_of ns m = field_pushed (λ y. y.parent) ns (new_node t span) refl in
    let lists : (m : ℕ) → children_of ms m ≡ children_of ns m = field_pushed (λ y. y.children) ns (new_node t span) refl in
    let at : (m : ℕ) → m < length ns → node_at ms m ≡ node_at ns m = pushed_at ns (new_node t span) in
    record {
      sound = IsSound-pushed ns (new_node t span) refl refl few s;
      some = omega (arith, length-append ns (new_node t span ∷ []));
      marks = λ c q e a i.
          let f : parent_of ns c ≡ Some q = sym (parents c) ∙ e in
          inr (record {
            child = f;
            in_tree = above_same parents a;
            dirty = sym (ap (λ x. x.dirty) (at c (parent-inside ns c q f))) ∙ i;
            grows = λ j. ap (λ x. x.dirty) (at q (s.below c q f)) ∙ j;
            stays = λ k m. subst (λ xs. Mem c (drop k xs)) (sym (lists q)) m;
          });
      visits = λ c a i.
          let b : Above ns 0 c = above_same parents a in
          let j = at c (above_inside z b) in
          record {
            in_tree = b;
            clean = sym (ap (λ x. x.dirty) j) ∙ i;
            untouched = refl;
            kind = ap (λ x. kind_of x.text) j;
            key = ap (λ x. key_of x.text) j;
          };
    }
