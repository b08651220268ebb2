-- The classes of fields fix them, and there are fields in these classes: those that the functions of TreeOf give.
use Rattle.std.proofs.Common.{◌≡◌, inl, inr, ℕ, suc, ◌+◌, List, [], ◌∷◌, ◌++◌, Bool, true, false, cond, Option, Some, None, length, drop, refl, ◌∙◌, sym, ap, subst, append_assoc, append-nil, add-zero, true≢false}
use Rattle.css_text.specs.declared.lexer.Span.{Span}
use Rattle.css_text.specs.Characters.{is_space}
use Rattle.css_tree.specs.declared.node.Block.{Block}
use Rattle.css_tree.specs.declared.node.NodeText.{NodeText}
use Rattle.css_tree.specs.declared.node.NodeText.TheVariants as N
use Rattle.css_tree.specs.Tree.{Trees}
use Rattle.css_tree.specs.Pieces.{Lexeme, Shape, shape, is_blank, is_blank_shape, join, end_of, last_end}
use Rattle.css_tree.specs.Turn.{is_allowed, allowed_by, colon_next, colon_by}
use Rattle.css_tree.specs.Classes.{Each, BeginsWithout, EndsWithout}
use Rattle.css_tree.specs.Nodes.{Nodes, none, comment, leaf, block, line, AreNodes, IsRun, IsPrelude, begins_shape}
use Rattle.css_tree.specs.Fields.{IsComment, IsAtRule, IsRule, IsDeclaration, IsLeaf, IsBlock, IsHack, begins_hack, BeginsNoAtRule, source_text, span_of, begins_at}
use Rattle.css_tree.specs.Reads.{AreTrees, block_of_nodes}
use Rattle.css_tree.proofs.Split.{solid, solid_by, tail, tail_by, lead, lead_by, unlead, unlead_by, hack, hack_by, mark_of, value_of, important_of, is_marked}
use Rattle.css_tree.proofs.TreeOf.{declaration_text, at_rule_text, after_name_of, between_of, leaf_text, leaf_text_by, rule_text, block_text, block_text_by, comment_text, inner_of, hack_of_shape, leaf_span, comment_span, trees}
use Rattle.css_tree.proofs.Trim.{trim-all, trim-tail, trim-ends, trim-fixed, lead-all, lead-each, unlead-begins, lead-fixed, trim-begins, begins-append}
use Rattle.css_tree.proofs.Marks.{value-exists, value-fixed}
use Rattle.css_tree.proofs.Formed.{FormedBy, AllFormed, formed-front, formed-back, formed-of, inner-is}

-- Comments.

comment-inner : (p : Lexeme) (l t r : List ℕ) → p.text ≡ 47 ∷ 42 ∷ (l ++ (t ++ (r ++ 42 ∷ 47 ∷ []))) → inner_of p.text ≡ l ++ (t ++ r)
comment-inner p l t r e =
    ap inner_of (e ∙ ap (λ z. 47 ∷ 42 ∷ z) (ap (λ z. l ++ z) (sym (append_assoc t r (42 ∷ 47 ∷ []))) ∙ sym (append_assoc l (t ++ r) (42 ∷ 47 ∷ [])))) ∙ inner-is (l ++ (t ++ r))

pub comment-fixed : (b : List Lexeme) (p : Lexeme) (node : NodeText) (span : Option Span) → IsComment b p node span → (node ≡ comment_text b p) × (span ≡ comment_span p)
comment-fixed b p node span h =
    let e = comment-inner p h.left h.text h.right h.all in
    let k = lead-fixed is_space h.left (h.text ++ h.right) h.left_class (begins-append is_space h.text h.right h.text_begins h.right_empty) in
    let t = trim-fixed is_space h.text h.right h.text_ends h.right_class in
    (h.is_node ∙ rw (e, k.0, k.1, t.0, t.1) refl, h.is_span)

pub comment-exists : (b : List Lexeme) (p : Lexeme) → p.text ≡ 47 ∷ 42 ∷ (inner_of p.text ++ 42 ∷ 47 ∷ []) → IsComment b p (comment_text b p) (comment_span p)
comment-exists b p e =
    let i = inner_of p.text in
    let u = unlead_by is_space i in
    let k = trim-begins is_space u (unlead-begins is_space i) in
    record {
      left = lead_by is_space i;
      text = solid_by is_space u;
      right = tail_by is_space u;
      all = e ∙ ap (λ z. 47 ∷ 42 ∷ z) (ap (λ z. z ++ 42 ∷ 47 ∷ []) (sym (lead-all is_space i)) ∙ (append_assoc (lead_by is_space i) u (42 ∷ 47 ∷ [])
          ∙ ap (λ z. lead_by is_space i ++ z) (ap (λ z. z ++ 42 ∷ 47 ∷ []) (sym (trim-all is_space u)) ∙ append_assoc (solid_by is_space u) (tail_by is_space u) (42 ∷ 47 ∷ []))));
      left_class = lead-each is_space i;
      text_begins = k.0;
      text_ends = trim-ends is_space u;
      right_class = trim-tail is_space u;
      right_empty = k.1;
      is_node = refl;
      is_span = refl;
    }

-- At-rules.

blank-unlead : (xs : List Lexeme) → Each is_blank xs → unlead xs ≡ []
blank-unlead xs h = ap unlead (sym (append-nil xs)) ∙ (lead-fixed is_blank xs [] h tt).1

solid-nil : solid [] ≡ []
unfolding solid_by
solid-nil = refl

at_rule-is : (b : List Lexeme) (w : Lexeme) (name : List ℕ) (a params c : List Lexeme) (blk : Option Block) → w.text ≡ 64 ∷ name → Each is_blank a → BeginsWithout is_blank params
    → EndsWithout is_blank params → Each is_blank c → (params ≡ [] → a ≡ []) → at_rule_text b w (a ++ (params ++ c)) blk ≡ N.AtRule (Some (join b)) name (join a) (source_text params) (join c) blk
at_rule-is b w name a [] c blk e ha hb he hc hn =
    rw (hn refl, blank-unlead c hc, solid-nil, e) refl
at_rule-is b w name a (p ∷ ps) c blk e ha hb he hc hn =
    let k = lead-fixed is_blank a ((p ∷ ps) ++ c) ha hb in
    let t = trim-fixed is_blank (p ∷ ps) c he hc in
    rw (k.1, t.0) (rw (k.0, k.1, t.1, e) refl)

at_rule-all : (r : List Lexeme) (params : List Lexeme) → solid (unlead r) ≡ params → after_name_of r params ++ (params ++ between_of r params) ≡ r
at_rule-all r [] e = refl
at_rule-all r (p ∷ ps) e = ap (λ z. lead r ++ z) (ap (λ z. z ++ tail (unlead r)) (sym e) ∙ trim-all is_blank (unlead r)) ∙ lead-all is_blank r

after_name-blank : (r params : List Lexeme) → Each is_blank (after_name_of r params)
after_name-blank r [] = tt
after_name-blank r (p ∷ ps) = lead-each is_blank r

-- where nothing but blanks is there, all of it is
blank-all : (r : List Lexeme) → solid (unlead r) ≡ [] → Each is_blank r
blank-all r e =
    let k = trim-begins is_blank (unlead r) (unlead-begins is_blank r) in
    let u : unlead r ≡ [] = sym (trim-all is_blank (unlead r)) ∙ (ap (λ z. z ++ tail (unlead r)) e ∙ k.1 e) in
    subst (λ z. Each is_blank z) (sym (append-nil (lead r)) ∙ (ap (λ z. lead r ++ z) (sym u) ∙ lead-all is_blank r)) (lead-each is_blank r)

between-blank : (r params : List Lexeme) → solid (unlead r) ≡ params → Each is_blank (between_of r params)
between-blank r [] e = blank-all r e
between-blank r (p ∷ ps) e = trim-tail is_blank (unlead r)

after_name-empty : (r params : List Lexeme) → params ≡ [] → after_name_of r params ≡ []
after_name-empty r [] e = refl
after_name-empty r (p ∷ ps) e = absurd (cc)

at_rule-exists : (b : List Lexeme) (w : Lexeme) (r : List Lexeme) (blk : Option Block) (end : ℕ) → shape w ≡ Shape.at_name → w.text ≡ 64 ∷ drop 1 w.text
    → IsAtRule b (w ∷ r) blk end (at_rule_text b w r blk) (span_of w.at end)
at_rule-exists b w r blk end es et =
    let params = solid (unlead r) in
    record {
      word = w;
      name = drop 1 w.text;
      after_name = after_name_of r params;
      params = params;
      between = between_of r params;
      all = ap (λ z. w ∷ z) (sym (at_rule-all r params refl));
      word_class = es;
      word_text = et;
      after_name_class = after_name-blank r params;
      params_begins = (trim-begins is_blank (unlead r) (unlead-begins is_blank r)).0;
      params_ends = trim-ends is_blank (unlead r);
      between_class = between-blank r params refl;
      after_name_empty = after_name-empty r params;
      is_node = refl;
      is_span = refl;
    }

-- Declarations.

hack-none : (t : List ℕ) → begins_hack t ≡ false → hack t ≡ []
hack-none [] e = refl
hack-none (c ∷ cs) e = rw e refl

hack-one : (t : List ℕ) (c : ℕ) (cs : List ℕ) → t ≡ c ∷ cs → begins_hack t ≡ true → hack t ≡ c ∷ []
hack-one t c cs e h = rw (h, e) refl

-- the hack is the one that the word begins with, and `prop` is the rest
hack-fixed : (t h prop : List ℕ) → t ≡ h ++ prop → IsHack h t → (hack t ≡ h) × (drop (length h) t ≡ prop)
hack-fixed t [] prop e k = (hack-none t k, e)
hack-fixed t (c ∷ []) prop e k = (hack-one t c prop e k, ap (λ z. drop 1 z) e)
hack-fixed t (c ∷ d ∷ cs) prop e k = absurd k

hack-some : (b : Bool) (t : List ℕ) → begins_hack t ≡ b → IsHack (hack_by b t) t × (t ≡ hack_by b t ++ drop (length (hack_by b t)) t)
hack-some true [] e = absurd (true≢false (sym e))
hack-some true (c ∷ cs) e = (e, refl)
hack-some false [] e = (e, refl)
hack-some false (c ∷ cs) e = (e, refl)

hack-exists : (t : List ℕ) → IsHack (hack t) t × (t ≡ hack t ++ drop (length (hack t)) t)
hack-exists t = hack-some (begins_hack t) t refl

colon-solid : (c : Lexeme) → shape c ≡ Shape.colon → is_blank c ≡ false
unfolding is_blank
colon-solid c e = rw e refl

abbrev declared : List Lexeme → List ℕ → List ℕ → List Lexeme → Lexeme → List Lexeme → List Lexeme → Bool → List ℕ → List Lexeme → NodeText
declared b h prop front c back value marked important tl =
    N.Declaration (Some (join b ++ h)) prop (join (front ++ c ∷ back)) (source_text value) marked important (join tl)

declaration-is : (b : List Lexeme) (w : Lexeme) (run : List Lexeme) (node : NodeText) (span : Option Span) (h : IsDeclaration b run node span)
    → declaration_text b h.word (h.front ++ h.colon ∷ (h.back ++ (h.body ++ h.tail)))
    ≡ declared b h.hack h.prop h.front h.colon h.back h.value h.marked h.important h.tail
declaration-is b w run node span h =
    let k = lead-fixed is_blank h.front (h.colon ∷ (h.back ++ (h.body ++ h.tail))) h.front_class (colon-solid h.colon h.colon_class) in
    let l = lead-fixed is_blank h.back (h.body ++ h.tail) h.back_class (begins-append is_blank h.body h.tail h.body_begins h.tail_empty) in
    let t = trim-fixed is_blank h.body h.tail h.body_ends h.tail_class in
    let v = value-fixed h.body h.value h.marked h.important h.value_and_mark in
    let x = hack-fixed h.word.text h.hack h.prop h.word_text h.hack_class in
    rw (k.0, k.1, l.0, l.1, t.0, t.1, x.0, x.1, v.value_is, v.marked_is, v.important_is) refl

colon-is : (s : Shape) (p : Lexeme) (ps : List Lexeme) → shape p ≡ s → colon_by s (colon_next ps) ≡ true
    → (colon_next ps ≡ true → (c : Lexeme) × (rest : List Lexeme) × (unlead ps ≡ c ∷ rest) × (shape c ≡ Shape.colon))
    → (c : Lexeme) × (rest : List Lexeme) × (cond (is_blank_shape s) (unlead ps) (p ∷ ps) ≡ c ∷ rest) × (shape c ≡ Shape.colon)
colon-is Shape.space p ps e h k = k h
colon-is Shape.comment p ps e h k = k h
colon-is Shape.colon p ps e h k = (p, ps, refl, e)
colon-is _ p ps e h k = absurd (true≢false (sym h))

colon_of : (ps : List Lexeme) → colon_next ps ≡ true → (c : Lexeme) × (rest : List Lexeme) × (unlead ps ≡ c ∷ rest) × (shape c ≡ Shape.colon)
unfolding colon_next unlead_by is_blank
colon_of [] h = absurd (true≢false (sym h))
colon_of (p ∷ ps) h = colon-is (shape p) p ps refl h (colon_of ps)

declaration-all : (r : List Lexeme) (c : Lexeme) (rest : List Lexeme) → unlead r ≡ c ∷ rest → lead r ++ c ∷ (lead rest ++ (solid (unlead rest) ++ tail (unlead rest))) ≡ r
declaration-all r c rest e =
    ap (λ z. lead r ++ c ∷ z) (ap (λ z. lead rest ++ z) (trim-all is_blank (unlead rest)) ∙ lead-all is_blank rest) ∙ (ap (λ z. lead r ++ z) (sym e) ∙ lead-all is_blank r)

declaration-exists : (b : List Lexeme) (w : Lexeme) (r : List Lexeme) → shape w ≡ Shape.word → colon_next r ≡ true
    → IsDeclaration b (w ∷ r) (declaration_text b w r) (span_of (w.at + length (hack w.text)) (last_end (end_of w) r))
declaration-exists b w r es ec =
    let k = colon_of r ec in
    let u = unlead k.1 in
    let t = trim-begins is_blank u (unlead-begins is_blank k.1) in
    let x = hack-exists w.text in
    let m = mark_of (solid u) in
    let e = declaration-all r k.0 k.1 k.2 in
    record {
      word = w;
      hack = hack w.text;
      prop = drop (length (hack w.text)) w.text;
      front = lead r;
      colon = k.0;
      back = lead k.1;
      body = solid u;
      value = value_of m (solid u);
      marked = is_marked m;
      important = important_of m;
      tail = tail u;
      all = ap (λ z. w ∷ z) (sym e);
      word_class = es;
      word_text = x.1;
      hack_class = x.0;
      front_class = lead-each is_blank r;
      colon_class = k.3;
      back_class = lead-each is_blank k.1;
      body_begins = t.0;
      body_ends = trim-ends is_blank u;
      value_and_mark = value-exists (solid u) t.0;
      tail_class = trim-tail is_blank u;
      tail_empty = t.1;
      is_node = rw k.2 refl;
      is_span = ap (λ z. span_of (w.at + length (hack w.text)) (last_end (end_of w) z)) (sym e);
    }

-- A leaf.

leaf-at : (b : List Lexeme) (w : Lexeme) (r : List Lexeme) → shape w ≡ Shape.at_name → (leaf_text b (w ∷ r) ≡ at_rule_text b w r None) × (leaf_span (w ∷ r) ≡ span_of w.at (last_end (end_of w) r))
leaf-at b w r e = (rw e refl, rw e (ap (λ z. span_of z (last_end (end_of w) r)) (add-zero w.at)))

leaf-word : (b : List Lexeme) (w : Lexeme) (r : List Lexeme) → shape w ≡ Shape.word
    → (leaf_text b (w ∷ r) ≡ declaration_text b w r) × (leaf_span (w ∷ r) ≡ span_of (w.at + length (hack w.text)) (last_end (end_of w) r))
leaf-word b w r e = (rw e refl, rw e refl)

pub leaf-fixed : (b run : List Lexeme) (node : NodeText) (span : Option Span) → IsLeaf b run node span → (node ≡ leaf_text b run) × (span ≡ leaf_span run)
leaf-fixed b run node span (inl h) =
    let r = h.after_name ++ (h.params ++ h.between) in
    let l = leaf-at b h.word r h.word_class in (
      h.is_node ∙ (sym (at_rule-is b h.word h.name h.after_name h.params h.between None h.word_text h.after_name_class h.params_begins h.params_ends h.between_class h.after_name_empty)
          ∙ (sym l.0 ∙ ap (λ z. leaf_text b z) (sym h.all))),
      h.is_span ∙ (ap (λ z. span_of h.word.at (last_end 0 z)) h.all ∙ (sym l.1 ∙ ap leaf_span (sym h.all))),
    )
leaf-fixed b run node span (inr h) =
    let r = h.front ++ h.colon ∷ (h.back ++ (h.body ++ h.tail)) in
    let l = leaf-word b h.word r h.word_class in
    let x = hack-fixed h.word.text h.hack h.prop h.word_text h.hack_class in (
      h.is_node ∙ (sym (declaration-is b h.word run node span h) ∙ (sym l.0 ∙ ap (λ z. leaf_text b z) (sym h.all))),
      h.is_span ∙ (ap (λ z. span_of (h.word.at + length z) (last_end (end_of h.word) r)) (sym x.0) ∙ (sym l.1 ∙ ap leaf_span (sym h.all))),
    )

leaf-by : (s : Shape) (b : List Lexeme) (w : Lexeme) (r : List Lexeme) → shape w ≡ s → allowed_by s (colon_next r) ≡ true → FormedBy s w.text
    → IsLeaf b (w ∷ r) (leaf_text_by s b w r) (span_of (w.at + length (hack_of_shape s w.text)) (last_end (end_of w) r))
leaf-by Shape.at_name b w r es e h =
    inl (subst (λ z. IsAtRule b (w ∷ r) None (last_end (end_of w) r) (at_rule_text b w r None) (span_of z (last_end (end_of w) r))) (sym (add-zero w.at)) (at_rule-exists b w r None (last_end (end_of w) r) es h.0))
leaf-by Shape.word b w r es e h = inr (declaration-exists b w r es e)
leaf-by _ b w r es e h = absurd (true≢false (sym e))

pub leaf-exists : (b run : List Lexeme) → IsRun run → is_allowed run ≡ true → AllFormed run → IsLeaf b run (leaf_text b run) (leaf_span run)
unfolding is_allowed
leaf-exists b [] h e m = absurd h
leaf-exists b (w ∷ r) h e m = leaf-by (shape w) b w r refl e m.0

-- A block.

rule-by : (s : Shape) (b : List Lexeme) (w : Lexeme) (r : List Lexeme) (blk : Block) → (s ≡ Shape.at_name → ⊥) → block_text_by s b w r blk ≡ rule_text b (w ∷ r) blk
rule-by Shape.at_name b w r blk h = absurd (h refl)
rule-by _ b w r blk h = refl

rule-is : (b selector between : List Lexeme) (blk : Block) → BeginsNoAtRule selector → EndsWithout is_blank selector → Each is_blank between → (selector ≡ [] → between ≡ [])
    → block_text b (selector ++ between) blk ≡ N.Rule (Some (join b)) (source_text selector) (join between) blk
unfolding solid_by tail_by
rule-is b [] between blk hs he hb hn = rw (hn refl) refl
rule-is b (q ∷ s) between blk hs he hb hn =
    let t = trim-fixed is_blank (q ∷ s) between he hb in
    rule-by (shape q) b q (s ++ between) blk hs ∙ rw (t.0, t.1) refl

block-at : (b : List Lexeme) (w : Lexeme) (r : List Lexeme) (blk : Block) → shape w ≡ Shape.at_name → block_text b (w ∷ r) blk ≡ at_rule_text b w r (Some blk)
block-at b w r blk e = rw e refl

pub block-fixed : (b run : List Lexeme) (o : Lexeme) (blk : Block) (end : ℕ) (node : NodeText) (span : Option Span) → IsBlock b run o blk end node span
    → (node ≡ block_text b run blk) × (span ≡ span_of (begins_at run o) end)
block-fixed b run o blk end node span (inl h) =
    let r = h.after_name ++ (h.params ++ h.between) in (
      h.is_node ∙ (sym (at_rule-is b h.word h.name h.after_name h.params h.between (Some blk) h.word_text h.after_name_class h.params_begins h.params_ends h.between_class h.after_name_empty)
          ∙ (sym (block-at b h.word r blk h.word_class) ∙ ap (λ z. block_text b z blk) (sym h.all))),
      h.is_span ∙ ap (λ z. span_of (begins_at z o) end) (sym h.all),
    )
block-fixed b run o blk end node span (inr h) =
    (h.is_node ∙ (sym (rule-is b h.selector h.between blk h.selector_kind h.selector_ends h.between_class h.between_empty) ∙ ap (λ z. block_text b z blk) (sym h.all)), h.is_span)

begins-solid : (s : Shape) → begins_shape s ≡ true → is_blank_shape s ≡ false
begins-solid Shape.space e = absurd (true≢false (sym e))
begins-solid Shape.comment e = absurd (true≢false (sym e))
begins-solid _ e = refl

first-solid : (w : Lexeme) → begins_shape (shape w) ≡ true → is_blank w ≡ false
unfolding is_blank
first-solid w e = begins-solid (shape w) e

rule-no-at : (w : Lexeme) (r : List Lexeme) → is_blank w ≡ false → (shape w ≡ Shape.at_name → ⊥) → BeginsNoAtRule (solid (w ∷ r))
unfolding solid_by
rule-no-at w r e h = rw e h

rule-exists : (b : List Lexeme) (w : Lexeme) (r : List Lexeme) (o : Lexeme) (blk : Block) (end : ℕ) → is_blank w ≡ false → (shape w ≡ Shape.at_name → ⊥)
    → IsRule b (w ∷ r) o blk end (rule_text b (w ∷ r) blk) (span_of w.at end)
rule-exists b w r o blk end e h =
    let t = trim-begins is_blank (w ∷ r) e in
    record {
      selector = solid (w ∷ r);
      between = tail (w ∷ r);
      all = sym (trim-all is_blank (w ∷ r));
      selector_kind = rule-no-at w r e h;
      selector_begins = t.0;
      selector_ends = trim-ends is_blank (w ∷ r);
      between_class = trim-tail is_blank (w ∷ r);
      between_empty = t.1;
      is_node = refl;
      is_span = refl;
    }

empty-exists : (b : List Lexeme) (o : Lexeme) (blk : Block) (end : ℕ) → IsRule b [] o blk end (rule_text b [] blk) (span_of o.at end)
unfolding solid_by tail_by
empty-exists b o blk end = record {
  selector = [];
  between = [];
  all = refl;
  selector_kind = tt;
  selector_begins = tt;
  selector_ends = tt;
  between_class = tt;
  between_empty = λ e. refl;
  is_node = refl;
  is_span = refl;
}

block-by : (s : Shape) (b : List Lexeme) (w : Lexeme) (r : List Lexeme) (o : Lexeme) (blk : Block) (end : ℕ) → shape w ≡ s → is_blank w ≡ false → FormedBy s w.text
    → IsBlock b (w ∷ r) o blk end (block_text_by s b w r blk) (span_of w.at end)
block-by Shape.at_name b w r o blk end es e h = inl (at_rule-exists b w r (Some blk) end es h.0)
block-by _ b w r o blk end es e h = inr (rule-exists b w r o blk end e (λ k. absurd (cc)))

pub block-exists : (b run : List Lexeme) (o : Lexeme) (blk : Block) (end : ℕ) → IsPrelude run → AllFormed run → IsBlock b run o blk end (block_text b run blk) (span_of (begins_at run o) end)
block-exists b [] o blk end h m = inr (empty-exists b o blk end)
block-exists b (w ∷ r) o blk end h m = block-by (shape w) b w r o blk end refl (first-solid w h.0.0) m.0

-- The trees.

-- there are no others
pub trees-fixed : (f : Nodes) (ts : Trees) → AreTrees f ts → ts ≡ trees f
unfolding trees
trees-fixed none Trees.none h = refl
trees-fixed none (Trees.node t s k r) h = absurd h
trees-fixed (comment b p f) Trees.none h = absurd h
trees-fixed (comment b p f) (Trees.node t s Trees.none r) h =
    let k = comment-fixed b p t s h.0 in rw (k.0, k.1, trees-fixed f r h.1) refl
trees-fixed (comment b p f) (Trees.node t s (Trees.node t' s' k' r') r) h = absurd h
trees-fixed (leaf b q e f) Trees.none h = absurd h
trees-fixed (leaf b q e f) (Trees.node t s Trees.none r) h =
    let k = leaf-fixed b q t s h.0 in rw (k.0, k.1, trees-fixed f r h.1) refl
trees-fixed (leaf b q e f) (Trees.node t s (Trees.node t' s' k' r') r) h = absurd h
trees-fixed (block b q o x a c f) Trees.none h = absurd h
trees-fixed (block b q o x a c f) (Trees.node t s k r) h =
    let e = block-fixed b q o (block_of_nodes x a) (end_of c) t s h.0 in rw (e.0, e.1, trees-fixed x k h.1, trees-fixed f r h.2) refl

-- and there are these
pub trees-exist : (f : Nodes) (n : ℕ) (a : List Lexeme) → AreNodes n f a → AllFormed (line f) → AreTrees f (trees f)
unfolding trees line
trees-exist none n a h m = tt
trees-exist (comment b p f) n a h m =
    let mp = formed-back b (p ∷ line f) m in
    (comment-exists b p (formed-of p Shape.comment h.1 mp.0), trees-exist f n a h.2 mp.2)
trees-exist (leaf b r e f) n a h m =
    let mr = formed-back b (r ++ (e ++ line f)) m in
    let me = formed-back r (e ++ line f) mr in
    (leaf-exists b r h.1 h.2 (formed-front r (e ++ line f) mr), trees-exist f n a h.4 (formed-back e (line f) me))
trees-exist (block b r o k a' c f) n a h m =
    let mr = formed-back b (r ++ o ∷ (line k ++ (a' ++ c ∷ line f))) m in
    let mo = formed-back r (o ∷ (line k ++ (a' ++ c ∷ line f))) mr in
    let mk = formed-front (line k) (a' ++ c ∷ line f) mo.2 in
    let mc = formed-back a' (c ∷ line f) (formed-back (line k) (a' ++ c ∷ line f) mo.2) in (
      block-exists b r o (block_of_nodes k a') (end_of c) h.1 (formed-front r (o ∷ (line k ++ (a' ++ c ∷ line f))) mr),
      trees-exist k (suc n) a' h.4 mk,
      trees-exist f n a h.6 mc.2,
    )
