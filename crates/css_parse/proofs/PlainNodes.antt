-- The nodes of plain statements, by the pieces that they are made of.
use Rattle.std.proofs.Common.{◌≡◌, ℕ, ◌+◌, ◌<◌, Bool, true, false, nat_lt, List, [], ◌∷◌, ◌++◌, length, Option, Some, None, refl, ap, sym, ◌∙◌, subst, inl, inr, add-zero, append_assoc, append-nil, arith}
use Rattle.std.specs.Str.{chars, IsUtf8, IsCharBoundary}
use Rattle.std.proofs.lemmas.Bool.{lt-ltb, le-ltb}
use Rattle.css_text.specs.declared.lexer.Span.{Span}
use Rattle.css_text.specs.Shared.{part}
use Rattle.css_text.proofs.Slices.{IsSlice, slice_chars}
use Rattle.css_tree.specs.declared.node.Block.{Block}
use Rattle.css_tree.specs.declared.node.Source.{Source}
use Rattle.css_tree.specs.declared.node.NodeText.{NodeText}
use Rattle.css_tree.specs.declared.node.NodeText.TheVariants as N
use Rattle.node_rows.specs.declared.node_list.NodeAt.{NodeAt}
use Rattle.css_tree.specs.Pieces.{Lexeme, Shape, shape, is_blank, is_blank_shape, join, end_of, last_end}
use Rattle.css_tree.specs.Classes.{Each, BeginsWithout, EndsWithout}
use Rattle.css_tree.specs.Fields.{IsDeclaration, IsRule, AreValueAndMark, source_text, span_of, begins_at}
use Rattle.css_tree.specs.Mark.{EndsInMark, mark_at, important_letters}
use Rattle.css_tree.specs.Clean.{clean_of}
use Rattle.css_tree.proofs.TreeOf.{leaf_text, leaf_span, block_text}
use Rattle.css_tree.proofs.Fields.{leaf-fixed, block-fixed}
use Rattle.css_tree.proofs.Printed.{join-append, join-one, join-nil}
use Rattle.css_parse.specs.declared.gap.Gap.{Gap}
use Rattle.css_parse.specs.declared.plain.PlainLeaf.{PlainLeaf}
use Rattle.css_parse.specs.declared.plain.PlainHead.{PlainHead}
use Rattle.css_parse.specs.Gaps.{gap_of}
use Rattle.css_parse.specs.Machine.{leaf_node, leaf_bytes, open_node, open_end}
use Rattle.css_parse.specs.Plain.{mark_text, is_calm, AreCalm, IsMarkPieces, IsLeafRun, IsHeadRun}
use Rattle.css_parse.specs.Standing.{Stand, gap_text}
use Rattle.css_parse.proofs.FieldTexts.{join-gap}
use Rattle.css_parse.proofs.PlainClean.{clean-calm, joined-calm, no-mark}
use Rattle.css_parse.proofs.PlainSlices.{ends-snoc}
use Rattle.css_parse.proofs.Standing.{stand-slice, stand-front, stand-back, end-both, gap-text}

-- Pieces that stand side by side, and those in front of them.
record Front (bs : List ℕ) (a b : ℕ) (xs ys : List Lexeme) : Type 0 where
  pub slice : IsSlice bs a b (join xs)
  pub rest : Stand bs b ys

front : (bs : List ℕ) (a b : ℕ) (xs ys : List Lexeme) → IsCharBoundary bs a → Stand bs a (xs ++ ys) → last_end a xs ≡ b → Front bs a b xs ys
front bs a b xs ys l h e = subst (λ z. Front bs a z xs ys) e (record { slice = stand-slice bs a xs l (stand-front bs a xs ys h); rest = stand-back bs a xs ys h })

-- Classes of the pieces.

calm-one : (ps : List Lexeme) (w : Lexeme) (ws : List Lexeme) → AreCalm (ps ++ w ∷ ws) → Each is_calm w.text
calm-one [] w ws h = h.0
calm-one (p ∷ ps) w ws h = calm-one ps w ws h.1

no-place : (n : ℕ) → ◌≡◌ {A = Option ℕ} None (Some n) → ⊥
no-place n e = cc

no-word : (letters : List ℕ) (w : Lexeme) (n : ℕ) → Each is_calm w.text → mark_at false letters w.text ≡ Some n → ⊥
no-word letters w n h e = no-place n (sym (no-mark false letters w.text h) ∙ e)

-- calm pieces end in no mark
no-mark_in : (ps front : List Lexeme) (mark : List ℕ) → AreCalm ps → EndsInMark ps front mark → ⊥
no-mark_in ps front mark h (inl e) = no-word important_letters e.word e.place (calm-one e.pieces e.word [] (subst AreCalm (sym e.all) h)) e.found
no-mark_in ps front mark h (inr e) = no-word [] e.word e.place (calm-one e.pieces e.word (e.blanks ++ e.last ∷ []) (subst AreCalm (sym e.all) h)) e.found

begins-more : (xs ys : List Lexeme) → 0 < length xs → BeginsWithout is_blank xs → BeginsWithout is_blank (xs ++ ys)
begins-more [] ys l h = absurd (omega arith)
begins-more (x ∷ xs) ys l h = h

word-solid : (m : Lexeme) → shape m ≡ Shape.word → is_blank m ≡ false
unfolding is_blank
word-solid m e = ap is_blank_shape e

-- What the value and the mark of such a declaration are.
record Marking (value rest : List Lexeme) (marked : Bool) (raw : List ℕ) : Type 0 where
  pub are : AreValueAndMark (value ++ rest) value marked raw
  pub ends : EndsWithout is_blank (value ++ rest)
  pub raw_is : join rest ≡ raw

unmarked : (value : List Lexeme) → AreCalm value → EndsWithout is_blank value → Marking value [] false []
unmarked value h e =
    let n : value ++ [] ≡ value = append-nil value in
    record {
      are = record {
        no_mark = λ (f : List Lexeme) (m : List ℕ) (k : EndsInMark (value ++ []) f m). no-mark_in value f m h (subst (λ z. EndsInMark z f m) n k);
        is_value = sym n;
        is_important = refl;
      };
      ends = subst (EndsWithout is_blank) (sym n) e;
      raw_is = join-nil;
    }

marked-by : (value blanks : List Lexeme) (m : Lexeme) → BeginsWithout is_blank value → EndsWithout is_blank value → Each is_blank blanks → (value ≡ [] → blanks ≡ []) → shape m ≡ Shape.word → m.text ≡ mark_text
    → Marking value (blanks ++ m ∷ []) true (join blanks ++ mark_text)
marked-by value blanks m hb he hs hn w t =
    let all : (value ++ blanks) ++ m ∷ [] ≡ value ++ (blanks ++ m ∷ []) = append_assoc value blanks (m ∷ []) in
    record {
      are = record {
        blanks = blanks;
        mark = mark_text;
        found = inl (record {
          pieces = value ++ blanks;
          word = m;
          place = 0;
          all = all;
          is_word = w;
          found = ap (mark_at false important_letters) t;
          is_front = sym (append-nil (value ++ blanks));
          is_mark = sym t;
        });
        value_begins = hb;
        value_ends = he;
        blanks_class = hs;
        blanks_empty = hn;
        is_important = refl;
      };
      ends = subst (EndsWithout is_blank) all (ends-snoc is_blank (value ++ blanks) m (word-solid m w));
      raw_is = join-append blanks (m ∷ []) ∙ ap (λ z. join blanks ++ z) (join-one m ∙ t);
    }

-- the flag, as code tells it
record Flagged (value rest : List Lexeme) (flag : Bool) : Type 0 where
  pub raw : List ℕ
  pub marking : Marking value rest flag raw

some-value : (value blanks : List Lexeme) → 0 < length value → value ≡ [] → blanks ≡ []
some-value [] blanks l e = absurd (omega arith)
some-value (v ∷ value) blanks l e = absurd (cc)

flagged-mark : (value blanks mark : List Lexeme) → 0 < length value → BeginsWithout is_blank value → EndsWithout is_blank value → Each is_blank blanks → IsMarkPieces mark → Flagged value (blanks ++ mark) true
flagged-mark value blanks [] l hb he hs h = absurd h
flagged-mark value blanks (m ∷ []) l hb he hs h = record { raw = join blanks ++ mark_text; marking = marked-by value blanks m hb he hs (some-value value blanks l) h.0 h.1 }
flagged-mark value blanks (m ∷ n ∷ ms) l hb he hs h = absurd h

flagged : (bs : List ℕ) (at : ℕ) (p : PlainLeaf) (run : List Lexeme) (h : IsLeafRun bs at p run) → Flagged h.value (h.blanks ++ h.mark) (nat_lt p.end p.semicolon)
flagged bs at p run h = elim h.ending [
  | inl e ↦
      let n : h.blanks ++ h.mark ≡ [] = ap (λ z. z ++ h.mark) e.0 ∙ e.1 in
      let f : nat_lt p.end p.semicolon ≡ false = le-ltb p.end p.semicolon (omega (arith, e.2)) in
      subst (Flagged h.value (h.blanks ++ h.mark)) (sym f) (subst (λ z. Flagged h.value z false) (sym n) (record { raw = []; marking = unmarked h.value h.value_calm h.value_ends }))
  | inr e ↦
      let f : nat_lt p.end p.semicolon ≡ true = lt-ltb p.end p.semicolon e.1 in
      subst (Flagged h.value (h.blanks ++ h.mark)) (sym f) (flagged-mark h.value h.blanks h.mark h.value_some h.value_begins h.value_ends h.blanks_class e.0)
]

-- A declaration.

-- its texts
record LeafTexts (bs : List ℕ) (at : ℕ) (p : PlainLeaf) (run : List Lexeme) (h : IsLeafRun bs at p run) : Type 0 where
  pub prop : chars (part bs at p.colon) ≡ h.word.text
  pub between : chars (part bs p.colon p.value) ≡ join (h.colon ∷ h.back)
  pub value : chars (part bs p.value p.end) ≡ join h.value
  pub mark : chars (part bs p.end p.semicolon) ≡ join (h.blanks ++ h.mark)
  pub start : h.word.at ≡ at
  pub end : last_end (end_of h.word) (h.colon ∷ (h.back ++ (h.value ++ (h.blanks ++ h.mark)))) ≡ p.semicolon

leaf-texts : (bs : List ℕ) (at : ℕ) (p : PlainLeaf) (run : List Lexeme) (h : IsLeafRun bs at p run) → IsUtf8 bs → LeafTexts bs at p run h
leaf-texts bs at p run h u =
    let rest = h.blanks ++ h.mark in
    let s : Stand bs at (h.word ∷ h.colon ∷ (h.back ++ (h.value ++ rest))) = subst (Stand bs at) h.all h.stand in
    let w : IsSlice bs at p.colon h.word.text = subst (λ z. IsSlice bs z p.colon h.word.text) s.0 (subst (λ z. IsSlice bs h.word.at z h.word.text) h.word_end s.1) in
    let t : Stand bs p.colon ((h.colon ∷ h.back) ++ (h.value ++ rest)) = subst (λ z. Stand bs z ((h.colon ∷ h.back) ++ (h.value ++ rest))) h.word_end s.2 in
    let x = front bs p.colon p.value (h.colon ∷ h.back) (h.value ++ rest) w.high t h.value_at in
    let y = front bs p.value p.end h.value rest x.slice.high x.rest h.end_at in
    let z : IsSlice bs p.end p.semicolon (join rest) = subst (λ e. IsSlice bs p.end e (join rest)) h.semicolon_at (stand-slice bs p.end rest y.slice.high y.rest) in
    record {
      prop = slice_chars bs at p.colon h.word.text u w;
      between = slice_chars bs p.colon p.value (join (h.colon ∷ h.back)) u x.slice;
      value = slice_chars bs p.value p.end (join h.value) u y.slice;
      mark = slice_chars bs p.end p.semicolon (join rest) u z;
      start = s.0;
      end = end-both p.colon (h.colon ∷ h.back) (h.value ++ rest) ∙ (ap (λ e. last_end e (h.value ++ rest)) h.value_at
          ∙ (end-both p.value h.value rest ∙ (ap (λ e. last_end e rest) h.end_at ∙ h.semicolon_at)));
    }

declaration : (b : List Lexeme) (bs : List ℕ) (at : ℕ) (p : PlainLeaf) (run : List Lexeme) (h : IsLeafRun bs at p run) (flag : Bool) (f : Flagged h.value (h.blanks ++ h.mark) flag)
    → IsDeclaration b run (N.Declaration (Some (join b ++ [])) h.word.text (join (h.colon ∷ h.back)) (source_text h.value) flag f.raw (join []))
    (span_of (h.word.at + 0) (last_end (end_of h.word) (h.colon ∷ (h.back ++ ((h.value ++ (h.blanks ++ h.mark)) ++ [])))))
declaration b bs at p run h flag f =
    let body = h.value ++ (h.blanks ++ h.mark) in
    record {
      word = h.word;
      hack = [];
      prop = h.word.text;
      front = [];
      colon = h.colon;
      back = h.back;
      body = body;
      value = h.value;
      marked = flag;
      important = f.raw;
      tail = [];
      all = h.all ∙ ap (λ z. h.word ∷ h.colon ∷ (h.back ++ z)) (sym (append-nil body));
      word_class = h.is_word;
      word_text = refl;
      hack_class = h.no_hack;
      front_class = tt;
      colon_class = h.is_colon;
      back_class = h.back_class;
      body_begins = begins-more h.value (h.blanks ++ h.mark) h.value_some h.value_begins;
      body_ends = f.marking.ends;
      value_and_mark = f.marking.are;
      tail_class = tt;
      tail_empty = λ e. refl;
      is_node = refl;
      is_span = refl;
    }

span-some : (r : List Lexeme) → leaf_span r ≡ Some (leaf_bytes r)
span-some [] = refl
span-some (w ∷ r) = refl

same-some : (a b : Span) → ◌≡◌ {A = Option Span} (Some a) (Some b) → a ≡ b
same-some a b e = cc

same-leaf : (a a' b b' c c' d d' e e' : List ℕ) (v v' : Source) (flag : Bool) → a ≡ a' → b ≡ b' → c ≡ c' → v ≡ v' → d ≡ d' → e ≡ e' → N.Declaration (Some a) b c v flag d e ≡ N.Declaration (Some a') b' c' v' flag d' e'
same-leaf a a' b b' c c' d d' e e' v v' flag h1 h2 h3 h4 h5 h6 = cc

same-node : (j : ℕ) (t t' : NodeText) (s s' : Span) → t ≡ t' → s ≡ s' → ◌≡◌ {A = NodeAt} (record { parent = j; text = t; span = s }) (record { parent = j; text = t'; span = s' })
same-node j t t' s s' e f = cc

same-source : (ps : List Lexeme) (t : List ℕ) → AreCalm ps → t ≡ join ps → ◌≡◌ {A = Source} (record { source = t; clean = t }) (source_text ps)
same-source ps t h e =
    let k : t ≡ clean_of (join ps) = e ∙ sym (clean-calm (join ps) (joined-calm ps h)) in
    cc

place : (a b c d : ℕ) → a ≡ c → b ≡ d → ◌≡◌ {A = Span} (record { start = a; end = b }) (record { start = c; end = d })
place a b c d e f = cc

pub leaf-made : (bs : List ℕ) (g : Gap) (j : ℕ) (p : PlainLeaf) (run : List Lexeme) (before prop between raw last : List ℕ) (value : Source) → IsUtf8 bs → IsLeafRun bs g.end p run
    → before ≡ chars (part bs g.start g.end) → prop ≡ chars (part bs g.end p.colon) → between ≡ chars (part bs p.colon p.value)
    → value ≡ record { source = chars (part bs p.value p.end); clean = chars (part bs p.value p.end) } → raw ≡ chars (part bs p.end p.semicolon) → last ≡ []
    → ◌≡◌ {A = NodeAt} (record {
      parent = j;
      text = N.Declaration (Some before) prop between value (nat_lt p.end p.semicolon) raw last;
      span = record { start = g.end; end = p.semicolon };
    }) (leaf_node j (gap_text bs g) run)
leaf-made bs g j p run before prop between raw last value u h e1 e2 e3 e4 e5 e6 =
    let b = gap_of (gap_text bs g) in
    let t = leaf-texts bs g.end p run h u in
    let f = flagged bs g.end p run h in
    let d = leaf-fixed b run _ _ (inr (declaration b bs g.end p run h (nat_lt p.end p.semicolon) f)) in
    let body = h.value ++ (h.blanks ++ h.mark) in
    let texts : N.Declaration (Some before) prop between value (nat_lt p.end p.semicolon) raw last ≡ leaf_text b run =
    same-leaf before (join b ++ []) prop h.word.text between (join (h.colon ∷ h.back)) raw f.raw last (join []) value (source_text h.value) (nat_lt p.end p.semicolon)
    (e1 ∙ (sym (gap-text bs g) ∙ (sym (join-gap (gap_text bs g)) ∙ sym (append-nil (join b))))) (e2 ∙ t.prop) (e3 ∙ t.between)
    (e4 ∙ same-source h.value (chars (part bs p.value p.end)) h.value_calm t.value) (e5 ∙ (t.mark ∙ f.marking.raw_is)) (e6 ∙ sym join-nil) ∙ d.0 in
    let here : ◌≡◌ {A = Span} (record { start = g.end; end = p.semicolon }) (record { start = h.word.at + 0; end = last_end (end_of h.word) (h.colon ∷ (h.back ++ (body ++ []))) }) =
    place _ _ _ _ (sym t.start ∙ sym (add-zero h.word.at)) (sym t.end ∙ ap (λ z. last_end (end_of h.word) (h.colon ∷ (h.back ++ z))) (sym (append-nil body))) in
    same-node j _ (leaf_text b run) _ (leaf_bytes run) texts (here ∙ same-some _ (leaf_bytes run) (d.1 ∙ span-some run))

-- The head of a rule.

rule : (b : List Lexeme) (bs : List ℕ) (at : ℕ) (p : PlainHead) (run : List Lexeme) (q : Lexeme) (h : IsHeadRun bs at p run)
    → IsRule b run q open_end (end_of q) (N.Rule (Some (join b)) (source_text h.selector) (join h.between) open_end) (span_of (begins_at run q) (end_of q))
rule b bs at p run q h = record {
  selector = h.selector;
  between = h.between;
  all = h.all;
  selector_kind = h.selector_kind;
  selector_begins = h.selector_begins;
  selector_ends = h.selector_ends;
  between_class = h.between_class;
  between_empty = some-value h.selector h.between h.selector_some;
  is_node = refl;
  is_span = refl;
}

first-stand : (bs : List ℕ) (at : ℕ) (xs ys : List Lexeme) (q : Lexeme) → 0 < length xs → Stand bs at (xs ++ ys) → begins_at (xs ++ ys) q ≡ at
first-stand bs at [] ys q l h = absurd (omega arith)
first-stand bs at (x ∷ xs) ys q l h = h.0

same-rule : (a a' c c' : List ℕ) (v v' : Source) (x x' : Block) → a ≡ a' → v ≡ v' → c ≡ c' → x ≡ x' → N.Rule (Some a) v c x ≡ N.Rule (Some a') v' c' x'
same-rule a a' c c' v v' x x' h1 h2 h3 h4 = cc

pub head-made : (bs : List ℕ) (g : Gap) (j : ℕ) (p : PlainHead) (run : List Lexeme) (q : Lexeme) (before between : List ℕ) (selector : Source) (blk : Block) → IsUtf8 bs → IsCharBoundary bs g.end → IsHeadRun bs g.end p run → end_of q ≡ p.brace + 1
    → before ≡ chars (part bs g.start g.end) → selector ≡ record { source = chars (part bs g.end p.end); clean = chars (part bs g.end p.end) } → between ≡ chars (part bs p.end p.brace) → blk ≡ open_end
    → ◌≡◌ {A = NodeAt} (record {
      parent = j;
      text = N.Rule (Some before) selector between blk;
      span = record { start = g.end; end = p.brace + 1 };
    }) (open_node j (gap_text bs g) run q)
head-made bs g j p run q before between selector blk u l h k e1 e2 e3 e4 =
    let b = gap_of (gap_text bs g) in
    let s : Stand bs g.end (h.selector ++ h.between) = subst (Stand bs g.end) h.all h.stand in
    let x = front bs g.end p.end h.selector h.between l s h.end_at in
    let y : IsSlice bs p.end p.brace (join h.between) = subst (λ e. IsSlice bs p.end e (join h.between)) h.brace_at (stand-slice bs p.end h.between x.slice.high x.rest) in
    let first : begins_at run q ≡ g.end = ap (λ z. begins_at z q) h.all ∙ first-stand bs g.end h.selector h.between q h.selector_some s in
    let texts : N.Rule (Some before) selector between blk ≡ block_text b run open_end =
    same-rule before (join b) between (join h.between) selector (source_text h.selector) blk open_end
    (e1 ∙ (sym (gap-text bs g) ∙ sym (join-gap (gap_text bs g))))
    (e2 ∙ same-source h.selector (chars (part bs g.end p.end)) h.selector_calm (slice_chars bs g.end p.end (join h.selector) u x.slice))
    (e3 ∙ slice_chars bs p.end p.brace (join h.between) u y) e4
    ∙ (block-fixed b run q open_end (end_of q) _ _ (inr (rule b bs g.end p run q h))).0 in
    same-node j _ (block_text b run open_end) _ (record { start = begins_at run q; end = end_of q }) texts (place _ _ _ _ (sym first) (sym k))
