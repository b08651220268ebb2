-- What the functions that make the texts of nodes put together.
use Rattle.std.proofs.Common.{◌≡◌, ℕ, zero, suc, ◌+◌, ◌-◌, ◌<◌, ◌≤◌, ◌==◌, if◌then◌else◌, Bool, true, false, List, [], ◌∷◌, ◌++◌, length, take, drop, Option, Some, None, refl, ◌∙◌, sym, ap, subst, append-nil, append_assoc, take-append-drop, arith}
use Rattle.std.specs.Str.{chars}
use Rattle.std.proofs.lemmas.Bool.{ne_eqb, eq-eqb}
use Rattle.std.proofs.lemmas.List.{drop-drop, length-drop, take-take, drop-take}
use Rattle.css_text.specs.declared.lexer.PieceKind.{PieceKind}
use Rattle.css_text.specs.declared.lexer.PieceKind.TheVariants as P
use Rattle.css_text.specs.Ahead.{byte_len}
use Rattle.css_text.specs.Characters.{is_space}
use Rattle.css_tree.specs.declared.node.Block.{Block}
use Rattle.css_tree.specs.declared.node.Source.{Source}
use Rattle.css_tree.specs.declared.node.NodeText.TheVariants as N
use Rattle.css_tree.specs.Pieces.{Lexeme, Shape, shape, shape_of, at_shape, single_shape, is_blank, is_blank_shape, join}
use Rattle.css_tree.specs.Clean.{clean_of}
use Rattle.css_tree.specs.Fields.{source_text}
use Rattle.css_tree.specs.Mark.{part, part_by}
use Rattle.css_tree.proofs.Split.{solid, solid_by, tail, tail_by, lead, lead_by, unlead, unlead_by, rest_of, first_list, hack, mark_of, value_of, important_of, is_marked}
use Rattle.css_tree.proofs.Trim.{trim-all}
use Rattle.css_tree.proofs.TreeOf.{comment_text, inner_of, rule_text, at_rule_text, after_name_of, between_of, declaration_text}
use Rattle.css_tree.proofs.Printed.{join-append}
use Rattle.css_parse.specs.Gaps.{gap_of}
use Rattle.css_parse.specs.declared.mark.Mark.{Mark}
use Rattle.css_parse.specs.declared.fields.Value.{Value}
use Rattle.css_parse.specs.Marks.{IsMarkOf}
use Rattle.css_text.proofs.Slices.{byte_len_some}
use Rattle.css_parse.specs.Values.{IsValue, IsValueLen, IsPast}
use Rattle.css_parse.proofs.Joins.{join-one}
use Rattle.css_parse.proofs.Trailing.{cancel, snoc_kept, solid_back}

pub join-gap : (t : List ℕ) → join (gap_of t) ≡ t
join-gap t = join-one _

abbrev pub Sourced : Source → List ℕ → Type 0
Sourced s t = s ≡ record { source = t; clean = clean_of t }

sourced : (s : Source) (t : List ℕ) (ps : List Lexeme) → Sourced s t → t ≡ join ps → s ≡ source_text ps
sourced s t ps e h = e ∙ ap (λ z. record { source = z; clean = clean_of z }) h

less-zero : (n : ℕ) → n - 0 ≡ n
less-zero n = omega arith

pub rule_made : (b : List ℕ) (r : List Lexeme) (blk : Block) (n : ℕ) (before text between : List ℕ) (sel : Source)
    → before ≡ b → text ≡ join (take n r) → Sourced sel text → between ≡ join (drop n r) → take n r ≡ solid r → drop n r ≡ tail r
    → N.Rule (Some before) sel between blk ≡ rule_text (gap_of b) r blk
rule_made b r blk n before text between sel e1 e2 e3 e4 f g =
    rw (e1 ∙ sym (join-gap b), sourced sel text (solid r) e3 (e2 ∙ ap join f), e4 ∙ ap join g) refl

-- An at-rule.

no-more : (n k : ℕ) → (n == n + suc k) ≡ false
no-more n k = ne_eqb n (n + suc k) (λ e. omega arith)

same-place : (n : ℕ) → (n == n + 0) ≡ true
same-place n = eq-eqb n (n + 0) (omega arith)

take-some : (k : ℕ) (xs : List Lexeme) → suc k ≤ length xs → (x : Lexeme) × (ys : List Lexeme) × (take (suc k) xs ≡ x ∷ ys)
take-some k [] l = absurd (omega arith)
take-some k (x ∷ xs) l = (x, take k xs, refl)

at-names : (n k : ℕ) (r p : List Lexeme) → take n r ≡ lead r → p ≡ take k (drop n r) → k ≤ length (drop n r)
    → take (if n == n + k then 0 else n) r ≡ after_name_of r p
at-names n zero r p f e l = rw (same-place n) (ap (after_name_of r) (sym e))
at-names n (suc k) r p f e l =
    let t = take-some k (drop n r) l in
    rw (no-more n k) (f ∙ ap (after_name_of r) (sym (e ∙ t.2)))

drop-more : (n k : ℕ) (r : List Lexeme) → drop (n + k) r ≡ drop k (drop n r)
drop-more n k r = sym (drop-drop k n r)

-- what follows a place, as code takes it
pub rest-from : (n : ℕ) (r : List Lexeme) → take (length r - n) (drop n r) ≡ drop n r
rest-from n r = ap (λ z. take z (drop n r)) (sym (length-drop n r)) ∙ take-all (drop n r)
  where
    take-all : (ys : List Lexeme) → take (length ys) ys ≡ ys
    take-all [] = refl
    take-all (y ∷ ys) = ap (λ z. y ∷ z) (take-all ys)

at-between : (n k : ℕ) (r p : List Lexeme) → drop n r ≡ unlead r → drop k (drop n r) ≡ tail (drop n r) → p ≡ take k (drop n r) → k ≤ length (drop n r)
    → drop (if n == n + k then 0 else n + k) r ≡ between_of r p
at-between n zero r p f g e l = rw (same-place n) (ap (between_of r) (sym e))
at-between n (suc k) r p f g e l =
    let t = take-some k (drop n r) l in
    rw (no-more n k) (drop-more n (suc k) r ∙ (g ∙ (ap tail f ∙ ap (between_of r) (sym (e ∙ t.2)))))

plus-less : (n k : ℕ) → n + k - n ≡ k
plus-less n k = omega arith

pub at_rule_made : (b : List ℕ) (w : Lexeme) (r : List Lexeme) (blk : Option Block) (n k : ℕ) (before name after text between : List ℕ) (params : Source)
    → before ≡ b → name ≡ drop 1 w.text → text ≡ join (take (n + k - n) (drop n r)) → Sourced params text
    → after ≡ join (take (if n == n + k then 0 else n) r) → between ≡ join (drop (if n == n + k then 0 else n + k) r)
    → take n r ≡ lead r → drop n r ≡ unlead r → take k (drop n r) ≡ solid (drop n r) → drop k (drop n r) ≡ tail (drop n r) → k ≤ length (drop n r)
    → N.AtRule (Some before) name after params between blk ≡ at_rule_text (gap_of b) w r blk
at_rule_made b w r blk n k before name after text between params e1 e2 e3 e4 e5 e6 f1 f2 g1 g2 l =
    let p : solid (unlead r) ≡ take k (drop n r) = sym (g1 ∙ ap solid f2) in
    rw (
      e1 ∙ sym (join-gap b),
      e2,
      sourced params text (solid (unlead r)) e4 (e3 ∙ ap join (ap (λ z. take z (drop n r)) (plus-less n k) ∙ sym p)),
      e5 ∙ ap join (at-names n k r (solid (unlead r)) f1 p l),
      e6 ∙ ap join (at-between n k r (solid (unlead r)) f2 g2 p l),
    ) refl

-- A declaration.

pub take_plus : (m k : ℕ) (r : List Lexeme) → take (m + k) r ≡ take m r ++ take k (drop m r)
take_plus m k r = sym (take-append-drop m (take (m + k) r)) ∙ (ap (λ x. x ++ drop m (take (m + k) r)) (take-take m (m + k) r (omega arith)) ∙ ap (λ x. take m r ++ x) (drop-take m k r))

past-suc : (n : ℕ) (r : List Lexeme) → n < length r → (drop (suc n) r ≡ rest_of (drop n r)) × (take (suc n) r ≡ take n r ++ first_list (drop n r))
past-suc n [] l = absurd (omega arith)
past-suc zero (x ∷ r) l = (refl, refl)
past-suc (suc n) (x ∷ r) l = let k = past-suc n r (omega arith) in (k.0, ap (λ z. x ∷ z) k.1)

pub past_some : (n : ℕ) (r : List Lexeme) → n < length r → IsPast (n + 1) n r
past_some n r l = let k = past-suc n r l in let e : n + 1 ≡ suc n = omega arith in
    record { within = omega arith; back = ap (λ z. drop z r) e ∙ k.0; front = ap (λ z. take z r) e ∙ k.1 }

drop-end : (n : ℕ) (r : List Lexeme) → length r ≤ n → drop n r ≡ []
drop-end zero [] l = refl
drop-end (suc n) [] l = refl
drop-end zero (x ∷ r) l = absurd (omega arith)
drop-end (suc n) (x ∷ r) l = drop-end n r (omega arith)

pub past_none : (n : ℕ) (r : List Lexeme) → n ≤ length r → length r ≤ n → IsPast n n r
past_none n r a b =
    let e = drop-end n r b in
    record { within = a; back = e ∙ ap rest_of (sym e); front = sym (ap (λ z. take n r ++ first_list z) e ∙ append-nil (take n r)) }

pub declaration_made : (b : List ℕ) (w : Lexeme) (r : List Lexeme) (n colon k s : ℕ) (before prop between last : List ℕ) (v : Value)
    → before ≡ b ++ hack w.text → prop ≡ drop (length (hack w.text)) w.text
    → between ≡ join (take (colon + k) r) → IsValue v (take (colon + k + s - (colon + k)) (drop (colon + k) r)) → last ≡ join (drop (colon + k + s) r)
    → take n r ≡ lead r → drop n r ≡ unlead r → IsPast colon n r
    → take k (drop colon r) ≡ lead (drop colon r) → drop k (drop colon r) ≡ unlead (drop colon r)
    → take s (drop (colon + k) r) ≡ solid (drop (colon + k) r) → drop s (drop (colon + k) r) ≡ tail (drop (colon + k) r)
    → N.Declaration (Some before) prop between v.source v.important v.important_raw last ≡ declaration_text (gap_of b) w r
declaration_made b w r n colon k s before prop between last v e1 e2 e3 h e4 f1 f2 p g1 g2 d1 d2 =
    let a : drop colon r ≡ rest_of (unlead r) = p.back ∙ ap rest_of f2 in
    let u : drop (colon + k) r ≡ unlead (rest_of (unlead r)) = drop-more colon k r ∙ (g2 ∙ ap unlead a) in
    let body : take (colon + k + s - (colon + k)) (drop (colon + k) r) ≡ solid (unlead (rest_of (unlead r))) =
    ap (λ z. take z (drop (colon + k) r)) (plus-less (colon + k) s) ∙ (d1 ∙ ap solid u) in
    let i : IsValue v (solid (unlead (rest_of (unlead r)))) = subst (IsValue v) body h in
    let m : take (colon + k) r ≡ lead r ++ (first_list (unlead r) ++ lead (rest_of (unlead r))) =
    take_plus colon k r ∙ (ap (λ z. z ++ take k (drop colon r)) p.front ∙ (append_assoc (take n r) (first_list (drop n r)) (take k (drop colon r))
    ∙ (ap (λ z. z ++ (first_list (drop n r) ++ take k (drop colon r))) f1 ∙ (ap (λ z. lead r ++ (first_list z ++ take k (drop colon r))) f2 ∙ ap (λ z. lead r ++ (first_list (unlead r) ++ z)) (g1 ∙ ap lead a))))) in
    let t : drop (colon + k + s) r ≡ tail (unlead (rest_of (unlead r))) = drop-more (colon + k) s r ∙ (d2 ∙ ap tail u) in
    rw (e1 ∙ ap (λ z. z ++ hack w.text) (sym (join-gap b)), e2, e3 ∙ ap join m, i.source, i.important, i.raw, e4 ∙ ap join t) refl

-- A value and its mark.

shape-word : (k : PieceKind) (s t : List ℕ) → shape_of k s ≡ Shape.word → shape_of k t ≡ Shape.word
shape-word P.Space s t e = absurd (cc)
shape-word P.Comment s t e = absurd (cc)
shape-word P.Quoted s t e = absurd (cc)
shape-word P.Url s t e = absurd (cc)
shape-word P.AtWord s t e = absurd (no-at s e)
  where
    no-at : (s : List ℕ) → at_shape s ≡ Shape.word → ⊥
    no-at [] e = cc
    no-at (a ∷ []) e = cc
    no-at (a ∷ b ∷ s) e = cc
shape-word P.Word s t e = refl
shape-word P.Single s t e = absurd (no-single s e)
  where
    no-if : (b : Bool) (x y : Shape) → (x ≡ Shape.word → ⊥) → (y ≡ Shape.word → ⊥) → (if b then x else y) ≡ Shape.word → ⊥
    no-if true x y f g e = f e
    no-if false x y f g e = g e

    no-single : (s : List ℕ) → single_shape s ≡ Shape.word → ⊥
    no-single [] e = cc
    no-single (c ∷ cs) e =
        no-if (c == 59) _ _ (λ z. cc) (no-if (c == 58) _ _ (λ z. cc) (no-if (c == 123) _ _ (λ z. cc) (no-if (c == 125) _ _ (λ z. cc)
        (no-if (c == 40) _ _ (λ z. cc) (no-if (c == 41) _ _ (λ z. cc) (no-if (c == 91) _ _ (λ z. cc) (no-if (c == 93) _ _ (λ z. cc) (λ z. cc)))))))) e

part-solid : (w : Lexeme) (t : List ℕ) → shape w ≡ Shape.word → is_blank (record w { text = t }) ≡ false
unfolding is_blank shape
part-solid w t e = ap is_blank_shape (shape-word w.kind w.text t e)

take-front : (e : ℕ) (f x : List Lexeme) → e ≤ length f → (take e (f ++ x) ≡ take e f) × (take (length f - e) (drop e (f ++ x)) ≡ drop e f)
take-front zero f x l = (refl, take-whole f x)
  where
    take-whole : (f x : List Lexeme) → take (length f - 0) (f ++ x) ≡ f
    take-whole f x = ap (λ z. take z (f ++ x)) (less-zero (length f)) ∙ take-len f x
      where
        take-len : (f x : List Lexeme) → take (length f) (f ++ x) ≡ f
        take-len [] x = refl
        take-len (y ∷ f) x = ap (λ z. y ∷ z) (take-len f x)
take-front (suc e) [] x l = absurd (omega arith)
take-front (suc e) (y ∷ f) x l =
    let k = take-front e f x (omega arith) in
    let n : length (y ∷ f) - suc e ≡ length f - e = omega arith in
    (ap (λ z. y ∷ z) k.0, ap (λ z. take z (drop e (f ++ x))) n ∙ k.1)

-- what stands before the mark
pub record Parts (f : List Lexeme) (w : Lexeme) (n e : ℕ) (body : List Lexeme) : Type 0 where
  pub value : join (take e body) ++ take n w.text ≡ join (solid (f ++ part w n))
  pub blanks : join (take (length f - e) (drop e body)) ≡ join (tail (f ++ part w n))

parts_by : (f x : List Lexeme) (w : Lexeme) (n e : ℕ) (t : List ℕ) → take n w.text ≡ t → shape w ≡ Shape.word → e ≤ length f
    → (byte_len t ≡ 0 → take e f ≡ solid f) → (0 < byte_len t → e ≡ length f) → Parts f w n e (f ++ x)
parts_by f x w n e [] h s l a b =
    let k = take-front e f x l in
    let p : f ++ part w n ≡ f = ap (λ z. f ++ part_by w z) h ∙ append-nil f in
    let q = a refl in
    record {
      value = ap (λ z. join (take e (f ++ x)) ++ z) h ∙ (append-nil (join (take e (f ++ x))) ∙ ap join (k.0 ∙ (q ∙ ap solid (sym p))));
      blanks = ap join (k.1 ∙ (solid_back is_blank e f q ∙ ap tail (sym p)));
    }
parts_by f x w n e (c ∷ cs) h s l a b =
    let i : e ≡ length f = b (byte_len_some c cs) in
    let p : f ++ part w n ≡ f ++ record w { text = c ∷ cs } ∷ [] = ap (λ z. f ++ part_by w z) h in
    let q : solid (f ++ record w { text = c ∷ cs } ∷ []) ≡ f ++ record w { text = c ∷ cs } ∷ [] = snoc_kept is_blank f (record w { text = c ∷ cs }) (part-solid w (c ∷ cs) s) in
    let k = take-front e f x l in
    let o : take e f ≡ f = ap (λ z. take z f) i ∙ take-all f in
    let z : length f - e ≡ 0 = omega (arith, i) in
    let none : tail (f ++ record w { text = c ∷ cs } ∷ []) ≡ [] =
    cancel (f ++ record w { text = c ∷ cs } ∷ []) _ [] (ap (λ y. y ++ tail (f ++ record w { text = c ∷ cs } ∷ [])) (sym q) ∙ (trim-all is_blank (f ++ record w { text = c ∷ cs } ∷ []) ∙ sym (append-nil (f ++ record w { text = c ∷ cs } ∷ [])))) in
    record {
      value = ap (λ y. join (take e (f ++ x)) ++ y) h ∙ (ap (λ y. join y ++ c ∷ cs) (k.0 ∙ o) ∙ (sym (join-append f (record w { text = c ∷ cs } ∷ []) ∙ ap (λ y. join f ++ y) (join-one (record w { text = c ∷ cs }))) ∙ ap join (sym q ∙ ap solid (sym p))));
      blanks = ap join (ap (λ y. take y (drop e (f ++ x))) z ∙ (sym none ∙ ap tail (sym p)));
    }
  where
    take-all : (ys : List Lexeme) → take (length ys) ys ≡ ys
    take-all [] = refl
    take-all (y ∷ ys) = ap (λ z. y ∷ z) (take-all ys)

take-len : (f x : List Lexeme) (m : ℕ) → m ≡ length f → take m (f ++ x) ≡ f
take-len f x m e = ap (λ z. take z (f ++ x)) e ∙ go f
  where
    go : (f : List Lexeme) → take (length f) (f ++ x) ≡ f
    go [] = refl
    go (y ∷ f) = ap (λ z. y ∷ z) (go f)

drop-len : (f x : List Lexeme) (w : Lexeme) (m : ℕ) → m ≡ length f → drop (m + 1) (f ++ w ∷ x) ≡ x
drop-len f x w m e = let k : m + 1 ≡ suc (length f) = omega (arith, e) in ap (λ z. drop z (f ++ w ∷ x)) k ∙ go f
  where
    go : (f : List Lexeme) → drop (suc (length f)) (f ++ w ∷ x) ≡ x
    go [] = refl
    go (y ∷ f) = go f

zero-bytes : (n : ℕ) (t : List ℕ) → n ≡ byte_len t → byte_len t ≡ 0 → n ≡ 0
zero-bytes n t e f = e ∙ f

pub value_marked : (m : Mark) (body : List Lexeme) (e : ℕ) (v : Value) (text : List ℕ) → IsMarkOf m body → IsValueLen e m body
    → Sourced v.source text → text ≡ join (take e body) ++ chars m.word.front.now → v.important ≡ true
    → v.important_raw ≡ join (take (m.before - e) (drop e body)) ++ (chars m.word.back.now ++ join (drop (m.before + 1) body)) → IsValue v body
value_marked m body e v text h l s t i r =
    let a = h.at in
    let front : take m.before body ≡ a.front = ap (take m.before) a.all ∙ take-len a.front (a.word ∷ a.back) m.before a.place in
    let back : drop (m.before + 1) body ≡ a.back = ap (drop (m.before + 1)) a.all ∙ drop-len a.front a.back a.word m.before a.place in
    let p : Parts a.front a.word a.n e (a.front ++ a.word ∷ a.back) =
    parts_by a.front (a.word ∷ a.back) a.word a.n e (take a.n a.word.text) refl a.is_word (omega (arith, l.within, a.place))
    (λ z. subst (λ f. take e f ≡ solid f) front (l.bare (a.size ∙ z))) (λ z. l.whole (omega (arith, a.size, z)) ∙ a.place) in
    let q : Parts a.front a.word a.n e body = subst (Parts a.front a.word a.n e) (sym a.all) p in
    let w : length a.front - e ≡ m.before - e = ap (λ z. z - e) (sym a.place) in
    record {
      source = sourced v.source text (solid (a.front ++ part a.word a.n)) s (t ∙ (ap (λ z. join (take e body) ++ z) a.before ∙ q.value)) ∙ ap (λ z. source_text (value_of z body)) (sym h.found);
      important = i ∙ ap is_marked (sym h.found);
      raw = r ∙ (ap (λ z. join (take z (drop e body)) ++ (chars m.word.back.now ++ join (drop (m.before + 1) body))) (sym w)
          ∙ (ap (λ z. z ++ (chars m.word.back.now ++ join (drop (m.before + 1) body))) q.blanks
          ∙ (ap (λ z. join (tail (a.front ++ part a.word a.n)) ++ (z ++ join (drop (m.before + 1) body))) a.behind
          ∙ (ap (λ z. join (tail (a.front ++ part a.word a.n)) ++ (drop a.n a.word.text ++ join z)) back ∙ ap important_of (sym h.found)))));
    }

pub value_unmarked : (body : List Lexeme) (v : Value) (text : List ℕ) → mark_of body ≡ None → Sourced v.source text → text ≡ join body → v.important ≡ false → v.important_raw ≡ [] → IsValue v body
value_unmarked body v text h s t i r =
    record {
      source = sourced v.source text body s t ∙ ap (λ z. source_text (value_of z body)) (sym h);
      important = i ∙ ap is_marked (sym h);
      raw = r ∙ ap important_of (sym h);
    }

-- A comment.
pub comment_made : (b : List ℕ) (p : Lexeme) (inner before left text right : List ℕ) → before ≡ b → inner ≡ inner_of p.text
    → left ≡ lead_by is_space inner → text ≡ solid_by is_space (unlead_by is_space inner) → right ≡ tail_by is_space (unlead_by is_space inner)
    → N.Comment (Some before) left text right ≡ comment_text (gap_of b) p
comment_made b p inner before left text right e1 e2 e3 e4 e5 =
    rw (e1 ∙ sym (join-gap b), e3 ∙ ap (lead_by is_space) e2, e4 ∙ ap (λ z. solid_by is_space (unlead_by is_space z)) e2, e5 ∙ ap (λ z. tail_by is_space (unlead_by is_space z)) e2) refl
