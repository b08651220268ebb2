-- The mark that is found from the back is the mark of the definition, and there is none where none is found.
use Rattle.std.proofs.Common.{if◌then◌else◌, take, ◌≡◌, ◌⊎◌, inl, inr, ℕ, suc, ◌+◌, ◌==◌, ◌&&◌, not, List, [], ◌∷◌, ◌++◌, Bool, true, false, cond, Option, Some, None, length, reverse, refl, ◌∙◌, sym, ap, subst, arith, append_assoc, true≢false}
use Rattle.std.specs.Option.{option_map}
use Rattle.std.proofs.lemmas.List.{reverse-append, reverse-reverse}
use Rattle.css_text.specs.declared.lexer.PieceKind.{PieceKind}
use Rattle.css_text.specs.declared.lexer.PieceKind.TheVariants as K
use Rattle.css_tree.specs.Pieces.{single_shape, at_shape, shape_of, Lexeme, Shape, shape, is_blank, join}
use Rattle.css_tree.specs.Turn.{is_word_shape}
use Rattle.css_tree.specs.Classes.{Each, BeginsWithout}
use Rattle.css_tree.specs.Mark.{part, part_by, is_text, mark_at, important_letters, EndsInOne, EndsInTwo, EndsInMark}
use Rattle.css_tree.specs.Fields.{AreValueAndMark}
use Rattle.css_tree.proofs.Split.{tail, lead, unlead, is_word, Marked, marked_two, mark_of_two, marked_one, mark_backwards, mark_of, value_of, important_of, is_marked}
use Rattle.css_tree.proofs.Trim.{trim-begins, trim-all, trim-tail, trim-ends, trim-fixed, lead-all, lead-each, lead-fixed, each-append}

and-right : (a b : Bool) → (a && b) ≡ true → b ≡ true
and-right true b e = e
and-right false b e = absurd (true≢false (sym e))

text-length : (l t : List ℕ) → is_text l t ≡ true → length t ≡ length l
text-length [] [] e = refl
text-length [] (c ∷ cs) e = absurd (true≢false (sym e))
text-length (p ∷ ps) [] e = absurd (true≢false (sym e))
text-length (p ∷ ps) (c ∷ cs) e = ap suc (text-length ps cs (and-right _ _ e))

none-some : (n : ℕ) → ◌≡◌ {A = Option ℕ} None (Some n) → ⊥
none-some n e = cc

some-inj : (m n : ℕ) → ◌≡◌ {A = Option ℕ} (Some m) (Some n) → m ≡ n
some-inj m n e = cc

map-some : (x : Option ℕ) (n : ℕ) → option_map suc x ≡ Some n → (m : ℕ) × (x ≡ Some m) × (n ≡ suc m)
map-some None n e = absurd (none-some n e)
map-some (Some m) n e = (m, refl, sym (some-inj (suc m) n e))

mark-if : (b : Bool) (x : Option ℕ) (n : ℕ) → cond b (Some 0) (option_map suc x) ≡ Some n → ((b ≡ true) × (n ≡ 0)) ⊎ ((m : ℕ) × (x ≡ Some m) × (n ≡ suc m))
mark-if true x n e = inl (refl, sym (some-inj 0 n e))
mark-if false x n e = inr (map-some x n e)

-- the mark runs to the text's end
pub mark-length : (h : Bool) (l t : List ℕ) (n : ℕ) → mark_at h l t ≡ Some n → length t ≡ suc (n + length l)
mark-length h l [] n e = absurd (none-some n e)
mark-length h l (c ∷ cs) n e = elim (mark-if _ (mark_at (not h && c == 92) l cs) n e) [
  | inl b ↦ let k = text-length l cs (and-right (c == 33) _ (and-right (not h) _ b.0)) in omega (arith, b.1, k)
  | inr m ↦ let k = mark-length (not h && c == 92) l cs m.0 m.1 in omega (arith, m.2, k)
]

-- the word `important` holds no mark of its own
unmarked : (l t : List ℕ) (x : Option ℕ) → is_text l t ≡ true → mark_at false l t ≡ x → x ≡ None
unmarked l t None e m = refl
unmarked l t (Some n) e m = let k = text-length l t e in let j = mark-length false l t n m in absurd (omega (arith, k, j))

reverse-snoc : (xs : List Lexeme) (x : Lexeme) → reverse (xs ++ x ∷ []) ≡ x ∷ reverse xs
reverse-snoc xs x = reverse-append xs (x ∷ [])

each-reverse : (t : Lexeme → Bool) (xs : List Lexeme) → Each t xs → Each t (reverse xs)
each-reverse t [] h = tt
each-reverse t (x ∷ xs) h = subst (λ z. Each t z) (sym (reverse-append (x ∷ []) xs)) (each-append t (reverse xs) (x ∷ []) (each-reverse t xs h.1) (h.0, tt))

word-solid : (p : Lexeme) → shape p ≡ Shape.word → is_blank p ≡ false
unfolding is_blank
word-solid p e = rw e refl

is-word : (p : Lexeme) → shape p ≡ Shape.word → is_word p ≡ true
is-word p e = rw e refl

one-back : (body front : List Lexeme) (mark : List ℕ) (h : EndsInOne body front mark) → mark_backwards (h.word ∷ reverse h.pieces) ≡ Some (record { front = front; mark = mark })
one-back body front mark h =
    rw (is-word h.word h.is_word, h.found, reverse-reverse h.pieces, h.is_front, h.is_mark) refl

two-back : (body front : List Lexeme) (mark : List ℕ) (h : EndsInTwo body front mark)
    → mark_backwards (h.last ∷ (reverse h.blanks ++ h.word ∷ reverse h.pieces)) ≡ Some (record { front = front; mark = mark })
two-back body front mark h =
    let k = lead-fixed is_blank (reverse h.blanks) (h.word ∷ reverse h.pieces) (each-reverse is_blank h.blanks h.blank) (word-solid h.word h.is_word) in
    let m : mark_at false important_letters h.last.text ≡ None = unmarked important_letters h.last.text (mark_at false important_letters h.last.text) h.letters refl in
    rw (is-word h.last h.is_last, m, h.letters, k.0, k.1, is-word h.word h.is_word, h.found, reverse-reverse h.pieces, reverse-reverse h.blanks, h.is_front, h.is_mark) refl

two-reverse : (pieces : List Lexeme) (word : Lexeme) (blanks : List Lexeme) (last : Lexeme)
    → reverse (pieces ++ word ∷ (blanks ++ last ∷ [])) ≡ last ∷ (reverse blanks ++ word ∷ reverse pieces)
two-reverse pieces word blanks last =
    reverse-append pieces (word ∷ (blanks ++ last ∷ []))
    ∙ (ap (λ z. z ++ reverse pieces) (reverse-append (word ∷ []) (blanks ++ last ∷ []) ∙ ap (λ z. z ++ word ∷ []) (reverse-snoc blanks last))
    ∙ append_assoc (last ∷ reverse blanks) (word ∷ []) (reverse pieces))

-- the function finds the mark of the definition
pub mark-complete : (body front : List Lexeme) (mark : List ℕ) → EndsInMark body front mark → mark_of body ≡ Some (record { front = front; mark = mark })
mark-complete body front mark (inl h) = ap (λ z. mark_backwards (reverse z)) (sym h.all) ∙ (ap mark_backwards (reverse-snoc h.pieces h.word) ∙ one-back body front mark h)
mark-complete body front mark (inr h) = ap (λ z. mark_backwards (reverse z)) (sym h.all) ∙ (ap mark_backwards (two-reverse h.pieces h.word h.blanks h.last) ∙ two-back body front mark h)

-- and only that

abbrev Finds : List Lexeme → Option Marked → Type 0
Finds body None = Unit {0}
Finds body (Some m) = EndsInMark body m.front m.mark

finds-cond : (body : List Lexeme) (b : Bool) (m : Option Marked) → (b ≡ true → Finds body m) → Finds body (cond b m None)
finds-cond body true m h = h refl
finds-cond body false m h = tt

is-word-shape : (s : Shape) → is_word_shape s ≡ true → s ≡ Shape.word
is-word-shape Shape.word e = refl
is-word-shape _ e = absurd (true≢false (sym e))

finds-two : (body : List Lexeme) (n : Option ℕ) (i w : Lexeme) (blanks ws : List Lexeme)
    → reverse ws ++ w ∷ (reverse blanks ++ i ∷ []) ≡ body → shape w ≡ Shape.word → Each is_blank blanks → shape i ≡ Shape.word → is_text important_letters i.text ≡ true
    → mark_at false [] w.text ≡ n → Finds body (marked_two n i blanks w ws)
finds-two body None i w blanks ws e hw hb hi hl hm = tt
finds-two body (Some n) i w blanks ws e hw hb hi hl hm =
    inr (record {
      pieces = reverse ws;
      word = w;
      blanks = reverse blanks;
      last = i;
      place = n;
      all = e;
      is_word = hw;
      blank = each-reverse is_blank blanks hb;
      is_last = hi;
      letters = hl;
      found = hm;
      is_front = refl;
      is_mark = refl;
    })

finds-none : (body : List Lexeme) (i w : Lexeme) (blanks ws : List Lexeme) → Finds body (marked_two None i blanks w ws)
finds-none body i w blanks ws = tt

finds-word : (body : List Lexeme) (b : Bool) (i w : Lexeme) (blanks ws : List Lexeme) → is_word w ≡ b
    → reverse ws ++ w ∷ (reverse blanks ++ i ∷ []) ≡ body → Each is_blank blanks → shape i ≡ Shape.word → is_text important_letters i.text ≡ true
    → Finds body (marked_two (cond b (mark_at false [] w.text) None) i blanks w ws)
finds-word body true i w blanks ws eb e hb hi hl = finds-two body (mark_at false [] w.text) i w blanks ws e (is-word-shape (shape w) eb) hb hi hl refl
finds-word body false i w blanks ws eb e hb hi hl = tt

two-forward : (i : Lexeme) (ws blanks us : List Lexeme) (w : Lexeme) → blanks ++ w ∷ us ≡ ws → reverse us ++ w ∷ (reverse blanks ++ i ∷ []) ≡ reverse (i ∷ ws)
two-forward i ws blanks us w e =
    sym (ap (λ z. reverse (i ∷ z)) (sym e) ∙ (reverse-append (i ∷ []) (blanks ++ w ∷ us)
    ∙ (ap (λ z. z ++ i ∷ []) (reverse-append blanks (w ∷ us) ∙ ap (λ z. z ++ reverse blanks) (reverse-append (w ∷ []) us))
    ∙ simp append_assoc)))

finds-of_two : (i : Lexeme) (ws blanks us : List Lexeme) → blanks ++ us ≡ ws → Each is_blank blanks → shape i ≡ Shape.word → is_text important_letters i.text ≡ true
    → Finds (reverse (i ∷ ws)) (mark_of_two i blanks us)
finds-of_two i ws blanks [] e hb hi hl = tt
finds-of_two i ws blanks (w ∷ us) e hb hi hl = finds-word (reverse (i ∷ ws)) (is_word w) i w blanks us refl (two-forward i ws blanks us w e) hb hi hl

finds-one : (n : Option ℕ) (i : Lexeme) (ws : List Lexeme) → shape i ≡ Shape.word → mark_at false important_letters i.text ≡ n → Finds (reverse (i ∷ ws)) (marked_one n i ws)
finds-one (Some n) i ws hi hm =
    inl (record { pieces = reverse ws; word = i; place = n; all = sym (reverse-append (i ∷ []) ws); is_word = hi; found = hm; is_front = refl; is_mark = refl })
finds-one None i ws hi hm =
    finds-cond (reverse (i ∷ ws)) (is_text important_letters i.text) _ (λ hl. finds-of_two i ws (lead ws) (unlead ws) (lead-all is_blank ws) (lead-each is_blank ws) hi hl)

finds-back : (back : List Lexeme) → Finds (reverse back) (mark_backwards back)
finds-back [] = tt
finds-back (i ∷ ws) = finds-cond (reverse (i ∷ ws)) (is_word i) _ (λ e. finds-one (mark_at false important_letters i.text) i ws (is-word-shape (shape i) e) refl)

pub mark-sound : (body : List Lexeme) → Finds body (mark_of body)
mark-sound body = subst (λ z. Finds z (mark_of body)) (reverse-reverse body) (finds-back (reverse body))

-- The value and the mark of a declaration.

some-none : (m : Marked) → ◌≡◌ {A = Option Marked} None (Some m) → ⊥
some-none m e = cc

-- a part of a word is no blank

if-no-word : (b : Bool) (s r : Shape) → (s ≡ Shape.word → ⊥) → (r ≡ Shape.word → ⊥) → (if b then s else r) ≡ Shape.word → ⊥
if-no-word true s r h k e = h e
if-no-word false s r h k e = k e

single-no-word : (t : List ℕ) → single_shape t ≡ Shape.word → ⊥
single-no-word [] e = cc
single-no-word (c ∷ cs) e =
    if-no-word (c == 59) _ _ (λ k. cc) (if-no-word (c == 58) _ _ (λ k. cc) (if-no-word (c == 123) _ _ (λ k. cc) (if-no-word (c == 125) _ _ (λ k. cc)
    (if-no-word (c == 40) _ _ (λ k. cc) (if-no-word (c == 41) _ _ (λ k. cc) (if-no-word (c == 91) _ _ (λ k. cc) (if-no-word (c == 93) _ _ (λ k. cc) (λ k. cc)))))))) e

at-no-word : (t : List ℕ) → at_shape t ≡ Shape.word → ⊥
at-no-word [] e = cc
at-no-word (a ∷ []) e = cc
at-no-word (a ∷ b ∷ t) e = cc

word-part : (k : PieceKind) (t u : List ℕ) → shape_of k t ≡ Shape.word → shape_of k u ≡ Shape.word
word-part K.Space t u e = absurd (cc)
word-part K.Comment t u e = absurd (cc)
word-part K.Quoted t u e = absurd (cc)
word-part K.Url t u e = absurd (cc)
word-part K.AtWord t u e = absurd (at-no-word t e)
word-part K.Word t u e = refl
word-part K.Single t u e = absurd (single-no-word t e)

part-word : (p : Lexeme) (t : List ℕ) → shape p ≡ Shape.word → shape (record p { text = t }) ≡ Shape.word
unfolding shape
part-word p t e = word-part p.kind p.text t e

part-begins : (p : Lexeme) (t : List ℕ) → shape p ≡ Shape.word → BeginsWithout is_blank (part_by p t)
part-begins p [] e = tt
part-begins p (c ∷ cs) e = word-solid (record p { text = c ∷ cs }) (part-word p (c ∷ cs) e)

cut-begins : (ps : List Lexeme) (w : Lexeme) (rest : List Lexeme) (n : ℕ) → shape w ≡ Shape.word → BeginsWithout is_blank (ps ++ w ∷ rest) → BeginsWithout is_blank (ps ++ part w n)
cut-begins [] w rest n e h = part-begins w (take n w.text) e
cut-begins (q ∷ ps) w rest n e h = h

-- what stands before a mark begins with no blank where all of it does
mark-front : (body front : List Lexeme) (mark : List ℕ) → EndsInMark body front mark → BeginsWithout is_blank body → BeginsWithout is_blank front
mark-front body front mark (inl h) b =
    subst (λ z. BeginsWithout is_blank z) (sym h.is_front) (cut-begins h.pieces h.word [] h.place h.is_word (subst (λ z. BeginsWithout is_blank z) (sym h.all) b))
mark-front body front mark (inr h) b =
    subst (λ z. BeginsWithout is_blank z) (sym h.is_front) (cut-begins h.pieces h.word (h.blanks ++ h.last ∷ []) h.place h.is_word (subst (λ z. BeginsWithout is_blank z) (sym h.all) b))

value-by : (body : List Lexeme) (m : Option Marked) → BeginsWithout is_blank body → mark_of body ≡ m → Finds body m → AreValueAndMark body (value_of m body) (is_marked m) (important_of m)
value-by body None b e h = record { no_mark = λ front mark k. some-none _ (sym e ∙ mark-complete body front mark k); is_value = refl; is_important = refl }
value-by body (Some m) b e h =
    let k = trim-begins is_blank m.front (mark-front body m.front m.mark h b) in
    record {
      value_begins = k.0;
      blanks_empty = k.1;
      blanks = tail m.front;
      mark = m.mark;
      found = subst (λ z. EndsInMark body z m.mark) (sym (trim-all is_blank m.front)) h;
      value_ends = trim-ends is_blank m.front;
      blanks_class = trim-tail is_blank m.front;
      is_important = refl;
    }

-- there are a value and a mark
pub value-exists : (body : List Lexeme) → BeginsWithout is_blank body → AreValueAndMark body (value_of (mark_of body) body) (is_marked (mark_of body)) (important_of (mark_of body))
value-exists body b = value-by body (mark_of body) b refl (mark-sound body)

-- and no others
pub record SameValue (body value : List Lexeme) (marked : Bool) (important : List ℕ) : Type 0 where
  pub value_is : value ≡ value_of (mark_of body) body
  pub marked_is : marked ≡ is_marked (mark_of body)
  pub important_is : important ≡ important_of (mark_of body)

same-none : (body : List Lexeme) (m : Option Marked) → mark_of body ≡ m → Finds body m → ((front : List Lexeme) → (mark : List ℕ) → EndsInMark body front mark → ⊥) → mark_of body ≡ None
same-none body None e h n = e
same-none body (Some m) e h n = absurd (n m.front m.mark h)

pub value-fixed : (body value : List Lexeme) (marked : Bool) (important : List ℕ) → AreValueAndMark body value marked important → SameValue body value marked important
value-fixed body value true important h =
    let e = mark-complete body (value ++ h.blanks) h.mark h.found in
    let t = trim-fixed is_blank value h.blanks h.value_ends h.blanks_class in
    record { value_is = rw e (sym t.0); marked_is = rw e refl; important_is = rw e (h.is_important ∙ ap (λ z. join z ++ h.mark) (sym t.1)) }
value-fixed body value false important h =
    let e = same-none body (mark_of body) refl (mark-sound body) h.no_mark in
    record { value_is = rw e h.is_value; marked_is = rw e refl; important_is = rw e h.is_important }
