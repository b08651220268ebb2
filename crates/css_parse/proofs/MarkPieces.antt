-- The important mark at the end of pieces.
use Rattle.std.proofs.Common.{◌≡◌, ℕ, suc, ◌-◌, ◌<◌, ◌≤◌, take-suc, Bool, true, false, cond, List, [], ◌∷◌, ◌++◌, length, take, drop, get_or, reverse, Option, Some, None, refl, ◌∙◌, sym, ap, subst, inl, inr, append-nil, append_assoc, arith}
use Rattle.std.specs.Str.{chars}
use Rattle.std.proofs.lemmas.List.{reverse-append}
use Rattle.css_text.specs.Ahead.{byte_len}
use Rattle.css_tree.specs.Pieces.{Lexeme, Shape, shape, is_blank, join}
use Rattle.css_tree.specs.Turn.{is_word_shape}
use Rattle.css_tree.specs.Classes.{Each, BeginsWithout, EndsWithout}
use Rattle.css_tree.specs.Mark.{is_text, mark_at, important_letters, part}
use Rattle.css_tree.proofs.Split.{solid, tail, lead, unlead, is_word, mark_of, mark_of_two, mark_backwards, marked_one, marked_two}
use Rattle.css_tree.proofs.Trim.{trim-all, trim-tail, trim-ends, lead-fixed, begins-append, each-append}
use Rattle.css_tree.proofs.Marks.{mark-complete}
use Rattle.css_tree.proofs.Printed.{join-append}
use Rattle.css_parse.specs.Marks.{IsBang, IsFoundBang, IsMarkOf, IsFoundMark}
use Rattle.css_parse.specs.declared.mark.Mark.{Mark}
use Rattle.css_parse.proofs.Joins.{join-nil, join-one}

reverse-snoc : (xs : List Lexeme) (x : Lexeme) → reverse (xs ++ x ∷ []) ≡ x ∷ reverse xs
reverse-snoc xs x = reverse-append xs (x ∷ [])

each-reverse : (xs : List Lexeme) → Each is_blank xs → Each is_blank (reverse xs)
each-reverse [] h = tt
each-reverse (x ∷ xs) h = subst (λ z. Each is_blank z) (sym (reverse-append (x ∷ []) xs)) (each-append is_blank (reverse xs) (x ∷ []) (each-reverse xs h.1) (h.0, tt))

full : (ys : List Lexeme) (x : Lexeme) → reverse (x ∷ ys) ≡ [] → ⊥
full ys x e = snoc-full (reverse ys) x (sym (reverse-append (x ∷ []) ys) ∙ e)
  where
    snoc-full : (r : List Lexeme) (p : Lexeme) → r ++ p ∷ [] ≡ [] → ⊥
    snoc-full [] p e = cc
    snoc-full (q ∷ r) p e = cc

ends-reverse : (xs : List Lexeme) → EndsWithout is_blank xs → BeginsWithout is_blank (reverse xs)
ends-reverse [] h = tt
ends-reverse (x ∷ []) h = h
ends-reverse (x ∷ y ∷ ys) h =
    subst (λ z. BeginsWithout is_blank z) (sym (reverse-append (x ∷ []) (y ∷ ys)))
    (begins-append is_blank (reverse (y ∷ ys)) (x ∷ []) (ends-reverse (y ∷ ys) h) (λ e. absurd (full ys y e)))

-- the pieces backwards begin with the trailing blanks
back : (ps : List Lexeme) → (lead (reverse ps) ≡ reverse (tail ps)) × (unlead (reverse ps) ≡ reverse (solid ps))
back ps =
    let e : reverse ps ≡ reverse (tail ps) ++ reverse (solid ps) = ap reverse (sym (trim-all is_blank ps)) ∙ reverse-append (solid ps) (tail ps) in
    let k = lead-fixed is_blank (reverse (tail ps)) (reverse (solid ps)) (each-reverse (tail ps) (trim-tail is_blank ps)) (ends-reverse (solid ps) (trim-ends is_blank ps)) in
    (ap lead e ∙ k.0, ap unlead e ∙ k.1)

two-of : (i : Lexeme) (ps : List Lexeme) → mark_of_two i (lead (reverse ps)) (unlead (reverse ps)) ≡ mark_of_two i (reverse (tail ps)) (reverse (solid ps))
two-of i ps = ap (λ z. mark_of_two i z (unlead (reverse ps))) (back ps).0 ∙ ap (λ z. mark_of_two i (reverse (tail ps)) z) (back ps).1

-- The last piece that isn't blank.

pub bang_empty : (ps : List Lexeme) → solid ps ≡ [] → IsFoundBang None ps
bang_empty ps e = λ i. two-of i ps ∙ ap (λ z. mark_of_two i (reverse (tail ps)) (reverse z)) e

two-snoc : (i : Lexeme) (ps front : List Lexeme) (w : Lexeme) → solid ps ≡ front ++ w ∷ []
    → mark_of_two i (lead (reverse ps)) (unlead (reverse ps)) ≡ marked_two (cond (is_word w) (mark_at false [] w.text) None) i (reverse (tail ps)) w (reverse front)
two-snoc i ps front w e = two-of i ps ∙ ap (λ z. mark_of_two i (reverse (tail ps)) z) (ap reverse e ∙ reverse-snoc front w)

pub bang_other : (ps front : List Lexeme) (w : Lexeme) → solid ps ≡ front ++ w ∷ [] → is_word w ≡ false → IsFoundBang None ps
bang_other ps front w e f = λ i. two-snoc i ps front w e ∙ ap (λ z. marked_two (cond z (mark_at false [] w.text) None) i (reverse (tail ps)) w (reverse front)) f

none-cond : (b : Bool) (x : Option ℕ) → x ≡ None → cond b x None ≡ None
none-cond true x e = e
none-cond false x e = refl

pub bang_none : (ps front : List Lexeme) (w : Lexeme) → solid ps ≡ front ++ w ∷ [] → mark_at false [] w.text ≡ None → IsFoundBang None ps
bang_none ps front w e f = λ i. two-snoc i ps front w e ∙ ap (λ z. marked_two z i (reverse (tail ps)) w (reverse front)) (none-cond (is_word w) _ f)

word-is : (p : Lexeme) (s : Shape) → shape p ≡ s → is_word_shape s ≡ true → shape p ≡ Shape.word
word-is p Shape.word e h = e
word-is p _ e h = absurd (cc)

pub is-word : (p : Lexeme) → is_word p ≡ true → shape p ≡ Shape.word
is-word p h = word-is p (shape p) refl h

pub bang_some : (m : Mark) (ps front : List Lexeme) (w : Lexeme) (n : ℕ) → solid ps ≡ front ++ w ∷ [] → is_word w ≡ true → mark_at false [] w.text ≡ Some n
    → m.before ≡ length front → chars m.word.front.now ≡ take n w.text → chars m.word.back.now ≡ drop n w.text → length m.word.front.now ≡ byte_len (take n w.text) → IsBang m ps
bang_some m ps front w n e f g p a b z =
    record {
      at = record {
        front = front;
        word = w;
        back = tail ps;
        n = n;
        all = sym (trim-all is_blank ps) ∙ (ap (λ z. z ++ tail ps) e ∙ append_assoc front (w ∷ []) (tail ps));
        place = p;
        is_word = is-word w f;
        before = a;
        behind = b;
        size = z;
      };
      blanks = trim-tail is_blank ps;
      found = g;
    }

-- The last piece.

last-of : (body front : List Lexeme) (i : Lexeme) → body ≡ front ++ i ∷ [] → mark_of body ≡ cond (is_word i) (marked_one (mark_at false important_letters i.text) i (reverse front)) None
last-of body front i e = ap mark_backwards (ap reverse e ∙ reverse-snoc front i)

pub mark_empty : (body : List Lexeme) → body ≡ [] → IsFoundMark None body
mark_empty body e = ap mark_of e

pub mark_other : (body front : List Lexeme) (i : Lexeme) → body ≡ front ++ i ∷ [] → is_word i ≡ false → IsFoundMark None body
mark_other body front i e f = last-of body front i e ∙ ap (λ z. cond z (marked_one (mark_at false important_letters i.text) i (reverse front)) None) f

mark-one : (body front : List Lexeme) (i : Lexeme) → body ≡ front ++ i ∷ [] → is_word i ≡ true → mark_at false important_letters i.text ≡ None
    → mark_of body ≡ cond (is_text important_letters i.text) (mark_of_two i (lead (reverse front)) (unlead (reverse front))) None
mark-one body front i e f g =
    last-of body front i e ∙ (ap (λ z. cond z (marked_one (mark_at false important_letters i.text) i (reverse front)) None) f ∙ ap (λ z. marked_one z i (reverse front)) g)

pub mark_letters : (body front : List Lexeme) (i : Lexeme) → body ≡ front ++ i ∷ [] → is_word i ≡ true → mark_at false important_letters i.text ≡ None → is_text important_letters i.text ≡ false → IsFoundMark None body
mark_letters body front i e f g h = mark-one body front i e f g ∙ ap (λ z. cond z (mark_of_two i (lead (reverse front)) (unlead (reverse front))) None) h

pub mark_single : (m : Mark) (body front : List Lexeme) (i : Lexeme) (n : ℕ) → body ≡ front ++ i ∷ [] → is_word i ≡ true → mark_at false important_letters i.text ≡ Some n
    → m.before ≡ length front → chars m.word.front.now ≡ take n i.text → chars m.word.back.now ≡ drop n i.text → length m.word.front.now ≡ byte_len (take n i.text) → IsMarkOf m body
mark_single m body front i n e f g p a b z =
    record {
      at = record { front = front; word = i; back = []; n = n; all = e; place = p; is_word = is-word i f; before = a; behind = b; size = z };
      found = mark-complete body (front ++ part i n) (drop n i.text ++ join [])
          (inl (record { pieces = front; word = i; place = n; all = sym e; is_word = is-word i f; found = g; is_front = refl; is_mark = ap (λ z. drop n i.text ++ z) join-nil ∙ append-nil (drop n i.text) }));
    }

two-mark : (m : Mark) (body front : List Lexeme) (i : Lexeme) → body ≡ front ++ i ∷ [] → is_word i ≡ true → is_text important_letters i.text ≡ true → IsBang m front → IsMarkOf m body
two-mark m body front i e f h k =
    let a = k.at in
    let all : body ≡ a.front ++ a.word ∷ (a.back ++ i ∷ []) = e ∙ (ap (λ z. z ++ i ∷ []) a.all ∙ append_assoc a.front (a.word ∷ a.back) (i ∷ [])) in
    record {
      at = record { front = a.front; word = a.word; back = a.back ++ i ∷ []; n = a.n; all = all; place = a.place; is_word = a.is_word; before = a.before; behind = a.behind; size = a.size };
      found = mark-complete body (a.front ++ part a.word a.n) (drop a.n a.word.text ++ join (a.back ++ i ∷ []))
          (inr (record {
            pieces = a.front;
            word = a.word;
            blanks = a.back;
            last = i;
            place = a.n;
            all = sym all;
            is_word = a.is_word;
            blank = k.blanks;
            is_last = is-word i f;
            letters = h;
            found = k.found;
            is_front = refl;
            is_mark = ap (λ z. drop a.n a.word.text ++ z) (join-append a.back (i ∷ []) ∙ ap (λ z. join a.back ++ z) (join-one i));
          }));
    }

pub mark_two : (r : Option Mark) (body front : List Lexeme) (i : Lexeme) → body ≡ front ++ i ∷ [] → is_word i ≡ true → mark_at false important_letters i.text ≡ None → is_text important_letters i.text ≡ true
    → IsFoundBang r front → IsFoundMark r body
mark_two None body front i e f g h k = mark-one body front i e f g ∙ (ap (λ z. cond z (mark_of_two i (lead (reverse front)) (unlead (reverse front))) None) h ∙ k i)
mark_two (Some m) body front i e f g h k = two-mark m body front i e f h k

-- a list by its last item
pub snoc-of : (xs : List Lexeme) (d : Lexeme) → 1 ≤ length xs → d ≡ get_or xs (length xs - 1) d → xs ≡ take (length xs - 1) xs ++ d ∷ []
snoc-of xs d l e =
    let n : suc (length xs - 1) ≡ length xs = omega arith in
    let m : length xs - 1 < length xs = omega arith in
    sym (take-all xs) ∙ (ap (λ k. take k xs) (sym n) ∙ (take-suc xs (length xs - 1) d m ∙ ap (λ z. take (length xs - 1) xs ++ z ∷ []) (sym e)))
  where
    take-all : (ys : List Lexeme) → take (length ys) ys ≡ ys
    take-all [] = refl
    take-all (y ∷ ys) = ap (λ z. y ∷ z) (take-all ys)

pub nil-of : (xs : List Lexeme) → length xs < 1 → xs ≡ []
nil-of [] l = refl
nil-of (x ∷ xs) l = absurd (omega arith)
