-- The first piece of calm characters, and blanks.
use Rattle.std.proofs.Common.{◌≡◌, ℕ, ◌+◌, ◌<◌, true, false, List, [], ◌∷◌, ◌++◌, Some, length, refl, ap, sym, ◌∙◌, subst, inl, inr, arith, append_assoc, add-zero}
use Rattle.std.specs.Str.{IsUtf8}
use Rattle.std.proofs.lemmas.Bool.{cases_Bool, true≢false}
use Rattle.std.proofs.lemmas.List.{append-nil}
use Rattle.css_text.specs.declared.lexer.PieceKind.{PieceKind}
use Rattle.css_text.specs.declared.lexer.PieceKind.TheVariants as K
use Rattle.css_text.specs.Characters.{is_space}
use Rattle.css_text.specs.Forms.{begins_url}
use Rattle.css_tree.specs.Classes.{Each, BeginsWithout, EndsWithout}
use Rattle.css_tree.specs.Pieces.{Lexeme, Shape, shape, single_shape, is_blank, is_blank_shape}
use Rattle.css_parse.specs.Machine.{Machine}
use Rattle.css_parse.specs.Plain.{is_name, is_calm, brackets, OpensNoUrl}
use Rattle.css_parse.proofs.PlainPieces.{is_unit, is_sign, Stops, unit-low, sign-low, space-low, calm-low, all-low, unit-space, sign-space, name-unit, IsMark, calm-sign, word-end, units-brackets, spaces-brackets, no-url, no-url-back, each-as, word_first, space_first, sign_first}
use Rattle.css_parse.proofs.PlainSplits.{split, each-front, each-back, ends-back, behind-all, begins-behind}
use Rattle.css_parse.proofs.PlainSteps.{At, piece_of}
use Rattle.css_parse.proofs.PlainRuns.{in_run, with_run, Run, run-none, IsKept, Fits, Idle, Stays, AreRound, turn-open, turn-close, Kept, stays, kept}

-- White space behind a statement's first piece.

pub record Blanks (s bs : List ℕ) (m : Machine) (r : List Lexeme) (at : ℕ) (q rest : List ℕ) : Type 0 where
  pub pieces : List Lexeme
  pub next : At s bs (with_run m (r ++ pieces)) (at + length q) rest
  pub run : Run bs at (at + length q) pieces
  pub blank : Each is_blank pieces

fits-some : (r : List Lexeme) (q : Lexeme) → 0 < length r → Fits r q
fits-some r q l = λ e. absurd (omega (arith, l, ap length e))

pub blanks : (s bs : List ℕ) (m : Machine) (r : List Lexeme) (at : ℕ) (q rest : List ℕ) → IsUtf8 bs → 0 < length r → Each is_space q → BeginsWithout is_space rest → At s bs (with_run m r) at (q ++ rest) → Blanks s bs m r at q rest
unfolding shape is_blank
blanks s bs m r at [] rest u l h b x = record {
  pieces = [];
  next = subst (λ n. At s bs (with_run m (r ++ [])) n rest) (sym (add-zero at)) (subst (λ z. At s bs (with_run m z) at rest) (sym (append-nil r)) x);
  run = subst (λ n. Run bs at n []) (sym (add-zero at)) (run-none bs at);
  blank = tt;
}
blanks s bs m r at (c ∷ t) rest u l h b x =
    let k = kept s bs m r [] at K.Space c t rest u (all-low is_space space-low (c ∷ t) h) x (space_first at c t rest h b) (fits-some r (piece_of K.Space at (c ∷ t)) l) tt in
    record { pieces = piece_of K.Space at (c ∷ t) ∷ []; next = k.next; run = k.run; blank = (refl, tt) }

-- There stand calm characters that end without white space, with no bracket open and no `url(`.

pub record Calm (s bs : List ℕ) (m : Machine) (r : List Lexeme) (at : ℕ) (q rest : List ℕ) : Type 0 where
  pub awaited : List Lexeme
  pub round : AreRound awaited
  pub class : Each is_calm q
  pub ends : EndsWithout is_space q
  pub closed : brackets (length awaited) q ≡ Some 0
  pub no_url : OpensNoUrl q
  pub next : At s bs (in_run m r awaited) at (q ++ rest)

-- Their first piece, and what stands behind it.

pub record Part (s bs : List ℕ) (m : Machine) (r : List Lexeme) (at c : ℕ) (q rest : List ℕ) : Type 0 where
  pub kind : PieceKind
  pub front : List ℕ
  pub back : List ℕ
  pub all : q ≡ front ++ back
  pub class : Each is_calm (c ∷ front)
  pub run : Run bs at (at + length (c ∷ front)) (piece_of kind at (c ∷ front) ∷ [])
  pub behind : Calm s bs m (r ++ piece_of kind at (c ∷ front) ∷ []) (at + length (c ∷ front)) back rest
  pub more : is_space c ≡ true → 0 < length back
  pub blank : is_blank (piece_of kind at (c ∷ front)) ≡ is_space c
  pub no_at : shape (piece_of kind at (c ∷ front)) ≡ Shape.at_name → ⊥

-- the shape of a piece by itself
abbrev SignShape : ℕ → Type 0
SignShape c = IsKept (single_shape (c ∷ [])) × (is_blank_shape (single_shape (c ∷ [])) ≡ false) × (single_shape (c ∷ []) ≡ Shape.at_name → ⊥)

-- that of a round bracket
abbrev SignRound : ℕ → Type 0
SignRound c = (is_blank_shape (single_shape (c ∷ [])) ≡ false) × (single_shape (c ∷ []) ≡ Shape.at_name → ⊥)

by_mark : (P : ℕ → Type 0) → P 58 → P 44 → (c : ℕ) → IsMark c → P c
by_mark P x y c e = elim e [ inl h ↦ subst P (sym h) x | inr h ↦ subst P (sym h) y ]

module _ (s bs : List ℕ) (m : Machine) (r : List Lexeme) (at : ℕ) (rest : List ℕ) (u : IsUtf8 bs) (k : Stops rest) where
  -- what stands behind the first piece
  calm : (c : ℕ) (q front back : List ℕ) (x : Calm s bs m r at (c ∷ q) rest) (p : Lexeme) (aw : List Lexeme) → q ≡ front ++ back → brackets (length aw) back ≡ Some 0 → AreRound aw
      → Kept s bs m r aw at p (c ∷ front) (back ++ rest) → Calm s bs m (r ++ p ∷ []) (at + length (c ∷ front)) back rest
  calm c q front back x p aw e b a y = record {
    awaited = aw;
    round = a;
    class = each-back is_calm front back (subst (Each is_calm) e x.class.1);
    ends = ends-back is_space (c ∷ front) back (subst (λ z. EndsWithout is_space (c ∷ z)) e x.ends);
    closed = b;
    no_url = no-url-back (c ∷ front) back (subst (λ z. OpensNoUrl (c ∷ z)) e x.no_url);
    next = y.next;
  }

  front-class : (c : ℕ) (q front back : List ℕ) → Calm s bs m r at (c ∷ q) rest → q ≡ front ++ back → Each is_calm (c ∷ front)
  front-class c q front back x e = (x.class.0, each-front is_calm front back (subst (Each is_calm) e x.class.1))

  -- the bytes by the two parts
  cut : (c : ℕ) (q front back : List ℕ) (x : Calm s bs m r at (c ∷ q) rest) → q ≡ front ++ back → At s bs (in_run m r x.awaited) at (c ∷ (front ++ (back ++ rest)))
  cut c q front back x a = subst (At s bs (in_run m r x.awaited) at) (ap (λ z. c ∷ (z ++ rest)) a ∙ ap (λ z. c ∷ z) (append_assoc front back rest)) x.next

  no-open : (c : ℕ) (q front back : List ℕ) → Calm s bs m r at (c ∷ q) rest → q ≡ front ++ back → begins_url (c ∷ (front ++ (back ++ rest))) ≡ false
  no-open c q front back x a =
      subst (λ z. begins_url (c ∷ z) ≡ false) (ap (λ z. z ++ rest) a ∙ append_assoc front back rest) (no-url (c ∷ q) rest (all-low is_calm calm-low (c ∷ q) x.class) x.no_url k)

  closed-by : (c : ℕ) (q front back : List ℕ) (x : Calm s bs m r at (c ∷ q) rest) → q ≡ front ++ back → brackets (length x.awaited) ((c ∷ front) ++ back) ≡ Some 0
  closed-by c q front back x a = subst (λ z. brackets (length x.awaited) (c ∷ z) ≡ Some 0) a x.closed

  word : (c : ℕ) (q : List ℕ) → is_name c ≡ true → Calm s bs m r at (c ∷ q) rest → Part s bs m r at c q rest
  unfolding shape is_blank
  word c q n x =
      let y = split is_name q in
      let b : Each is_calm y.back = each-back is_calm y.front y.back (subst (Each is_calm) y.all x.class.1) in
      let t : Each is_unit (c ∷ y.front) = (name-unit c n, each-as is_name is_unit name-unit y.front y.front_class) in
      let z = kept s bs m r x.awaited at K.Word c y.front (y.back ++ rest) u (all-low is_unit unit-low (c ∷ y.front) t) (cut c q y.front y.back x y.all)
      (word_first at c y.front (y.back ++ rest) t (word-end y.back rest b y.back_begins k) (no-open c q y.front y.back x y.all)) (λ _. refl) tt in
      record {
        kind = K.Word;
        front = y.front;
        back = y.back;
        all = y.all;
        class = front-class c q y.front y.back x y.all;
        run = z.run;
        behind = calm c q y.front y.back x (piece_of K.Word at (c ∷ y.front)) x.awaited y.all (sym (units-brackets (length x.awaited) (c ∷ y.front) y.back t) ∙ closed-by c q y.front y.back x y.all) x.round z;
        more = λ w. absurd (true≢false (sym w ∙ unit-space c t.0));
        blank = sym (unit-space c t.0);
        no_at = λ w. cc;
      }

  space : (c : ℕ) (q : List ℕ) → is_space c ≡ true → (r ≡ [] → is_space c ≡ false) → Calm s bs m r at (c ∷ q) rest → Part s bs m r at c q rest
  unfolding shape is_blank
  space c q n f x =
      let y = split is_space q in
      let t : Each is_space (c ∷ y.front) = (n, y.front_class) in
      let l : 0 < length y.back = behind-all is_space c y.front y.back t (subst (λ z. EndsWithout is_space (c ∷ z)) y.all x.ends) in
      let z = kept s bs m r x.awaited at K.Space c y.front (y.back ++ rest) u (all-low is_space space-low (c ∷ y.front) t) (cut c q y.front y.back x y.all)
      (space_first at c y.front (y.back ++ rest) t (begins-behind is_space y.back rest l y.back_begins)) (λ w. absurd (true≢false (sym n ∙ f w))) tt in
      record {
        kind = K.Space;
        front = y.front;
        back = y.back;
        all = y.all;
        class = front-class c q y.front y.back x y.all;
        run = z.run;
        behind = calm c q y.front y.back x (piece_of K.Space at (c ∷ y.front)) x.awaited y.all (sym (spaces-brackets (length x.awaited) (c ∷ y.front) y.back t) ∙ closed-by c q y.front y.back x y.all) x.round z;
        more = λ w. l;
        blank = sym n;
        no_at = λ w. cc;
      }

  sign : (c : ℕ) (q : List ℕ) → IsMark c → Calm s bs m r at (c ∷ q) rest → Part s bs m r at c q rest
  unfolding shape is_blank
  sign c q n x =
      let t : is_sign c ≡ true = by_mark (λ c. is_sign c ≡ true) refl refl c n in
      let y : SignShape c = by_mark SignShape (tt, refl, (λ e. cc)) (tt, refl, (λ e. cc)) c n in
      let b : brackets (length x.awaited) (c ∷ q) ≡ brackets (length x.awaited) q = by_mark (λ c. brackets (length x.awaited) (c ∷ q) ≡ brackets (length x.awaited) q) refl refl c n in
      let z = kept s bs m r x.awaited at K.Single c [] (q ++ rest) u (sign-low c t, tt) x.next (sign_first at c (q ++ rest) t) (λ _. y.1) y.0 in
      record {
        kind = K.Single;
        front = [];
        back = q;
        all = refl;
        class = (x.class.0, tt);
        run = z.run;
        behind = calm c q [] q x (piece_of K.Single at (c ∷ [])) x.awaited refl (sym b ∙ x.closed) x.round z;
        more = λ w. absurd (true≢false (sym w ∙ sign-space c t));
        blank = y.1 ∙ sym (sign-space c t);
        no_at = y.2;
      }

  -- a round bracket, behind which these are awaited
  bracket : (c : ℕ) (q : List ℕ) (aw : List Lexeme) → is_sign c ≡ true → SignRound c → (x : Calm s bs m r at (c ∷ q) rest) → brackets (length aw) q ≡ Some 0 → AreRound aw
      → (Idle r x.awaited → Stays r x.awaited (piece_of K.Single at (c ∷ [])) aw) → Part s bs m r at c q rest
  unfolding shape is_blank
  bracket c q aw t y x b a g =
      let z = stays s bs m r x.awaited aw at K.Single c [] (q ++ rest) u (sign-low c t, tt) x.next (sign_first at c (q ++ rest) t) g in
      record {
        kind = K.Single;
        front = [];
        back = q;
        all = refl;
        class = (x.class.0, tt);
        run = z.run;
        behind = calm c q [] q x (piece_of K.Single at (c ∷ [])) aw refl b a z;
        more = λ w. absurd (true≢false (sym w ∙ sign-space c t));
        blank = y.0 ∙ sym (sign-space c t);
        no_at = y.1;
      }

  opening : (q : List ℕ) → Calm s bs m r at (40 ∷ q) rest → Part s bs m r at 40 q rest
  unfolding shape
  opening q x =
      let p : Lexeme = piece_of K.Single at (40 ∷ []) in
      bracket 40 q (p ∷ x.awaited) refl (refl, (λ e. cc)) x x.closed (refl, x.round) (λ i. turn-open r x.awaited p i refl)

  -- what a `)` closes
  answered : (q : List ℕ) (x : Calm s bs m r at (41 ∷ q) rest) (aw : List Lexeme) → AreRound aw → brackets (length aw) (41 ∷ q) ≡ Some 0 → x.awaited ≡ aw → Part s bs m r at 41 q rest
  unfolding shape
  answered q x [] a b e = absurd (cc)
  answered q x (p ∷ aw) a b e =
      let c : Lexeme = piece_of K.Single at (41 ∷ []) in
      bracket 41 q aw refl (refl, (λ e. cc)) x b a.1 (subst (λ z. Idle r z → Stays r z c aw) (sym e) (λ i. turn-close r p aw c i a.0 refl))

  pub part : (c : ℕ) (q : List ℕ) → (r ≡ [] → is_space c ≡ false) → Calm s bs m r at (c ∷ q) rest → Part s bs m r at c q rest
  part c q f x =
      let P : ℕ → Type 0 = λ c. Calm s bs m r at (c ∷ q) rest → Part s bs m r at c q rest in
      elim (cases_Bool (is_name c)) [
        | inl n ↦ word c q n x
        | inr n ↦ elim (cases_Bool (is_space c)) [
          | inl w ↦ space c q w f x
          | inr w ↦ elim (calm-sign c x.class.0 n w) [
            | inl e ↦ sign c q e x
            | inr e ↦ elim e [ inl h ↦ subst P (sym h) (opening q) x | inr h ↦ subst P (sym h) (λ y. answered q y y.awaited y.round y.closed refl) x ]
          ]
        ]
      ]
