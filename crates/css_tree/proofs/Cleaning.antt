-- What a reader keeps while it cleans a text.
use Rattle.std.proofs.Common.{◌≡◌, ℕ, ◌+◌, ◌-◌, ◌<◌, ◌≤◌, Bool, true, false, cond, ◌&&◌, List, [], ◌∷◌, ◌++◌, length, get_or, take, drop, Option, Some, None, Result, Ok, Err, refl, ap, sym, ◌∙◌, subst, inl, inr, add-zero, arith, length-append}
use Rattle.std.specs.Option.{option_map}
use Rattle.std.specs.Str.{chars, IsUtf8, IsCharBoundary}
use lib.Utf8.{encode, encodes, scalar, scalars}
use Rattle.std.proofs.lemmas.List.{append_assoc, take_at, drop_at, drop-drop, get_or-drop, length-drop, take-append-drop}
use Rattle.std.proofs.lemmas.Str.{encodes-append, encodes-chars, chars-encodes, scalars-chars}
use Rattle.css_text.specs.declared.lexer.PieceKind.{PieceKind}
use Rattle.css_text.specs.declared.lexer.PieceKind.TheVariants.{Space, Comment, Quoted, Url, AtWord, Word, Single}
use Rattle.css_text.specs.declared.lexer.Piece.{Piece}
use Rattle.css_text.specs.declared.lexer.LexFault.{LexFault}
use Rattle.css_text.specs.Pieces.{Unclosed, Token, cut, joined}
use Rattle.css_text.specs.Ahead.{Ahead, placed, piece, unclosed_at, next_of, rest_of, byte_len, begins_bom, bom_len, without_bom, pieces}
use Rattle.css_tree.specs.Clean.{kept, without_comments, clean_of}
use Rattle.std.proofs.lemmas.Bool.{eqb-true, false≢true}
use Rattle.css_text.proofs.Bytes.{low_or_high, front_low, front_high}
use Rattle.css_text.proofs.Transport.{length-bytes}
use Rattle.css_text.proofs.Join.{cut_front}

-- a character begins where bytes of characters begin
lead_of : (cs : List ℕ) → 128 ≤ get_or (encodes cs) 0 0 → 192 ≤ get_or (encodes cs) 0 0
lead_of [] = λ h. absurd (omega arith)
lead_of (c ∷ cs) = elim (low_or_high c) [
  | inl l ↦ rw (front_low c cs l) (λ h. absurd (omega (arith, l.0)))
  | inr w ↦ rw (front_high c cs w) (λ h. w.lead)
]

boundary : (bs cs : List ℕ) (i : ℕ) → i ≤ length bs → drop i bs ≡ encodes cs → IsCharBoundary bs i
boundary bs cs i h e = (h, λ l. subst (λ x. 128 ≤ x → 192 ≤ x) (ap (λ x. get_or x 0 0) (sym e) ∙ get_or-drop i bs 0 0 ∙ ap (λ k. get_or bs k 0) (add-zero i)) (lead_of cs))

pub record At (cs bs : List ℕ) (done : ℕ) (out : List ℕ) (a : Ahead) : Type 0 where
  pub tokens : List Token
  pub rest : List ℕ
  pub fault : Option Unclosed
  pub fits : done ≤ length bs
  pub ahead : a ≡ placed byte_len done tokens fault
  pub text : drop done bs ≡ encodes (joined tokens ++ rest)
  pub result : out ++ encodes (without_comments tokens ++ rest) ≡ encodes (clean_of cs)

pub record Step (cs bs : List ℕ) (done : ℕ) (out : List ℕ) (a : Ahead) (p : Piece) : Type 0 where
  pub order : p.span.start ≤ p.span.end
  pub low : IsCharBoundary bs p.span.start
  pub high : IsCharBoundary bs p.span.end
  pub fewer : length (rest_of a.pieces) < length a.pieces
  pub next : At cs bs p.span.end (out ++ kept p.kind (take (p.span.end - p.span.start) (drop p.span.start bs))) (record { pieces = rest_of a.pieces; fault = a.fault })

kept-bytes : (k : PieceKind) (t : List ℕ) → kept k (encodes t) ≡ encodes (kept k t)
kept-bytes Comment t = refl
kept-bytes Space t = refl
kept-bytes Quoted t = refl
kept-bytes Url t = refl
kept-bytes AtWord t = refl
kept-bytes Word t = refl
kept-bytes Single t = refl

less : (a n : ℕ) → a + n - a ≡ n
less a n = omega arith

-- one token, which stands at done
step_token : (cs bs : List ℕ) (done : ℕ) (out : List ℕ) (t : Token) (ts : List Token) (rest : List ℕ) (f : Option Unclosed) → done ≤ length bs → drop done bs ≡ encodes (joined (t ∷ ts) ++ rest)
    → out ++ encodes (without_comments (t ∷ ts) ++ rest) ≡ encodes (clean_of cs)
    → Step cs bs done out (placed byte_len done (t ∷ ts) f) (piece t.kind done (done + byte_len t.text))
step_token cs bs done out t ts rest f fits text result =
    let n = byte_len t.text in
    let x = encodes t.text in
    let y = encodes (joined ts ++ rest) in
    let parts : drop done bs ≡ x ++ y = text ∙ ap encodes (append_assoc t.text (joined ts) rest) ∙ encodes-append t.text (joined ts ++ rest) in
    let size : length bs - done ≡ n + length y = sym (length-drop done bs) ∙ ap length parts ∙ length-append x y ∙ ap (λ k. k + length y) (length-bytes t.text) in
    let inside : done + n ≤ length bs = omega arith in
    let after : drop (done + n) bs ≡ y = sym (drop-drop n done bs) ∙ ap (drop n) parts ∙ drop_at x y n (length-bytes t.text) in
    let here : take (done + n - done) (drop done bs) ≡ x = ap (λ k. take k (drop done bs)) (less done n) ∙ ap (take n) parts ∙ take_at x y n (length-bytes t.text) in
    record {
      order = omega arith;
      low = boundary bs (joined (t ∷ ts) ++ rest) done fits text;
      high = boundary bs (joined ts ++ rest) (done + n) inside after;
      fewer = omega arith;
      next = record {
        tokens = ts;
        rest = rest;
        fault = f;
        fits = inside;
        ahead = refl;
        text = after;
        result = ap (λ k. (out ++ kept t.kind k) ++ encodes (without_comments ts ++ rest)) here ∙ ap (λ k. (out ++ k) ++ encodes (without_comments ts ++ rest)) (kept-bytes t.kind t.text)
            ∙ append_assoc out (encodes (kept t.kind t.text)) (encodes (without_comments ts ++ rest)) ∙ ap (λ k. out ++ k) (sym (encodes-append (kept t.kind t.text) (without_comments ts ++ rest)) ∙ ap encodes (sym (append_assoc (kept t.kind t.text) (without_comments ts) rest)))
            ∙ result;
      };
    }

same_piece : (p q : Piece) → ◌≡◌ {A = Result (Option Piece) LexFault} (Ok (Some p)) (Ok (Some q)) → p ≡ q
same_piece p q e = cc

no_piece : (p : Piece) (f : Option LexFault) → ◌≡◌ {A = Result (Option Piece) LexFault} (Ok (Some p)) (next_of [] f) → ⊥
no_piece p None e = cc
no_piece p (Some x) e = cc

step_by : (cs bs : List ℕ) (done : ℕ) (out : List ℕ) (ts : List Token) (rest : List ℕ) (f : Option Unclosed) (p : Piece) → done ≤ length bs → drop done bs ≡ encodes (joined ts ++ rest)
    → out ++ encodes (without_comments ts ++ rest) ≡ encodes (clean_of cs) → Ok (Some p) ≡ next_of (placed byte_len done ts f).pieces (placed byte_len done ts f).fault → Step cs bs done out (placed byte_len done ts f) p
step_by cs bs done out [] rest f p fits text result e = absurd (no_piece p (option_map (unclosed_at done) f) e)
step_by cs bs done out (t ∷ ts) rest f p fits text result e =
    subst (Step cs bs done out (placed byte_len done (t ∷ ts) f)) (sym (same_piece p (piece t.kind done (done + byte_len t.text)) e)) (step_token cs bs done out t ts rest f fits text result)

pub step : (cs bs : List ℕ) (done : ℕ) (out : List ℕ) (a : Ahead) (p : Piece) → At cs bs done out a → Ok (Some p) ≡ next_of a.pieces a.fault → Step cs bs done out a p
step cs bs done out a p h e =
    let P : Ahead → Type 0 = λ a. Ok (Some p) ≡ next_of a.pieces a.fault → Step cs bs done out a p in
    subst P (sym h.ahead) (step_by cs bs done out h.tokens h.rest h.fault p h.fits h.text h.result) e

-- the byte order mark, and the rest
record Mark (s : List ℕ) : Type 0 where
  pub front : List ℕ
  pub is : front ≡ cond (begins_bom s) (take 1 s) []
  pub parts : encodes s ≡ encodes front ++ encodes (without_bom s)
  pub size : length (encodes front) ≡ bom_len s

mark_plain : (s : List ℕ) → begins_bom s ≡ false → Mark s
mark_plain s e = record { front = []; is = rw e refl; parts = rw e refl; size = rw e refl }

mark_mark : (cs : List ℕ) → Mark (0xfeff ∷ cs)
unfolding encode
mark_mark cs = record { front = 0xfeff ∷ []; is = refl; parts = refl; size = refl }

mark_go : (s : List ℕ) (b : Bool) → begins_bom s ≡ b → Mark s
mark_go s false e = mark_plain s e
mark_go [] true e = absurd (false≢true e)
mark_go (c ∷ cs) true e = subst (λ y. Mark (y ∷ cs)) (sym (eqb-true c 0xfeff e)) (mark_mark cs)

start_of : (cs : List ℕ) → At cs (encodes cs) (bom_len cs) (take (bom_len cs) (encodes cs)) (pieces cs)
unfolding pieces clean_of
start_of cs =
    let m = mark_go cs (begins_bom cs) refl in
    let s = without_bom cs in
    let c = cut s in
    let w = cut_front s in
    let front : take (bom_len cs) (encodes cs) ≡ encodes m.front = ap (take (bom_len cs)) m.parts ∙ take_at (encodes m.front) (encodes s) (bom_len cs) m.size in
    let behind : drop (bom_len cs) (encodes cs) ≡ encodes s = ap (drop (bom_len cs)) m.parts ∙ drop_at (encodes m.front) (encodes s) (bom_len cs) m.size in
    let rest : drop (length (joined c.tokens)) s ≡ w.0 = ap (drop (length (joined c.tokens))) w.1 ∙ drop_at (joined c.tokens) w.0 (length (joined c.tokens)) refl in
    let size : length (encodes cs) ≡ bom_len cs + length (encodes s) = ap length m.parts ∙ length-append (encodes m.front) (encodes s) ∙ ap (λ k. k + length (encodes s)) m.size in
    record {
      tokens = c.tokens;
      rest = w.0;
      fault = c.fault;
      fits = omega arith;
      ahead = refl;
      text = behind ∙ ap encodes w.1;
      result = ap (λ x. x ++ encodes (without_comments c.tokens ++ w.0)) (front ∙ ap encodes m.is) ∙ ap (λ x. encodes (cond (begins_bom cs) (take 1 cs) []) ++ encodes (without_comments c.tokens ++ x)) (sym rest)
          ∙ sym (encodes-append (cond (begins_bom cs) (take 1 cs) []) (without_comments c.tokens ++ drop (length (joined c.tokens)) s));
    }

pub start : (bs : List ℕ) → IsUtf8 bs → At (chars bs) bs (bom_len (chars bs)) (take (bom_len (chars bs)) bs) (pieces (chars bs))
start bs u = subst (λ x. At (chars bs) x (bom_len (chars bs)) (take (bom_len (chars bs)) x) (pieces (chars bs))) (encodes-chars bs u) (start_of (chars bs))

pub at_boundary : (cs bs : List ℕ) (done : ℕ) (out : List ℕ) (a : Ahead) → At cs bs done out a → IsCharBoundary bs done
at_boundary cs bs done out a h = boundary bs (joined h.tokens ++ h.rest) done h.fits h.text

finish_by : (cs bs : List ℕ) (done : ℕ) (out : List ℕ) (ts : List Token) (rest : List ℕ) (f : Option Unclosed) → drop done bs ≡ encodes (joined ts ++ rest) → out ++ encodes (without_comments ts ++ rest) ≡ encodes (clean_of cs)
    → ((p : Piece) → next_of (placed byte_len done ts f).pieces (placed byte_len done ts f).fault ≡ Ok (Some p) → ⊥) → out ++ drop done bs ≡ encodes (clean_of cs)
finish_by cs bs done out [] rest f text result no_more = ap (λ x. out ++ x) text ∙ result
finish_by cs bs done out (t ∷ ts) rest f text result no_more = absurd (no_more (piece t.kind done (done + byte_len t.text)) refl)

pub finish : (cs bs : List ℕ) (done : ℕ) (out : List ℕ) (a : Ahead) → At cs bs done out a → ((p : Piece) → next_of a.pieces a.fault ≡ Ok (Some p) → ⊥) → out ++ drop done bs ≡ encodes (clean_of cs)
finish cs bs done out a h =
    let P : Ahead → Type 0 = λ a. ((p : Piece) → next_of a.pieces a.fault ≡ Ok (Some p) → ⊥) → out ++ drop done bs ≡ encodes (clean_of cs) in
    subst P (sym h.ahead) (finish_by cs bs done out h.tokens h.rest h.fault h.text h.result)

pub kept_other : (k : PieceKind) (t : List ℕ) → (k ≡ Comment → ⊥) → kept k t ≡ t
kept_other Comment t h = absurd (h refl)
kept_other Space t h = refl
kept_other Quoted t h = refl
kept_other Url t h = refl
kept_other AtWord t h = refl
kept_other Word t h = refl
kept_other Single t h = refl

pub init : (bs : List ℕ) (done : ℕ) (out : List ℕ) (a : Ahead) → IsUtf8 bs → done ≡ bom_len (chars bs) → a ≡ pieces (chars bs) → out ≡ take done bs → At (chars bs) bs done out a
init bs done out a u d e f =
    subst (λ o. At (chars bs) bs done o a) (sym f) (subst (λ b. At (chars bs) bs done (take done bs) b) (sym e) (subst (λ n. At (chars bs) bs n (take n bs) (pieces (chars bs))) (sym d) (start bs u)))

pub again : (cs bs : List ℕ) (done : ℕ) (out new : List ℕ) (a b : Ahead) (p : Piece) → At cs bs done out a → Ok (Some p) ≡ next_of a.pieces a.fault
    → new ≡ out ++ kept p.kind (take (p.span.end - p.span.start) (drop p.span.start bs)) → b ≡ record { pieces = rest_of a.pieces; fault = a.fault } → At cs bs p.span.end new b
again cs bs done out new a b p h e f g =
    subst (λ o. At cs bs p.span.end o b) (sym f) (subst (λ x. At cs bs p.span.end (out ++ kept p.kind (take (p.span.end - p.span.start) (drop p.span.start bs))) x) (sym g) (step cs bs done out a p h e).next)

none_some : (p : Piece) → ◌≡◌ {A = Result (Option Piece) LexFault} (Ok None) (Ok (Some p)) → ⊥
none_some p e = cc

err_some : (f : LexFault) (p : Piece) → ◌≡◌ {A = Result (Option Piece) LexFault} (Err f) (Ok (Some p)) → ⊥
err_some f p e = cc

pub finish_none : (cs bs : List ℕ) (done : ℕ) (out : List ℕ) (a : Ahead) → At cs bs done out a → next_of a.pieces a.fault ≡ Ok None → out ++ drop done bs ≡ encodes (clean_of cs)
finish_none cs bs done out a h e = finish cs bs done out a h (λ p g. none_some p (sym e ∙ g))

pub finish_err : (cs bs : List ℕ) (done : ℕ) (out : List ℕ) (a : Ahead) (f : LexFault) → At cs bs done out a → next_of a.pieces a.fault ≡ Err f → out ++ drop done bs ≡ encodes (clean_of cs)
finish_err cs bs done out a f h e = finish cs bs done out a h (λ p g. err_some f p (sym e ∙ g))

-- What is left of characters is characters.

both : (a b : Bool) → (a && b) ≡ true → (a ≡ true) × (b ≡ true)
both true b e = (refl, e)
both false b e = absurd (false≢true e)

scalars-split : (xs ys : List ℕ) → scalars (xs ++ ys) ≡ true → (scalars xs ≡ true) × (scalars ys ≡ true)
scalars-split [] ys e = (refl, e)
scalars-split (x ∷ xs) ys e =
    let h = both (scalar x) (scalars (xs ++ ys)) e in
    let k = scalars-split xs ys h.1 in
    (rw (h.0, k.0) refl, k.1)

scalars-join : (xs ys : List ℕ) → scalars xs ≡ true → scalars ys ≡ true → scalars (xs ++ ys) ≡ true
scalars-join [] ys e f = f
scalars-join (x ∷ xs) ys e f =
    let h = both (scalar x) (scalars xs) e in
    rw (h.0, scalars-join xs ys h.1 f) refl

kept-scalars : (k : PieceKind) (t : List ℕ) → scalars t ≡ true → scalars (kept k t) ≡ true
kept-scalars Comment t e = refl
kept-scalars Space t e = e
kept-scalars Quoted t e = e
kept-scalars Url t e = e
kept-scalars AtWord t e = e
kept-scalars Word t e = e
kept-scalars Single t e = e

tokens-scalars : (ts : List Token) → scalars (joined ts) ≡ true → scalars (without_comments ts) ≡ true
tokens-scalars [] e = refl
tokens-scalars (t ∷ ts) e =
    let h = scalars-split t.text (joined ts) e in
    scalars-join (kept t.kind t.text) (without_comments ts) (kept-scalars t.kind t.text h.0) (tokens-scalars ts h.1)

drop-scalars : (n : ℕ) (xs : List ℕ) → scalars xs ≡ true → (scalars (take n xs) ≡ true) × (scalars (drop n xs) ≡ true)
drop-scalars n xs e = scalars-split (take n xs) (drop n xs) (ap scalars (take-append-drop n xs) ∙ e)

clean-scalars : (s : List ℕ) → scalars s ≡ true → scalars (clean_of s) ≡ true
unfolding clean_of
clean-scalars s e =
    let b = without_bom s in
    let ts = (cut b).tokens in
    let w = cut_front b in
    let h = by_bom (begins_bom s) in
    let k = scalars-split (joined ts) w.0 (ap scalars (sym w.1) ∙ h.1) in
    let rest = drop (length (joined ts)) b in
    scalars-join (cond (begins_bom s) (take 1 s) []) (without_comments ts ++ rest) h.0 (scalars-join (without_comments ts) rest (tokens-scalars ts k.0) (drop-scalars (length (joined ts)) b h.1).1)
  where
    by_bom : (b : Bool) → (scalars (cond b (take 1 s) []) ≡ true) × (scalars (cond b (drop 1 s) s) ≡ true)
    by_bom true = drop-scalars 1 s e
    by_bom false = (refl, e)

-- the characters of the bytes of a text without its comments
pub clean-chars : (bs : List ℕ) → IsUtf8 bs → chars (encodes (clean_of (chars bs))) ≡ clean_of (chars bs)
clean-chars bs u = chars-encodes (clean_of (chars bs)) (clean-scalars (chars bs) (scalars-chars bs u))
