-- A reader of pieces in the bytes of a text, and what a caller that slices may take there.
use Rattle.std.proofs.Common.{◌≡◌, ℕ, ◌+◌, ◌<◌, List, [], ◌∷◌, ◌++◌, length, Option, Some, None, Result, Ok, Err, refl, ap, sym, ◌∙◌, subst, arith}
use Rattle.std.specs.Option.{option_map}
use Rattle.std.specs.Str.{IsCharBoundary}
use Rattle.std.proofs.lemmas.List.{append_assoc}
use Rattle.css_text.specs.declared.lexer.Piece.{Piece}
use Rattle.css_text.specs.declared.lexer.LexFault.{LexFault}
use Rattle.css_text.specs.Pieces.{Unclosed, Token, joined}
use Rattle.css_text.specs.Ahead.{Ahead, placed, piece, unclosed_at, next_of, rest_of, byte_len}
use Rattle.css_text.proofs.Slices.{IsFrom, IsSlice, from_boundary, from_front, from_back}

-- The reader stands at the byte `at`. These tokens are ahead, behind them the fault, and the text goes on with `rest` there.
pub record IsAt (bs : List ℕ) (at : ℕ) (tokens : List Token) (rest : List ℕ) (fault : Option Unclosed) (a : Ahead) : Type 0 where
  pub here : IsFrom bs at (joined tokens ++ rest)
  pub ahead : a ≡ placed byte_len at tokens fault

-- The piece p comes next: its token, its bytes, and where the reader stands behind it.
pub record Next (bs : List ℕ) (at : ℕ) (tokens : List Token) (rest : List ℕ) (fault : Option Unclosed) (a : Ahead) (p : Piece) : Type 0 where
  pub token : Token
  pub others : List Token
  pub are : tokens ≡ token ∷ others
  pub is : p ≡ piece token.kind at (at + byte_len token.text)
  pub slice : IsSlice bs p.span.start p.span.end token.text
  pub fewer : length (rest_of a.pieces) < length a.pieces
  pub next : IsAt bs p.span.end others rest fault (record { pieces = rest_of a.pieces; fault = a.fault })

pub joined-append : (xs ys : List Token) → joined (xs ++ ys) ≡ joined xs ++ joined ys
joined-append [] ys = refl
joined-append (x ∷ xs) ys = ap (λ z. x.text ++ z) (joined-append xs ys) ∙ sym (append_assoc x.text (joined xs) (joined ys))

pub at_boundary : (bs : List ℕ) (at : ℕ) (ts : List Token) (rest : List ℕ) (f : Option Unclosed) (a : Ahead) → IsAt bs at ts rest f a → IsCharBoundary bs at
at_boundary bs at ts rest f a h = from_boundary bs at (joined ts ++ rest) h.here

next_token : (bs : List ℕ) (at : ℕ) (t : Token) (ts : List Token) (rest : List ℕ) (f : Option Unclosed) → IsFrom bs at (joined (t ∷ ts) ++ rest)
    → Next bs at (t ∷ ts) rest f (placed byte_len at (t ∷ ts) f) (piece t.kind at (at + byte_len t.text))
next_token bs at t ts rest f h =
    let here : IsFrom bs at (t.text ++ (joined ts ++ rest)) = subst (IsFrom bs at) (append_assoc t.text (joined ts) rest) h in
    record {
      token = t;
      others = ts;
      are = refl;
      is = refl;
      slice = from_front bs at t.text (joined ts ++ rest) here;
      fewer = omega arith;
      next = record { here = from_back bs at t.text (joined ts ++ rest) here; ahead = refl };
    }

same_piece : (p q : Piece) → ◌≡◌ {A = Result (Option Piece) LexFault} (Ok (Some p)) (Ok (Some q)) → p ≡ q
same_piece p q e = cc

no_piece : (p : Piece) (f : Option LexFault) → ◌≡◌ {A = Result (Option Piece) LexFault} (next_of [] f) (Ok (Some p)) → ⊥
no_piece p None e = cc
no_piece p (Some x) e = cc

next_by : (bs : List ℕ) (at : ℕ) (ts : List Token) (rest : List ℕ) (f : Option Unclosed) (p : Piece) → IsFrom bs at (joined ts ++ rest)
    → next_of (placed byte_len at ts f).pieces (placed byte_len at ts f).fault ≡ Ok (Some p) → Next bs at ts rest f (placed byte_len at ts f) p
next_by bs at [] rest f p h e = absurd (no_piece p (option_map (unclosed_at at) f) e)
next_by bs at (t ∷ ts) rest f p h e =
    subst (Next bs at (t ∷ ts) rest f (placed byte_len at (t ∷ ts) f)) (same_piece (piece t.kind at (at + byte_len t.text)) p e) (next_token bs at t ts rest f h)

-- an answer of the reader: a piece, the end, or the fault
pub at_next : (bs : List ℕ) (at : ℕ) (ts : List Token) (rest : List ℕ) (f : Option Unclosed) (a : Ahead) (p : Piece) → IsAt bs at ts rest f a → next_of a.pieces a.fault ≡ Ok (Some p) → Next bs at ts rest f a p
at_next bs at ts rest f a p h e =
    let P : Ahead → Type 0 = λ a. next_of a.pieces a.fault ≡ Ok (Some p) → Next bs at ts rest f a p in
    subst P (sym h.ahead) (next_by bs at ts rest f p h.here) e

end_by : (at : ℕ) (ts : List Token) (f : Option Unclosed) → next_of (placed byte_len at ts f).pieces (placed byte_len at ts f).fault ≡ Ok None → (ts ≡ []) × (f ≡ None)
end_by at [] None e = (refl, refl)
end_by at [] (Some u) e = cc
end_by at (t ∷ ts) f e = cc

pub at_end : (bs : List ℕ) (at : ℕ) (ts : List Token) (rest : List ℕ) (f : Option Unclosed) (a : Ahead) → IsAt bs at ts rest f a → next_of a.pieces a.fault ≡ Ok None → (ts ≡ []) × (f ≡ None)
at_end bs at ts rest f a h e =
    let P : Ahead → Type 0 = λ a. next_of a.pieces a.fault ≡ Ok None → (ts ≡ []) × (f ≡ None) in
    subst P (sym h.ahead) (end_by at ts f) e

same_fault : (x y : LexFault) → ◌≡◌ {A = Result (Option Piece) LexFault} (Err x) (Err y) → y ≡ x
same_fault x y e = cc

fault_by : (at : ℕ) (ts : List Token) (f : Option Unclosed) (x : LexFault) → next_of (placed byte_len at ts f).pieces (placed byte_len at ts f).fault ≡ Err x → (u : Unclosed) × (ts ≡ []) × (f ≡ Some u) × (x ≡ unclosed_at at u)
fault_by at [] None x e = cc
fault_by at [] (Some u) x e = (u, refl, refl, same_fault (unclosed_at at u) x e)
fault_by at (t ∷ ts) f x e = cc

pub at_fault : (bs : List ℕ) (at : ℕ) (ts : List Token) (rest : List ℕ) (f : Option Unclosed) (a : Ahead) (x : LexFault) → IsAt bs at ts rest f a → next_of a.pieces a.fault ≡ Err x
    → (u : Unclosed) × (ts ≡ []) × (f ≡ Some u) × (x ≡ unclosed_at at u)
at_fault bs at ts rest f a x h e =
    let P : Ahead → Type 0 = λ a. next_of a.pieces a.fault ≡ Err x → (u : Unclosed) × (ts ≡ []) × (f ≡ Some u) × (x ≡ unclosed_at at u) in
    subst P (sym h.ahead) (fault_by at ts f x) e

-- the text ahead, by the tokens of a run
split_run : (bs : List ℕ) (at : ℕ) (xs ys : List Token) (rest : List ℕ) → IsFrom bs at (joined (xs ++ ys) ++ rest) → IsFrom bs at (joined xs ++ (joined ys ++ rest))
split_run bs at xs ys rest h = subst (IsFrom bs at) (ap (λ z. z ++ rest) (joined-append xs ys) ∙ append_assoc (joined xs) (joined ys) rest) h

-- a run of pieces: its bytes from the start of the first to the end of the last
pub at_run : (bs : List ℕ) (at : ℕ) (xs ys : List Token) (rest : List ℕ) (f : Option Unclosed) (a : Ahead) → IsAt bs at (xs ++ ys) rest f a → IsSlice bs at (at + byte_len (joined xs)) (joined xs)
at_run bs at xs ys rest f a h = from_front bs at (joined xs) (joined ys ++ rest) (split_run bs at xs ys rest h.here)

-- the reader behind a run of pieces
pub at_later : (bs : List ℕ) (at : ℕ) (xs ys : List Token) (rest : List ℕ) (f : Option Unclosed) (a : Ahead) → IsAt bs at (xs ++ ys) rest f a
    → IsAt bs (at + byte_len (joined xs)) ys rest f (placed byte_len (at + byte_len (joined xs)) ys f)
at_later bs at xs ys rest f a h = record { here = from_back bs at (joined xs) (joined ys ++ rest) (split_run bs at xs ys rest h.here); ahead = refl }

-- a run behind another
pub at_middle : (bs : List ℕ) (at : ℕ) (xs ys zs : List Token) (rest : List ℕ) (f : Option Unclosed) (a : Ahead) → IsAt bs at (xs ++ (ys ++ zs)) rest f a
    → IsSlice bs (at + byte_len (joined xs)) (at + byte_len (joined xs) + byte_len (joined ys)) (joined ys)
at_middle bs at xs ys zs rest f a h = at_run bs (at + byte_len (joined xs)) ys zs rest f _ (at_later bs at xs (ys ++ zs) rest f a h)
