-- What is ahead of a reader at an index of a list of bytes.
use Rattle.std.proofs.Common.{◌≡◌, ℕ, suc, ◌+◌, ◌<◌, ◌≤◌, List, [], ◌∷◌, length, get_or, drop, Some, None, Result, Ok, Err, refl, ap, sym, ◌∙◌, arith}
use Rattle.std.proofs.lemmas.List.{at_drop_more, drop_all, length-take-le, length-drop, drop-drop}
use Rattle.css_text.specs.declared.lexer.PieceKind.{PieceKind}
use Rattle.css_text.specs.declared.lexer.LexFault.{LexFault}
use Rattle.css_text.specs.Pieces.{Unclosed, first}
use Rattle.css_text.specs.Ahead.{Ahead, ahead, more, piece, next_of, rest_of}
use Rattle.css_text.specs.Found.{found, first_at}
use Rattle.css_text.proofs.Cut.{cut-nil, cut_ok, cut_err}

at_nil : (i : ℕ) → ahead i [] ≡ record { pieces = []; fault = None }
unfolding ahead
at_nil i = rw cut-nil refl

at_err : (i c : ℕ) (cs : List ℕ) (r : Result (PieceKind × ℕ) Unclosed) (e : LexFault) → first c cs ≡ r → found i r ≡ Err e → ahead i (c ∷ cs) ≡ record { pieces = []; fault = Some e }
unfolding ahead found
at_err i c cs (Ok p) e f g = cc
at_err i c cs (Err u) e f g = rw (cut_err c cs u f) (cc)

at_ok : (i c : ℕ) (cs : List ℕ) (kind : PieceKind) (n : ℕ) → first c cs ≡ Ok (kind, n) → n ≤ length cs → ahead i (c ∷ cs) ≡ more (piece kind i (i + suc n)) (ahead (i + suc n) (drop n cs))
unfolding ahead
at_ok i c cs kind n f h = rw (cut_ok c cs kind n f, length-take-le n cs h) refl

same_ok : (p q : PieceKind × ℕ) → ◌≡◌ {A = Result (PieceKind × ℕ) LexFault} (Ok p) (Ok q) → p ≡ q
same_ok p q e = cc

same_pair : (k l : PieceKind) (m n : ℕ) → ◌≡◌ {A = Result (PieceKind × ℕ) LexFault} (Ok (k, m)) (Ok (l, n)) → (k ≡ l) × (m ≡ n)
same_pair k l m n e = let h = same_ok (k, m) (l, n) e in (ap (λ p. p.0) h, ap (λ p. p.1) h)

-- what a form found at i is
found_ok : (i : ℕ) (r : Result (PieceKind × ℕ) Unclosed) (kind : PieceKind) (end : ℕ) → found i r ≡ Ok (kind, end) → (n : ℕ) × (r ≡ Ok (kind, n)) × (end ≡ i + 1 + n)
unfolding found
found_ok i (Ok p) kind end g = let e = same_pair p.0 kind (i + 1 + p.1) end g in (p.1, ap (λ k. Ok (k, p.1)) e.0, sym e.1)
found_ok i (Err u) kind end g = cc

module _ (s : List ℕ) (i : ℕ) where
  pub ahead_end : length s ≤ i → ahead i (drop i s) ≡ record { pieces = []; fault = None }
  ahead_end h = ap (ahead i) (drop_all i s h) ∙ at_nil i

  pub ahead_fault : (e : LexFault) → i < length s → first_at i (drop i s) ≡ Err e → ahead i (drop i s) ≡ record { pieces = []; fault = Some e }
  ahead_fault e h f = at_drop_more (ahead i) s i 0 h ∙ at_err i (get_or s i 0) (drop (i + 1) s) (first (get_or s i 0) (drop (i + 1) s)) e refl (sym (at_drop_more (first_at i) s i 0 h) ∙ f)

  pub ahead_piece : (kind : PieceKind) (end : ℕ) → i < length s → end ≤ length s → first_at i (drop i s) ≡ Ok (kind, end) → ahead i (drop i s) ≡ more (piece kind i end) (ahead end (drop end s))
  ahead_piece kind end h k f =
      let w = found_ok i (first (get_or s i 0) (drop (i + 1) s)) kind end (sym (at_drop_more (first_at i) s i 0 h) ∙ f) in
      let fits : w.0 ≤ length (drop (i + 1) s) = rw length-drop (omega arith) in
      let e : i + suc w.0 ≡ end = omega arith in
      let d : drop w.0 (drop (i + 1) s) ≡ drop end s = drop-drop w.0 (i + 1) s ∙ ap (λ m. drop m s) (sym w.2) in
      at_drop_more (ahead i) s i 0 h ∙ at_ok i (get_or s i 0) (drop (i + 1) s) kind w.0 w.1 fits ∙ rw (e, d) refl

module _ (a b : Ahead) (s : List ℕ) (i : ℕ) (now : ahead i (drop i s) ≡ a) where
  pub answer_end : length s ≤ i → next_of a.pieces a.fault ≡ Ok None
  answer_end h = rw (← now, ahead_end s i h) refl

  pub rest_end : length s ≤ i → a ≡ record { pieces = rest_of a.pieces; fault = a.fault }
  rest_end h = rw (← now, ahead_end s i h) refl

  pub answer_fault : (e : LexFault) → i < length s → first_at i (drop i s) ≡ Err e → next_of a.pieces a.fault ≡ Err e
  answer_fault e h f = rw (← now, ahead_fault s i e h f) refl

  pub rest_fault : (e : LexFault) → i < length s → first_at i (drop i s) ≡ Err e → ◌≡◌ {A = Ahead} (record { pieces = []; fault = Some e }) (record { pieces = rest_of a.pieces; fault = a.fault })
  rest_fault e h f = rw (← now, ahead_fault s i e h f) refl

  pub answer_piece : (kind : PieceKind) (end : ℕ) → i < length s → end ≤ length s → first_at i (drop i s) ≡ Ok (kind, end) → next_of a.pieces a.fault ≡ Ok (Some (piece kind i end))
  answer_piece kind end h k f = rw (← now, ahead_piece s i kind end h k f) refl

  pub rest_piece : (kind : PieceKind) (end : ℕ) → i < length s → end ≤ length s → first_at i (drop i s) ≡ Ok (kind, end) → ahead end (drop end s) ≡ record { pieces = rest_of a.pieces; fault = a.fault }
  rest_piece kind end h k f = rw (← now, ahead_piece s i kind end h k f) refl

pub ruleset ahead_steps = (answer_end, rest_end, answer_fault, rest_fault, answer_piece, rest_piece)
