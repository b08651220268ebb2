-- One piece of a plain statement, and the machine's step over it.
use Rattle.std.proofs.Common.{◌≡◌, ℕ, zero, suc, ◌+◌, ◌-◌, ◌<◌, ◌≤◌, List, [], ◌∷◌, ◌++◌, None, Ok, length, take, drop, refl, ◌∙◌, sym, ap, subst, arith, length-append, length-drop}
use Rattle.std.specs.Str.{chars, IsUtf8, IsAscii}
use Rattle.std.proofs.lemmas.Str.{chars-IsAscii}
use Rattle.std.proofs.lemmas.List.{take_at, drop_at, drop-drop}
use Rattle.css_text.specs.declared.lexer.PieceKind.{PieceKind}
use Rattle.css_text.specs.declared.lexer.Piece.{Piece as LexPiece}
use Rattle.css_text.specs.Ahead.{ahead, more, piece, byte_len}
use Rattle.css_text.specs.Found.{first_at}
use Rattle.css_text.proofs.Ahead.{ahead_piece}
use Rattle.css_text.proofs.AsciiTests.{encodes-low}
use Rattle.css_text.proofs.Slices.{IsSlice}
use Rattle.css_text.proofs.Transport.{AllLow, length-bytes}
use Rattle.css_tree.specs.Pieces.{Lexeme, end_of}
use Rattle.css_tree.specs.Turn.{Turn, turn}
use Rattle.css_tree.specs.Fault.{fits_by}
use Rattle.css_parse.specs.Machine.{Machine, next, opened, answer}
use Rattle.css_parse.specs.Model.{IsSmall, Advances}
use Rattle.css_parse.proofs.MachineSteps.{step_answer, ready_next, next_small}
use Rattle.css_parse.specs.Going.{Reading}
use Rattle.css_parse.proofs.Loop.{seen, Taken, taken}

-- The bytes from there on are these, and the machine has come so far.
pub record At (s bs : List ℕ) (m : Machine) (at : ℕ) (rest : List ℕ) : Type 0 where
  pub here : drop at bs ≡ rest
  pub reading : Reading s bs (ahead at rest) m at

abbrev pub piece_of : PieceKind → ℕ → List ℕ → Lexeme
piece_of kind at text = record { kind = kind; at = at; text = text }

low-ascii : (t : List ℕ) → AllLow t → IsAscii t
low-ascii [] h i = omega arith
low-ascii (c ∷ t) h zero = h.0
low-ascii (c ∷ t) h (suc i) = low-ascii t h.1 i

pub low-chars : (t : List ℕ) → AllLow t → chars t ≡ t
low-chars t h = chars-IsAscii t (low-ascii t h)

pub low-size : (t : List ℕ) → AllLow t → byte_len t ≡ length t
low-size t h = sym (length-bytes t) ∙ ap length (encodes-low t h)

-- what the step comes to
pub record Stepped (s bs : List ℕ) (m : Machine) (at : ℕ) (q : Lexeme) (t rest : List ℕ) : Type 0 where
  pub next : At s bs m (at + length t) rest
  pub slice : IsSlice bs q.at (end_of q) q.text
  pub end : end_of q ≡ at + length t

less : (a n : ℕ) → a + n - a ≡ n
less a n = omega arith

module _ (s bs : List ℕ) (m : Machine) (at : ℕ) (kind : PieceKind) (c : ℕ) (t rest : List ℕ) (u : IsUtf8 bs) (low : AllLow (c ∷ t)) (h : At s bs m at (c ∷ (t ++ rest))) where
  text : List ℕ
  text = c ∷ t

  end : ℕ
  end = at + length text

  size : length bs - at ≡ length text + length rest
  unfolding text
  size = sym (length-drop at bs) ∙ (ap length h.here ∙ length-append (c ∷ t) rest)

  inside : at < length bs
  unfolding text
  inside = omega (arith, size)

  within : end ≤ length bs
  unfolding text end
  within = omega (arith, size)

  after : drop end bs ≡ rest
  unfolding text end
  after = sym (drop-drop (length (c ∷ t)) at bs) ∙ (ap (drop (length (c ∷ t))) h.here ∙ drop_at (c ∷ t) rest (length (c ∷ t)) refl)

  p : LexPiece
  unfolding end
  p = piece kind at end

  q : Lexeme
  unfolding text
  q = piece_of kind at text

  is : seen bs p ≡ q
  unfolding p q end text
  is = ap (piece_of kind at)
      (ap (λ n. chars (take n (drop at bs))) (less at (length text))
      ∙ (ap (λ z. chars (take (length text) z)) h.here
      ∙ (ap chars (take_at text rest (length text) refl) ∙ chars-IsAscii text (low-ascii text low))))

  ends : end_of q ≡ end
  unfolding q end text
  ends = ap (λ n. at + n) (low-size text low)

  comes : first_at at (c ∷ (t ++ rest)) ≡ Ok (kind, end) → ahead at (c ∷ (t ++ rest)) ≡ more p (ahead end rest)
  unfolding p
  comes f =
      ap (ahead at) (sym h.here) ∙ (ahead_piece bs at kind end inside within (ap (first_at at) h.here ∙ f) ∙ ap (λ z. more (piece kind at end) (ahead end z)) after)

  took : first_at at (c ∷ (t ++ rest)) ≡ Ok (kind, end) → Taken s bs (more p (ahead end rest)) m at p
  took f = taken s bs (more p (ahead end rest)) m at p u (subst (λ z. Reading s bs z m at) (comes f) h.reading) refl

  goes : (tn : Turn) → turn m.run m.awaited q ≡ tn → fits_by (opened m) m.run q tn ≡ None → Advances m (seen bs p) (next m q tn)
  goes tn e f ps lex = subst (λ z. answer m (z ∷ ps) lex ≡ answer (next m q tn) ps lex) (sym is) (step_answer m q ps lex tn h.reading.ready e f)

  longer : end_of (seen bs p) ≡ end
  longer = ap end_of is ∙ ends

  small : (tn : Turn) → IsSmall (next m q tn) (end_of (seen bs p))
  unfolding end text
  small tn = omega (arith, next_small m q tn h.reading.ready.begun, h.reading.small, longer)

  moves : (tn : Turn) → first_at at (c ∷ (t ++ rest)) ≡ Ok (kind, end) → turn m.run m.awaited q ≡ tn → fits_by (opened m) m.run q tn ≡ None → Reading s bs (ahead end rest) (next m q tn) end
  moves tn f e k = subst (Reading s bs (ahead end rest) (next m q tn)) longer ((took f).on (next m q tn) (ready_next m q tn h.reading.ready e k) (small tn) (goes tn e k))

  pub stepped : (tn : Turn) → first_at at (c ∷ (t ++ rest)) ≡ Ok (kind, at + suc (length t)) → turn m.run m.awaited (piece_of kind at (c ∷ t)) ≡ tn → fits_by (opened m) m.run (piece_of kind at (c ∷ t)) tn ≡ None
      → Stepped s bs (next m (piece_of kind at (c ∷ t)) tn) at (piece_of kind at (c ∷ t)) (c ∷ t) rest
  unfolding q end text
  stepped tn f e k = record {
    next = record { here = after; reading = moves tn f e k };
    slice = subst (λ z. IsSlice bs z.at (end_of z) z.text) is (took f).slice;
    end = ends;
  }
