-- A fault stands where a piece begins, or behind the last one.
use Rattle.std.proofs.Common.{◌≡◌, ℕ, List, [], ◌∷◌, ◌++◌, Bool, true, false, cond, Option, Some, None, subst}
use Rattle.std.specs.Str.{chars, IsUtf8, IsCharBoundary}
use Rattle.css_text.specs.Pieces.{Unclosed, cut}
use Rattle.css_text.specs.Ahead.{bom_len, without_bom}
use Rattle.css_tree.specs.declared.fault.SyntaxKind.{SyntaxKind}
use Rattle.css_tree.specs.Pieces.{Lexeme, Shape, shape, pieces_of, last_end}
use Rattle.css_tree.specs.Turn.{Turn, within, gap, alone, ends, closes, opens, turn, idle, busy, is_custom, is_allowed, awaits}
use Rattle.css_tree.specs.Fault.{Fault, state, outer, step_by, first_of_two, fault_at, unknown, unexpected, nameless_by, nameless, fits_by, last_at, unclosed_awaited, unclosed_opened, end_fault, fault_from, lexical_at, lexical_fault, fault}
use Rattle.css_parse.proofs.NodeFacts.{AllSit, pieces-sit, last-boundary}

-- the pieces begin at such places
abbrev AllAt : (ℕ → Type 0) → List Lexeme → Type 0
AllAt P [] = Unit {0}
AllAt P (p ∷ ps) = P p.at × AllAt P ps

-- the fault stands at such a place
abbrev FaultAt : (ℕ → Type 0) → Option Fault → Type 0
FaultAt P None = Unit {0}
FaultAt P (Some f) = P f.at

module _ (P : ℕ → Type 0) where
  all-snoc : (xs : List Lexeme) (p : Lexeme) → AllAt P xs → P p.at → AllAt P (xs ++ p ∷ [])
  all-snoc [] p h k = (k, tt)
  all-snoc (x ∷ xs) p h k = (h.0, all-snoc xs p h.1 k)

  first-at : (a b : Option Fault) → FaultAt P a → FaultAt P b → FaultAt P (first_of_two a b)
  first-at None b h k = k
  first-at (Some f) b h k = h

  unknown-by : (b : Bool) (k : SyntaxKind) (n : ℕ) → P n → FaultAt P (cond b None (fault_at k n))
  unknown-by true k n h = tt
  unknown-by false k n h = h

  unknown-at : (r : List Lexeme) → AllAt P r → FaultAt P (unknown r)
  unknown-at [] h = tt
  unknown-at (q ∷ r) h = unknown-by (is_allowed (q ∷ r)) _ q.at h.0

  unexpected-at : (o : List Lexeme) (p : Lexeme) → P p.at → FaultAt P (unexpected o p)
  unexpected-at [] p h = h
  unexpected-at (x ∷ o) p h = tt

  nameless-shape : (s : Shape) (p : Lexeme) → P p.at → FaultAt P (nameless_by s p)
  nameless-shape Shape.bare_at p h = h
  nameless-shape _ p h = tt

  nameless-at : (r : List Lexeme) (p : Lexeme) → P p.at → FaultAt P (nameless r p)
  nameless-at [] p h = nameless-shape (shape p) p h
  nameless-at (q ∷ r) p h = tt

  deep-by : (b : Bool) (k : SyntaxKind) (n : ℕ) → P n → FaultAt P (cond b (fault_at k n) None)
  deep-by true k n h = h
  deep-by false k n h = tt

  fits-at : (t : Turn) (o r : List Lexeme) (p : Lexeme) → AllAt P r → P p.at → FaultAt P (fits_by o r p t)
  fits-at (within aw) o r p h k = nameless-at r p k
  fits-at gap o r p h k = tt
  fits-at alone o r p h k = tt
  fits-at ends o r p h k = unknown-at r h
  fits-at closes o r p h k = first-at (unknown r) (unexpected o p) (unknown-at r h) (unexpected-at o p k)
  fits-at opens o r p h k = deep-by _ _ p.at k

  last-at : (q : Lexeme) (aw : List Lexeme) → AllAt P (q ∷ aw) → P (last_at q aw)
  last-at q [] h = h.0
  last-at q (p ∷ aw) h = last-at p aw h.1

  awaited-at : (aw : List Lexeme) → AllAt P aw → FaultAt P (unclosed_awaited aw)
  awaited-at [] h = tt
  awaited-at (q ∷ aw) h = last-at q aw h

  opened-at : (o : List Lexeme) → AllAt P o → FaultAt P (unclosed_opened o)
  opened-at [] h = tt
  opened-at (q ∷ o) h = h.0

  outer-at : (o : List Lexeme) → AllAt P o → AllAt P (outer o)
  outer-at [] h = tt
  outer-at (x ∷ o) h = h.1

  -- what a turn awaits
  abbrev Awaits : Turn → Type 0
  Awaits (within aw) = AllAt P aw
  Awaits gap = Unit {0}
  Awaits alone = Unit {0}
  Awaits ends = Unit {0}
  Awaits closes = Unit {0}
  Awaits opens = Unit {0}

  closing-by : (b : Bool) (q : Lexeme) (aw : List Lexeme) → AllAt P (q ∷ aw) → AllAt P (cond b aw (q ∷ aw))
  closing-by true q aw h = h.1
  closing-by false q aw h = h

  idle-awaits : (p : Lexeme) (s : Shape) → P p.at → Awaits (idle p s)
  idle-awaits p Shape.space k = tt
  idle-awaits p Shape.semicolon k = tt
  idle-awaits p Shape.comment k = tt
  idle-awaits p Shape.brace_close k = tt
  idle-awaits p Shape.brace_open k = tt
  idle-awaits p (Shape.left b) k = (k, tt)
  idle-awaits p _ k = tt

  busy-awaits : (c : Bool) (aw : List Lexeme) (p : Lexeme) (s : Shape) → AllAt P aw → P p.at → Awaits (busy c aw p s)
  busy-awaits c aw p (Shape.left b) h k = (k, h)
  busy-awaits c [] p (Shape.right b) h k = tt
  busy-awaits c (q ∷ aw) p (Shape.right b) h k = closing-by (awaits (shape q) (Shape.right b)) q aw h
  busy-awaits true aw p Shape.brace_open h k = (k, h)
  busy-awaits false [] p Shape.brace_open h k = tt
  busy-awaits false (q ∷ aw) p Shape.brace_open h k = h
  busy-awaits c [] p Shape.brace_close h k = tt
  busy-awaits c (q ∷ aw) p Shape.brace_close h k = closing-by (awaits (shape q) Shape.brace_close) q aw h
  busy-awaits c [] p Shape.semicolon h k = tt
  busy-awaits c (q ∷ aw) p Shape.semicolon h k = h
  busy-awaits c aw p _ h k = h

  turn-awaits : (r aw : List Lexeme) (p : Lexeme) → AllAt P aw → P p.at → Awaits (turn r aw p)
  unfolding turn
  turn-awaits [] aw p h k = idle-awaits p (shape p) k
  turn-awaits (q ∷ r) aw p h k = busy-awaits (is_custom (q ∷ r)) aw p (shape p) h k

  or-at : (f g : Option Fault) → FaultAt P f → FaultAt P g → FaultAt P (elim f [ Some x ↦ Some x | None ↦ g ])
  or-at (Some f) g h k = h
  or-at None g h k = k

  next-at : (t : Turn) (o r : List Lexeme) (p : Lexeme) (ps : List Lexeme) (lex : Option Fault) → AllAt P o → AllAt P r → P p.at → Awaits t
      → ((o aw r : List Lexeme) → AllAt P o → AllAt P aw → AllAt P r → FaultAt P (fault_from (state o aw r) ps lex)) → FaultAt P (fault_from (step_by o r p t) ps lex)
  next-at (within aw) o r p ps lex ho hr hp ha ih = ih o aw (r ++ p ∷ []) ho ha (all-snoc r p hr hp)
  next-at gap o r p ps lex ho hr hp ha ih = ih o [] [] ho tt tt
  next-at alone o r p ps lex ho hr hp ha ih = ih o [] [] ho tt tt
  next-at ends o r p ps lex ho hr hp ha ih = ih o [] [] ho tt tt
  next-at closes o r p ps lex ho hr hp ha ih = ih (outer o) [] [] (outer-at o ho) tt tt
  next-at opens o r p ps lex ho hr hp ha ih = ih (p ∷ o) [] [] (hp, ho) tt tt

  end-at : (lex : Option Fault) (o aw r : List Lexeme) → FaultAt P lex → AllAt P o → AllAt P aw → AllAt P r → FaultAt P (end_fault lex (state o aw r))
  end-at (Some f) o aw r l ho ha hr = l
  end-at None o aw r l ho ha hr = first-at (unclosed_awaited aw) _ (awaited-at aw ha) (first-at (unknown r) (unclosed_opened o) (unknown-at r hr) (opened-at o ho))

  from-at : (ps : List Lexeme) (lex : Option Fault) (o aw r : List Lexeme) → AllAt P ps → FaultAt P lex → AllAt P o → AllAt P aw → AllAt P r → FaultAt P (fault_from (state o aw r) ps lex)
  unfolding fault_from
  from-at [] lex o aw r hp l ho ha hr = end-at lex o aw r l ho ha hr
  from-at (p ∷ ps) lex o aw r hp l ho ha hr =
      or-at (fits_by o r p (turn r aw p)) (fault_from (step_by o r p (turn r aw p)) ps lex) (fits-at (turn r aw p) o r p hr hp.0)
      (next-at (turn r aw p) o r p ps lex ho hr hp.0 (turn-awaits r aw p ha hp.0) (λ o aw r ho ha hr. from-at ps lex o aw r hp.1 l ho ha hr))

  lexical-at : (at : ℕ) (u : Option Unclosed) → P at → FaultAt P (lexical_at at u)
  lexical-at at None h = tt
  lexical-at at (Some u) h = h

at-of : (bs : List ℕ) (ps : List Lexeme) → AllSit bs ps → AllAt (IsCharBoundary bs) ps
at-of bs [] h = tt
at-of bs (p ∷ ps) h = (h.0.low, at-of bs ps h.1)

-- a text may be cut where its fault stands
pub fault-boundary : (bs : List ℕ) (f : Fault) → IsUtf8 bs → fault (chars bs) ≡ Some f → IsCharBoundary bs f.at
unfolding fault lexical_fault
fault-boundary bs f u e =
    let k = pieces-sit bs u in
    let s = chars bs in
    subst (FaultAt (IsCharBoundary bs)) e
    (from-at (IsCharBoundary bs) (pieces_of s) (lexical_at (last_end (bom_len s) (pieces_of s)) (cut (without_bom s)).fault) [] [] [] (at-of bs (pieces_of s) k.0)
    (lexical-at (IsCharBoundary bs) (last_end (bom_len s) (pieces_of s)) (cut (without_bom s)).fault (last-boundary bs (pieces_of s) (bom_len s) k.1 k.0)) tt tt tt)
