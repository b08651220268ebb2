-- Pieces of a plain statement that the machine keeps in its run.
use Rattle.std.proofs.Common.{◌≡◌, ℕ, suc, ◌+◌, Bool, false, List, [], ◌∷◌, ◌++◌, None, Ok, length, refl, ap, sym, subst, arith}
use Rattle.std.specs.Str.{IsUtf8}
use Rattle.css_text.specs.declared.lexer.PieceKind.{PieceKind}
use Rattle.css_text.specs.Found.{first_at}
use Rattle.css_text.proofs.Transport.{AllLow}
use Rattle.css_tree.specs.Pieces.{Lexeme, Shape, round, shape, is_blank, is_blank_shape, end_of, last_end}
use Rattle.css_tree.specs.Turn.{within, turn, idle, busy, is_custom}
use Rattle.css_tree.specs.Fault.{nameless, nameless_by}
use Rattle.css_parse.specs.Machine.{Machine}
use Rattle.css_parse.specs.Standing.{Stand}
use Rattle.css_parse.proofs.PlainSteps.{At, piece_of, stepped}

-- with these pieces in progress, and these awaited
abbrev pub in_run : Machine → List Lexeme → List Lexeme → Machine
in_run m r aw = record m { run = r; awaited = aw }

abbrev pub with_run : Machine → List Lexeme → Machine
with_run m r = in_run m r []

-- pieces that stand there, up to that byte
pub record Run (bs : List ℕ) (from to : ℕ) (ps : List Lexeme) : Type 0 where
  pub stand : Stand bs from ps
  pub end : last_end from ps ≡ to

pub run-none : (bs : List ℕ) (at : ℕ) → Run bs at at []
run-none bs at = record { stand = tt; end = refl }

pub run-append : (bs : List ℕ) (a b c : ℕ) (ps qs : List Lexeme) → Run bs a b ps → Run bs b c qs → Run bs a c (ps ++ qs)
run-append bs a b c [] qs x y = subst (λ z. Run bs z c qs) (sym x.end) y
run-append bs a b c (p ∷ ps) qs x y =
    let h : Run bs (end_of p) c (ps ++ qs) = run-append bs (end_of p) b c ps qs (record { stand = x.stand.2; end = x.end }) y in
    record { stand = (x.stand.0, x.stand.1, h.stand); end = h.end }

-- pieces that are kept within a statement
abbrev pub IsKept : Shape → Type 0
IsKept Shape.space = Unit {0}
IsKept Shape.colon = Unit {0}
IsKept Shape.word = Unit {0}
IsKept Shape.other = Unit {0}
IsKept _ = ⊥

busy-kept : (custom : Bool) (aw : List Lexeme) (q : Lexeme) (s : Shape) → IsKept s → busy custom aw q s ≡ within aw
busy-kept custom aw q Shape.space k = refl
busy-kept custom aw q Shape.colon k = refl
busy-kept custom aw q Shape.word k = refl
busy-kept custom aw q Shape.other k = refl
busy-kept custom aw q _ k = absurd k

idle-kept : (q : Lexeme) (s : Shape) → IsKept s → is_blank_shape s ≡ false → (idle q s ≡ within []) × (nameless_by s q ≡ None)
idle-kept q Shape.space k b = absurd (cc)
idle-kept q Shape.colon k b = (refl, refl)
idle-kept q Shape.word k b = (refl, refl)
idle-kept q Shape.other k b = (refl, refl)
idle-kept q _ k b = absurd k

-- a statement begins with no blank
abbrev pub Fits : List Lexeme → Lexeme → Type 0
Fits r q = (r ≡ [] → is_blank q ≡ false)

-- nothing is awaited where nothing is in progress
abbrev pub Idle : List Lexeme → List Lexeme → Type 0
Idle r aw = (r ≡ [] → aw ≡ [])

-- a piece after which these are awaited
abbrev pub Stays : List Lexeme → List Lexeme → Lexeme → List Lexeme → Type 0
Stays r aw q aw' = (turn r aw q ≡ within aw') × (nameless r q ≡ None)

turn-kept : (r aw : List Lexeme) (q : Lexeme) → Idle r aw → Fits r q → IsKept (shape q) → Stays r aw q aw
unfolding turn is_blank
turn-kept [] aw q i n k = rw (i refl) (idle-kept q (shape q) k (n refl))
turn-kept (x ∷ r) aw q i n k = (busy-kept (is_custom (x ∷ r)) aw q (shape q) k, refl)

-- Opening round brackets are awaited, and nothing else.
abbrev pub AreRound : List Lexeme → Type 0
AreRound [] = Unit {0}
AreRound (p ∷ ps) = (shape p ≡ Shape.left round) × AreRound ps

pub turn-open : (r aw : List Lexeme) (q : Lexeme) → Idle r aw → shape q ≡ Shape.left round → Stays r aw q (q ∷ aw)
unfolding turn
turn-open [] aw q i e = rw (i refl, e) (refl, refl)
turn-open (x ∷ r) aw q i e = rw e (refl, refl)

pub turn-close : (r : List Lexeme) (p : Lexeme) (aw : List Lexeme) (q : Lexeme) → Idle r (p ∷ aw) → shape p ≡ Shape.left round → shape q ≡ Shape.right round → Stays r (p ∷ aw) q aw
unfolding turn
turn-close [] p aw q i f e = absurd (omega (arith, ap length (i refl)))
turn-close (x ∷ r) p aw q i f e = rw (e, f) (refl, refl)

-- one piece more in the run, behind which these are awaited
pub record Kept (s bs : List ℕ) (m : Machine) (r aw : List Lexeme) (at : ℕ) (q : Lexeme) (t rest : List ℕ) : Type 0 where
  pub next : At s bs (in_run m (r ++ q ∷ []) aw) (at + length t) rest
  pub run : Run bs at (at + length t) (q ∷ [])

pub stays : (s bs : List ℕ) (m : Machine) (r aw aw' : List Lexeme) (at : ℕ) (kind : PieceKind) (c : ℕ) (t rest : List ℕ) → IsUtf8 bs → AllLow (c ∷ t) → At s bs (in_run m r aw) at (c ∷ (t ++ rest))
    → first_at at (c ∷ (t ++ rest)) ≡ Ok (kind, at + suc (length t)) → (Idle r aw → Stays r aw (piece_of kind at (c ∷ t)) aw') → Kept s bs m r aw' at (piece_of kind at (c ∷ t)) (c ∷ t) rest
stays s bs m r aw aw' at kind c t rest u low h f g =
    let e = g h.reading.ready.idle in
    let x = stepped s bs (in_run m r aw) at kind c t rest u low h (within aw') f e.0 e.1 in
    record { next = x.next; run = record { stand = (refl, x.slice, tt); end = x.end } }

pub kept : (s bs : List ℕ) (m : Machine) (r aw : List Lexeme) (at : ℕ) (kind : PieceKind) (c : ℕ) (t rest : List ℕ) → IsUtf8 bs → AllLow (c ∷ t) → At s bs (in_run m r aw) at (c ∷ (t ++ rest))
    → first_at at (c ∷ (t ++ rest)) ≡ Ok (kind, at + suc (length t)) → Fits r (piece_of kind at (c ∷ t)) → IsKept (shape (piece_of kind at (c ∷ t)))
    → Kept s bs m r aw at (piece_of kind at (c ∷ t)) (c ∷ t) rest
kept s bs m r aw at kind c t rest u low h f n k = stays s bs m r aw aw at kind c t rest u low h f (λ i. turn-kept r aw (piece_of kind at (c ∷ t)) i n k)
