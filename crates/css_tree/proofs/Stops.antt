-- The fault of a text is the one that is found at the first place where one is.
use Rattle.std.proofs.Common.{◌≡◌, ◌≤◌, ◌<◌, ℕ, suc, zero, List, [], ◌∷◌, Option, Some, None, length, take, drop, refl, ◌∙◌, sym, ap, arith}
use Rattle.css_tree.specs.Pieces.{Lexeme, pieces_of}
use Rattle.css_tree.specs.Fault.{Fault, State, begin, after, step, fits, end_fault, fault_from, stop_from, lexical_fault, stop, fault}
use Rattle.css_tree.specs.Laws.{found_next, Stops, FaultAtStop}

abbrev row : State → List Lexeme → Option Fault → ℕ → Option Fault
row s ps lexical k = found_next (after s (take k ps)) (drop k ps) lexical

abbrev StopsFrom : State → List Lexeme → Option Fault → Option ℕ → Type 0
StopsFrom s ps lexical None = (k : ℕ) → k ≤ length ps → row s ps lexical k ≡ None
StopsFrom s ps lexical (Some n) = (n ≤ length ps) × ((k : ℕ) → k < n → row s ps lexical k ≡ None) × (row s ps lexical n ≡ fault_from s ps lexical) × (fault_from s ps lexical ≡ None → ⊥)

some-none : (f : Fault) → ◌≡◌ {A = Option Fault} (Some f) None → ⊥
some-none f e = cc

row-zero : (s : State) (ps : List Lexeme) (lexical : Option Fault) → row s ps lexical 0 ≡ found_next s ps lexical
unfolding after
row-zero s [] lexical = refl
row-zero s (p ∷ ps) lexical = refl

row-suc : (s : State) (p : Lexeme) (ps : List Lexeme) (lexical : Option Fault) (k : ℕ) → row s (p ∷ ps) lexical (suc k) ≡ row (step s p) ps lexical k
unfolding after
row-suc s p ps lexical k = refl

row-nil : (s : State) (lexical : Option Fault) (k : ℕ) → k ≤ 0 → row s [] lexical k ≡ end_fault lexical s
unfolding after
row-nil s lexical zero h = refl
row-nil s lexical (suc k) h = absurd (omega arith)

nil-stops : (s : State) (lexical x : Option Fault) → end_fault lexical s ≡ x → StopsFrom s [] lexical (elim x [ Some f ↦ Some 0 | None ↦ None ])
unfolding fault_from
nil-stops s lexical (Some f) e = (omega arith, λ k h. absurd (omega arith), row-zero s [] lexical, λ h. some-none f (sym e ∙ h))
nil-stops s lexical None e = λ k h. row-nil s lexical k h ∙ e

here-fault : (s : State) (p : Lexeme) (ps : List Lexeme) (lexical : Option Fault) (f : Fault) → fits s p ≡ Some f → fault_from s (p ∷ ps) lexical ≡ Some f
unfolding fault_from
here-fault s p ps lexical f e = ap (λ z. elim z [ Some f ↦ Some f | None ↦ fault_from (step s p) ps lexical ]) e

later-fault : (s : State) (p : Lexeme) (ps : List Lexeme) (lexical : Option Fault) → fits s p ≡ None → fault_from s (p ∷ ps) lexical ≡ fault_from (step s p) ps lexical
unfolding fault_from
later-fault s p ps lexical e = ap (λ z. elim z [ Some f ↦ Some f | None ↦ fault_from (step s p) ps lexical ]) e

rows-before : (s : State) (p : Lexeme) (ps : List Lexeme) (lexical : Option Fault) (n : ℕ) → fits s p ≡ None → ((k : ℕ) → k < n → row (step s p) ps lexical k ≡ None)
    → (k : ℕ) → k < suc n → row s (p ∷ ps) lexical k ≡ None
rows-before s p ps lexical n e h zero l = row-zero s (p ∷ ps) lexical ∙ e
rows-before s p ps lexical n e h (suc k) l = row-suc s p ps lexical k ∙ h k (omega arith)

rows-none : (s : State) (p : Lexeme) (ps : List Lexeme) (lexical : Option Fault) → fits s p ≡ None → ((k : ℕ) → k ≤ length ps → row (step s p) ps lexical k ≡ None)
    → (k : ℕ) → k ≤ length (p ∷ ps) → row s (p ∷ ps) lexical k ≡ None
rows-none s p ps lexical e h zero l = row-zero s (p ∷ ps) lexical ∙ e
rows-none s p ps lexical e h (suc k) l = row-suc s p ps lexical k ∙ h k (omega arith)

later-stops : (s : State) (p : Lexeme) (ps : List Lexeme) (lexical : Option Fault) (n : Option ℕ) → fits s p ≡ None → StopsFrom (step s p) ps lexical n
    → StopsFrom s (p ∷ ps) lexical (elim n [ Some k ↦ Some (suc k) | None ↦ None ])
later-stops s p ps lexical None e h = rows-none s p ps lexical e h
later-stops s p ps lexical (Some n) e h =
    let l : suc n ≤ length (p ∷ ps) = omega (arith, h.0) in
    (l, rows-before s p ps lexical n e h.1, row-suc s p ps lexical n ∙ (h.2 ∙ sym (later-fault s p ps lexical e)), λ k. h.3 (sym (later-fault s p ps lexical e) ∙ k))

cons-stops : (s : State) (p : Lexeme) (ps : List Lexeme) (lexical x : Option Fault) (n : Option ℕ) → fits s p ≡ x → StopsFrom (step s p) ps lexical n
    → StopsFrom s (p ∷ ps) lexical (elim x [ Some f ↦ Some 0 | None ↦ elim n [ Some k ↦ Some (suc k) | None ↦ None ] ])
cons-stops s p ps lexical (Some f) n e h =
    (omega arith, λ k l. absurd (omega arith), row-zero s (p ∷ ps) lexical ∙ (e ∙ sym (here-fault s p ps lexical f e)), λ k. some-none f (sym (here-fault s p ps lexical f e) ∙ k))
cons-stops s p ps lexical None n e h = later-stops s p ps lexical n e h

stops-from : (ps : List Lexeme) (s : State) (lexical : Option Fault) → StopsFrom s ps lexical (stop_from s ps lexical)
unfolding stop_from
stops-from [] s lexical = nil-stops s lexical (end_fault lexical s) refl
stops-from (p ∷ ps) s lexical = cons-stops s p ps lexical (fits s p) (stop_from (step s p) ps lexical) refl (stops-from ps (step s p) lexical)

stops-text : (s : List ℕ) (n : Option ℕ) → StopsFrom begin (pieces_of s) (lexical_fault s) n → Stops s n
unfolding fault
stops-text s None h = h
stops-text s (Some n) h = h

pub fault_at_stop : FaultAtStop
unfolding stop
fault_at_stop s = stops-text s _ (stops-from (pieces_of s) begin (lexical_fault s))
