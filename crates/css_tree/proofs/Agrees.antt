-- The reader fails exactly with the fault of the definition.
use Rattle.std.proofs.Common.{◌≡◌, List, [], ◌∷◌, ◌++◌, Option, Some, None, refl, ◌∙◌}
use Rattle.css_tree.specs.Pieces.{Lexeme}
use Rattle.css_tree.specs.Turn.{Turn, within, gap, alone, ends, closes, opens, turn}
use Rattle.css_tree.specs.Fault.{Fault, State, state, end_fault, outer, step_by, fault_from}
use Rattle.css_tree.proofs.Reader.{Rest, Outcome, fails, ok, map_ok, checked, act, outcome}

abbrev pub fault_in : Outcome → Option Fault
fault_in (fails f) = Some f
fault_in (ok r) = None

in-map : (h : Rest → Rest) (x : Outcome) → fault_in (map_ok h x) ≡ fault_in x
in-map h (fails f) = refl
in-map h (ok r) = refl

in-checked_end : (f : Option Fault) (r : Rest) → fault_in (checked f (ok r)) ≡ f
in-checked_end (Some f) r = refl
in-checked_end None r = refl

abbrev or_else : Option Fault → Option Fault → Option Fault
or_else f g = elim f [ Some x ↦ Some x | None ↦ g ]

end-lem : (lex : Option Fault) (s : State) → end_fault lex s ≡ end_fault lex s
end-lem lex s = refl

in-checked : (f : Option Fault) (x : Outcome) (y : Option Fault) → fault_in x ≡ y → fault_in (checked f x) ≡ or_else f y
in-checked (Some f) x y e = refl
in-checked None x y e = e

in-act : (t : Turn) (k : List Lexeme → List Lexeme → List Lexeme → List Lexeme → Outcome) (h : State → Option Fault)
    → ((o g r aw : List Lexeme) → fault_in (k o g r aw) ≡ h (state o aw r))
    → (o g r : List Lexeme) (p : Lexeme) → fault_in (act t k o g r p) ≡ h (step_by o r p t)
in-act (within aw) k h e o g r p = e o g (r ++ p ∷ []) aw
in-act gap k h e o g r p = e o (g ++ p ∷ []) [] []
in-act alone k h e o g r p = in-map _ _ ∙ e o [] [] []
in-act ends k h e o g r p = in-map _ _ ∙ e o [] [] []
in-act closes k h e o g r p = in-map _ _ ∙ e (outer o) [] [] []
in-act opens k h e o g r p = in-map _ _ ∙ e (p ∷ o) [] [] []

-- the fault that the reader fails with is the fault of the definition
pub agrees : (ps : List Lexeme) (lex : Option Fault) (o g r aw : List Lexeme) → fault_in (outcome ps lex o g r aw) ≡ fault_from (state o aw r) ps lex
unfolding outcome fault_from
agrees [] lex o g r aw = in-checked_end _ _
agrees (p ∷ ps) lex o g r aw =
    in-checked _ _ _ (in-act (turn r aw p) (λ o' g' r' aw'. outcome ps lex o' g' r' aw') (λ s. fault_from s ps lex) (agrees ps lex) o g r p)
