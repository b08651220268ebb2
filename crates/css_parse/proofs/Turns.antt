-- Steps and turns.
use Rattle.std.proofs.Common.{◌≡◌, ℕ, zero, suc, false, ◌==◌, ◌<◌, List, [], ◌∷◌, ◌++◌, Bool, length, reverse, get_or, refl, ◌∙◌, sym, ap, subst, arith}
use Rattle.std.proofs.lemmas.List.{reverse-append}
use Rattle.css_tree.specs.declared.fault.SyntaxKind.TheVariants as K
use Rattle.css_tree.specs.Pieces.{Lexeme, Shape as S, Bracket, shape}
use Rattle.css_tree.specs.Turn.{within, turn, idle, busy, is_custom}
use Rattle.css_tree.specs.Fault.{unclosed_awaited, last_at, fault_at}
use Rattle.css_parse.specs.declared.turn.Step.{Step}
use Rattle.css_parse.specs.Steps.{IsStep, IsClosing}

right_step : (b : Bracket) (st : Step) (custom : Bool) (aw : List Lexeme) (p : Lexeme) → IsClosing st aw p (S.right b) → IsStep st (busy custom aw p (S.right b)) aw p
right_step b st custom [] p h = subst (λ z. IsStep z (within []) [] p) (sym h) refl
right_step b st custom (q ∷ aw) p h = h

pub right_at : (s : S) (b : Bracket) (st : Step) (custom : Bool) (aw : List Lexeme) (p : Lexeme) → s ≡ S.right b → IsClosing st aw p s → IsStep st (busy custom aw p s) aw p
right_at s b st custom aw p e h = subst (λ z. IsStep st (busy custom aw p z) aw p) (sym e) (right_step b st custom aw p (subst (λ z. IsClosing st aw p z) e h))

brace_step : (st : Step) (custom : Bool) (aw : List Lexeme) (p : Lexeme) → (aw ≡ [] → ⊥) → IsClosing st aw p S.brace_close → IsStep st (busy custom aw p S.brace_close) aw p
brace_step st custom [] p n h = absurd (n refl)
brace_step st custom (q ∷ aw) p n h = h

pub brace_at : (s : S) (st : Step) (custom : Bool) (aw : List Lexeme) (p : Lexeme) → s ≡ S.brace_close → (aw ≡ [] → ⊥) → IsClosing st aw p s → IsStep st (busy custom aw p s) aw p
brace_at s st custom aw p e n h = subst (λ z. IsStep st (busy custom aw p z) aw p) (sym e) (brace_step st custom aw p n (subst (λ z. IsClosing st aw p z) e h))

pub reverse-some : (xs : List Lexeme) → 0 < length xs → reverse xs ≡ [] → ⊥
reverse-some [] l e = omega (arith, l)
reverse-some (x ∷ xs) l e = snoc-full (reverse xs) x (sym (reverse-append (x ∷ []) xs) ∙ e)
  where
    snoc-full : (r : List Lexeme) (p : Lexeme) → r ++ p ∷ [] ≡ [] → ⊥
    snoc-full [] p e = cc
    snoc-full (q ∷ r) p e = cc

pub idle_turn : (st : Step) (run aw : List Lexeme) (p : Lexeme) (s : S) → run ≡ [] → aw ≡ [] → shape p ≡ s → IsStep st (idle p s) [] p → IsStep st (turn run aw p) aw p
unfolding turn
idle_turn st run aw p s e f g h = rw (e, f, g) h

pub busy_turn : (st : Step) (run aw : List Lexeme) (p : Lexeme) (s : S) (custom : Bool) → (run ≡ [] → ⊥) → custom ≡ is_custom run → shape p ≡ s → IsStep st (busy custom aw p s) aw p → IsStep st (turn run aw p) aw p
unfolding turn
busy_turn st [] aw p s custom n e g h = absurd (n refl)
busy_turn st (q ∷ r) aw p s custom n e g h = rw (g, sym e) h

-- The outermost bracket that is awaited.

last_at-snoc : (q x : Lexeme) (r : List Lexeme) → last_at q (r ++ x ∷ []) ≡ x.at
last_at-snoc q x [] = refl
last_at-snoc q x (p ∷ r) = last_at-snoc p x r

unclosed-snoc : (r : List Lexeme) (x : Lexeme) → unclosed_awaited (r ++ x ∷ []) ≡ fault_at K.UnclosedBracket x.at
unclosed-snoc [] x = refl
unclosed-snoc (q ∷ r) x = ap (λ z. fault_at K.UnclosedBracket z) (last_at-snoc q x r)

pub unclosed_reverse : (xs : List Lexeme) (d : Lexeme) → 0 < length xs → unclosed_awaited (reverse xs) ≡ fault_at K.UnclosedBracket (get_or xs 0 d).at
unclosed_reverse [] d l = absurd (omega arith)
unclosed_reverse (x ∷ xs) d l = ap unclosed_awaited (reverse-append (x ∷ []) xs) ∙ unclosed-snoc (reverse xs) x

pub some_length : (n : ℕ) → false ≡ (n == 0) → 0 < n
some_length zero e = absurd (cc)
some_length (suc n) e = omega arith
