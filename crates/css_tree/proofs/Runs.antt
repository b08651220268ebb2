-- Runs of pieces: trailing blanks, what is awaited, and what a turn tells.
use Rattle.std.proofs.Common.{◌≡◌, List, [], ◌∷◌, ◌++◌, Option, Some, Bool, true, false, refl, ◌∙◌, sym, ap, append_assoc, append-nil}
use Rattle.css_tree.specs.Pieces.{Lexeme, Shape, shape, is_blank, is_blank_shape}
use Rattle.css_tree.specs.Turn.{Turn, within, gap, alone, ends, closes, opens, turn, idle, busy, is_custom, is_allowed, allowed_by, colon_next, colon_by}
use Rattle.css_tree.specs.Nodes.{go_on, awaited_after, is_gap_shape, line}
use Rattle.css_tree.specs.Classes.{Each, EndsWithout}
use Rattle.css_tree.proofs.Split.{solid, solid_by, tail, tail_by, keep, keep_tail}
use Rattle.css_tree.proofs.Reader.{Group, settle, settle_by}

pub each-append : (t : Lexeme → Bool) (xs ys : List Lexeme) → Each t xs → Each t ys → Each t (xs ++ ys)
each-append t [] ys a b = b
each-append t (x ∷ xs) ys a b = (a.0, each-append t xs ys a.1 b)

keep-both : (b : Bool) (p : Lexeme) (s t ps : List Lexeme) → s ++ t ≡ ps → keep b p s ++ keep_tail b p s t ≡ p ∷ ps
keep-both true p [] t ps e = ap (λ x. p ∷ x) e
keep-both true p (q ∷ s) t ps e = ap (λ x. p ∷ x) e
keep-both false p s t ps e = ap (λ x. p ∷ x) e

pub solid-tail : (ps : List Lexeme) → solid ps ++ tail ps ≡ ps
unfolding solid_by tail_by
solid-tail [] = refl
solid-tail (p ∷ ps) = keep-both (is_blank p) p (solid ps) (tail ps) ps (solid-tail ps)

keep_tail-blank : (b : Bool) (p : Lexeme) (s t : List Lexeme) → is_blank p ≡ b → Each is_blank t → Each is_blank (keep_tail b p s t)
keep_tail-blank true p [] t e h = (e, h)
keep_tail-blank true p (q ∷ s) t e h = h
keep_tail-blank false p s t e h = h

pub tail-blank : (ps : List Lexeme) → Each is_blank (tail ps)
unfolding tail_by
tail-blank [] = tt
tail-blank (p ∷ ps) = keep_tail-blank (is_blank p) p (solid ps) (tail ps) refl (tail-blank ps)

keep-solid : (b : Bool) (p : Lexeme) (s : List Lexeme) → is_blank p ≡ b → solid s ≡ s → solid (keep b p s) ≡ keep b p s
unfolding solid_by
keep-solid true p [] e h = refl
keep-solid true p (q ∷ s) e h = rw (e, h)
keep-solid false p s e h = rw (e, h)

pub solid-solid : (ps : List Lexeme) → solid (solid ps) ≡ solid ps
unfolding solid_by
solid-solid [] = refl
solid-solid (p ∷ ps) = keep-solid (is_blank p) p (solid ps) refl (solid-solid ps)

-- a blank within a statement changes nothing
busy-blank : (c : Bool) (aw : List Lexeme) (p : Lexeme) (s : Shape) → is_blank_shape s ≡ true → busy c aw p s ≡ within aw
busy-blank c aw p Shape.space e = refl
busy-blank c aw p Shape.comment e = refl
busy-blank c aw p _ e = absurd (cc)

pub turn-blank : (c : Lexeme) (cs aw : List Lexeme) (p : Lexeme) → is_blank p ≡ true → turn (c ∷ cs) aw p ≡ within aw
unfolding turn is_blank
turn-blank c cs aw p e = busy-blank _ aw p (shape p) e

pub awaited-blank : (bl : List Lexeme) (c : Lexeme) (cs aw : List Lexeme) → Each is_blank bl → awaited_after (c ∷ cs) aw bl ≡ Some aw
unfolding awaited_after
awaited-blank [] c cs aw h = refl
awaited-blank (p ∷ ps) c cs aw h = rw (turn-blank c cs aw p h.0) (awaited-blank ps c (cs ++ p ∷ []) aw h.1)

go_on-cong : (t : Turn) (k l : List Lexeme → Option (List Lexeme)) → ((a : List Lexeme) → k a ≡ l a) → go_on t k ≡ go_on t l
go_on-cong (within aw) k l h = h aw
go_on-cong gap k l h = refl
go_on-cong alone k l h = refl
go_on-cong ends k l h = refl
go_on-cong closes k l h = refl
go_on-cong opens k l h = refl

-- trailing blanks change nothing
awaited-more : (x : List Lexeme) (c : Lexeme) (cs aw bl : List Lexeme) → Each is_blank bl → awaited_after (c ∷ cs) aw (x ++ bl) ≡ awaited_after (c ∷ cs) aw x
unfolding awaited_after
awaited-more [] c cs aw bl h = awaited-blank bl c cs aw h
awaited-more (p ∷ x) c cs aw bl h = go_on-cong (turn (c ∷ cs) aw p) _ _ (λ a. awaited-more x c (cs ++ p ∷ []) a bl h)

pub awaited-trailing : (p : Lexeme) (x bl : List Lexeme) → Each is_blank bl → awaited_after [] [] ((p ∷ x) ++ bl) ≡ awaited_after [] [] (p ∷ x)
unfolding awaited_after
awaited-trailing p x bl h = go_on-cong (turn [] [] p) _ _ (λ a. awaited-more x p [] a bl h)

-- the first of two runs, and then the second
go_on-then : (t : Turn) (k l : List Lexeme → Option (List Lexeme)) (aw : List Lexeme) (z : Option (List Lexeme))
    → go_on t k ≡ Some aw → ((a : List Lexeme) → k a ≡ Some aw → l a ≡ z) → go_on t l ≡ z
go_on-then (within a) k l aw z e h = h a e
go_on-then gap k l aw z e h = absurd (cc)
go_on-then alone k l aw z e h = absurd (cc)
go_on-then ends k l aw z e h = absurd (cc)
go_on-then closes k l aw z e h = absurd (cc)
go_on-then opens k l aw z e h = absurd (cc)

some-inj : {a b : List Lexeme} → Some a ≡ Some b → a ≡ b
some-inj e = cc

pub awaited-append : (x y q aw aw' : List Lexeme) → awaited_after q aw x ≡ Some aw' → awaited_after q aw (x ++ y) ≡ awaited_after (q ++ x) aw' y
unfolding awaited_after
awaited-append [] y q aw aw' e = rw (append-nil q, some-inj e)
awaited-append (p ∷ x) y q aw aw' e =
    go_on-then (turn q aw p) _ _ aw' _ e (λ a h. awaited-append x y (q ++ p ∷ []) a aw' h ∙ ap (λ z. awaited_after z aw' y) (append_assoc q (p ∷ []) x))

colon_by-blank : (s : Shape) → is_blank_shape s ≡ true → colon_by s false ≡ false
colon_by-blank Shape.space e = refl
colon_by-blank Shape.comment e = refl
colon_by-blank _ e = absurd (cc)

colon-blank : (bl : List Lexeme) → Each is_blank bl → colon_next bl ≡ false
unfolding colon_next is_blank
colon-blank [] h = refl
colon-blank (p ∷ ps) h = rw (colon-blank ps h.1) (colon_by-blank (shape p) h.0)

colon-more : (x bl : List Lexeme) → Each is_blank bl → colon_next (x ++ bl) ≡ colon_next x
unfolding colon_next
colon-more [] bl h = colon-blank bl h
colon-more (p ∷ x) bl h = ap (λ c. colon_by (shape p) c) (colon-more x bl h)

pub allowed-trailing : (p : Lexeme) (x bl : List Lexeme) → Each is_blank bl → is_allowed ((p ∷ x) ++ bl) ≡ is_allowed (p ∷ x)
unfolding is_allowed
allowed-trailing p x bl h = ap (λ c. allowed_by (shape p) c) (colon-more x bl h)

-- What a turn tells of the statement in progress, what is awaited, and the piece.
abbrev pub Told : Turn → List Lexeme → List Lexeme → Shape → Type 0
Told (within aw') r aw s = Unit {0}
Told gap r aw s = (r ≡ []) × (is_gap_shape s ≡ true)
Told alone r aw s = (r ≡ []) × (s ≡ Shape.comment)
Told ends r aw s = (aw ≡ []) × (s ≡ Shape.semicolon) × (r ≡ [] → ⊥)
Told closes r aw s = (aw ≡ []) × (s ≡ Shape.brace_close)
Told opens r aw s = (aw ≡ []) × (s ≡ Shape.brace_open) × (is_custom r ≡ false)

told-idle : (p : Lexeme) (s : Shape) → Told (idle p s) [] [] s
unfolding is_custom
told-idle p Shape.space = (refl, refl)
told-idle p Shape.semicolon = (refl, refl)
told-idle p Shape.comment = (refl, refl)
told-idle p Shape.brace_close = (refl, refl)
told-idle p Shape.brace_open = (refl, refl, refl)
told-idle p _ = tt

told-busy : (c : Bool) (q : Lexeme) (r aw : List Lexeme) (p : Lexeme) (s : Shape) → is_custom (q ∷ r) ≡ c → Told (busy c aw p s) (q ∷ r) aw s
told-busy c q r aw p (Shape.left b) e = tt
told-busy c q r [] p (Shape.right b) e = tt
told-busy c q r (x ∷ aw) p (Shape.right b) e = tt
told-busy true q r aw p Shape.brace_open e = tt
told-busy false q r [] p Shape.brace_open e = (refl, refl, e)
told-busy false q r (x ∷ aw) p Shape.brace_open e = tt
told-busy c q r [] p Shape.brace_close e = (refl, refl)
told-busy c q r (x ∷ aw) p Shape.brace_close e = tt
told-busy c q r [] p Shape.semicolon e = (refl, refl, λ h. cc)
told-busy c q r (x ∷ aw) p Shape.semicolon e = tt
told-busy c q r aw p _ e = tt

-- a statement in progress, or none and then nothing is awaited
pub told : (r aw : List Lexeme) (p : Lexeme) → (r ≡ [] → aw ≡ []) → Told (turn r aw p) r aw (shape p)
unfolding turn
told [] aw p h = rw (h refl) (told-idle p (shape p))
told (q ∷ r) aw p h = told-busy (is_custom (q ∷ r)) q r aw p (shape p) refl

settle_by-line : (s : Shape) (g : List Lexeme) (p : Lexeme) (ps : List Lexeme) (k : List Lexeme → Group)
    → ((g' : List Lexeme) → line (k g').nodes ++ (k g').behind ≡ g' ++ ps)
    → line (settle_by s g p k).nodes ++ (settle_by s g p k).behind ≡ g ++ p ∷ ps
unfolding line
settle_by-line Shape.space g p ps k h = h (g ++ p ∷ []) ∙ append_assoc g (p ∷ []) ps
settle_by-line _ g p ps k h = append_assoc g (p ∷ line (k []).nodes) (k []).behind ∙ ap (λ x. g ++ p ∷ x) (h [])

pub settle-line : (bl g : List Lexeme) → line (settle g bl).nodes ++ (settle g bl).behind ≡ g ++ bl
unfolding settle line
settle-line [] g = sym (append-nil g)
settle-line (p ∷ ps) g = settle_by-line (shape p) g p ps (λ g'. settle g' ps) (settle-line ps)

-- The end of a run.

keep-cons : (b : Bool) (p q : Lexeme) (r : List Lexeme) → keep b p (q ∷ r) ≡ p ∷ q ∷ r
keep-cons true p q r = refl
keep-cons false p q r = refl

pub ends-solid : (r : List Lexeme) → EndsWithout is_blank r → solid r ≡ r
unfolding solid_by
ends-solid [] h = refl
ends-solid (p ∷ []) h = rw h refl
ends-solid (p ∷ q ∷ r) h = ap (λ z. keep (is_blank p) p z) (ends-solid (q ∷ r) h) ∙ keep-cons (is_blank p) p q r

keep-ends : (b : Bool) (p : Lexeme) (s : List Lexeme) → is_blank p ≡ b → EndsWithout is_blank s → EndsWithout is_blank (keep b p s)
keep-ends true p [] e h = tt
keep-ends true p (q ∷ s) e h = h
keep-ends false p [] e h = e
keep-ends false p (q ∷ s) e h = h

pub solid-ends : (r : List Lexeme) → EndsWithout is_blank (solid r)
unfolding solid_by
solid-ends [] = tt
solid-ends (p ∷ r) = keep-ends (is_blank p) p (solid r) refl (solid-ends r)
