-- A text has at most one list of parts.
use Rattle.std.proofs.Common.{◌≡◌, ℕ, suc, ◌+◌, ◌<◌, Bool, true, false, List, [], ◌∷◌, ◌++◌, length, refl, ap, sym, ◌∙◌, subst, arith, append_assoc}
use Rattle.css_text.specs.declared.lexer.PieceKind.{PieceKind}
use Rattle.css_text.specs.declared.lexer.PieceKind.TheVariants.{Word, Single}
use Rattle.css_text.specs.Characters.{is_space, is_quote, is_single}
use Rattle.css_text.specs.Forms.{begins, begins_url}
use Rattle.css_text.specs.Ahead.{byte_len}
use Rattle.css_text.specs.ValueParts.{ends_value, part, first_part, ValueForm, plain, function, ValueParts, none, value, ending, written, StandsBefore, most_depth, StaysPlain, IsName, EndsThere, AreParts, Stops, StandAt, IsValue}

-- a parenthesis stands for itself
pub first_open : (v : List ℕ) → first_part 40 v ≡ part Single 0
unfolding first_part ends_value begins_url is_space is_quote is_single
first_open v = refl

pub first_close : (v : List ℕ) → first_part 41 v ≡ part Single 0
unfolding first_part ends_value begins_url is_space is_quote is_single
first_close v = refl

head_same : (c d : ℕ) (s t : List ℕ) → c ∷ s ≡ d ∷ t → c ≡ d
head_same c d s t e = cc

tail_same : (c d : ℕ) (s t : List ℕ) → c ∷ s ≡ d ∷ t → s ≡ t
tail_same c d s t e = cc

nil_cons : (c : ℕ) (s : List ℕ) → ◌≡◌ {A = List ℕ} [] (c ∷ s) → ⊥
nil_cons c s e = cc

record Halves (s t x y : List ℕ) : Type 0 where
  pub front : s ≡ t
  pub back : x ≡ y

-- texts of one length at the front of equal texts
halves : (s t x y : List ℕ) → length s ≡ length t → s ++ x ≡ t ++ y → Halves s t x y
halves [] [] x y l e = record { front = refl; back = e }
halves [] (d ∷ t) x y l e = absurd (omega arith)
halves (c ∷ s) [] x y l e = absurd (omega arith)
halves (c ∷ s) (d ∷ t) x y l e =
    let h = halves s t x y (omega arith) (tail_same c d (s ++ x) (t ++ y) e) in
    let f = head_same c d (s ++ x) (t ++ y) e in
    record { front = cc; back = h.back }

-- two forms at the start of one text are one
record Same (k k' : PieceKind) (t t' w w' : List ℕ) : Type 0 where
  pub kind : k ≡ k'
  pub text : t ≡ t'
  pub rest : w ≡ w'

same : (k k' : PieceKind) (t t' w w' : List ℕ) → StandsBefore k t w → StandsBefore k' t' w' → t ++ w ≡ t' ++ w' → Same k k' t t' w w'
same k k' [] t' w w' a b e = absurd a
same k k' (c ∷ s) [] w w' a b e = absurd b
same k k' (c ∷ s) (d ∷ t) w w' a b e =
    let f = head_same c d (s ++ w) (t ++ w') e in
    let g = tail_same c d (s ++ w) (t ++ w') e in
    let p : part k (length s) ≡ part k' (length t) = sym a ∙ ap (λ x. first_part x (s ++ w)) f ∙ ap (first_part d) g ∙ b in
    let h = halves s t w w' (ap (λ x. x.1) p) g in
    record { kind = ap (λ x. x.0) p; text = ap (λ x. x ∷ s) f ∙ ap (λ x. d ∷ x) h.front; rest = h.back }

-- a form at a parenthesis is a Single
single : (k : PieceKind) (t w : List ℕ) (c : ℕ) (v : List ℕ) → first_part c v ≡ part Single 0 → StandsBefore k t w → t ++ w ≡ c ∷ v → Same k Single t (c ∷ []) w v
single k t w c v f a e = same k Single t (c ∷ []) w v a f e

plain_open : (d : ℕ) (k : PieceKind) (t w v : List ℕ) → StandsBefore k t w → StaysPlain d k t w → t ++ w ≡ 40 ∷ v → d ≡ most_depth
plain_open d k t w v a h e = let s = single k t w 40 v (first_open v) a e in let p = subst (λ x. StaysPlain d x t w) s.kind h in p.0 s.text

plain_close : (d : ℕ) (k : PieceKind) (t w v : List ℕ) → StandsBefore k t w → StaysPlain d k t w → t ++ w ≡ 41 ∷ v → d ≡ 0
plain_close d k t w v a h e = let s = single k t w 41 v (first_close v) a e in let p = subst (λ x. StaysPlain d x t w) s.kind h in p.1 s.text

word_single : Word ≡ Single → ⊥
word_single e = cc

-- a name begins with no parenthesis
name_paren : (t w : List ℕ) (c : ℕ) (v : List ℕ) → first_part c v ≡ part Single 0 → IsName t w → t ++ w ≡ c ∷ v → t ≡ []
name_paren [] w c v f n e = refl
name_paren (d ∷ s) w c v f n e = absurd (word_single (single Word (d ∷ s) w c v f n e).kind)

-- a Function's text isn't empty, and begins with no `)`
function_some : (t v : List ℕ) → [] ≡ t ++ 40 ∷ v → ⊥
function_some [] v e = nil_cons 40 v e
function_some (c ∷ t) v e = nil_cons c (t ++ 40 ∷ v) e

open_close : (v u : List ℕ) → 40 ∷ v ≡ 41 ∷ u → ⊥
open_close v u e = let f = head_same 40 41 v u e in absurd (omega arith)

function_close : (t v u : List ℕ) → IsName t (40 ∷ v) → t ++ 40 ∷ v ≡ 41 ∷ u → ⊥
function_close t v u n e = let f = name_paren t (40 ∷ v) 41 u (first_close u) n e in open_close v u (ap (λ x. x ++ 40 ∷ v) (sym f) ∙ e)

below_most : (d : ℕ) → d < most_depth → d ≡ most_depth → ⊥
below_most d l e = omega arith

-- no text is both a plain part's and a Function's
word_function : (d : ℕ) (k : PieceKind) (t w : List ℕ) (v : List ℕ) → k ≡ Word → w ≡ 40 ∷ v → StaysPlain d k t w → d ≡ most_depth
word_function d k t w v e f h = let p = subst (λ x. StaysPlain d x t w) e h in p (ap (begins 40) f)

plain_function : (d : ℕ) (k : PieceKind) (t w s v : List ℕ) → StandsBefore k t w → StaysPlain d k t w → d < most_depth → IsName s (40 ∷ v) → t ++ w ≡ s ++ 40 ∷ v → ⊥
plain_function d k t w [] v a h l n e = below_most d l (plain_open d k t w v a h e)
plain_function d k t w (c ∷ s) v a h l n e = let m = same k Word t (c ∷ s) w (40 ∷ v) a n e in below_most d l (word_function d k t w v m.kind m.rest h)

-- the names of one Function
names : (s t v u : List ℕ) → IsName s (40 ∷ v) → IsName t (40 ∷ u) → s ++ 40 ∷ v ≡ t ++ 40 ∷ u → Halves s t v u
names [] [] v u a b e = record { front = refl; back = tail_same 40 40 v u e }
names [] (d ∷ t) v u a b e = absurd (nil_cons d t (sym (name_paren (d ∷ t) (40 ∷ u) 40 v (first_open v) b (sym e))))
names (c ∷ s) [] v u a b e = absurd (nil_cons c s (sym (name_paren (c ∷ s) (40 ∷ v) 40 u (first_open u) a e)))
names (c ∷ s) (d ∷ t) v u a b e = let m = same Word Word (c ∷ s) (d ∷ t) (40 ∷ v) (40 ∷ u) a b e in record { front = m.text; back = tail_same 40 40 v u m.rest }

suc_some : (d : ℕ) → suc d ≡ 0 → ⊥
suc_some d e = omega arith

pub stops_inside : (d : ℕ) (closed : Bool) (w : List ℕ) → EndsThere closed w → Stops (suc d) (ending closed ++ w)
stops_inside d true w e = (refl, suc_some d)
stops_inside d false w e = subst (Stops (suc d)) (sym e) tt

-- where a Function ends
endings : (b c : Bool) (w v : List ℕ) → EndsThere b w → EndsThere c v → ending b ++ w ≡ ending c ++ v → (b ≡ c) × (w ≡ v)
endings true true w v a b e = (refl, tail_same 41 41 w v e)
endings false false w v a b e = (refl, e)
endings true false w v a b e = absurd (nil_cons 41 w (sym (e ∙ b)))
endings false true w v a b e = absurd (nil_cons 41 v (sym a ∙ e))

-- the text of parts by their first part
pub plain_text : (k : PieceKind) (at : ℕ) (t : List ℕ) (inner : ValueParts) (closed : Bool) (rest : ValueParts) (r : List ℕ)
    → written (value (plain k) at t inner closed rest) ++ r ≡ t ++ (written rest ++ r)
plain_text k at t inner closed rest r = append_assoc t (written rest) r

pub function_text : (at : ℕ) (t : List ℕ) (inner : ValueParts) (closed : Bool) (rest : ValueParts) (r : List ℕ)
    → written (value function at t inner closed rest) ++ r ≡ t ++ 40 ∷ (written inner ++ (ending closed ++ (written rest ++ r)))
function_text at t inner closed rest r = append_assoc t (40 ∷ (written inner ++ (ending closed ++ written rest))) r
    ∙ ap (λ x. t ++ 40 ∷ x) (append_assoc (written inner) (ending closed ++ written rest) r)
    ∙ ap (λ x. t ++ 40 ∷ (written inner ++ x)) (append_assoc (ending closed) (written rest) r)

pub record One (p q : ValueParts) (r r' : List ℕ) : Type 0 where
  pub parts : p ≡ q
  pub rest : r ≡ r'

-- no part begins where parts stop
no_plain : (d : ℕ) (k : PieceKind) (t w r : List ℕ) → Stops d r → StandsBefore k t w → StaysPlain d k t w → r ≡ t ++ w → ⊥
no_plain d k [] w r s a h e = a
no_plain d k (c ∷ t) w [] s a h e = nil_cons c (t ++ w) e
no_plain d k (c ∷ t) w (x ∷ r) s a h e = s.1 (plain_close d k (c ∷ t) w r a h (sym e ∙ ap (λ z. z ∷ r) s.0))

no_function : (d : ℕ) (t v r : List ℕ) → Stops d r → IsName t (40 ∷ v) → r ≡ t ++ 40 ∷ v → ⊥
no_function d t v [] s n e = function_some t v e
no_function d t v (x ∷ r) s n e = function_close t v r n (sym e ∙ ap (λ z. z ∷ r) s.0)

value_same : (f : ValueForm) (a a' : ℕ) (t t' : List ℕ) (i i' : ValueParts) (c c' : Bool) (p p' : ValueParts) → a ≡ a' → t ≡ t' → i ≡ i' → c ≡ c' → p ≡ p' → value f a t i c p ≡ value f a' t' i' c' p'
value_same f a a' t t' i i' c c' p p' h1 h2 h3 h4 h5 = cc

-- Parts that stop where others stop, on one text, are these.
pub unique : (d at : ℕ) (p q : ValueParts) (r r' : List ℕ) → AreParts d p r → StandAt at p → Stops d r → AreParts d q r' → StandAt at q → Stops d r'
    → written p ++ r ≡ written q ++ r' → One p q r r'
unique d at none none r r' a m s b n z e = record { parts = refl; rest = e }
unique d at none (value (plain k) x t i c q) r r' a m s b n z e = absurd (no_plain d k t (written q ++ r') r s b.0 b.1 (e ∙ plain_text k x t i c q r'))
unique d at none (value function x t i c q) r r' a m s b n z e = absurd (no_function d t (written i ++ (ending c ++ (written q ++ r'))) r s b.1 (e ∙ function_text x t i c q r'))
unique d at (value (plain k) x t i c p) none r r' a m s b n z e = absurd (no_plain d k t (written p ++ r) r' z a.0 a.1 (sym e ∙ plain_text k x t i c p r))
unique d at (value function x t i c p) none r r' a m s b n z e = absurd (no_function d t (written i ++ (ending c ++ (written p ++ r))) r' z a.1 (sym e ∙ function_text x t i c p r))
unique d at (value (plain k) x t i c p) (value (plain l) y u j f q) r r' a m s b n z e =
    let h = same k l t u (written p ++ r) (written q ++ r') a.0 b.0 (sym (plain_text k x t i c p r) ∙ e ∙ plain_text l y u j f q r') in
    let o = unique d (at + byte_len t) p q r r' a.4 m.1 s b.4 (subst (λ t. StandAt (at + byte_len t) q) (sym h.text) n.1) z h.rest in
    record { parts = ap (λ k. value (plain k) x t i c p) h.kind ∙ value_same (plain l) x y t u i j c f p q (m.0 ∙ sym n.0) h.text (a.2 ∙ sym b.2) (a.3 ∙ sym b.3) o.parts; rest = o.rest }
unique d at (value (plain k) x t i c p) (value function y u j f q) r r' a m s b n z e =
    absurd (plain_function d k t (written p ++ r) u (written j ++ (ending f ++ (written q ++ r'))) a.0 a.1 b.0 b.1 (sym (plain_text k x t i c p r) ∙ e ∙ function_text y u j f q r'))
unique d at (value function x t i c p) (value (plain l) y u j f q) r r' a m s b n z e =
    absurd (plain_function d l u (written q ++ r') t (written i ++ (ending c ++ (written p ++ r))) b.0 b.1 a.0 a.1 (sym (plain_text l y u j f q r') ∙ sym e ∙ function_text x t i c p r))
unique d at (value function x t i c p) (value function y u j f q) r r' a m s b n z e =
    let v = written i ++ (ending c ++ (written p ++ r)) in
    let w = written j ++ (ending f ++ (written q ++ r')) in
    let h = names t u v w a.1 b.1 (sym (function_text x t i c p r) ∙ e ∙ function_text y u j f q r') in
    let o = unique (suc d) (at + byte_len t + 1) i j (ending c ++ (written p ++ r)) (ending f ++ (written q ++ r')) a.3 m.1 (stops_inside d c (written p ++ r) a.2)
    b.3 (subst (λ t. StandAt (at + byte_len t + 1) j) (sym h.front) n.1) (stops_inside d f (written q ++ r') b.2) h.back in
    let g = endings c f (written p ++ r) (written q ++ r') a.2 b.2 o.rest in
    let n2 : StandAt (at + byte_len t + 1 + byte_len (written i) + length (ending c)) q =
    subst (λ c. StandAt (at + byte_len t + 1 + byte_len (written i) + length (ending c)) q) (sym g.0)
    (subst (λ i. StandAt (at + byte_len t + 1 + byte_len (written i) + length (ending f)) q) (sym o.parts)
    (subst (λ t. StandAt (at + byte_len t + 1 + byte_len (written j) + length (ending f)) q) (sym h.front) n.2)) in
    let k = unique d (at + byte_len t + 1 + byte_len (written i) + length (ending c)) p q r r' a.4 m.2 s b.4 n2 z g.1 in
    record { parts = value_same function x y t u i j c f p q (m.0 ∙ sym n.0) h.front o.parts g.0 k.parts; rest = k.rest }

-- at most one list of parts for each text
pub one_value : (s : List ℕ) (p q : ValueParts) → IsValue s p → IsValue s q → p ≡ q
one_value s p q a b = (unique 0 0 p q [] [] a.are a.places tt b.are b.places tt (ap (λ x. x ++ []) (a.text ∙ sym b.text))).parts
