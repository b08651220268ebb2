-- Parts before others.
use Rattle.std.proofs.Common.{◌≡◌, ℕ, suc, ◌+◌, Bool, true, false, List, [], ◌∷◌, ◌++◌, length, refl, ap, sym, ◌∙◌, subst, arith, append_assoc}
use Rattle.css_text.specs.Ahead.{byte_len}
use Rattle.css_text.specs.ValueParts.{plain, function, ValueParts, none, value, ending, written, StandsBefore, StaysPlain, IsName, EndsThere, AreParts, followed, StandAt}
use Rattle.css_text.proofs.Slices.{byte_len-append}
use Rattle.css_text.proofs.ValueParts.{function_text}

pub followed-written : (p q : ValueParts) → written (followed p q) ≡ written p ++ written q
followed-written none q = refl
followed-written (value (plain k) at t inner closed rest) q = ap (λ x. t ++ x) (followed-written rest q) ∙ sym (append_assoc t (written rest) (written q))
followed-written (value function at t inner closed rest) q = ap (λ x. t ++ 40 ∷ (written inner ++ (ending closed ++ x))) (followed-written rest q)
    ∙ sym (function_text at t inner closed rest (written q))

pub followed_text : (p q : ValueParts) (r : List ℕ) → written p ++ (written q ++ r) ≡ written (followed p q) ++ r
followed_text p q r = sym (append_assoc (written p) (written q) r) ∙ ap (λ x. x ++ r) (sym (followed-written p q))

-- parts stand before a text where they stand before other parts and these before the text
pub followed-are : (depth : ℕ) (p q : ValueParts) (r : List ℕ) → AreParts depth p (written q ++ r) → AreParts depth q r → AreParts depth (followed p q) r
followed-are depth none q r a b = b
followed-are depth (value (plain k) at t inner closed rest) q r a b =
    let e = followed_text rest q r in
    (subst (StandsBefore k t) e a.0, subst (StaysPlain depth k t) e a.1, a.2, a.3, followed-are depth rest q r a.4 b)
followed-are depth (value function at t inner closed rest) q r a b =
    let e = followed_text rest q r in (
      a.0,
      subst (λ x. IsName t (40 ∷ (written inner ++ (ending closed ++ x)))) e a.1,
      subst (EndsThere closed) e a.2,
      subst (λ x. AreParts (suc depth) inner (ending closed ++ x)) e a.3,
      followed-are depth rest q r a.4 b,
    )

plain_at : (at t w : ℕ) → at + (t + w) ≡ at + t + w
plain_at at t w = omega arith

ending_len : (closed : Bool) → byte_len (ending closed) ≡ length (ending closed)
ending_len true = refl
ending_len false = refl

open_len : (s : List ℕ) → byte_len (40 ∷ s) ≡ 1 + byte_len s
open_len s = byte_len-append (40 ∷ []) s

-- how many bytes a Function takes with the parts after it
pub function_len : (at : ℕ) (t : List ℕ) (inner : ValueParts) (closed : Bool) (rest : ValueParts)
    → byte_len (written (value function at t inner closed rest)) ≡ byte_len t + 1 + byte_len (written inner) + length (ending closed) + byte_len (written rest)
function_len at t inner closed rest =
    let a = byte_len-append t (40 ∷ (written inner ++ (ending closed ++ written rest))) in
    let b = open_len (written inner ++ (ending closed ++ written rest)) in
    let c = byte_len-append (written inner) (ending closed ++ written rest) in
    let d = byte_len-append (ending closed) (written rest) in
    let e = ending_len closed in
    omega (arith, a, b, c, d, e)

pub followed-places : (at : ℕ) (p q : ValueParts) → StandAt at p → StandAt (at + byte_len (written p)) q → StandAt at (followed p q)
followed-places at none q a b = subst (λ n. StandAt n q) (zero at) b
  where
    zero : (at : ℕ) → at + byte_len [] ≡ at
    zero at = omega arith
followed-places at (value (plain k) x t inner closed rest) q a b =
    (a.0, followed-places (at + byte_len t) rest q a.1 (subst (λ n. StandAt n q) (ap (λ n. at + n) (byte_len-append t (written rest)) ∙ plain_at at (byte_len t) (byte_len (written rest))) b))
followed-places at (value function x t inner closed rest) q a b = (
  a.0,
  a.1,
  followed-places (at + byte_len t + 1 + byte_len (written inner) + length (ending closed)) rest q a.2
      (subst (λ n. StandAt n q) (ap (λ n. at + n) (function_len x t inner closed rest) ∙ sum at (byte_len t) (byte_len (written inner)) (length (ending closed)) (byte_len (written rest))) b),
)
  where
    sum : (at t i e r : ℕ) → at + (t + 1 + i + e + r) ≡ at + t + 1 + i + e + r
    sum at t i e r = omega arith
