-- What the form of a piece says of its characters, and where the pieces of a text stand.
use Rattle.std.proofs.Common.{◌≡◌, ℕ, suc, zero, ◌+◌, ◌-◌, ◌==◌, ◌&&◌, if◌then◌else◌, List, [], ◌∷◌, ◌++◌, Bool, true, false, Option, Some, None, Result, Ok, Err, length, take, drop, refl, ◌∙◌, sym, ap, subst, arith, length-append, true≢false}
use Rattle.std.specs.Option.{option_map}
use Rattle.std.proofs.lemmas.List.{take_at}
use Rattle.std.proofs.lemmas.Bool.{eqb-true}
use Rattle.css_text.specs.declared.lexer.PieceKind.{PieceKind}
use Rattle.css_text.specs.declared.lexer.PieceKind.TheVariants as K
use Rattle.css_text.specs.Characters.{is_space, is_quote, is_single}
use Rattle.css_text.specs.Forms.{begins, unit_len, through, through_comment, begins_url}
use Rattle.css_text.specs.Pieces.{Unclosed, string, comment, url, closed, first, Token, cut_first, cut_after, cut, joined}
use Rattle.css_text.specs.Ahead.{byte_len}
use Rattle.css_tree.specs.Pieces.{Lexeme, Shape, shape, shape_of, located, join, end_of}
use Rattle.css_tree.proofs.TreeOf.{inner_of}

-- no text is empty
abbrev pub HasText : List ℕ → Type 0
HasText [] = ⊥
HasText (c ∷ cs) = Unit {0}

-- by the shape of a piece
abbrev pub FormedBy : Shape → List ℕ → Type 0
FormedBy Shape.semicolon t = t ≡ 59 ∷ []
FormedBy Shape.colon t = t ≡ 58 ∷ []
FormedBy Shape.brace_open t = t ≡ 123 ∷ []
FormedBy Shape.brace_close t = t ≡ 125 ∷ []
FormedBy Shape.at_name t = (t ≡ 64 ∷ drop 1 t) × HasText (drop 1 t)
FormedBy Shape.comment t = t ≡ 47 ∷ 42 ∷ (inner_of t ++ 42 ∷ 47 ∷ [])
FormedBy _ t = Unit {0}

abbrev pub AllFormed : List Lexeme → Type 0
AllFormed [] = Unit {0}
AllFormed (p ∷ ps) = FormedBy (shape p) p.text × HasText p.text × AllFormed ps

abbrev FormedToken : PieceKind → List ℕ → Type 0
FormedToken k t = FormedBy (shape_of k t) t × HasText t

abbrev AllTokens : List Token → Type 0
AllTokens [] = Unit {0}
AllTokens (t ∷ ts) = FormedToken t.kind t.text × AllTokens ts

abbrev FormedFirst : ℕ → List ℕ → Result (PieceKind × ℕ) Unclosed → Type 0
FormedFirst c cs (Ok p) = FormedToken p.0 (c ∷ take p.1 cs)
FormedFirst c cs (Err u) = Unit {0}

if-formed : (c : ℕ) (cs : List ℕ) (b : Bool) (x y : Result (PieceKind × ℕ) Unclosed)
    → (b ≡ true → FormedFirst c cs x) → FormedFirst c cs y → FormedFirst c cs (if b then x else y)
if-formed c cs true x y h k = h refl
if-formed c cs false x y h k = k

-- The end of a comment.

none-some : (n : ℕ) → ◌≡◌ {A = Option ℕ} None (Some n) → ⊥
none-some n e = cc

some-inj : (m n : ℕ) → ◌≡◌ {A = Option ℕ} (Some m) (Some n) → m ≡ n
some-inj m n e = cc

and-both : (a b : Bool) → (a && b) ≡ true → (a ≡ true) × (b ≡ true)
and-both true b e = (refl, e)
and-both false b e = absurd (true≢false (sym e))

abbrev EndsComment : ℕ → List ℕ → Type 0
EndsComment m ds = (x : List ℕ) × (take m ds ≡ x ++ 42 ∷ 47 ∷ [])

begins-at : (d : ℕ) (cs : List ℕ) → begins d cs ≡ true → (es : List ℕ) × (cs ≡ d ∷ es)
begins-at d [] e = absurd (true≢false (sym e))
begins-at d (c ∷ cs) e = (cs, ap (λ z. z ∷ cs) (eqb-true c d e))

ends-here : (c : ℕ) (cs : List ℕ) → (c == 42 && begins 47 cs) ≡ true → EndsComment 2 (c ∷ cs)
ends-here c cs e =
    let h = and-both (c == 42) (begins 47 cs) e in
    let k = begins-at 47 cs h.1 in
    ([], rw (eqb-true c 42 h.0, k.1) refl)

ends-later : (c : ℕ) (cs : List ℕ) (x : Option ℕ) (m : ℕ) → option_map suc x ≡ Some m → ((k : ℕ) → x ≡ Some k → EndsComment k cs) → EndsComment m (c ∷ cs)
ends-later c cs None m e ih = absurd (none-some m e)
ends-later c cs (Some k) m e ih =
    let h = ih k refl in
    subst (λ z. EndsComment z (c ∷ cs)) (some-inj (suc k) m e) (c ∷ h.0, ap (λ z. c ∷ z) h.1)

ends-if : (c : ℕ) (cs : List ℕ) (b : Bool) (x : Option ℕ) (m : ℕ) → (c == 42 && begins 47 cs) ≡ b → (if b then Some 2 else option_map suc x) ≡ Some m
    → ((k : ℕ) → x ≡ Some k → EndsComment k cs) → EndsComment m (c ∷ cs)
ends-if c cs true x m eb e ih = subst (λ z. EndsComment z (c ∷ cs)) (some-inj 2 m e) (ends-here c cs eb)
ends-if c cs false x m eb e ih = ends-later c cs x m e ih

through-ends : (ds : List ℕ) (m : ℕ) → through_comment ds ≡ Some m → EndsComment m ds
through-ends [] m e = absurd (none-some m e)
through-ends (c ∷ cs) m e = ends-if c cs (c == 42 && begins 47 cs) (through_comment cs) m refl e (through-ends cs)

pub inner-is : (x : List ℕ) → inner_of (47 ∷ 42 ∷ (x ++ 42 ∷ 47 ∷ [])) ≡ x
inner-is x =
    let e : length (47 ∷ 42 ∷ (x ++ 42 ∷ 47 ∷ [])) - 2 ≡ suc (suc (length x)) = omega (arith, length-append x (42 ∷ 47 ∷ [])) in
    ap (λ z. drop 2 (take z (47 ∷ 42 ∷ (x ++ 42 ∷ 47 ∷ [])))) e ∙ take_at x (42 ∷ 47 ∷ []) (length x) refl

comment-shape : (t x : List ℕ) → t ≡ 47 ∷ 42 ∷ (x ++ 42 ∷ 47 ∷ []) → t ≡ 47 ∷ 42 ∷ (inner_of t ++ 42 ∷ 47 ∷ [])
comment-shape t x e = e ∙ ap (λ z. 47 ∷ 42 ∷ (z ++ 42 ∷ 47 ∷ [])) (sym (ap inner_of e ∙ inner-is x))

comment-of : (c : ℕ) (ds : List ℕ) (m : ℕ) → c ≡ 47 → EndsComment m ds → c ∷ take (suc m) (42 ∷ ds) ≡ 47 ∷ 42 ∷ (inner_of (c ∷ take (suc m) (42 ∷ ds)) ++ 42 ∷ 47 ∷ [])
comment-of c ds m e h = comment-shape _ h.0 (rw (e, h.1) refl)

comment-some : (c : ℕ) (ds : List ℕ) (r : Option ℕ) → c ≡ 47 → through_comment ds ≡ r → FormedFirst c (42 ∷ ds) (closed K.Comment 1 r comment)
comment-some c ds None e h = tt
comment-some c ds (Some m) e h =
    let k : suc m ≡ 1 + m = omega arith in
    subst (λ n. (c ∷ take n (42 ∷ ds) ≡ 47 ∷ 42 ∷ (inner_of (c ∷ take n (42 ∷ ds)) ++ 42 ∷ 47 ∷ [])) × Unit {0}) k (comment-of c ds m e (through-ends ds m h), tt)

comment-formed : (c : ℕ) (cs : List ℕ) → (c == 47 && begins 42 cs) ≡ true → FormedFirst c cs (closed K.Comment 1 (through_comment (drop 1 cs)) comment)
comment-formed c [] e = absurd (true≢false (sym (and-both (c == 47) false e).1))
comment-formed c (d ∷ ds) e =
    let h = and-both (c == 47) (d == 42) e in
    subst (λ z. FormedFirst c (z ∷ ds) (closed K.Comment 1 (through_comment ds) comment)) (sym (eqb-true d 42 h.1)) (comment-some c ds (through_comment ds) (eqb-true c 47 h.0) refl)

quoted-formed : (c : ℕ) (cs : List ℕ) (r : Option ℕ) → FormedFirst c cs (closed K.Quoted 0 r string)
quoted-formed c cs None = tt
quoted-formed c cs (Some m) = (tt, tt)

url-formed : (c : ℕ) (cs : List ℕ) (r : Option ℕ) → FormedFirst c cs (closed K.Url 3 r url)
url-formed c cs None = tt
url-formed c cs (Some m) = (tt, tt)

at-formed : (c : ℕ) (t : List ℕ) → c ≡ 64 → FormedToken K.AtWord (c ∷ t)
at-formed c [] e = (tt, tt)
at-formed c (d ∷ t) e = ((ap (λ z. z ∷ d ∷ t) e, tt), tt)

-- a shape by a chain of tests
if-shape : (b : Bool) (s r : Shape) (t : List ℕ) → (b ≡ true → FormedBy s t) → FormedBy r t → FormedBy (if b then s else r) t
if-shape true s r t h k = h refl
if-shape false s r t h k = k

is-one : (c d : ℕ) → (c == d) ≡ true → ◌≡◌ {A = List ℕ} (c ∷ []) (d ∷ [])
is-one c d e = ap (λ z. z ∷ []) (eqb-true c d e)

single-formed : (c : ℕ) → FormedToken K.Single (c ∷ [])
single-formed c = (
  if-shape (c == 59) _ _ _ (is-one c 59) (if-shape (c == 58) _ _ _ (is-one c 58) (if-shape (c == 123) _ _ _ (is-one c 123) (if-shape (c == 125) _ _ _ (is-one c 125)
      (if-shape (c == 40) _ _ _ (λ e. tt) (if-shape (c == 41) _ _ _ (λ e. tt) (if-shape (c == 91) _ _ _ (λ e. tt) (if-shape (c == 93) _ _ _ (λ e. tt) tt))))))),
  tt,
)

first-formed : (c : ℕ) (cs : List ℕ) → FormedFirst c cs (first c cs)
unfolding first
first-formed c cs =
    if-formed c cs (is_space c) _ _ (λ e. (tt, tt))
    (if-formed c cs (c == 47 && begins 42 cs) _ _ (comment-formed c cs)
    (if-formed c cs (is_quote c) _ _ (λ e. quoted-formed c cs (through c false cs))
    (if-formed c cs (begins_url (c ∷ cs)) _ _ (λ e. url-formed c cs (through 41 false (drop 3 cs)))
    (if-formed c cs (c == 64) _ _ (λ e. at-formed c (take (unit_len false cs) cs) (eqb-true c 64 e))
    (if-formed c cs (is_single c) _ _ (λ e. single-formed c) (tt, tt))))))

tokens-first : (r : Result (PieceKind × ℕ) Unclosed) (c : ℕ) (cs : List ℕ) → FormedFirst c cs r → ((n : ℕ) → AllTokens (cut_after n cs).tokens)
    → AllTokens (cut_first r c cs (λ n. cut_after n cs)).tokens
tokens-first (Ok p) c cs h ih = (h, ih p.1)
tokens-first (Err u) c cs h ih = tt

tokens-after : (s : List ℕ) (k : ℕ) → AllTokens (cut_after k s).tokens
tokens-after [] zero = tt
tokens-after [] (suc k) = tt
tokens-after (c ∷ cs) (suc k) = tokens-after cs k
tokens-after (c ∷ cs) zero = tokens-first (first c cs) c cs (first-formed c cs) (tokens-after cs)

located-formed : (ts : List Token) (at : ℕ) → AllTokens ts → AllFormed (located at ts)
unfolding shape
located-formed [] at h = tt
located-formed (t ∷ ts) at h = (h.0.0, h.0.1, located-formed ts (at + byte_len t.text) h.1)

-- the pieces of a text are formed
pub cut-formed : (s : List ℕ) (at : ℕ) → AllFormed (located at (cut s).tokens)
unfolding cut
cut-formed s at = located-formed (cut_after 0 s).tokens at (tokens-after s 0)

pub formed-front : (xs ys : List Lexeme) → AllFormed (xs ++ ys) → AllFormed xs
formed-front [] ys h = tt
formed-front (x ∷ xs) ys h = (h.0, h.1, formed-front xs ys h.2)

pub formed-back : (xs ys : List Lexeme) → AllFormed (xs ++ ys) → AllFormed ys
formed-back [] ys h = h
formed-back (x ∷ xs) ys h = formed-back xs ys h.2

pub formed-of : (p : Lexeme) (s : Shape) → shape p ≡ s → FormedBy (shape p) p.text → FormedBy s p.text
formed-of p s e h = subst (λ z. FormedBy z p.text) e h

-- they make the text of their tokens
pub join-located : (ts : List Token) (at : ℕ) → join (located at ts) ≡ joined ts
unfolding join
join-located [] at = refl
join-located (t ∷ ts) at = ap (λ z. t.text ++ z) (join-located ts (at + byte_len t.text))

-- pieces one behind another from that byte on
abbrev pub StandAt : ℕ → List Lexeme → Type 0
StandAt at [] = Unit {0}
StandAt at (p ∷ ps) = (p.at ≡ at) × StandAt (end_of p) ps

pub located-stand : (ts : List Token) (at : ℕ) → StandAt at (located at ts)
located-stand [] at = tt
located-stand (t ∷ ts) at = (refl, located-stand ts (at + byte_len t.text))
