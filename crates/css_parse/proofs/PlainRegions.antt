-- The pieces of calm characters.
use Rattle.std.proofs.Common.{◌≡◌, ℕ, zero, suc, ◌+◌, ◌<◌, ◌≤◌, ◌==◌, false, List, [], ◌∷◌, ◌++◌, Some, length, refl, ap, sym, ◌∙◌, subst, inl, inr, arith, append_assoc, add-zero, length-append}
use Rattle.std.specs.Str.{IsUtf8}
use Rattle.std.proofs.lemmas.Bool.{and_left, cases_Bool}
use Rattle.std.proofs.lemmas.List.{append-nil}
use Rattle.css_text.specs.Characters.{is_space}
use Rattle.css_tree.specs.Classes.{Each, BeginsWithout, EndsWithout}
use Rattle.css_tree.specs.Fields.{BeginsNoAtRule}
use Rattle.css_tree.specs.Pieces.{Lexeme, is_blank}
use Rattle.css_tree.specs.Turn.{begins_dashes}
use Rattle.css_parse.specs.Machine.{Machine}
use Rattle.css_parse.specs.Plain.{is_calm, brackets, IsClosed, AreCalm}
use Rattle.css_parse.proofs.PlainPieces.{Stops}
use Rattle.css_parse.proofs.PlainSteps.{At, piece_of}
use Rattle.css_parse.proofs.PlainRuns.{in_run, with_run, Run, run-none, run-append}
use Rattle.css_parse.proofs.PlainBlanks.{Calm, Part, part}
use Rattle.css_parse.proofs.PlainSplits.{shorter}

-- the first of these pieces doesn't begin `--`
abbrev pub NoDashes : List Lexeme → Type 0
NoDashes [] = Unit {0}
NoDashes (p ∷ ps) = begins_dashes p.text ≡ false

no-dashes : (c : ℕ) (t : List ℕ) → (c == 45) ≡ false → begins_dashes (c ∷ t) ≡ false
no-dashes c [] e = refl
no-dashes c (d ∷ t) e = and_left _ _ e

pub record Region (s bs : List ℕ) (m : Machine) (r : List Lexeme) (at : ℕ) (q rest : List ℕ) : Type 0 where
  pub pieces : List Lexeme
  pub next : At s bs (with_run m (r ++ pieces)) (at + length q) rest
  pub run : Run bs at (at + length q) pieces
  pub calm : AreCalm pieces
  pub some : 0 < length q → 0 < length pieces
  pub begins : BeginsWithout is_space q → BeginsWithout is_blank pieces
  pub ends : EndsWithout is_blank pieces
  pub kind : BeginsNoAtRule pieces
  pub dashes : BeginsWithout (λ c. c == 45) q → NoDashes pieces

none : (s bs : List ℕ) (m : Machine) (r : List Lexeme) (at : ℕ) (rest : List ℕ) → At s bs (with_run m r) at rest → Region s bs m r at [] rest
none s bs m r at rest x = record {
  pieces = [];
  next = subst (λ n. At s bs (with_run m (r ++ [])) n rest) (sym (add-zero at)) (subst (λ z. At s bs (with_run m z) at rest) (sym (append-nil r)) x);
  run = subst (λ n. Run bs at n []) (sym (add-zero at)) (run-none bs at);
  calm = tt;
  some = λ l. absurd (omega arith);
  begins = λ h. tt;
  ends = tt;
  kind = tt;
  dashes = λ h. tt;
}

ends-more : (p : Lexeme) (ps : List Lexeme) → 0 < length ps → EndsWithout is_blank ps → EndsWithout is_blank (p ∷ ps)
ends-more p [] l h = absurd (omega arith)
ends-more p (x ∷ ps) l h = h

ends-solid : (p : Lexeme) (ps : List Lexeme) → is_blank p ≡ false → EndsWithout is_blank ps → EndsWithout is_blank (p ∷ ps)
ends-solid p [] e h = e
ends-solid p (x ∷ ps) e h = h

size : (at : ℕ) (c : ℕ) (q front back : List ℕ) → q ≡ front ++ back → at + length (c ∷ front) + length back ≡ at + length (c ∷ q)
size at c q front back e = omega (arith, ap length e, length-append front back)

more : (s bs : List ℕ) (m : Machine) (r : List Lexeme) (at c : ℕ) (q rest : List ℕ) (x : Part s bs m r at c q rest)
    → Region s bs m (r ++ piece_of x.kind at (c ∷ x.front) ∷ []) (at + length (c ∷ x.front)) x.back rest → Region s bs m r at (c ∷ q) rest
more s bs m r at c q rest x y =
    let p : Lexeme = piece_of x.kind at (c ∷ x.front) in
    let e = size at c q x.front x.back x.all in
    record {
      pieces = p ∷ y.pieces;
      next = subst (λ n. At s bs (with_run m (r ++ p ∷ y.pieces)) n rest) e (subst (λ z. At s bs (with_run m z) (at + length (c ∷ x.front) + length x.back) rest) (append_assoc r (p ∷ []) y.pieces) y.next);
      run = subst (λ n. Run bs at n (p ∷ y.pieces)) e (run-append bs at (at + length (c ∷ x.front)) _ (p ∷ []) y.pieces x.run y.run);
      calm = (x.class, y.calm);
      some = λ l. omega arith;
      begins = λ h. x.blank ∙ h;
      ends = elim (cases_Bool (is_space c)) [
        | inl w ↦ ends-more p y.pieces (y.some (x.more w)) y.ends
        | inr w ↦ ends-solid p y.pieces (x.blank ∙ w) y.ends
      ];
      kind = x.no_at;
      dashes = λ h. no-dashes c x.front h;
    }

snoc-some : (r : List Lexeme) (p : Lexeme) → r ++ p ∷ [] ≡ [] → ⊥
snoc-some r p e = omega (arith, ap length e, length-append r (p ∷ []))

none-open : (n : ℕ) → brackets n [] ≡ Some 0 → n ≡ 0
none-open zero e = refl
none-open (suc n) e = absurd (cc)

nothing : (aw : List Lexeme) → length aw ≡ 0 → aw ≡ []
nothing [] e = refl
nothing (p ∷ aw) e = absurd (cc)

by_length : (n : ℕ) (s bs : List ℕ) (m : Machine) (r : List Lexeme) (at : ℕ) (q rest : List ℕ) → length q ≤ n → IsUtf8 bs → Stops rest → (r ≡ [] → BeginsWithout is_space q) → Calm s bs m r at q rest → Region s bs m r at q rest
by_length n s bs m r at [] rest l u k f x = none s bs m r at rest (subst (λ z. At s bs (in_run m r z) at rest) (nothing x.awaited (none-open (length x.awaited) x.closed)) x.next)
by_length zero s bs m r at (c ∷ q) rest l u k f x = absurd (omega arith)
by_length (suc n) s bs m r at (c ∷ q) rest l u k f x =
    let y = part s bs m r at rest u k c q f x in
    let p : Lexeme = piece_of y.kind at (c ∷ y.front) in
    let j = shorter q y.front y.back y.all in
    more s bs m r at c q rest y (by_length n s bs m (r ++ p ∷ []) (at + length (c ∷ y.front)) y.back rest (omega arith) u k (λ w. absurd (snoc-some r p w)) y.behind)

pub region : (s bs : List ℕ) (m : Machine) (r : List Lexeme) (at : ℕ) (q rest : List ℕ) → IsUtf8 bs → Each is_calm q → IsClosed q → EndsWithout is_space q → (r ≡ [] → BeginsWithout is_space q) → Stops rest
    → At s bs (with_run m r) at (q ++ rest) → Region s bs m r at q rest
region s bs m r at q rest u h b e f k x = by_length (length q) s bs m r at q rest (omega arith) u k f (record { awaited = []; round = tt; class = h; ends = e; closed = b.closed; no_url = b.no_url; next = x })
