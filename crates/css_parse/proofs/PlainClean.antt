-- Calm characters: they are ASCII, and make neither a comment nor a mark.
use Rattle.std.proofs.Common.{◌≡◌, ℕ, ◌<◌, Bool, true, false, cond, eqb, List, [], ◌∷◌, ◌++◌, length, take, drop, None, refl, ap, sym, ◌∙◌, subst, arith}
use Rattle.std.specs.Prelude.{◌&&◌, not}
use Rattle.std.proofs.lemmas.Bool.{eqb-true, false≢true}
use Rattle.std.proofs.lemmas.Bool.Decides.{nat_tests}
use Rattle.std.proofs.lemmas.List.{drop_at}
use Rattle.css_text.specs.Characters.{is_space, is_quote, is_single, ends_word}
use Rattle.css_text.specs.declared.lexer.PieceKind.{PieceKind}
use Rattle.css_text.specs.declared.lexer.PieceKind.TheVariants.{Space, Comment, Quoted, Url, AtWord, Word, Single}
use Rattle.css_text.specs.Pieces.{Token, cut, joined}
use Rattle.css_text.specs.PieceKinds.{IsOfKind, AreOfKinds}
use Rattle.css_text.specs.Ahead.{begins_bom, without_bom}
use Rattle.css_text.proofs.PieceKinds.{cut_kinds}
use Rattle.css_text.proofs.Join.{cut_front}
use Rattle.css_tree.specs.Classes.{Each}
use Rattle.css_tree.specs.Clean.{kept, without_comments, clean_of}
use Rattle.css_tree.specs.Mark.{mark_at, is_text}
use Rattle.css_tree.specs.Pieces.{Lexeme, join}
use Rattle.css_tree.proofs.Trim.{each-append}
use Rattle.css_tree.proofs.Printed.{join-cons, join-nil}
use Rattle.css_parse.specs.Plain.{is_name, is_flat, is_calm, AreCalm}
use Rattle.css_parse.proofs.PlainSlices.{each-front, each-back}

-- ASCII.

pub space-low : (c : ℕ) → is_space c ≡ true → c < 128
unfolding is_space
space-low c e = grind (arith, nat_tests)

pub calm-low : (c : ℕ) → is_calm c ≡ true → c < 128
unfolding is_calm is_flat is_name is_space
calm-low c e = grind (arith, nat_tests)

-- Neither a slash nor `!` is calm.

slash : is_calm 47 ≡ true → ⊥
unfolding is_calm is_flat is_name is_space ends_word is_quote is_single
slash e = false≢true e

bang : is_calm 33 ≡ true → ⊥
unfolding is_calm is_flat is_name is_space ends_word is_quote is_single
bang e = false≢true e

-- They are clean.

kept-calm : (k : PieceKind) (t : List ℕ) → IsOfKind k t → Each is_calm t → kept k t ≡ t
kept-calm Comment t h e = absurd (slash (subst (Each is_calm) h.1 e).0)
kept-calm Space t h e = refl
kept-calm Quoted t h e = refl
kept-calm Url t h e = refl
kept-calm AtWord t h e = refl
kept-calm Word t h e = refl
kept-calm Single t h e = refl

pieces-calm : (ts : List Token) → AreOfKinds ts → Each is_calm (joined ts) → without_comments ts ≡ joined ts
pieces-calm [] k e = refl
pieces-calm (t ∷ ts) k e =
    ap (λ x. x ++ without_comments ts) (kept-calm t.kind t.text k.1 (each-front is_calm t.text (joined ts) e))
    ∙ ap (λ x. t.text ++ x) (pieces-calm ts k.2 (each-back is_calm t.text (joined ts) e))

mark-by : (s : List ℕ) (b : Bool) → cond b (take 1 s) [] ++ cond b (drop 1 s) s ≡ s
mark-by s false = refl
mark-by [] true = refl
mark-by (c ∷ cs) true = refl

calm-behind : (s : List ℕ) (b : Bool) → Each is_calm s → Each is_calm (cond b (drop 1 s) s)
calm-behind s false e = e
calm-behind [] true e = e
calm-behind (c ∷ cs) true e = e.1

pub clean-calm : (s : List ℕ) → Each is_calm s → clean_of s ≡ s
unfolding clean_of
clean-calm s e =
    let w = without_bom s in
    let ts = (cut w).tokens in
    let f = cut_front w in
    let n : Each is_calm w = calm-behind s (begins_bom s) e in
    let j : Each is_calm (joined ts) = each-front is_calm (joined ts) f.0 (subst (Each is_calm) f.1 n) in
    let rest : drop (length (joined ts)) w ≡ f.0 = ap (drop (length (joined ts))) f.1 ∙ drop_at (joined ts) f.0 (length (joined ts)) refl in
    let same : without_comments ts ++ drop (length (joined ts)) w ≡ w = ap (λ x. x ++ drop (length (joined ts)) w) (pieces-calm ts (cut_kinds w) j) ∙ ap (λ x. joined ts ++ x) rest ∙ sym f.1 in
    ap (λ x. cond (begins_bom s) (take 1 s) [] ++ x) same ∙ mark-by s (begins_bom s)

pub joined-calm : (ps : List Lexeme) → AreCalm ps → Each is_calm (join ps)
joined-calm [] h = subst (Each is_calm) (sym join-nil) tt
joined-calm (p ∷ ps) h = subst (Each is_calm) (sym (join-cons p ps)) (each-append is_calm p.text (join ps) h.0 (joined-calm ps h.1))

-- No mark begins in them.

no-bang : (c : ℕ) (b : Bool) → is_calm c ≡ true → eqb c 33 ≡ b → b ≡ false
no-bang c true h e = absurd (bang (subst (λ z. is_calm z ≡ true) (eqb-true c 33 e) h))
no-bang c false h e = refl

no-start : (h b : Bool) → (not h && (false && b)) ≡ false
no-start true b = refl
no-start false b = refl

pub no-mark : (hidden : Bool) (letters t : List ℕ) → Each is_calm t → mark_at hidden letters t ≡ None
no-mark hidden letters [] h = refl
no-mark hidden letters (c ∷ cs) h = rw (no-bang c (eqb c 33) h.0 refl, no-start hidden (is_text letters cs), no-mark (not hidden && eqb c 92) letters cs h.1) refl
