-- A text without a star has no comment, so it is clean.
use Rattle.std.proofs.Common.{◌≡◌, ℕ, Bool, true, false, cond, eqb, List, [], ◌∷◌, ◌++◌, length, take, drop, refl, ap, sym, ◌∙◌}
use Rattle.std.specs.List.{list_any}
use Rattle.std.specs.Str.{chars, IsUtf8}
use Rattle.std.specs.Prelude.{◌||◌}
use lib.Utf8.{encode, encodes}
use Rattle.std.proofs.lemmas.List.{append_assoc, drop_at}
use Rattle.std.proofs.lemmas.Bool.{eqb-true, false≢true}
use Rattle.std.proofs.lemmas.Str.{encodes-chars}
use Rattle.css_text.specs.declared.lexer.PieceKind.{PieceKind}
use Rattle.css_text.specs.declared.lexer.PieceKind.TheVariants.{Space, Comment, Quoted, Url, AtWord, Word, Single}
use Rattle.css_text.specs.Pieces.{Token, cut, joined}
use Rattle.css_text.specs.PieceKinds.{IsOfKind, AreOfKinds}
use Rattle.css_text.specs.Ahead.{begins_bom, without_bom}
use Rattle.css_text.proofs.PieceKinds.{cut_kinds}
use Rattle.css_text.proofs.Join.{cut_front}
use Rattle.css_tree.specs.Clean.{kept, without_comments, clean_of}

abbrev pub has_star : List ℕ → Bool
has_star s = list_any (λ y. eqb y 42) s

false_parts : (a b : Bool) → (a || b) ≡ false → (a ≡ false) × (b ≡ false)
false_parts true b e = absurd (false≢true (sym e))
false_parts false b e = (refl, e)

star_parts : (xs ys : List ℕ) → has_star (xs ++ ys) ≡ false → (has_star xs ≡ false) × (has_star ys ≡ false)
star_parts [] ys e = (refl, e)
star_parts (x ∷ xs) ys e =
    let p = false_parts (eqb x 42) (has_star (xs ++ ys)) e in
    let q = star_parts xs ys p.1 in
    (ap (λ b. b || has_star xs) p.0 ∙ q.0, q.1)

kept_plain : (k : PieceKind) (t : List ℕ) → IsOfKind k t → has_star t ≡ false → kept k t ≡ t
kept_plain Comment t h e = absurd (false≢true (sym e ∙ ap has_star h.1))
kept_plain Space t h e = refl
kept_plain Quoted t h e = refl
kept_plain Url t h e = refl
kept_plain AtWord t h e = refl
kept_plain Word t h e = refl
kept_plain Single t h e = refl

pieces_plain : (ts : List Token) → AreOfKinds ts → has_star (joined ts) ≡ false → without_comments ts ≡ joined ts
pieces_plain [] k e = refl
pieces_plain (t ∷ ts) k e =
    let p = star_parts t.text (joined ts) e in
    ap (λ x. x ++ without_comments ts) (kept_plain t.kind t.text k.1 p.0) ∙ ap (λ x. t.text ++ x) (pieces_plain ts k.2 p.1)

mark_by : (s : List ℕ) (b : Bool) → cond b (take 1 s) [] ++ cond b (drop 1 s) s ≡ s
mark_by s false = refl
mark_by [] true = refl
mark_by (c ∷ cs) true = refl

star_behind : (s : List ℕ) (b : Bool) → has_star s ≡ false → has_star (cond b (drop 1 s) s) ≡ false
star_behind s false e = e
star_behind [] true e = e
star_behind (c ∷ cs) true e = (false_parts (eqb c 42) (has_star cs) e).1

pub clean-plain : (s : List ℕ) → has_star s ≡ false → clean_of s ≡ s
unfolding clean_of
clean-plain s e =
    let w = without_bom s in
    let ts = (cut w).tokens in
    let f = cut_front w in
    let n : has_star w ≡ false = star_behind s (begins_bom s) e in
    let j = star_parts (joined ts) f.0 (ap has_star (sym f.1) ∙ n) in
    let rest : drop (length (joined ts)) w ≡ f.0 = ap (drop (length (joined ts))) f.1 ∙ drop_at (joined ts) f.0 (length (joined ts)) refl in
    let same : without_comments ts ++ drop (length (joined ts)) w ≡ w = ap (λ x. x ++ drop (length (joined ts)) w) (pieces_plain ts (cut_kinds w) j.0) ∙ ap (λ x. joined ts ++ x) rest ∙ sym f.1 in
    ap (λ x. cond (begins_bom s) (take 1 s) [] ++ x) same ∙ mark_by s (begins_bom s)

star_byte : (c : ℕ) (cs : List ℕ) → eqb c 42 ≡ true → has_star (encodes (c ∷ cs)) ≡ true
unfolding encode
star_byte c cs e = ap (λ x. has_star (encodes (x ∷ cs))) (eqb-true c 42 e)

star_first : (c : ℕ) (cs : List ℕ) (b : Bool) → eqb c 42 ≡ b → has_star (encodes (c ∷ cs)) ≡ false → eqb c 42 ≡ false
star_first c cs true e h = absurd (false≢true (sym h ∙ star_byte c cs e))
star_first c cs false e h = e

star_chars : (cs : List ℕ) → has_star (encodes cs) ≡ false → has_star cs ≡ false
star_chars [] e = refl
star_chars (c ∷ cs) e = ap (λ b. b || has_star cs) (star_first c cs (eqb c 42) refl e) ∙ star_chars cs (star_parts (encode c) (encodes cs) e).1

-- the bytes have no star
pub clean-bytes : (bs : List ℕ) → IsUtf8 bs → has_star bs ≡ false → clean_of (chars bs) ≡ chars bs
clean-bytes bs u e = clean-plain (chars bs) (star_chars (chars bs) (ap has_star (encodes-chars bs u) ∙ e))
