-- A reader at the start of a text.
use Rattle.std.proofs.Common.{◌≡◌, ℕ, Bool, true, false, cond, List, [], ◌∷◌, ◌++◌, drop, None, refl, ap, sym, ◌∙◌, subst, zero-add}
use Rattle.std.specs.Str.{chars, IsUtf8}
use Rattle.std.proofs.lemmas.Bool.{eqb-true, false≢true}
use Rattle.css_text.specs.Pieces.{cut, joined}
use Rattle.css_text.specs.Ahead.{Ahead, byte_len, begins_bom, bom_len, without_bom, pieces}
use Rattle.css_text.proofs.Join.{cut_front, cut_joins}
use Rattle.css_text.proofs.Slices.{IsFrom, from_whole, from_back}
use Rattle.css_text.proofs.Reader.{IsAt}

-- Behind the byte order mark all the tokens of the text are ahead, and behind them what follows the fault's place, or nothing.
pub record Start (bs : List ℕ) (a : Ahead) : Type 0 where
  pub rest : List ℕ
  pub at : IsAt bs (bom_len (chars bs)) (cut (without_bom (chars bs))).tokens rest (cut (without_bom (chars bs))).fault a
  pub whole : without_bom (chars bs) ≡ joined (cut (without_bom (chars bs))).tokens ++ rest
  pub none : (cut (without_bom (chars bs))).fault ≡ None → rest ≡ []

-- the text is its byte order mark and what follows it
abbrev pub mark_of : List ℕ → List ℕ
mark_of s = cond (begins_bom s) (0xfeff ∷ []) []

mark_go : (s : List ℕ) (b : Bool) → begins_bom s ≡ b → s ≡ cond b (0xfeff ∷ []) [] ++ without_bom s
mark_go s false e = rw e refl
mark_go [] true e = absurd (false≢true e)
mark_go (c ∷ cs) true e = rw (eqb-true c 0xfeff e) refl

pub marked_text : (s : List ℕ) → s ≡ mark_of s ++ without_bom s
marked_text s = mark_go s (begins_bom s) refl

mark_len_go : (b : Bool) → byte_len (cond b (0xfeff ∷ []) []) ≡ cond b 3 0
mark_len_go true = refl
mark_len_go false = refl

pub mark_len : (s : List ℕ) → byte_len (mark_of s) ≡ bom_len s
mark_len s = mark_len_go (begins_bom s)

-- where the text begins behind its mark
pub from_mark : (bs : List ℕ) → IsUtf8 bs → IsFrom bs (bom_len (chars bs)) (without_bom (chars bs))
from_mark bs u =
    let s = chars bs in
    subst (λ n. IsFrom bs n (without_bom s)) (zero-add (byte_len (mark_of s)) ∙ mark_len s) (from_back bs 0 (mark_of s) (without_bom s) (subst (IsFrom bs 0) (marked_text s) (from_whole bs u)))

nothing_behind : (xs ys : List ℕ) → xs ++ ys ≡ xs → ys ≡ []
nothing_behind [] ys e = e
nothing_behind (x ∷ xs) ys e = nothing_behind xs ys (ap (drop 1) e)

pub at_start : (bs : List ℕ) (a : Ahead) → IsUtf8 bs → a ≡ pieces (chars bs) → Start bs a
unfolding pieces
at_start bs a u e =
    let s = without_bom (chars bs) in
    let w = cut_front s in
    record {
      rest = w.0;
      at = record { here = subst (IsFrom bs (bom_len (chars bs))) w.1 (from_mark bs u); ahead = e };
      whole = w.1;
      none = λ f. nothing_behind (joined (cut s).tokens) w.0 (sym w.1 ∙ sym (cut_joins s f));
    }
