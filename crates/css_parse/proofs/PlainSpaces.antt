-- The loop over white space between statements.
use Rattle.std.proofs.Common.{◌≡◌, ℕ, ◌+◌, ◌<◌, List, [], ◌∷◌, ◌++◌, length, drop, refl, ap, ◌∙◌, sym, subst, inl, inr, arith}
use Rattle.std.specs.Str.{chars, IsUtf8}
use Rattle.std.proofs.lemmas.Bool.{cases_lt}
use Rattle.css_text.specs.declared.lexer.PieceKind.TheVariants as K
use Rattle.css_text.specs.Ahead.{ahead}
use Rattle.css_text.specs.Characters.{is_space}
use Rattle.css_text.specs.Forms.{space_len}
use Rattle.css_text.proofs.Slices.{IsSlice}
use Rattle.css_tree.specs.Classes.{Each, BeginsWithout}
use Rattle.css_tree.specs.Pieces.{Lexeme, Shape, shape, end_of}
use Rattle.css_tree.specs.Turn.{turn, gap}
use Rattle.css_parse.specs.declared.parser.Parser.{Parser}
use Rattle.css_parse.specs.Going.{Reading, Going}
use Rattle.css_parse.specs.Machine.{Machine, next}
use Rattle.css_parse.specs.Model.{model, IsUpTo, IsNext}
use Rattle.css_parse.specs.Standing.{gap_text}
use Rattle.css_parse.proofs.ParserPlaces.{next-gap, up-to-gap}
use Rattle.css_parse.proofs.PlainGoing.{gap-here}
use Rattle.css_parse.proofs.PlainPieces.{all-low, space-low, space_first, spaces}
use Rattle.css_parse.proofs.PlainReadings.{at-reading}
use Rattle.css_parse.proofs.PlainSplits.{split}
use Rattle.css_parse.proofs.PlainSteps.{At, Stepped, stepped, piece_of}
use Rattle.css_parse.proofs.Standing.{gap as part_gap}

turn-gap : (r aw : List Lexeme) (q : Lexeme) → r ≡ [] → shape q ≡ Shape.space → turn r aw q ≡ gap
unfolding turn
turn-gap r aw q e f = rw (e, f) refl

spaces-step : (s bs : List ℕ) (m : Machine) (at : ℕ) (t rest : List ℕ) → IsUtf8 bs → m.run ≡ [] → 0 < length t → Each is_space t → BeginsWithout is_space rest → At s bs m at (t ++ rest)
    → Stepped s bs (next m (piece_of K.Space at t) gap) at (piece_of K.Space at t) t rest
unfolding shape
spaces-step s bs m at [] rest u e l h b x = absurd (omega arith)
spaces-step s bs m at (c ∷ t) rest u e l h b x =
    stepped s bs m at K.Space c t rest u (all-low is_space space-low (c ∷ t) h) x gap (space_first at c t rest h b) (turn-gap m.run m.awaited (piece_of K.Space at (c ∷ t)) e refl) refl

-- the run of white space at a byte, up to where it ends, as a piece of the gap
record SpacesReading (s bs : List ℕ) (m : Machine) (at end : ℕ) : Type 0 where
  piece : Lexeme
  begins : piece.at ≡ at
  slice : IsSlice bs piece.at (end_of piece) piece.text
  ends : end_of piece ≡ end
  reading : Reading s bs (ahead end (drop end bs)) (next m piece gap) end

spaces-reading : (s bs : List ℕ) (m : Machine) (at end : ℕ) → IsUtf8 bs → Reading s bs (ahead at (drop at bs)) m at → m.run ≡ [] → end ≡ at + space_len (drop at bs) → at < end → SpacesReading s bs m at end
spaces-reading s bs m at end u x idle e l =
    let y = split is_space (drop at bs) in
    let n : space_len (drop at bs) ≡ length y.front = ap space_len y.all ∙ spaces y.front y.back y.front_class y.back_begins in
    let k : at + length y.front ≡ end = omega (arith, e, n) in
    let here : At s bs m at (y.front ++ y.back) = record { here = y.all; reading = subst (λ z. Reading s bs (ahead at z) m at) y.all x } in
    let z = spaces-step s bs m at y.front y.back u idle (omega (arith, e, n, l)) y.front_class y.back_begins here in
    let q : Lexeme = piece_of K.Space at y.front in
    record {
      piece = q;
      begins = refl;
      slice = z.slice;
      ends = z.end ∙ k;
      reading = subst (λ n. Reading s bs (ahead n (drop n bs)) (next m q gap) n) k (at-reading s bs (next m q gap) (at + length y.front) y.back z.next);
    }

-- the parser with its gap up to that byte
abbrev pub gapped : Parser → ℕ → Parser
gapped p end = record p { gap = part_gap p.gap.start end }

some-spaces : (bs : List ℕ) (at end : ℕ) (p : Parser) → IsUtf8 bs → Going (chars bs) bs at p → p.run ≡ [] → end ≡ at + space_len (drop at bs) → at < end → Going (chars bs) bs end (gapped p end)
some-spaces bs at end p u g idle e l =
    let x = spaces-reading (chars bs) bs (model p) at end u g.reading idle e l in
    let q = x.piece in
    let near : IsNext bs p q = record { up_to = subst (IsUpTo bs p) (sym x.begins) g.up_to; slice = x.slice } in
    let is : part_gap p.gap.start end ≡ part_gap p.gap.start (end_of q) = ap (part_gap p.gap.start) (sym x.ends) in
    let same : model (gapped p end) ≡ next (model p) q gap = ap {B = Machine} (λ z. record (model p) { gap = z }) (subst (λ z. gap_text z (part_gap p.gap.start end) ≡ gap_text z p.gap ++ q.text) (sym g.up_to.same) (next-gap bs p q (part_gap p.gap.start end) near idle is)) in
    record {
      reading = subst (λ z. Reading (chars bs) bs (ahead end (drop end bs)) z end) (sym same) x.reading;
      up_to = subst (IsUpTo bs (gapped p end)) x.ends (up-to-gap bs p (gapped p end) q near idle refl is idle);
    }

-- with its gap up to where it ends already
pub not-gapped : (bs : List ℕ) (at end : ℕ) (p : Parser) → IsUpTo bs p at → p.run ≡ [] → end ≡ at → gapped p end ≡ p
not-gapped bs at end p h idle e = ap (gapped p) (e ∙ sym (gap-here bs at p h idle))

-- behind white space, if there is any
pub spaces-going : (bs : List ℕ) (at end : ℕ) (p : Parser) → IsUtf8 bs → Going (chars bs) bs at p → p.run ≡ [] → end ≡ at + space_len (drop at bs) → Going (chars bs) bs end (gapped p end)
spaces-going bs at end p u g idle e = elim (cases_lt at end) [
  | inl l ↦ some-spaces bs at end p u g idle e l
  | inr l ↦ let k : end ≡ at = omega (arith, e, l) in subst (λ z. Going (chars bs) bs z (gapped p end)) (sym k) (subst (Going (chars bs) bs at) (sym (not-gapped bs at end p g.up_to idle k)) g)
]
