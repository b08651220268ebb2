-- The loop over a `}` between statements.
use Rattle.std.proofs.Common.{◌≡◌, ℕ, zero, suc, ◌+◌, ◌<◌, ◌≤◌, List, [], ◌∷◌, None, length, drop, get_or, map, refl, ap, ◌∙◌, sym, subst, arith}
use Rattle.std.specs.Str.{chars, IsUtf8, IsCharBoundary}
use Rattle.std.proofs.lemmas.List.{length-reverse}
use Rattle.css_text.specs.declared.lexer.PieceKind.TheVariants as K
use Rattle.css_text.specs.Ahead.{Ahead, ahead}
use Rattle.css_text.specs.Shared.{IsPart}
use Rattle.css_text.proofs.Slices.{from_boundary}
use Rattle.css_tree.specs.Pieces.{Lexeme, Shape, shape, end_of}
use Rattle.css_tree.specs.Turn.{turn, closes}
use Rattle.css_tree.specs.Fault.{fits_by}
use Rattle.css_parse.specs.declared.parser.Parser.{Parser}
use Rattle.css_parse.specs.declared.turn.Frame.{Frame}
use Rattle.css_parse.specs.Going.{Reading, Going}
use Rattle.css_parse.specs.Machine.{Machine, next, left, sealed}
use Rattle.css_parse.specs.Model.{model}
use Rattle.css_parse.specs.Standing.{sheet}
use Rattle.css_parse.specs.Steps.{opening_of}
use Rattle.css_parse.proofs.Giving.{close-steps, given-idle}
use Rattle.css_parse.proofs.ParserPlaces.{up-to-here}
use Rattle.css_parse.proofs.PlainPieces.{sign_first}
use Rattle.css_parse.proofs.PlainReadings.{at-reading}
use Rattle.css_parse.proofs.PlainSlices.{drop-at}
use Rattle.css_parse.proofs.PlainSteps.{At, Stepped, stepped, piece_of}
use Rattle.css_parse.proofs.Standing.{gap as part_gap}

turn-closes : (r aw : List Lexeme) (q : Lexeme) → r ≡ [] → shape q ≡ Shape.brace_close → turn r aw q ≡ closes
unfolding turn
turn-closes r aw q e f = rw (e, f) refl

-- no fault is found at a `}` where a block is open
fits-closes : (fs : List Frame) (r : List Lexeme) (q : Lexeme) → 0 < length fs → r ≡ [] → fits_by (map opening_of fs) r q closes ≡ None
fits-closes [] r q l e = absurd (omega arith)
fits-closes (f ∷ fs) r q l e = rw e refl

-- the `}` at that byte
abbrev closer : ℕ → Lexeme
closer at = piece_of K.Single at (125 ∷ [])

closing-step : (s bs : List ℕ) (m : Machine) (at : ℕ) (rest : List ℕ) → IsUtf8 bs → m.run ≡ [] → 0 < length m.frames → At s bs m at (125 ∷ rest) → Stepped s bs (next m (closer at) closes) at (closer at) (125 ∷ []) rest
unfolding shape
closing-step s bs m at rest u e l x =
    stepped s bs m at K.Single 125 [] rest u (omega arith, tt) x closes (sign_first at 125 rest refl) (turn-closes m.run m.awaited (closer at) e refl) (fits-closes m.frames m.run (closer at) l e)

-- a byte that isn't 0 stands in the text
read-inside : (bs : List ℕ) (i : ℕ) → get_or bs i 0 ≡ 125 → i < length bs
read-inside [] i e = absurd (cc)
read-inside (b ∷ bs) zero e = omega arith
read-inside (b ∷ bs) (suc i) e = omega (arith, read-inside bs i e)

-- where a piece ends
ends-boundary : (s bs : List ℕ) (lexer : Ahead) (m : Machine) (at : ℕ) → Reading s bs lexer m at → IsCharBoundary bs at
ends-boundary s bs lexer m at h = from_boundary bs at _ h.is_at.here

-- what is known where the `}` of the open block was found
pub record FoundClose (bs : List ℕ) (at : ℕ) (p : Parser) : Type 0 where
  pub gap : IsPart (sheet p.texts) p.gap.start p.gap.end
  pub within : at + 1 ≤ length bs
  pub on : (n : Parser) → ((q : Lexeme) → end_of q ≡ at + 1 → model n ≡ left (sealed (model p) q)) → n.texts ≡ p.texts → n.gap ≡ part_gap (at + 1) (at + 1) → n.run ≡ [] → Going (chars bs) bs (at + 1) n

pub found-close : (bs : List ℕ) (at : ℕ) (p : Parser) → IsUtf8 bs → Going (chars bs) bs at p → p.run ≡ [] → 0 < length p.frames.items → get_or bs at 0 ≡ 125 → FoundClose bs at p
found-close bs at p u g idle some e =
    let l = read-inside bs at e in
    let end = at + 1 in
    let rest = drop end bs in
    let d : drop at bs ≡ 125 ∷ rest = drop-at bs at l ∙ ap (λ c. c ∷ rest) e in
    let here : At (chars bs) bs (model p) at (125 ∷ rest) = record { here = d; reading = subst (λ z. Reading (chars bs) bs (ahead at z) (model p) at) d g.reading } in
    let x = closing-step (chars bs) bs (model p) at rest u idle (omega (arith, some, length-reverse p.frames.items)) here in
    let q : Lexeme = closer at in
    let reading : Reading (chars bs) bs (ahead end (drop end bs)) (next (model p) q closes) end = at-reading (chars bs) bs (next (model p) q closes) end rest x.next in
    let after : IsCharBoundary bs end = ends-boundary (chars bs) bs (ahead end (drop end bs)) (next (model p) q closes) end reading in
    let same = g.up_to.same in
    record {
      gap = subst (λ z. IsPart z p.gap.start p.gap.end) (sym same) g.up_to.behind.gap;
      within = reading.is_at.here.fits;
      on = λ n m t k r.
          let is : model n ≡ next (model p) q closes = m q x.end ∙ (ap (λ z. left (sealed z q)) (sym (given-idle (model p) idle)) ∙ close-steps (model p) q g.reading.ready.known) in
          record {
            reading = subst (λ z. Reading (chars bs) bs (ahead end (drop end bs)) z end) (sym is) reading;
            up_to = up-to-here bs p at n end g.up_to after t k r;
          };
    }
