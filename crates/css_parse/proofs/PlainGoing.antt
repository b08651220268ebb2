-- The loop over a plain statement.
use Rattle.std.proofs.Common.{◌≡◌, ℕ, ◌+◌, ◌-◌, ◌<◌, ◌≤◌, List, [], ◌∷◌, length, drop, take, ap, ◌∙◌, sym, subst, arith}
use Rattle.std.specs.Str.{chars, IsUtf8, IsCharBoundary}
use Rattle.std.proofs.lemmas.List.{length-reverse}
use Rattle.css_text.specs.Ahead.{ahead}
use Rattle.css_text.proofs.Slices.{from_boundary}
use Rattle.css_tree.specs.Pieces.{Lexeme, end_of, last_end}
use Rattle.css_parse.specs.declared.parser.Parser.{Parser}
use Rattle.css_parse.specs.declared.plain.PlainLeaf.{PlainLeaf}
use Rattle.css_parse.specs.declared.plain.PlainHead.{PlainHead}
use Rattle.css_parse.specs.Going.{Reading, Going}
use Rattle.css_parse.specs.Model.{model, IsUpTo}
use Rattle.css_parse.specs.Plain.{IsPlainLeaf, IsPlainHead, IsLeafRun, IsHeadRun}
use Rattle.css_parse.specs.PlainSteps.{leaf_next, head_next, brace}
use Rattle.css_parse.specs.Standing.{sheet}
use Rattle.css_parse.proofs.PlainHeads.{head-reading}
use Rattle.css_parse.proofs.PlainParts.{head-parts}
use Rattle.css_parse.proofs.PlainReadings.{leaf-reading}

-- the gap ends where the parser stands
pub gap-here : (bs : List ℕ) (at : ℕ) (p : Parser) → IsUpTo bs p at → p.run ≡ [] → p.gap.end ≡ at
gap-here bs at p u e = sym (ap (last_end p.gap.end) e) ∙ u.end

-- what is known where a declaration was found
pub record FoundLeaf (bs : List ℕ) (at : ℕ) (p : Parser) (x : PlainLeaf) : Type 0 where
  pub behind : IsCharBoundary (sheet p.texts) (x.semicolon + 1)
  pub within : x.semicolon + 1 ≤ length bs
  pub more : at < x.semicolon + 1
  pub on : (n : Parser) → ((run : List Lexeme) → IsLeafRun (sheet p.texts) p.gap.end x run → model n ≡ leaf_next (model p) run) → IsUpTo (sheet p.texts) n (x.semicolon + 1) → Going (chars bs) bs (x.semicolon + 1) n

pub found-leaf : (bs : List ℕ) (at : ℕ) (p : Parser) (x : PlainLeaf) → IsUtf8 bs → Going (chars bs) bs at p → p.run ≡ [] → IsPlainLeaf bs at x → FoundLeaf bs at p x
found-leaf bs at p x u g idle h =
    let end = x.semicolon + 1 in
    let r = leaf-reading (chars bs) bs (model p) at x u g.reading idle h in
    let same = g.up_to.same in
    let run : IsLeafRun (sheet p.texts) p.gap.end x r.run = subst (λ z. IsLeafRun z p.gap.end x r.run) (sym same) (subst (λ n. IsLeafRun bs n x r.run) (sym (gap-here bs at p g.up_to idle)) r.is_run) in
    record {
      behind = subst (λ z. IsCharBoundary z end) (sym same) (from_boundary bs end _ r.reading.is_at.here);
      within = r.reading.is_at.here.fits;
      more = omega (arith, h.colon_at, h.value_at, h.end_at, h.semicolon_at);
      on = λ n m v. record {
        reading = subst (λ z. Reading (chars bs) bs (ahead end (drop end bs)) z end) (sym (m r.run run)) r.reading;
        up_to = subst (λ z. IsUpTo z n end) same v;
      };
    }

-- what is known where the head of a rule was found
pub record FoundHead (bs : List ℕ) (at : ℕ) (p : Parser) (x : PlainHead) : Type 0 where
  pub begins : IsCharBoundary bs x.brace
  pub ends : IsCharBoundary bs (x.brace + 1)
  pub is_brace : take (x.brace + 1 - x.brace) (drop x.brace bs) ≡ 123 ∷ []
  pub ending : end_of (brace x.brace) ≡ x.brace + 1
  pub behind : IsCharBoundary (sheet p.texts) (x.brace + 1)
  pub within : x.brace + 1 ≤ length bs
  pub more : at < x.brace + 1
  pub on : (n : Parser) → ((run : List Lexeme) → IsHeadRun (sheet p.texts) p.gap.end x run → model n ≡ head_next (model p) run (brace x.brace)) → IsUpTo (sheet p.texts) n (x.brace + 1) → Going (chars bs) bs (x.brace + 1) n

one : (n : ℕ) → n + 1 - n ≡ 1
one n = omega arith

pub found-head : (bs : List ℕ) (at : ℕ) (p : Parser) (x : PlainHead) → IsUtf8 bs → Going (chars bs) bs at p → p.run ≡ [] → length p.frames.items < 200 → IsPlainHead bs at x → FoundHead bs at p x
found-head bs at p x u g idle few h =
    let end = x.brace + 1 in
    let r = head-reading (chars bs) bs (model p) at x u g.reading idle (omega (arith, few, length-reverse p.frames.items)) h in
    let same = g.up_to.same in
    let run : IsHeadRun (sheet p.texts) p.gap.end x r.run = subst (λ z. IsHeadRun z p.gap.end x r.run) (sym same) (subst (λ n. IsHeadRun bs n x r.run) (sym (gap-here bs at p g.up_to idle)) r.is_run) in
    let parts = head-parts bs at x g.up_to.behind.is_sheet (from_boundary bs at _ g.reading.is_at.here) h in
    let after : IsCharBoundary bs end = from_boundary bs end _ r.reading.is_at.here in
    record {
      begins = parts.between.ends;
      ends = after;
      is_brace = ap (λ k. take k (drop x.brace bs)) (one x.brace) ∙ ap (take 1) parts.brace;
      ending = r.end;
      behind = subst (λ z. IsCharBoundary z end) (sym same) after;
      within = r.reading.is_at.here.fits;
      more = omega (arith, h.end_at, h.brace_at);
      on = λ n m v. record {
        reading = subst (λ z. Reading (chars bs) bs (ahead end (drop end bs)) z end) (sym (m r.run run)) r.reading;
        up_to = subst (λ z. IsUpTo z n end) same v;
      };
    }
