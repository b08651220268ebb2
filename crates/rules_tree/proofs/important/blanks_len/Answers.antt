use Rattle.std.proofs.Common.{◌∙◌, sym, ap, drop, Ok}
use Rattle.std.specs.Str.{chars}
use Rattle.std.proofs.lemmas.Str.{encodes-chars}
use Rattle.css_text.specs.Ahead.{ahead, next_of}
use Rattle.rules_tree.proofs.Blanks.{blank_end-is, first_piece, no_piece, no_answer, stop_here}
use Rattle.rules_tree.proofs.important.blanks_len.Goals as goal

pub returns-then-not-is_blank : goal.returns-then-not-is_blank
returns-then-not-is_blank c =
    let s = c.args.src.now in
    let at = c.blanks.at in
    let e = sym (c.next_at.ensures.answer ∙ ap (λ b. next_of (ahead at (drop at b)).pieces (ahead at (drop at b)).fault) c.as_bytes-bytes.ensures.value) ∙ (c.in-Ok-Some.is ∙ ap Ok c.in-Ok-Some.field-0-is) in
    let first = first_piece (ahead at (drop at s)).pieces (ahead at (drop at s)).fault c.in-Ok-Some.piece e in
    sym (stop_here at _ _ _ first (sym c.is_blank.ensures ∙ c.if-not-is_blank.true)) ∙ (c.blanks.invariant.1 ∙ blank_end-is s (chars s) (sym (encodes-chars s c.utf8.src)))

pub returns-in-Ok-None : goal.returns-in-Ok-None
returns-in-Ok-None c =
    let s = c.args.src.now in
    let at = c.blanks.at in
    let e = sym (c.next_at.ensures.answer ∙ ap (λ b. next_of (ahead at (drop at b)).pieces (ahead at (drop at b)).fault) c.as_bytes-bytes.ensures.value) ∙ (c.in-Ok-None.is ∙ ap Ok c.in-Ok-None.field-0-is) in
    sym (no_piece (ahead at (drop at s)).pieces (ahead at (drop at s)).fault at e) ∙ (c.blanks.invariant.1 ∙ blank_end-is s (chars s) (sym (encodes-chars s c.utf8.src)))

pub returns-in-Err : goal.returns-in-Err
returns-in-Err c =
    let s = c.args.src.now in
    let at = c.blanks.at in
    let e = sym (c.next_at.ensures.answer ∙ ap (λ b. next_of (ahead at (drop at b)).pieces (ahead at (drop at b)).fault) c.as_bytes-bytes.ensures.value) ∙ c.in-Err.is in
    sym (no_answer (ahead at (drop at s)).pieces (ahead at (drop at s)).fault at c.in-Err.field-0 e) ∙ (c.blanks.invariant.1 ∙ blank_end-is s (chars s) (sym (encodes-chars s c.utf8.src)))
