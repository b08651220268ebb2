use Rattle.std.proofs.Common.{◌+◌, eqb, get_or, drop, ap, sym, ◌∙◌}
use Rattle.std.specs.Prelude.{◌&&◌}
use Rattle.std.proofs.lemmas.Bool.{and_parts, eqb-true}
use Rattle.css_text.proofs.Slices.{slice_chars, slice_length}
use Rattle.selector_parse.specs.Reading.{scan_len, scan_last, is_final}
use Rattle.selector_parse.specs.Tree.{text}
use Rattle.selector_parse.proofs.Scanned.{scanned_by}
use Rattle.std.specs.Str.{chars}
use Rattle.selector_parse.proofs.Trees.{args_plain}
use Rattle.selector_parse.proofs.Rows.{closed_text}
use Rattle.selector_parse.proofs.parse.plain_arguments.Goals as goal

pub returns-then-not-is_closed-clause-halt : goal.returns-then-not-is_closed-clause-halt
returns-then-not-is_closed-clause-halt c =
    let bs = c.args.src.now in
    let h = scanned_by bs c.as_bytes-bytes.result.now c.args.from c.args.start c.scan-end.result.0 c.scan-end.result.1 c.as_bytes-bytes.ensures.value c.requires.utf8 c.requires.boundary c.scan-end.ensures.end c.scan-end.ensures.last in
    record {
      front = h.inner;
      back = h.ahead;
      fits = h.front.fits;
      text = h.front.text;
      size = sym (slice_length bs c.args.from c.scan-end.result.0 h.inner h.slice);
      end_is = c.scan-end.ensures.end ∙ ap (λ s. c.args.from + scan_len c.args.start (drop c.args.from s)) c.as_bytes-bytes.ensures.value;
      last = c.scan-end.result.1;
      last_is = c.scan-end.ensures.last ∙ ap (λ s. scan_last c.args.start (drop c.args.from s)) c.as_bytes-bytes.ensures.value;
      reads = h.reads;
      stuck = h.stuck;
      open_text = ap (λ s. is_final c.scan-end.result.1 && eqb (get_or s c.scan-end.result.0 0) 41) (sym c.as_bytes-bytes.ensures.value) ∙ sym c.is_closed.ensures ∙ c.if-not-is_closed.true;
    }

pub returns-clause-row : goal.returns-clause-row
returns-clause-row c =
    let bs = c.args.src.now in
    let h = scanned_by bs c.as_bytes-bytes.result.now c.args.from c.args.start c.scan-end.result.0 c.scan-end.result.1 c.as_bytes-bytes.ensures.value c.requires.utf8 c.requires.boundary c.scan-end.ensures.end c.scan-end.ensures.last in
    let t = slice_chars bs c.args.from c.scan-end.result.0 h.inner c.requires.utf8 h.slice in
    let e = and_parts (is_final c.scan-end.result.1) (eqb (get_or bs c.scan-end.result.0 0) 41) (ap (λ s. is_final c.scan-end.result.1 && eqb (get_or s c.scan-end.result.0 0) 41) (sym c.as_bytes-bytes.ensures.value) ∙ sym c.is_closed.ensures ∙ c.if-not-is_closed.false) in
    closed_text bs c.args.from c.scan-end.result.0 c.args.start c.scan-end.result.1 _ h (c.scan-end.ensures.last ∙ ap (λ s. scan_last c.args.start (drop c.args.from s)) c.as_bytes-bytes.ensures.value)
    (args_plain c.in_ok-text.text ∙ ap text (c.in_ok-text.ensures ∙ ap chars c.range.ensures.value ∙ t)) e.0 (eqb-true (get_or bs c.scan-end.result.0 0) 41 e.1)
