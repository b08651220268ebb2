use Rattle.std.proofs.Common.{sym, ◌∙◌}
use Rattle.css_parse.proofs.PlainScan.{scanned-flat}
use Rattle.css_parse.proofs.plain.statement_at.Goals as goal
use Rattle.css_parse.proofs.plain.statement_at.Goals.{else-at-colon-via-then-at-colon+else-byte_at-ne58, else-at-colon-via-else-at-colon}

pub bracketed_at-requires-clause-scanned : goal.bracketed_at-requires-clause-scanned
bracketed_at-requires-clause-scanned c =
    scanned-flat c.args.bytes.now c.args.at c.name_end-colon.result c.flat_end-end.result c.name_end-colon.ensures.value c.flat_end-end.ensures.value c.flat_end-end.ensures.within
    (λ e. elim c.else-at-colon.branch [
      | else-at-colon-via-then-at-colon+else-byte_at-ne58 w ↦ sym w.byte_at.ensures ∙ w.if-byte_at-ne58.false
      | else-at-colon-via-else-at-colon w ↦ absurd (w.if-at-colon.false e)
    ])

pub ended_at-requires : goal.ended_at-requires
ended_at-requires c =
    scanned-flat c.args.bytes.now c.args.at c.name_end-colon.result c.flat_end-end.result c.name_end-colon.ensures.value c.flat_end-end.ensures.value c.flat_end-end.ensures.within
    (λ e. elim c.else-at-colon.branch [
      | else-at-colon-via-then-at-colon+else-byte_at-ne58 w ↦ sym w.byte_at.ensures ∙ w.if-byte_at-ne58.false
      | else-at-colon-via-else-at-colon w ↦ absurd (w.if-at-colon.false e)
    ])
