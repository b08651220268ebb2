use Rattle.value_parse.proofs.NumberBytes.{no_number_here, no_unit_here, both_here}
use Rattle.value_parse.proofs.NumberForms.{told}
use Rattle.value_parse.proofs.number.number_and_unit.Goals as goal
use Rattle.std.proofs.Common.{◌∙◌, sym}

pub returns-then-end-eq0 : goal.returns-then-end-eq0
returns-then-end-eq0 c = told _ _ (no_number_here c.args.word.now c.as_bytes-s.result.now c.number_end-end.result c.utf8.word c.as_bytes-s.ensures.value c.number_end-end.ensures.value c.if-end-eq0.true)

pub returns-then-not-is_unit : goal.returns-then-not-is_unit
returns-then-not-is_unit c = told _ _ (no_unit_here c.args.word.now c.as_bytes-s.result.now c.number_end-end.result c.utf8.word c.as_bytes-s.ensures.value c.number_end-end.ensures.value
    (sym c.is_unit.ensures ∙ c.if-not-is_unit.true))

pub returns : goal.returns
returns c = told _ _ (both_here c.args.word.now c.as_bytes-s.result.now c.number_end-end.result c.utf8.word c.as_bytes-s.ensures.value c.number_end-end.ensures.value c.if-end-eq0.false
    (sym c.is_unit.ensures ∙ c.if-not-is_unit.false))
