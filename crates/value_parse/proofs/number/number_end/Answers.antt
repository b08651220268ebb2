use Rattle.value_parse.proofs.Numbers.{number_by}
use Rattle.std.proofs.Common.{zero-add, ◌∙◌}
use Rattle.value_parse.proofs.number.number_end.Goals as goal

pub returns-else-end-start-clause-value : goal.returns-else-end-start-clause-value
returns-else-end-start-clause-value c = number_by c.args.s.now c.sign_end-start.result c.digits_end.result c.fraction_end-end.result c.exponent_end.result
    (c.sign_end-start.ensures.value ∙ zero-add _) c.digits_end.ensures.value c.fraction_end-end.ensures.value c.if-end-start.false c.exponent_end.ensures.value
