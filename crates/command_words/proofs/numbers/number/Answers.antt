use Rattle.std.proofs.Common.{◌∙◌, ap, sym, arith}
use Rattle.command_words.proofs.Digits.{none_other, none_long, within, parsed_as, within_more, within_less}
use Rattle.command_words.proofs.numbers.number.Goals as goal
use Rattle.command_words.proofs.numbers.number.Goals.{then-text-gt10-via-then-text-gt10, then-text-gt10-via-else-text-gt10+then-not-all_digits}

pub returns-then-text-gt10 : goal.returns-then-text-gt10
returns-then-text-gt10 c = elim c.then-text-gt10.branch [
  | then-text-gt10-via-then-text-gt10 w ↦ none_long c.args.most c.args.text.now c.utf8.text w.if-text-gt10.true
  | then-text-gt10-via-else-text-gt10+then-not-all_digits w ↦ none_other c.args.most c.args.text.now c.utf8.text (sym w.all_digits.ensures ∙ w.if-not-all_digits.true)
]

pub returns-in_err-number : goal.returns-in_err-number
returns-in_err-number c =
    parsed_as c.args.most c.args.text.now c.parse.result c.ok.result _ (omega (arith, c.ranges.most)) c.if-text-gt10.false c.parse.ensures.value.0 (sym c.all_digits.ensures ∙ c.if-not-all_digits.false) c.ok.ensures.value
    (c.from_residual.ensures ∙ sym (ap (within c.args.most) c.in_err-number.was))

pub returns-then-number-most : goal.returns-then-number-most
returns-then-number-most c =
    parsed_as c.args.most c.args.text.now c.parse.result c.ok.result _ (omega (arith, c.ranges.most)) c.if-text-gt10.false c.parse.ensures.value.0 (sym c.all_digits.ensures ∙ c.if-not-all_digits.false) c.ok.ensures.value
    (within_more c.args.most c.in_ok-number.number c.if-number-most.true ∙ sym (ap (within c.args.most) c.in_ok-number.was))

pub returns-else-number-most : goal.returns-else-number-most
returns-else-number-most c =
    parsed_as c.args.most c.args.text.now c.parse.result c.ok.result _ (omega (arith, c.ranges.most)) c.if-text-gt10.false c.parse.ensures.value.0 (sym c.all_digits.ensures ∙ c.if-not-all_digits.false) c.ok.ensures.value
    (within_less c.args.most c.in_ok-number.number c.if-number-most.false ∙ sym (ap (within c.args.most) c.in_ok-number.was))
