use Rattle.std.proofs.Common.{sym, ◌∙◌}
use Rattle.lint_config.proofs.Numbers.{parsed, unread}
use Rattle.lint_config.proofs.options.short_number.Goals as goal

pub returns-then-is_numeral : goal.returns-then-is_numeral
returns-then-is_numeral c = c.ok.ensures.value ∙ parsed c.args.text.now c.parse.result c.parse.ensures.value.0 (sym c.is_numeral.ensures ∙ c.if-is_numeral.true)

pub returns-else-is_numeral : goal.returns-else-is_numeral
returns-else-is_numeral c = unread c.args.text.now (sym c.is_numeral.ensures ∙ c.if-is_numeral.false)
