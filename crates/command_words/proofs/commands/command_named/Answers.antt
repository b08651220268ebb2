use Rattle.std.proofs.Common.{◌≡◌, IfOk, map, subst, sym, ◌∙◌}
use Rattle.std.specs.Option.{option_map}
use Rattle.std.specs.Str.{chars}
use Rattle.command_words.specs.Words.{word}
use Rattle.command_words.specs.CommandSeen.{command_seen}
use Rattle.command_words.proofs.CommandNames.{is_transform, is_lint, is_neither}
use Rattle.command_words.proofs.commands.command_named.Goals as goal

pub returns-then-is_same-clause-is : goal.returns-then-is_same-clause-is
returns-then-is_same-clause-is c =
    subst (λ z. IfOk c.transform_command.result (λ x. option_map command_seen x ≡ z))
    (is_transform c.args.names.now (chars c.args.name.now) (map word c.args.words.now) (sym c.is_same.ensures ∙ c.if-is_same.true)) c.transform_command.ensures.is

pub returns-then-is_same-2-clause-is : goal.returns-then-is_same-2-clause-is
returns-then-is_same-2-clause-is c =
    subst (λ z. IfOk c.lint_command.result (λ x. option_map command_seen x ≡ z))
    (is_lint c.args.names.now (chars c.args.name.now) (map word c.args.words.now) (sym c.is_same.ensures ∙ c.if-is_same.false) (sym c.is_same-else-is_same.ensures ∙ c.if-is_same-2.true)) c.lint_command.ensures.is

pub returns-else-is_same-2-clause-is : goal.returns-else-is_same-2-clause-is
returns-else-is_same-2-clause-is c =
    is_neither c.args.names.now (chars c.args.name.now) (map word c.args.words.now) (sym c.is_same.ensures ∙ c.if-is_same.false) (sym c.is_same-else-is_same.ensures ∙ c.if-is_same-2.false)
