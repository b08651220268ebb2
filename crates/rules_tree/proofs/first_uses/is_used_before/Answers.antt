use Rattle.std.proofs.Common.{◌∙◌, ap}
use Rattle.std.specs.Str.{chars}
use Rattle.rules_tree.specs.FirstUses.{is_before, is_named}
use Rattle.rules_tree.proofs.Uses.{earlier_found}
use Rattle.rules_tree.proofs.first_uses.is_used_before.Goals as goal

pub returns : goal.returns
returns c =
    c.is_before.ensures ∙ (ap (is_before c.args.n) c.first_use.ensures ∙ earlier_found c.args.work.now c.facts.ensures c.requires.fresh c.args.n c.requires.given (is_named (chars c.args.name.now)))
