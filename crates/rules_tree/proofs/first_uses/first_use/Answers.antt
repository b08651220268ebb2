use Rattle.std.proofs.Common.{◌≡◌, Some, None, ◌∙◌, sym, ap, length}
use Rattle.std.specs.List.{find, range_with_len}
use Rattle.std.specs.Str.{chars}
use Rattle.node_rows.specs.Nodes.{parent_of}
use Rattle.rules_tree.specs.FirstUses.{is_use, is_named}
use Rattle.rules_tree.proofs.Uses.{no_block}
use Rattle.rules_tree.proofs.first_uses.first_use.Goals as goal

pub returns-in-None : goal.returns-in-None
returns-in-None c =
    let ns = c.args.work.now.nodes in
    let test = is_named (chars c.args.name.now) in
    let xs = range_with_len 0 (length ns) in
    no_block ns test xs ∙ ap (λ o. find (is_use ns o test) xs) (sym (sym c.parent_of.ensures ∙ c.in-None.is))

pub returns-in-Some : goal.returns-in-Some
returns-in-Some c =
    let ns = c.args.work.now.nodes in
    let test = is_named (chars c.args.name.now) in
    let xs = range_with_len 0 (length ns) in
    let u = c.requires.uses (record { block = c.number-block.result; name = c.args.name }) in
    let e = ap (λ o. find (is_use ns o test) xs) (ap Some c.number-block.ensures ∙ sym (sym c.parent_of.ensures ∙ c.in-Some.is)) in
    c.copied.ensures ∙ (c.get.ensures.value ∙ (u ∙ e))
