use Rattle.std.proofs.Common.{◌∙◌, sym, ap}
use Rattle.std.specs.Prelude.{nat_lt}
use Rattle.rules_tree.proofs.Barriers.{late_is, both}
use Rattle.rules_tree.proofs.no_invalid_position_at_import_rule.is_after.Goals as goal

pub returns-then-is_at_root : goal.returns-then-is_at_root
returns-then-is_at_root c =
    let top = sym c.is_at_root.ensures ∙ c.if-is_at_root.true in
    ap (λ k. nat_lt c.args.barrier k) c.number.ensures
    ∙ sym (both _ _ _ top (late_is c.args.work.now c.facts.ensures c.requires.fresh c.args.n c.args.barrier c.requires.given c.requires.barrier top))
