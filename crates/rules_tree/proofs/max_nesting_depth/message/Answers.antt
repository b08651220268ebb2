use Rattle.std.proofs.Common.{◌∙◌, ◌≡◌, ◌++◌, refl, arith, codes, subst, sym, ◌<◌, ◌^◌}
use Rattle.std.specs.Prelude.{IfOk, decimal}
use Rattle.rules_tree.proofs.Messages.{with_number}
use Rattle.rules_tree.proofs.max_nesting_depth.message.Goals as goal

pub returns : goal.returns
returns c =
    let e = c.in_ok-text.ensures.ok in
    let fits : c.args.most < 2 ^ 64 = omega arith in
    let k = with_number _ (codes "Expected nesting depth to be no more than ") c.args.most fits refl e in
    subst (λ z. IfOk c.from_string.result (λ t. t ≡ z)) k c.from_string.ensures
