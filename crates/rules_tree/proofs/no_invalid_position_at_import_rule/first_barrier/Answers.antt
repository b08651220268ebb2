use Rattle.std.proofs.Common.{◌≡◌, ◌∙◌, sym, ap, arith}
use Rattle.std.specs.Prelude.{nat_lt}
use Rattle.rules_tree.specs.Late.{is_barrier}
use Rattle.rules_tree.proofs.Barriers.{first_there, none_there, one_more}
use Rattle.rules_tree.proofs.no_invalid_position_at_import_rule.first_barrier.Goals as goal

pub returns-then-is_barrier : goal.returns-then-is_barrier
returns-then-is_barrier c =
    λ n b. first_there (is_barrier c.args.work.now.nodes) c.loop-n.n n c.loop-n.invariant (ap (is_barrier c.args.work.now.nodes) (sym c.new.ensures) ∙ (sym c.is_barrier.ensures ∙ c.if-is_barrier.true))

pub loop-n-preserved : goal.loop-n-preserved
loop-n-preserved c =
    one_more (is_barrier c.args.work.now.nodes) c.loop-n.n c.loop-n.invariant (ap (is_barrier c.args.work.now.nodes) (sym c.new.ensures) ∙ (sym c.is_barrier.ensures ∙ c.if-is_barrier.false))

pub returns : goal.returns
returns c =
    let ns = c.args.work.now.nodes in
    let e : c.loop-n.n ≡ c.node_total.result = omega (arith, c.node_total.ensures, c.node_total-n-end.ensures, c.loop-n-test.false, c.loop-n.auto.n-end) in
    λ n b. none_there (is_barrier ns) c.loop-n.n n c.loop-n.invariant (omega (arith, e, c.node_total.ensures)) ∙ ap (λ k. nat_lt k n) e
