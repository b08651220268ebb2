use Rattle.std.proofs.Common.{◌≡◌, ◌<◌, sym, ◌∙◌, subst, length}
use Rattle.std.proofs.lemmas.Bool.{eqb-true}
use Rattle.stringify.proofs.Turns.{follows-end}
use Rattle.stringify.proofs.steps.go_on.Goals as goal

pub returns-then-eq : goal.returns-then-eq
returns-then-eq c =
    let e : c.args.at.node ≡ c.args.top = eqb-true c.args.at.node c.args.top (sym c.eq.ensures ∙ c.if-eq.true) in
    follows-end c.args.work.now c.facts.ensures c.args.top c.args.at c.requires c.args.out.now c.if-at.false e
    (subst (λ n. n < length c.args.work.now.nodes) e c.requires.given)
