use Rattle.std.proofs.Common.{[], ◌∷◌, refl}
use Rattle.std.proofs.lemmas.Result.{MatchResult-weaker}
use Rattle.node_store.specs.declared.item.Edit.TheVariants.{Remove}
use Rattle.edit_calls.specs.Plans.{removing, refused_out}
use Rattle.edit_calls.proofs.Answering.{plan-ok, passed, makes-one, answered}
use Rattle.edit_calls.proofs.Beside.{out-allowed}
use Rattle.edit_calls.proofs.moving.remove.Goals as goal

pub returns-clause-answer : goal.returns-clause-answer
returns-clause-answer c =
    let old = c.args.work.now in
    let n = c.args.n in
    let rs = refused_out old.nodes n in
    let pass = passed rs c.check_out.result c.map_err.result c.in_ok-map_err.field-0 c.map_err.ensures.variant c.in_ok-map_err.was c.check_out.ensures in
    answered (removing old.nodes n) (Remove n ∷ []) old c.take_out.new.self c.take_out.result c.map_err-2.result (plan-ok rs (Remove n ∷ []) pass)
    (MatchResult-weaker c.take_out.result c.take_out.ensures.edit (λ _ h. makes-one old c.take_out.new.self (Remove n) (out-allowed old.nodes n pass) refl h) (λ _ h. h)) c.map_err-2.ensures.cases
