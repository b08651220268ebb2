use Rattle.std.proofs.Common.{◌≡◌, Some, refl}
use Rattle.std.proofs.lemmas.Result.{IfOk-at_ok}
use Rattle.css_text.specs.declared.stop.Stop.TheVariants.{Fault}
use Rattle.edit_calls.specs.declared.spot.Spot.{Spot}
use Rattle.edit_calls.specs.declared.spot.Spot.TheVariants.{Before}
use Rattle.edit_calls.specs.Spots.{anchor_of, IsMove}
use Rattle.edit_calls.proofs.Answering.{unwrapped}
use Rattle.edit_calls.proofs.moving.insert_before.Goals as goal

pub move_to-requires-clause-allowed : goal.move_to-requires-clause-allowed
move_to-requires-clause-allowed c =
    let p = c.in_ok-parent.parent in
    let was = unwrapped (λ e s. s ≡ Fault e) c.check_beside.result c.map_err.result p c.map_err.ensures.cases c.in_ok-parent.was in
    IfOk-at_ok (λ q. (spot : Spot) → anchor_of spot ≡ Some c.args.anchor → IsMove c.args.work.now.nodes c.args.node q spot) was c.check_beside.ensures.allowed (Before c.args.anchor) refl
