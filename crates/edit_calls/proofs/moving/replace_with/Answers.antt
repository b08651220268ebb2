use Rattle.std.proofs.Common.{◌≡◌, Some, Ok, Err, refl}
use Rattle.std.proofs.lemmas.Result.{IfOk-at_ok, MatchResult-at_ok}
use Rattle.css_text.specs.declared.stop.Stop.TheVariants.{Fault, Memory}
use Rattle.edit_calls.specs.declared.spot.Spot.{Spot}
use Rattle.edit_calls.specs.declared.spot.Spot.TheVariants.{Before}
use Rattle.node_rows.specs.Nodes.{parent_of}
use Rattle.node_store.specs.Forest.{unreserved}
use Rattle.edit_calls.specs.Plans.{moving, without, refused_beside}
use Rattle.edit_calls.specs.Checks.{checked}
use Rattle.edit_calls.specs.Answers.{Makes}
use Rattle.edit_calls.specs.Spots.{anchor_of, IsMove, place_at}
use Rattle.edit_calls.proofs.Answering.{unwrapped}
use Rattle.edit_calls.proofs.Beside.{anchor-allowed, replaced}
use Rattle.edit_calls.proofs.moving.replace_with.Goals as goal

pub move_to-requires-clause-allowed : goal.move_to-requires-clause-allowed
move_to-requires-clause-allowed c =
    let p = c.in_ok-parent.parent in
    let was = unwrapped (λ e s. s ≡ Fault e) c.check_beside.result c.map_err.result p c.map_err.ensures.cases c.in_ok-parent.was in
    IfOk-at_ok (λ q. (spot : Spot) → anchor_of spot ≡ Some c.args.n → IsMove c.args.work.now.nodes c.args.node q spot) was c.check_beside.ensures.allowed (Before c.args.n) refl

pub take-requires-clause-allowed : goal.take-requires-clause-allowed
take-requires-clause-allowed c =
    let old = c.args.work.now in
    let ns = old.nodes in
    let mid = c.move_to.new.work in
    let a = c.args.n in
    let n = c.args.node in
    let p = c.in_ok-parent.parent in
    let was = unwrapped (λ e s. s ≡ Fault e) c.check_beside.result c.map_err.result p c.map_err.ensures.cases c.in_ok-parent.was in
    let near = MatchResult-at_ok (λ q. (checked (refused_beside ns a n) ≡ Ok tt) × (parent_of ns a ≡ Some q)) (λ f. checked (refused_beside ns a n) ≡ Err f) p was c.check_beside.ensures.check in
    let done = unwrapped (λ e s. s ≡ Memory e) c.move_to.result c.map_err-2.result c.in_ok-map_err.field-0 c.map_err-2.ensures.cases c.in_ok-map_err.was in
    let made = MatchResult-at_ok (λ _. Makes old mid (moving ns n p (place_at (without ns n) p (Before a)))) (λ _. unreserved mid ≡ unreserved old) c.in_ok-map_err.field-0 done c.move_to.ensures.made in
    anchor-allowed old mid a n p (place_at (without ns n) p (Before a)) c.facts.ensures near.0 near.1 made

pub returns : goal.returns
returns c =
    let old = c.args.work.now in
    let ns = old.nodes in
    let mid = c.move_to.new.work in
    let a = c.args.n in
    let n = c.args.node in
    let p = c.in_ok-parent.parent in
    let was = unwrapped (λ e s. s ≡ Fault e) c.check_beside.result c.map_err.result p c.map_err.ensures.cases c.in_ok-parent.was in
    let near = MatchResult-at_ok (λ q. (checked (refused_beside ns a n) ≡ Ok tt) × (parent_of ns a ≡ Some q)) (λ f. checked (refused_beside ns a n) ≡ Err f) p was c.check_beside.ensures.check in
    let done = unwrapped (λ e s. s ≡ Memory e) c.move_to.result c.map_err-2.result c.in_ok-map_err.field-0 c.map_err-2.ensures.cases c.in_ok-map_err.was in
    let made = MatchResult-at_ok (λ _. Makes old mid (moving ns n p (place_at (without ns n) p (Before a)))) (λ _. unreserved mid ≡ unreserved old) c.in_ok-map_err.field-0 done c.move_to.ensures.made in
    replaced old mid c.take.new.work a n p near.0 near.1 made c.take.ensures.made
