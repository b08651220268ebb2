use Rattle.std.proofs.Common.{◌≡◌, ap, sym, ◌∙◌, subst, true, ◌∷◌, [], ◌++◌, arith}
use Rattle.node_store.specs.declared.item.Edit.TheVariants.{Insert}
use Rattle.node_store.specs.Edits.{is_allowed}
use Rattle.edit_calls.specs.Plans.{removal}
use Rattle.edit_calls.specs.Answers.{Makes}
use Rattle.edit_calls.specs.Spots.{place_at}
use Rattle.edit_calls.proofs.Turns.{made-nodes, Makes-then}
use Rattle.edit_calls.proofs.Moved.{taken, left, spot-kept, insert-allowed}
use Rattle.edit_calls.proofs.placing.move_to.Goals as goal

pub place-at-requires-clause-given : goal.place-at-requires-clause-given
place-at-requires-clause-given c =
    let old = c.args.work.now in
    let mid = c.loosen.new.work in
    let n = c.args.node in
    let made = taken old c.reserve.new.work mid n c.in_ok-reserve.ensures.rest c.loosen.ensures.made in
    let l = left old mid n c.facts.ensures.sound made in
    omega (arith, l.same_length, c.requires.allowed.given)

pub place-at-requires-clause-spot : goal.place-at-requires-clause-spot
place-at-requires-clause-spot c =
    let old = c.args.work.now in
    let mid = c.loosen.new.work in
    let n = c.args.node in
    let made = taken old c.reserve.new.work mid n c.in_ok-reserve.ensures.rest c.loosen.ensures.made in
    spot-kept old.nodes mid.nodes n (left old mid n c.facts.ensures.sound made) c.args.container c.args.spot c.requires.allowed

pub put-requires-clause-allowed : goal.put-requires-clause-allowed
put-requires-clause-allowed c =
    let old = c.args.work.now in
    let mid = c.loosen.new.work in
    let n = c.args.node in
    let made = taken old c.reserve.new.work mid n c.in_ok-reserve.ensures.rest c.loosen.ensures.made in
    subst (λ at. is_allowed mid.nodes (Insert n c.args.container at) ≡ true) (sym c.place-at.ensures)
    (insert-allowed old.nodes mid.nodes n (left old mid n c.facts.ensures.sound made) c.args.container c.args.spot c.requires.allowed c.facts-2.ensures.sound)

pub returns-clause-made : goal.returns-clause-made
returns-clause-made c =
    let old = c.args.work.now in
    let mid = c.loosen.new.work in
    let n = c.args.node in
    let p = c.args.container in
    let es = removal old.nodes n in
    let made = taken old c.reserve.new.work mid n c.in_ok-reserve.ensures.rest c.loosen.ensures.made in
    let at = c.place-at.ensures ∙ ap (λ ns. place_at ns p c.args.spot) (made-nodes old mid es made) in
    subst (λ k. Makes old c.put.new.work (es ++ Insert n p k ∷ [])) at (Makes-then old mid c.put.new.work es (Insert n p c.place-at.result ∷ []) made c.put.ensures.made)
