use Rattle.std.proofs.Common.{get_or}
use Rattle.std.proofs.lemmas.Option.{slice_get_read}
use Rattle.visitor_walk.specs.Groups.{in_group}
use Rattle.visitor_walk.proofs.Grouping.{picked_taken, read_at}
use Rattle.visitor_walk.proofs.hooks.push_picked.Goals as goal

pub loop-at-preserved : goal.loop-at-preserved
loop-at-preserved g c =
    let i = get_or c.args.picked.now c.loop-at.at 0 in
    picked_taken (in_group c.args.event c.args.filtered) c.args.shelf.now.items c.args.picked.now _ c.loop-at.group.items c.push_hooks.new.group.items c.loop-at.at i c.index.result.now
    (read_at c.args.picked.now c.loop-at.at 0 c.loop-at-test.true)
    (slice_get_read c.args.shelf.now.items _ i c.index.result.now c.args.shelf.now.ok.0 (c.requires.places c.loop-at.at 0 c.loop-at-test.true) c.index.ensures)
    (rw c.deref.ensures.value at c.in_ok-push_hooks.ensures) c.loop-at.invariant
