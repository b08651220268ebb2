use Rattle.std.proofs.Common.{refl, true, false}
use Rattle.node_store.specs.declared.item.Event.TheVariants as E
use Rattle.plugin_api.specs.Shelf.{shelf_seen}
use Rattle.visitor_walk.specs.declared.spent.Limits.{Limits}
use Rattle.visitor_walk.specs.declared.walk_end.WalkEnd.TheVariants.{Done}
use Rattle.visitor_walk.specs.Picked.{picked_hooks}
use Rattle.visitor_walk.proofs.Picking as Picking
use Rattle.visitor_walk.proofs.Rooting as Rooting
use Rattle.visitor_walk.proofs.Ending as Ending
use Rattle.visitor_walk.proofs.Walking as Walking
use Rattle.visitor_walk.proofs.walk.walk_hooks.Goals as goal

pub returns-in_err-hooks : goal.returns-in_err-hooks
returns-in_err-hooks g c =
    let limits : Limits = record { calls = c.args.budget; edits = c.args.edit_budget } in
    let f = c.args.work.now in
    let old = shelf_seen (λ b. (goal.Visitor-dyn g (b.vtable, b.value)).told b.value) (λ b. (goal.Visitor-dyn g (b.vtable, b.value)).said b.value) (λ b. (goal.Visitor-dyn g (b.vtable, b.value)).duty b.value) (λ b. (goal.Visitor-dyn g (b.vtable, b.value)).left b.value) c.args.shelf.now.items in
    let hs = picked_hooks old c.args.picked.now in
    Ending.walks_broken c.args.picked.now limits f f old _ c.facts.ensures c.from_residual.result c.from_residual.ensures.0 (λ e. Ending.first_broken hs limits f old e)

pub call_each-requires-clause-on_shelf : goal.call_each-requires-clause-on_shelf
call_each-requires-clause-on_shelf g c =
    let limits : Limits = record { calls = c.args.budget; edits = c.args.edit_budget } in
    let f = c.args.work.now in
    let old = shelf_seen (λ b. (goal.Visitor-dyn g (b.vtable, b.value)).told b.value) (λ b. (goal.Visitor-dyn g (b.vtable, b.value)).said b.value) (λ b. (goal.Visitor-dyn g (b.vtable, b.value)).duty b.value) (λ b. (goal.Visitor-dyn g (b.vtable, b.value)).left b.value) c.args.shelf.now.items in
    let hs = picked_hooks old c.args.picked.now in
    let hooks = c.in_ok-hooks.hooks in
    let gr = Ending.grouped_seen (λ b. (goal.Visitor-dyn g (b.vtable, b.value)).told b.value) (λ b. (goal.Visitor-dyn g (b.vtable, b.value)).said b.value) (λ b. (goal.Visitor-dyn g (b.vtable, b.value)).duty b.value) (λ b. (goal.Visitor-dyn g (b.vtable, b.value)).left b.value) hooks c.args.shelf.now.items c.args.picked.now c.in_ok-hooks.ensures in
    Ending.group_there old hooks E.Once c.at-once.result.now c.at-once.ensures (Picking.all_there old c.args.picked.now hooks gr)

pub returns-in_err-end : goal.returns-in_err-end
returns-in_err-end g c =
    let limits : Limits = record { calls = c.args.budget; edits = c.args.edit_budget } in
    let f = c.args.work.now in
    let old = shelf_seen (λ b. (goal.Visitor-dyn g (b.vtable, b.value)).told b.value) (λ b. (goal.Visitor-dyn g (b.vtable, b.value)).said b.value) (λ b. (goal.Visitor-dyn g (b.vtable, b.value)).duty b.value) (λ b. (goal.Visitor-dyn g (b.vtable, b.value)).left b.value) c.args.shelf.now.items in
    let hs = picked_hooks old c.args.picked.now in
    let hooks = c.in_ok-hooks.hooks in
    let gr = Ending.grouped_seen (λ b. (goal.Visitor-dyn g (b.vtable, b.value)).told b.value) (λ b. (goal.Visitor-dyn g (b.vtable, b.value)).said b.value) (λ b. (goal.Visitor-dyn g (b.vtable, b.value)).duty b.value) (λ b. (goal.Visitor-dyn g (b.vtable, b.value)).left b.value) hooks c.args.shelf.now.items c.args.picked.now c.in_ok-hooks.ensures in
    let left = Ending.first_left hs f hooks c.at-once.result.now gr c.at-once.ensures in
    let first = Ending.first_stands hs limits.edits f old in
    Ending.walks_broken c.args.picked.now limits f c.call_each.new.work old _ c.facts.ensures c.from_residual-in_err-end.result c.from_residual-in_err-end.ensures.0 (λ e. c.in_err-end.ensures.made hs f old false first left)

pub returns-in-Some : goal.returns-in-Some
returns-in-Some g c =
    let limits : Limits = record { calls = c.args.budget; edits = c.args.edit_budget } in
    let f = c.args.work.now in
    let old = shelf_seen (λ b. (goal.Visitor-dyn g (b.vtable, b.value)).told b.value) (λ b. (goal.Visitor-dyn g (b.vtable, b.value)).said b.value) (λ b. (goal.Visitor-dyn g (b.vtable, b.value)).duty b.value) (λ b. (goal.Visitor-dyn g (b.vtable, b.value)).left b.value) c.args.shelf.now.items in
    let hs = picked_hooks old c.args.picked.now in
    let hooks = c.in_ok-hooks.hooks in
    let gr = Ending.grouped_seen (λ b. (goal.Visitor-dyn g (b.vtable, b.value)).told b.value) (λ b. (goal.Visitor-dyn g (b.vtable, b.value)).said b.value) (λ b. (goal.Visitor-dyn g (b.vtable, b.value)).duty b.value) (λ b. (goal.Visitor-dyn g (b.vtable, b.value)).left b.value) hooks c.args.shelf.now.items c.args.picked.now c.in_ok-hooks.ensures in
    let left = Ending.first_left hs f hooks c.at-once.result.now gr c.at-once.ensures in
    let first = Ending.first_stands hs limits.edits f old in
    Ending.walks_end c.args.picked.now limits f c.call_each.new.work old _ c.facts.ensures c.in-Some.end (rw c.in-Some.is at (c.in_ok-end.ensures.made hs f old false first left))

pub call_in_passes-requires-clause-on_shelf : goal.call_in_passes-requires-clause-on_shelf
call_in_passes-requires-clause-on_shelf g c =
    let limits : Limits = record { calls = c.args.budget; edits = c.args.edit_budget } in
    let f = c.args.work.now in
    let old = shelf_seen (λ b. (goal.Visitor-dyn g (b.vtable, b.value)).told b.value) (λ b. (goal.Visitor-dyn g (b.vtable, b.value)).said b.value) (λ b. (goal.Visitor-dyn g (b.vtable, b.value)).duty b.value) (λ b. (goal.Visitor-dyn g (b.vtable, b.value)).left b.value) c.args.shelf.now.items in
    let hs = picked_hooks old c.args.picked.now in
    let hooks = c.in_ok-hooks.hooks in
    let gr = Ending.grouped_seen (λ b. (goal.Visitor-dyn g (b.vtable, b.value)).told b.value) (λ b. (goal.Visitor-dyn g (b.vtable, b.value)).said b.value) (λ b. (goal.Visitor-dyn g (b.vtable, b.value)).duty b.value) (λ b. (goal.Visitor-dyn g (b.vtable, b.value)).left b.value) hooks c.args.shelf.now.items c.args.picked.now c.in_ok-hooks.ensures in
    Walking.still_on_shelf old _ hooks c.in_ok-end.ensures.on_shelf (Picking.all_there old c.args.picked.now hooks gr)

pub returns-in_err-end-2 : goal.returns-in_err-end-2
returns-in_err-end-2 g c =
    let limits : Limits = record { calls = c.args.budget; edits = c.args.edit_budget } in
    let f = c.args.work.now in
    let old = shelf_seen (λ b. (goal.Visitor-dyn g (b.vtable, b.value)).told b.value) (λ b. (goal.Visitor-dyn g (b.vtable, b.value)).said b.value) (λ b. (goal.Visitor-dyn g (b.vtable, b.value)).duty b.value) (λ b. (goal.Visitor-dyn g (b.vtable, b.value)).left b.value) c.args.shelf.now.items in
    let hs = picked_hooks old c.args.picked.now in
    let hooks = c.in_ok-hooks.hooks in
    let gr = Ending.grouped_seen (λ b. (goal.Visitor-dyn g (b.vtable, b.value)).told b.value) (λ b. (goal.Visitor-dyn g (b.vtable, b.value)).said b.value) (λ b. (goal.Visitor-dyn g (b.vtable, b.value)).duty b.value) (λ b. (goal.Visitor-dyn g (b.vtable, b.value)).left b.value) hooks c.args.shelf.now.items c.args.picked.now c.in_ok-hooks.ensures in
    let left = Ending.first_left hs f hooks c.at-once.result.now gr c.at-once.ensures in
    let first = Ending.first_stands hs limits.edits f old in
    let m = rw c.in_default.is at (c.in_ok-end.ensures.made hs f old false first left) in
    let p = Ending.pass_after hs m.0.ran.state m.1 in
    Ending.walks_broken c.args.picked.now limits f c.call_in_passes.new.work old _ c.facts.ensures c.from_residual-in_err-end-2.result c.from_residual-in_err-end-2.ensures.0 (λ e. c.in_err-end-2.ensures.made hs f old gr m.0 p)

pub returns-in-Some-2 : goal.returns-in-Some-2
returns-in-Some-2 g c =
    let limits : Limits = record { calls = c.args.budget; edits = c.args.edit_budget } in
    let f = c.args.work.now in
    let old = shelf_seen (λ b. (goal.Visitor-dyn g (b.vtable, b.value)).told b.value) (λ b. (goal.Visitor-dyn g (b.vtable, b.value)).said b.value) (λ b. (goal.Visitor-dyn g (b.vtable, b.value)).duty b.value) (λ b. (goal.Visitor-dyn g (b.vtable, b.value)).left b.value) c.args.shelf.now.items in
    let hs = picked_hooks old c.args.picked.now in
    let hooks = c.in_ok-hooks.hooks in
    let gr = Ending.grouped_seen (λ b. (goal.Visitor-dyn g (b.vtable, b.value)).told b.value) (λ b. (goal.Visitor-dyn g (b.vtable, b.value)).said b.value) (λ b. (goal.Visitor-dyn g (b.vtable, b.value)).duty b.value) (λ b. (goal.Visitor-dyn g (b.vtable, b.value)).left b.value) hooks c.args.shelf.now.items c.args.picked.now c.in_ok-hooks.ensures in
    let left = Ending.first_left hs f hooks c.at-once.result.now gr c.at-once.ensures in
    let first = Ending.first_stands hs limits.edits f old in
    let m = rw c.in_default.is at (c.in_ok-end.ensures.made hs f old false first left) in
    let p = Ending.pass_after hs m.0.ran.state m.1 in
    Ending.walks_end c.args.picked.now limits f c.call_in_passes.new.work old _ c.facts.ensures c.in-Some-2.end (rw c.in-Some-2.is at (c.in_ok-end-2.ensures.made hs f old gr m.0 p))

pub call_each-requires-2-clause-on_shelf : goal.call_each-requires-2-clause-on_shelf
call_each-requires-2-clause-on_shelf g c =
    Ending.group_there _ c.in_ok-hooks.hooks E.OnceExit c.at-once_exit.result.now c.at-once_exit.ensures c.in_ok-end-2.ensures.on_shelf

pub returns-in_err-end-3 : goal.returns-in_err-end-3
returns-in_err-end-3 g c =
    let limits : Limits = record { calls = c.args.budget; edits = c.args.edit_budget } in
    let f = c.args.work.now in
    let old = shelf_seen (λ b. (goal.Visitor-dyn g (b.vtable, b.value)).told b.value) (λ b. (goal.Visitor-dyn g (b.vtable, b.value)).said b.value) (λ b. (goal.Visitor-dyn g (b.vtable, b.value)).duty b.value) (λ b. (goal.Visitor-dyn g (b.vtable, b.value)).left b.value) c.args.shelf.now.items in
    let hs = picked_hooks old c.args.picked.now in
    let hooks = c.in_ok-hooks.hooks in
    let gr = Ending.grouped_seen (λ b. (goal.Visitor-dyn g (b.vtable, b.value)).told b.value) (λ b. (goal.Visitor-dyn g (b.vtable, b.value)).said b.value) (λ b. (goal.Visitor-dyn g (b.vtable, b.value)).duty b.value) (λ b. (goal.Visitor-dyn g (b.vtable, b.value)).left b.value) hooks c.args.shelf.now.items c.args.picked.now c.in_ok-hooks.ensures in
    let left = Ending.first_left hs f hooks c.at-once.result.now gr c.at-once.ensures in
    let first = Ending.first_stands hs limits.edits f old in
    let m = rw c.in_default.is at (c.in_ok-end.ensures.made hs f old false first left) in
    let p = Ending.pass_after hs m.0.ran.state m.1 in
    let q = rw c.in_default-2.is at (c.in_ok-end-2.ensures.made hs f old gr m.0 p) in
    let last = Ending.last_left hs q.0.ran.state hooks c.at-once_exit.result.now gr c.at-once_exit.ensures q.1 in
    Ending.walks_broken c.args.picked.now limits f c.call_each-2.new.work old _ c.facts.ensures c.from_residual-in_err-end-3.result c.from_residual-in_err-end-3.ensures.0 (λ e. c.in_err-end-3.ensures.made hs f old true q.0 last)

pub returns-in-Some-3 : goal.returns-in-Some-3
returns-in-Some-3 g c =
    let limits : Limits = record { calls = c.args.budget; edits = c.args.edit_budget } in
    let f = c.args.work.now in
    let old = shelf_seen (λ b. (goal.Visitor-dyn g (b.vtable, b.value)).told b.value) (λ b. (goal.Visitor-dyn g (b.vtable, b.value)).said b.value) (λ b. (goal.Visitor-dyn g (b.vtable, b.value)).duty b.value) (λ b. (goal.Visitor-dyn g (b.vtable, b.value)).left b.value) c.args.shelf.now.items in
    let hs = picked_hooks old c.args.picked.now in
    let hooks = c.in_ok-hooks.hooks in
    let gr = Ending.grouped_seen (λ b. (goal.Visitor-dyn g (b.vtable, b.value)).told b.value) (λ b. (goal.Visitor-dyn g (b.vtable, b.value)).said b.value) (λ b. (goal.Visitor-dyn g (b.vtable, b.value)).duty b.value) (λ b. (goal.Visitor-dyn g (b.vtable, b.value)).left b.value) hooks c.args.shelf.now.items c.args.picked.now c.in_ok-hooks.ensures in
    let left = Ending.first_left hs f hooks c.at-once.result.now gr c.at-once.ensures in
    let first = Ending.first_stands hs limits.edits f old in
    let m = rw c.in_default.is at (c.in_ok-end.ensures.made hs f old false first left) in
    let p = Ending.pass_after hs m.0.ran.state m.1 in
    let q = rw c.in_default-2.is at (c.in_ok-end-2.ensures.made hs f old gr m.0 p) in
    let last = Ending.last_left hs q.0.ran.state hooks c.at-once_exit.result.now gr c.at-once_exit.ensures q.1 in
    Ending.walks_end c.args.picked.now limits f c.call_each-2.new.work old _ c.facts.ensures c.in-Some-3.end (rw c.in-Some-3.is at (c.in_ok-end-3.ensures.made hs f old true q.0 last))

pub returns-in_err-note : goal.returns-in_err-note
returns-in_err-note g c =
    let limits : Limits = record { calls = c.args.budget; edits = c.args.edit_budget } in
    let f = c.args.work.now in
    let old = shelf_seen (λ b. (goal.Visitor-dyn g (b.vtable, b.value)).told b.value) (λ b. (goal.Visitor-dyn g (b.vtable, b.value)).said b.value) (λ b. (goal.Visitor-dyn g (b.vtable, b.value)).duty b.value) (λ b. (goal.Visitor-dyn g (b.vtable, b.value)).left b.value) c.args.shelf.now.items in
    let hs = picked_hooks old c.args.picked.now in
    let hooks = c.in_ok-hooks.hooks in
    let gr = Ending.grouped_seen (λ b. (goal.Visitor-dyn g (b.vtable, b.value)).told b.value) (λ b. (goal.Visitor-dyn g (b.vtable, b.value)).said b.value) (λ b. (goal.Visitor-dyn g (b.vtable, b.value)).duty b.value) (λ b. (goal.Visitor-dyn g (b.vtable, b.value)).left b.value) hooks c.args.shelf.now.items c.args.picked.now c.in_ok-hooks.ensures in
    let left = Ending.first_left hs f hooks c.at-once.result.now gr c.at-once.ensures in
    let first = Ending.first_stands hs limits.edits f old in
    let m = rw c.in_default.is at (c.in_ok-end.ensures.made hs f old false first left) in
    let p = Ending.pass_after hs m.0.ran.state m.1 in
    let q = rw c.in_default-2.is at (c.in_ok-end-2.ensures.made hs f old gr m.0 p) in
    let last = Ending.last_left hs q.0.ran.state hooks c.at-once_exit.result.now gr c.at-once_exit.ensures q.1 in
    let r = rw c.in_default-3.is at (c.in_ok-end-3.ensures.made hs f old true q.0 last) in
    Ending.walks_broken c.args.picked.now limits f c.note.new.self old _ c.facts.ensures c.from_residual-in_err-note.result c.from_residual-in_err-note.ensures.0 (λ e. Rooting.end_fails r.0 limits c.note.new.self e refl c.in_ok-end-3.ensures.calls c.in_err-note.ensures)

pub returns : goal.returns
returns g c =
    let limits : Limits = record { calls = c.args.budget; edits = c.args.edit_budget } in
    let f = c.args.work.now in
    let old = shelf_seen (λ b. (goal.Visitor-dyn g (b.vtable, b.value)).told b.value) (λ b. (goal.Visitor-dyn g (b.vtable, b.value)).said b.value) (λ b. (goal.Visitor-dyn g (b.vtable, b.value)).duty b.value) (λ b. (goal.Visitor-dyn g (b.vtable, b.value)).left b.value) c.args.shelf.now.items in
    let hs = picked_hooks old c.args.picked.now in
    let hooks = c.in_ok-hooks.hooks in
    let gr = Ending.grouped_seen (λ b. (goal.Visitor-dyn g (b.vtable, b.value)).told b.value) (λ b. (goal.Visitor-dyn g (b.vtable, b.value)).said b.value) (λ b. (goal.Visitor-dyn g (b.vtable, b.value)).duty b.value) (λ b. (goal.Visitor-dyn g (b.vtable, b.value)).left b.value) hooks c.args.shelf.now.items c.args.picked.now c.in_ok-hooks.ensures in
    let left = Ending.first_left hs f hooks c.at-once.result.now gr c.at-once.ensures in
    let first = Ending.first_stands hs limits.edits f old in
    let m = rw c.in_default.is at (c.in_ok-end.ensures.made hs f old false first left) in
    let p = Ending.pass_after hs m.0.ran.state m.1 in
    let q = rw c.in_default-2.is at (c.in_ok-end-2.ensures.made hs f old gr m.0 p) in
    let last = Ending.last_left hs q.0.ran.state hooks c.at-once_exit.result.now gr c.at-once_exit.ensures q.1 in
    let r = rw c.in_default-3.is at (c.in_ok-end-3.ensures.made hs f old true q.0 last) in
    Ending.walks_end c.args.picked.now limits f c.note.new.self old _ c.facts.ensures Done (Rooting.end_noted r.0 limits c.note.new.self refl c.in_ok-end-3.ensures.calls r.1 c.in_ok-note.ensures)
