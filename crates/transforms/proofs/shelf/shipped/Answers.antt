use Rattle.std.proofs.Common.{ap}
use Rattle.std.specs.Str.{chars}
use Rattle.std.specs.declared.alloc.Global.{Global}
use Rattle.std.specs.declared.dyn_box.DynBox.{DynBox}
use Rattle.plugin_api.specs.Shelf.{shelf_seen}
use Rattle.transforms.proofs.Shelved.{one_hook, two_hooks, put, shipped_few, shipped_four}
use Rattle.transforms.proofs.shelf.shipped.Goals as goal

pub returns-clause-seen : goal.returns-clause-seen
unfolding chars
returns-clause-seen g c =
    let told = λ (b : DynBox g.dyn-1.0.I Global (λ (x : g.dyn-1.0.I). (g.dyn-1.0.entry x).0.Denot)). (g.dyn-1.0.entry b.vtable).1.told b.value in
    let said = λ (b : DynBox g.dyn-1.0.I Global (λ (x : g.dyn-1.0.I). (g.dyn-1.0.entry x).0.Denot)). (g.dyn-1.0.entry b.vtable).1.said b.value in
    let duty = λ (b : DynBox g.dyn-1.0.I Global (λ (x : g.dyn-1.0.I). (g.dyn-1.0.entry x).0.Denot)). (g.dyn-1.0.entry b.vtable).1.duty b.value in
    let left = λ (b : DynBox g.dyn-1.0.I Global (λ (x : g.dyn-1.0.I). (g.dyn-1.0.entry x).0.Denot)). (g.dyn-1.0.entry b.vtable).1.left b.value in
    let a = put told said duty left _ _ _ _ _ c.in_ok-push.ensures.items (ap (shelf_seen told said duty left) c.new-shelf.ensures.items) (one_hook told said duty left c.in_ok-plugin.field-0 _ _ _ c.in_ok-plugin.ensures.0 c.in_ok-plugin.ensures.1 c.hook-comment.ensures) in
    let b = put told said duty left _ _ _ _ _ c.in_ok-push-2.ensures.items a (two_hooks told said duty left c.in_ok-drop_empty.field-0 _ _ _ _ _ c.in_ok-drop_empty.ensures.0 c.in_ok-drop_empty.ensures.1 c.hook-rule.ensures c.hook-at_rule.ensures) in
    let d = put told said duty left _ _ _ _ _ c.in_ok-push-3.ensures.items b (one_hook told said duty left c.in_ok-plugin-2.field-0 _ _ _ c.in_ok-plugin-2.ensures.0 c.in_ok-plugin-2.ensures.1 c.hook-declaration.ensures) in
    put told said duty left _ _ _ _ _ c.in_ok-push-4.ensures.items d (one_hook told said duty left c.in_ok-plugin-3.field-0 _ _ _ c.in_ok-plugin-3.ensures.0 c.in_ok-plugin-3.ensures.1 c.hook-nested.ensures)

pub returns-clause-plugins : goal.returns-clause-plugins
returns-clause-plugins g c = shipped_four _ _ _ _ c.push-4.new.self.items c.args.visitors (returns-clause-seen g c)

pub returns-clause-hooks : goal.returns-clause-hooks
returns-clause-hooks g c = shipped_few _ _ _ _ c.push-4.new.self.items c.args.visitors (returns-clause-seen g c)
