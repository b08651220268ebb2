use Rattle.std.proofs.Common.{◌≡◌, true, subst, sym, refl, ap, arith}
use Rattle.node_store.specs.declared.item.Edit.TheVariants.{Insert}
use Rattle.node_store.specs.Edits.{is_allowed}
use Rattle.node_store.proofs.Stores.{edited-put}
use Rattle.node_store.proofs.Views.{view-edited}
use Rattle.node_store.proofs.work.Work.put_in.Goals as goal

pub invariant_of-self-2 : goal.invariant_of-self-2
invariant_of-self-2 c =
    let allowed = subst (λ f. is_allowed f.nodes (Insert c.args.node c.args.parent c.args.at) ≡ true) (sym c.self.view_is) c.requires in
    (edited-put c.self.inside.text c.self.inside.rows c.self.inside.seats.items c.self.invariant c.args.parent c.args.at c.args.node c.insert.new.rows allowed c.insert.ensures).stored

pub returns : goal.returns
returns c =
    let e = Insert c.args.node c.args.parent c.args.at in
    let allowed = subst (λ f. is_allowed f.nodes e ≡ true) (sym c.self.view_is) c.requires in
    let done = edited-put c.self.inside.text c.self.inside.rows c.self.inside.seats.items c.self.invariant c.args.parent c.args.at c.args.node c.insert.new.rows allowed c.insert.ensures in
    let spare = ap (λ w. w.spare) c.self.view_is in
    record {
      edit = view-edited c.args.self.now _ _ _ _ _ _ c.self.view_is e c.insert.new.rows c.self.inside.seats.items c.reserve.new.self.items c.push_reserved.new.self.items c.insert.ensures done.shown c.in_ok-reserve.ensures.items c.push_reserved.ensures.items;
      ready = λ _ _. refl;
      spare = omega (arith, spare, c.in_ok-reserve.ensures.ok, c.in_ok-reserve.ensures.len, c.in_ok-reserve.ensures.capacity, c.push_reserved.ensures.len, c.push_reserved.ensures.capacity);
      room = λ _. refl;
    }
