use Rattle.std.proofs.Common.{◌<◌, ◌≤◌, ◌++◌, map, ap, sym, ◌∙◌, subst, length, None}
use Rattle.node_store.specs.declared.item.Item.TheVariants as I
use Rattle.node_store.specs.Forest.{unreserved}
use Rattle.node_store.specs.Edits.{edited_all}
use Rattle.node_store.specs.Copies.{copied}
use Rattle.node_store.specs.Seats.{IsStored}
use Rattle.node_store.specs.Growth.{grow_all, IsPlan}
use Rattle.node_store.specs.Answers.{size_with_copy}
use Rattle.node_store.proofs.Growing.{planned}
use Rattle.node_store.proofs.CopyPlan.{copied-plan, copied-spans}
use Rattle.node_store.proofs.Views.{shown_forest}
use Rattle.node_store.proofs.work.Work.copy.Goals as goal

pub add_copies-requires-clause-plan : goal.add_copies-requires-clause-plan
add_copies-requires-clause-plan c =
    let ns = c.self.inside.rows in
    let given = subst (λ f. c.args.top < length f.nodes) (sym c.self.view_is) c.requires.given in
    let few = subst (λ f. size_with_copy f c.args.top ≤ 5000000) (sym c.self.view_is) c.requires.few in
    subst (IsPlan ns) (sym c.in_ok-edits.ensures.edits) (copied-plan c.self.inside.text ns c.self.invariant.forest c.args.top given c.requires.not_root few)

pub invariant_of-self-2 : goal.invariant_of-self-2
invariant_of-self-2 c =
    let ns = c.self.inside.rows in
    let text = c.self.inside.text in
    let ss = c.self.inside.seats.items in
    let top = c.args.top in
    let given = subst (λ f. top < length f.nodes) (sym c.self.view_is) c.requires.given in
    let few = subst (λ f. size_with_copy f top ≤ 5000000) (sym c.self.view_is) c.requires.few in
    let k = planned text ss (copied ns top) ns c.self.invariant (copied-plan text ns c.self.invariant.forest top given c.requires.not_root few) (copied-spans text ns c.self.invariant.forest top) in
    let grown = c.in_ok-add_copies.ensures ∙ ap (grow_all ns) c.in_ok-edits.ensures.edits in
    subst (λ ms. IsStored text ms ss) (sym grown) k.stored

pub returns : goal.returns
returns c =
    let f = c.args.self.now in
    let ns = c.self.inside.rows in
    let text = c.self.inside.text in
    let ss = c.self.inside.seats.items in
    let log = c.self.inside.log.items in
    let top = c.args.top in
    let given = subst (λ g. top < length g.nodes) (sym c.self.view_is) c.requires.given in
    let few = subst (λ g. size_with_copy g top ≤ 5000000) (sym c.self.view_is) c.requires.few in
    let k = planned text ss (copied ns top) ns c.self.invariant (copied-plan text ns c.self.invariant.forest top given c.requires.not_root few) (copied-spans text ns c.self.invariant.forest top) in
    let grown = c.in_ok-add_copies.ensures ∙ ap (grow_all ns) c.in_ok-edits.ensures.edits in
    let logged = c.log_all.ensures ∙ (ap (λ l. l ++ map I.Edit c.in_ok-edits.field-0.edits.items) c.in_ok-reserve.ensures.items ∙ ap (λ l. log ++ map I.Edit l) c.in_ok-edits.ensures.edits) in
    let size = ap (λ g. length g.nodes) c.self.view_is in (
      c.new.ensures ∙ (c.len-first.ensures ∙ size),
      ap (λ ms. shown_forest text ms ss c.log_all.new.log.items 0 None) grown
          ∙ (ap (λ l. shown_forest text (grow_all ns (copied ns top)) ss l 0 None) logged
          ∙ (sym (k.shown log) ∙ ap (λ g. edited_all (unreserved g) (copied g.nodes top)) c.self.view_is)),
    )
