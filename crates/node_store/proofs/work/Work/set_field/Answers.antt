use Rattle.std.proofs.Common.{◌≡◌, ◌∙◌, ◌++◌, ◌∷◌, [], true, false, ap, sym, subst}
use Rattle.std.specs.Prelude.{not}
use Rattle.std.specs.Str.{chars}
use Rattle.css_tree.specs.Changes.{with_field, has_field}
use Rattle.node_rows.specs.Nodes.{text_of, with_text}
use Rattle.node_rows.specs.Marks.{mark}
use Rattle.node_rows.specs.WrittenTexts.{text_in}
use Rattle.node_store.specs.declared.item.Edit.TheVariants.{Set}
use Rattle.node_store.specs.declared.item.Item.TheVariants as I
use Rattle.node_store.specs.Edits.{is_allowed}
use Rattle.node_store.proofs.Stores.{edited-set}
use Rattle.node_store.proofs.Views.{view-edited, view-where}
use Rattle.node_store.proofs.work.Work.set_field.Goals as goal

pub invariant_of-self-2 : goal.invariant_of-self-2
invariant_of-self-2 c =
    let ns = c.self.inside.rows in
    let t = chars c.args.text.now in
    let node = c.args.node in
    let field = c.args.field in
    let allowed = subst (λ f. is_allowed f.nodes (Set field node t) ≡ true) (sym c.self.view_is) c.requires in
    let set = c.set_field.ensures ∙ (ap (λ k. with_text ns k (with_field field (text_in c.in_ok-written.written) (text_of ns k))) c.number-n.ensures
    ∙ ap (λ s. with_text ns node (with_field field s (text_of ns node))) c.in_ok-written.ensures.text) in
    (edited-set c.self.inside.text ns c.self.inside.seats.items c.self.invariant node field t c.set_field.new.self c.mark.new.self allowed set (c.mark.ensures ∙ ap (mark c.set_field.new.self) c.number-n.ensures)).0.stored

pub returns : goal.returns
returns c =
    let ns = c.self.inside.rows in
    let t = chars c.args.text.now in
    let node = c.args.node in
    let field = c.args.field in
    let lent = c.reserve.new.self.items in
    let allowed = subst (λ f. is_allowed f.nodes (Set field node t) ≡ true) (sym c.self.view_is) c.requires in
    let set = c.set_field.ensures ∙ (ap (λ k. with_text ns k (with_field field (text_in c.in_ok-written.written) (text_of ns k))) c.number-n.ensures
    ∙ ap (λ s. with_text ns node (with_field field s (text_of ns node))) c.in_ok-written.ensures.text) in
    let done = edited-set c.self.inside.text ns c.self.inside.seats.items c.self.invariant node field t c.set_field.new.self c.mark.new.self allowed set (c.mark.ensures ∙ ap (mark c.set_field.new.self) c.number-n.ensures) in
    let logged = c.push_reserved.ensures.items ∙ ap (λ s. lent ++ I.Edit (Set field node s) ∷ []) c.in_ok-logged.ensures in
    let held : has_field field t (text_of ns node) ≡ false = sym (ap (λ k. has_field field t (text_of ns k)) c.number-n.ensures) ∙ (sym (c.in_ok-has_field.ensures ∙ ap (has_field field t) c.text.ensures) ∙ c.if-branch.false) in
    view-edited c.args.self.now _ _ _ _ _ _ c.self.view_is (Set field node t) c.mark.new.self c.self.inside.seats.items lent c.push_reserved.new.self.items done.1 done.0.shown c.in_ok-reserve.ensures.items logged
    ∙ view-where c.args.self.now _ _ _ _ _ _ c.self.view_is (Set field node t) (ap not held)
