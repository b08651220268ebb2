use Rattle.std.proofs.Common.{◌≡◌, ◌∙◌, ◌++◌, ◌∷◌, [], true, false, ap, sym, subst}
use Rattle.std.specs.Prelude.{not}
use Rattle.std.specs.Str.{chars}
use Rattle.css_tree.specs.Changes.{with_raw, has_raw}
use Rattle.node_rows.specs.Nodes.{text_of, with_text}
use Rattle.node_store.specs.declared.item.Edit.TheVariants.{SetRaw}
use Rattle.node_store.specs.declared.item.Item.TheVariants as I
use Rattle.node_store.specs.Edits.{is_allowed}
use Rattle.node_store.proofs.Stores.{edited-shaped}
use Rattle.node_store.proofs.Views.{view-edited, view-where}
use Rattle.node_store.proofs.work.Work.set_shape.Goals as goal

pub invariant_of-self-2 : goal.invariant_of-self-2
invariant_of-self-2 c =
    let ns = c.self.inside.rows in
    let t = chars c.args.text.now in
    let node = c.args.node in
    let raw = c.args.raw in
    let allowed = subst (λ f. is_allowed f.nodes (SetRaw raw node t) ≡ true) (sym c.self.view_is) c.requires in
    let set = c.set_raw.ensures ∙ (ap (λ k. with_text ns k (with_raw raw c.in_ok-written.written (text_of ns k))) c.number-n.ensures
    ∙ ap (λ s. with_text ns node (with_raw raw s (text_of ns node))) c.in_ok-written.ensures) in
    (edited-shaped c.self.inside.text ns c.self.inside.seats.items c.self.invariant node raw t c.set_raw.new.self allowed set).stored

pub returns : goal.returns
returns c =
    let ns = c.self.inside.rows in
    let t = chars c.args.text.now in
    let node = c.args.node in
    let raw = c.args.raw in
    let lent = c.reserve.new.self.items in
    let allowed = subst (λ f. is_allowed f.nodes (SetRaw raw node t) ≡ true) (sym c.self.view_is) c.requires in
    let set = c.set_raw.ensures ∙ (ap (λ k. with_text ns k (with_raw raw c.in_ok-written.written (text_of ns k))) c.number-n.ensures
    ∙ ap (λ s. with_text ns node (with_raw raw s (text_of ns node))) c.in_ok-written.ensures) in
    let done = edited-shaped c.self.inside.text ns c.self.inside.seats.items c.self.invariant node raw t c.set_raw.new.self allowed set in
    let logged = c.push_reserved.ensures.items ∙ ap (λ s. lent ++ I.Edit (SetRaw raw node s) ∷ []) c.in_ok-logged.ensures in
    let held : has_raw raw t (text_of ns node) ≡ false = sym (ap (λ k. has_raw raw t (text_of ns k)) c.number-n.ensures) ∙ (sym (c.has_raw.ensures ∙ ap (has_raw raw t) c.text.ensures) ∙ c.if-has_raw.false) in
    view-edited c.args.self.now _ _ _ _ _ _ c.self.view_is (SetRaw raw node t) c.set_raw.new.self c.self.inside.seats.items lent c.push_reserved.new.self.items set done.shown c.in_ok-reserve.ensures.items logged
    ∙ view-where c.args.self.now _ _ _ _ _ _ c.self.view_is (SetRaw raw node t) (ap not held)
