use Rattle.std.proofs.Common.{◌<◌, length, sym, ◌∙◌, ap, subst, set, List}
use Rattle.std.proofs.lemmas.List.{get_or_read}
use Rattle.node_rows.specs.declared.rows.Row.{Row}
use Rattle.node_rows.specs.Nodes.{with_text}
use Rattle.node_rows.specs.Ends.{with_block}
use Rattle.node_rows.specs.Shown.{no_row, shown_rows, IsLinked}
use Rattle.node_rows.specs.Fingers.{IsFinger}
use Rattle.node_rows.proofs.Fingers.{IsFinger-text}
use Rattle.node_rows.proofs.Join.{length-shown, shown-at}
use Rattle.node_rows.proofs.Writes.{text_row, shown-text, IsLinked-text}
use Rattle.node_rows.proofs.rows.Rows.set_block.Goals as goal

pub invariant_of-self : goal.invariant_of-self
invariant_of-self c =
    let rs = c.self.inside.items.items in
    let b : c.args.n < length rs = rw (← length-shown rs) (rw c.self.view_is c.requires) in
    let r = get_or_read rs c.args.n c.index_mut-row.result.now b c.index_mut-row.ensures.value no_row in
    let put : Row → List Row = λ x. set rs c.args.n (text_row x c.set_block.new.text) in
    subst (λ l. IsLinked l × IsFinger (shown_rows l) c.self.inside.finger) (ap put (sym r)) (
      IsLinked-text rs c.args.n b c.set_block.new.text c.self.invariant.0,
      subst (λ l. IsFinger l c.self.inside.finger) (sym (shown-text rs c.args.n b c.set_block.new.text)) (IsFinger-text (shown_rows rs) c.args.n c.set_block.new.text c.self.inside.finger c.self.invariant.1),
    )

pub returns : goal.returns
returns c =
    let rs = c.self.inside.items.items in
    let b : c.args.n < length rs = rw (← length-shown rs) (rw c.self.view_is c.requires) in
    let r = get_or_read rs c.args.n c.index_mut-row.result.now b c.index_mut-row.ensures.value no_row in
    let put : Row → List Row = λ x. set rs c.args.n (text_row x c.set_block.new.text) in
    let e = c.set_block.ensures ∙ ap (λ t. with_block t c.args.block) (ap (λ x. x.text) r ∙ ap (λ x. x.text) (sym (shown-at rs c.args.n b))) in
    rw (← c.self.view_is) (ap shown_rows (ap put r) ∙ (shown-text rs c.args.n b c.set_block.new.text ∙ ap (with_text (shown_rows rs) c.args.n) e))
