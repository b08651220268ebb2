use Rattle.std.proofs.Common.{◌<◌, length, sym, ◌∙◌, ap, subst, set, List}
use Rattle.std.proofs.lemmas.List.{get_or_read}
use Rattle.node_rows.specs.declared.rows.Row.{Row}
use Rattle.node_rows.specs.Ends.{some_ended, with_span}
use Rattle.node_rows.specs.Shown.{no_row, shown_rows, IsLinked}
use Rattle.node_rows.specs.Fingers.{IsFinger}
use Rattle.node_rows.proofs.Fingers.{IsFinger-span}
use Rattle.node_rows.proofs.Join.{length-shown, shown-at}
use Rattle.node_rows.proofs.Writes.{span_row, shown-span, IsLinked-span}
use Rattle.node_rows.proofs.rows.Rows.set_end.Goals as goal

pub invariant_of-self : goal.invariant_of-self
invariant_of-self c =
    let rs = c.self.inside.items.items in
    let b : c.args.n < length rs = rw (← length-shown rs) (rw c.self.view_is c.requires) in
    let r = get_or_read rs c.args.n c.index_mut-row.result.now b c.index_mut-row.ensures.value no_row in
    let put : Row → List Row = λ x. set rs c.args.n (span_row x c.set_end.new.self) in
    subst (λ l. IsLinked l × IsFinger (shown_rows l) c.self.inside.finger) (ap put (sym r)) (
      IsLinked-span rs c.args.n b c.set_end.new.self c.self.invariant.0,
      subst (λ l. IsFinger l c.self.inside.finger) (sym (shown-span rs c.args.n b c.set_end.new.self)) (IsFinger-span (shown_rows rs) c.args.n c.set_end.new.self c.self.inside.finger c.self.invariant.1),
    )

pub returns : goal.returns
returns c =
    let rs = c.self.inside.items.items in
    let b : c.args.n < length rs = rw (← length-shown rs) (rw c.self.view_is c.requires) in
    let r = get_or_read rs c.args.n c.index_mut-row.result.now b c.index_mut-row.ensures.value no_row in
    let put : Row → List Row = λ x. set rs c.args.n (span_row x c.set_end.new.self) in
    let e = c.set_end.ensures ∙ ap (some_ended c.args.end) (ap (λ x. x.span) r ∙ ap (λ x. x.span) (sym (shown-at rs c.args.n b))) in
    rw (← c.self.view_is) (ap shown_rows (ap put r) ∙ (shown-span rs c.args.n b c.set_end.new.self ∙ ap (with_span (shown_rows rs) c.args.n) e))
