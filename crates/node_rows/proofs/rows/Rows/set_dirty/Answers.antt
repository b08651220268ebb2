use Rattle.std.proofs.Common.{◌<◌, length, sym, ◌∙◌, ap, subst, set, List}
use Rattle.std.proofs.lemmas.List.{get_or_read}
use Rattle.node_rows.specs.declared.rows.Row.{Row}
use Rattle.node_rows.specs.Shown.{no_row, shown_rows, IsLinked}
use Rattle.node_rows.specs.Fingers.{IsFinger}
use Rattle.node_rows.specs.Tally.{CountAndMark}
use Rattle.node_rows.proofs.Fingers.{IsFinger-dirty}
use Rattle.node_rows.proofs.Join.{length-shown}
use Rattle.node_rows.proofs.Writes.{dirty_row, shown-dirty, IsLinked-dirty}
use Rattle.node_rows.proofs.rows.Rows.set_dirty.Goals as goal

pub invariant_of-self : goal.invariant_of-self
invariant_of-self c =
    let rs = c.self.inside.items.items in
    let b : c.args.n < length rs = rw (← length-shown rs) (rw c.self.view_is c.requires) in
    let r = get_or_read rs c.args.n c.index_mut-row.result.now b c.index_mut-row.ensures.value no_row in
    let put : Row → List Row = λ x. set rs c.args.n (dirty_row x c.args.dirty) in
    let with_tally : CountAndMark → List Row = λ t. set rs c.args.n (record c.index_mut-row.result.now { tally = t }) in
    let e = ap with_tally c.set_dirty.ensures ∙ ap put r in
    subst (λ l. IsLinked l × IsFinger (shown_rows l) c.self.inside.finger) (sym e) (
      IsLinked-dirty rs c.args.n b c.args.dirty c.self.invariant.0,
      subst (λ l. IsFinger l c.self.inside.finger) (sym (shown-dirty rs c.args.n b c.args.dirty)) (IsFinger-dirty (shown_rows rs) c.args.n c.args.dirty c.self.inside.finger c.self.invariant.1),
    )

pub returns : goal.returns
returns c =
    let rs = c.self.inside.items.items in
    let b : c.args.n < length rs = rw (← length-shown rs) (rw c.self.view_is c.requires) in
    let r = get_or_read rs c.args.n c.index_mut-row.result.now b c.index_mut-row.ensures.value no_row in
    let put : Row → List Row = λ x. set rs c.args.n (dirty_row x c.args.dirty) in
    let with_tally : CountAndMark → List Row = λ t. set rs c.args.n (record c.index_mut-row.result.now { tally = t }) in
    let e = ap with_tally c.set_dirty.ensures ∙ ap put r in
    rw (← c.self.view_is) (ap shown_rows e ∙ shown-dirty rs c.args.n b c.args.dirty)
