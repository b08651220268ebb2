use Rattle.std.proofs.Common.{◌<◌, length, sym, ◌∙◌, ap}
use Rattle.std.proofs.lemmas.List.{get_or_read}
use Rattle.node_rows.specs.Nodes.{next_sibling_of}
use Rattle.node_rows.specs.Shown.{no_row}
use Rattle.node_rows.proofs.Join.{length-shown}
use Rattle.node_rows.proofs.Siblings.{after-is}
use Rattle.node_rows.proofs.rows.Rows.next_sibling.Goals as goal

pub returns-in-Some : goal.returns-in-Some
returns-in-Some c =
    let rs = c.self.inside.items.items in
    let b : c.args.n < length rs = rw (← length-shown rs) (rw c.self.view_is c.requires) in
    let r = get_or_read rs c.args.n c.index-row.result.now b c.index-row.ensures no_row in
    c.get-in-Some.ensures ∙ (ap (λ x. x.after) r ∙ (after-is rs c.self.invariant.0 c.args.n c.in-Some.field-0 b (sym (ap (λ x. x.parent) r) ∙ (sym c.get.ensures ∙ c.in-Some.is)) ∙ ap (λ ns. next_sibling_of ns c.args.n) c.self.view_is))
