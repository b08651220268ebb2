use Rattle.std.proofs.Common.{◌<◌, length, sym, ◌∙◌, ap, slice_get}
use Rattle.node_rows.specs.Nodes.{children_of}
use Rattle.node_rows.proofs.Join.{shown-at, length-shown, start_get, kids}
use Rattle.node_rows.proofs.rows.Rows.child_at.Goals as goal

pub returns : goal.returns
returns c =
    let rs = c.self.inside.items.items in
    let b : c.args.n < length rs = rw (← length-shown rs) (rw c.self.view_is c.requires) in
    c.get.ensures ∙ (c.gap.ensures.after ∙ (start_get (kids rs c.args.n) c.args.at
    ∙ ap (λ l. slice_get l c.args.at) (ap (λ x. x.children) (sym (shown-at rs c.args.n b)) ∙ ap (λ ns. children_of ns c.args.n) c.self.view_is)))
