use Rattle.edit_calls.specs.Plans.{refused_root}
use Rattle.edit_calls.proofs.Answering.{passed}
use Rattle.edit_calls.proofs.Copied.{copy-answers}
use Rattle.edit_calls.proofs.making.clone_tree.Goals as goal

pub returns : goal.returns
returns c =
    let old = c.args.work.now in
    let pass = passed (refused_root old.nodes c.args.n) c.check_not_root.result c.map_err.result c.in_ok-map_err.field-0 c.map_err.ensures.variant c.in_ok-map_err.was c.check_not_root.ensures in
    copy-answers c.copies_can.ensures old c.copy_tree.new.self c.args.n c.copy_tree.result c.facts.ensures pass c.copy_tree.ensures
