use Rattle.std.proofs.Common.{ap, ◌∙◌}
use Rattle.css_tree.specs.Print.{print, starts, body, starts_below}
use Rattle.node_rows.specs.NumberTrees.{tree_at}
use Rattle.stringify.specs.Sheet.{with_body}
use Rattle.stringify.proofs.Pieces.{body-shown, nodes_in, ats_in}
use Rattle.stringify.proofs.Turns.{root_depth}
use Rattle.stringify.proofs.printed.print.Goals as goal

pub returns-clause-text : goal.returns-clause-text
unfolding print
returns-clause-text c =
    let f = c.args.work.now in
    let e = c.in_ok-write_body.ensures ∙ (ap (λ n. with_body f.nodes n c.in_ok-out.out) c.new.ensures ∙ ap (with_body f.nodes 0) c.in_ok-out.ensures) in
    let s = body-shown f.nodes 0 c.write_body.new.out e in
    c.in_ok-printed.ensures.text ∙ (s.text ∙ ap (λ d. body d (tree_at f.nodes 0)) (root_depth f c.facts.ensures))

pub returns-clause-nodes : goal.returns-clause-nodes
returns-clause-nodes c =
    let f = c.args.work.now in
    let e = c.in_ok-write_body.ensures ∙ (ap (λ n. with_body f.nodes n c.in_ok-out.out) c.new.ensures ∙ ap (with_body f.nodes 0) c.in_ok-out.ensures) in
    let s = body-shown f.nodes 0 c.write_body.new.out e in
    ap nodes_in c.in_ok-printed.ensures.starts ∙ s.nodes

pub returns-clause-starts : goal.returns-clause-starts
unfolding starts
returns-clause-starts c =
    let f = c.args.work.now in
    let e = c.in_ok-write_body.ensures ∙ (ap (λ n. with_body f.nodes n c.in_ok-out.out) c.new.ensures ∙ ap (with_body f.nodes 0) c.in_ok-out.ensures) in
    let s = body-shown f.nodes 0 c.write_body.new.out e in
    ap ats_in c.in_ok-printed.ensures.starts ∙ (s.ats ∙ ap (λ d. starts_below d (tree_at f.nodes 0)) (root_depth f c.facts.ensures))
