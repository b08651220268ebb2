use Rattle.std.proofs.Common.{◌∙◌, ◌++◌, sym, ap, subst, map}
use Rattle.std.specs.List.{flat_map}
use Rattle.node_rows.specs.NumberTrees.{below}
use Rattle.css_job.specs.Shown.{warning_seen}
use Rattle.css_job.specs.Walk.{found, from, onward, EachStands}
use Rattle.css_job.proofs.Stand.{stand, found_all, onward_root}
use Rattle.css_job.proofs.lint.empty_blocks.empty_block_warnings.Goals as goal

pub loop-at-init : goal.loop-at-init
loop-at-init c =
    let s = c.args.work.now.text in
    let ns = c.args.work.now.nodes in
    let e = c.next-at.ensures.value ∙ (ap (onward ns) c.new.ensures ∙ onward_root ns c.facts.ensures.sound c.facts.ensures.some) in
    record {
      given = c.next-at.ensures.given;
      stand = subst (EachStands s ns) (sym e) (stand s ns c.requires.read);
      same = ap (λ z. map warning_seen z ++ flat_map (found s ns) (from ns c.next-at.result)) c.new-warnings.ensures.items ∙ (ap (flat_map (found s ns)) e ∙ found_all s ns (below ns 0));
    }
