use Rattle.std.proofs.Common.{◌≡◌, ◌∙◌, ◌++◌, sym, ap, subst, arith}
use Rattle.std.specs.List.{flat_map}
use Rattle.std.specs.List.Sorted.{IsPermutation}
use Rattle.node_store.specs.Forest.{tree_of}
use Rattle.rule_sites.specs.Context.{contexts}
use Rattle.rule_sites.specs.ContextAt.{context_at}
use Rattle.rule_sites.specs.Finding.{sites_at}
use Rattle.rules_tree.specs.Findings.{findings}
use Rattle.rules_tree.proofs.Walked.{walk_more, walked}
use Rattle.rules_tree.proofs.check.check_tree.Goals as goal

pub loop-n-preserved : goal.loop-n-preserved
loop-n-preserved c =
    walk_more c.args.work.now c.args.settings.now.rules.items c.as_slice.result.now c.loop-n.n c.new.result c.loop-n.sites.items c.visit_all.new.sites.items
    c.as_slice.ensures.value c.new.ensures c.loop-n.invariant c.in_ok-visit_all.ensures

pub returns : goal.returns
returns c =
    walked c.args.work.now c.facts.ensures c.requires.fresh c.args.settings.now.rules.items c.loop-n.n c.loop-n.sites.items c.sort_sites.new.sites.items
    (omega (arith, c.node_total-n-end.ensures, c.loop-n-test.false, c.loop-n.auto.n-end)) c.loop-n.invariant c.sort_sites.ensures.all c.in_ok-sort_sites.ensures.in_order
