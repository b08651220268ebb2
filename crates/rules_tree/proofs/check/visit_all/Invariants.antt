use Rattle.std.proofs.Common.{◌≡◌, ◌++◌, take}
use Rattle.std.specs.List.{flat_map}
use Rattle.rule_sites.specs.ContextAt.{context_at}
use Rattle.rule_sites.specs.Finding.{sites_at}
use Rattle.rules_tree.specs.Findings.{findings}
use Rattle.rules_tree.proofs.check.visit_all.Given as goal

abbrev pub invariant-loop-setting : goal.invariant-loop-setting
invariant-loop-setting l =
    l.sites.items ≡ l.fn.sites.items ++ flat_map (λ setting. sites_at findings l.work.text setting (context_at l.work.nodes l.n)) (take l.setting-index l.settings)
