use Rattle.std.proofs.Common.{◌≡◌}
use Rattle.std.specs.List.{flat_map}
use Rattle.rule_sites.specs.Finding.{sites_at}
use Rattle.rule_sites.proofs.Walks.{found_before}
use Rattle.rules_tree.specs.Findings.{findings}
use Rattle.rules_tree.proofs.check.check_tree.Given as goal

abbrev pub invariant-loop-n : goal.invariant-loop-n
invariant-loop-n l =
    l.sites.items ≡ found_before (λ c. flat_map (λ setting. sites_at findings l.work.text setting c) l.settings.rules.items) l.work.nodes l.n
