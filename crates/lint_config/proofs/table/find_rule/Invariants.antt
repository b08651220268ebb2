use Rattle.std.proofs.Common.{◌≡◌, drop}
use Rattle.lint_config.specs.Rules.{named_in, all_rules, rule_named}
use Rattle.lint_config.proofs.table.find_rule.Given as goal

abbrev pub invariant-loop-rule : goal.invariant-loop-rule
invariant-loop-rule l = named_in (drop l.rule-index all_rules) l.name ≡ rule_named l.name
