use Rattle.std.proofs.Common.{refl}
use Rattle.node_rows.specs.NumberTrees.{levels, number_trees}
use Rattle.lint_config.specs.Rules.{entry_of}
use lib.Utf8.{encode}
use Rattle.rule_sites.specs.Context.{contexts, contexts_below}
use Rattle.rule_sites.specs.ContextAt.{context_at}
use Rattle.rule_sites.specs.Finding.{all_sites}
use Rattle.rule_sites.specs.Keyframes.{is_keyframes_name}
use Rattle.rule_sites.proofs.laws.examples.Goals as goal

pub returns-clause-around : goal.returns-clause-around
unfolding contexts contexts_below
returns-clause-around c = (refl, refl, refl)

pub returns-clause-by_number : goal.returns-clause-by_number
unfolding contexts contexts_below context_at levels number_trees
returns-clause-by_number c = (refl, refl, refl, refl)

pub returns-clause-bytes : goal.returns-clause-bytes
returns-clause-bytes c = (refl, refl, refl, refl)

pub returns-clause-keyframes_names : goal.returns-clause-keyframes_names
unfolding is_keyframes_name
returns-clause-keyframes_names c = (refl, refl, refl, refl, refl, refl)

pub returns-clause-rule_by_rule : goal.returns-clause-rule_by_rule
unfolding all_sites
returns-clause-rule_by_rule c = (refl, refl)

pub returns-clause-in_order : goal.returns-clause-in_order
unfolding entry_of encode
returns-clause-in_order c = (refl, refl, refl, refl)
