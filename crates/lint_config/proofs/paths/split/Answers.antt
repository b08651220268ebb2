use Rattle.lint_config.proofs.Slashes.{split_some, split_none}
use Rattle.lint_config.proofs.paths.split.Goals as goal

pub returns-in-Some-clause-parts : goal.returns-in-Some-clause-parts
returns-in-Some-clause-parts c = (split_some c.args.text.now c.in-Some.part.now c.in-Some.rest.now c.utf8.text c.in-Some.ensures.cases).0

pub returns-in-Some-clause-utf8 : goal.returns-in-Some-clause-utf8
returns-in-Some-clause-utf8 c = (split_some c.args.text.now c.in-Some.part.now c.in-Some.rest.now c.utf8.text c.in-Some.ensures.cases).1

pub returns-in-None-clause-parts : goal.returns-in-None-clause-parts
returns-in-None-clause-parts c = split_none c.args.text.now c.utf8.text c.in-None.ensures.cases
