use Rattle.command_words.proofs.Cuts.{names_split, names_whole}
use Rattle.command_words.proofs.picked.first_name.Goals as goal

pub returns-in-Some-clause-names : goal.returns-in-Some-clause-names
returns-in-Some-clause-names c = names_split c.args.text.now c.in-Some.name.now c.in-Some.rest.now c.utf8.text c.in-Some.ensures.cases

pub returns-in-None-clause-names : goal.returns-in-None-clause-names
returns-in-None-clause-names c = names_whole c.args.text.now c.utf8.text c.in-None.ensures.cases
