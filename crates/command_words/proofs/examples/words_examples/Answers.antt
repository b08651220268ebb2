use Rattle.std.proofs.Common.{refl}
use Rattle.command_words.specs.Words.{command_of}
use Rattle.command_words.proofs.examples.words_examples.Goals as goal

pub returns-clause-commands : goal.returns-clause-commands
unfolding command_of
returns-clause-commands c = (refl, refl, refl, refl, refl, refl)

pub returns-clause-options : goal.returns-clause-options
unfolding command_of
returns-clause-options c = (refl, refl, refl, refl, refl, refl, refl, refl, refl, refl, refl)

pub returns-clause-mixed : goal.returns-clause-mixed
unfolding command_of
returns-clause-mixed c = (refl, refl, refl, refl, refl, refl, refl, refl)

pub returns-clause-numbers : goal.returns-clause-numbers
unfolding command_of
returns-clause-numbers c = (refl, refl, refl, refl, refl)

pub returns-clause-names : goal.returns-clause-names
unfolding command_of
returns-clause-names c = (refl, refl, refl, refl, refl, refl)
