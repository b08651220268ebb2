use Rattle.std.proofs.Common.{refl}
use Rattle.plugin_api.proofs.laws.examples.Goals as goal

pub returns-clause-short_words : goal.returns-clause-short_words
returns-clause-short_words c = (refl, refl, refl, refl, refl, refl)

pub returns-clause-shortened : goal.returns-clause-shortened
returns-clause-shortened c = refl

pub returns-clause-comments : goal.returns-clause-comments
returns-clause-comments c = (refl, refl, refl, refl)

pub returns-clause-empty : goal.returns-clause-empty
returns-clause-empty c = (refl, refl, refl, refl)

pub returns-clause-unnested : goal.returns-clause-unnested
returns-clause-unnested c = (refl, refl, refl, refl)

pub returns-clause-nothing : goal.returns-clause-nothing
returns-clause-nothing c = refl

pub returns-clause-open_cursors : goal.returns-clause-open_cursors
returns-clause-open_cursors c = refl
