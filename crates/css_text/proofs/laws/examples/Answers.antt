use Rattle.std.proofs.Common.{refl}
use Rattle.css_text.specs.Characters.{is_space, is_quote, is_single, ends_word}
use Rattle.css_text.specs.Forms.{begins_url}
use Rattle.css_text.specs.Pieces.{first, cut}
use Rattle.css_text.specs.Ahead.{pieces}
use Rattle.css_text.specs.Place.{place_of}
use Rattle.css_text.proofs.laws.examples.Goals as goal

pub returns-clause-forms : goal.returns-clause-forms
unfolding is_space is_quote is_single ends_word begins_url first cut pieces
returns-clause-forms c = refl

pub returns-clause-escapes : goal.returns-clause-escapes
unfolding is_space is_quote is_single ends_word begins_url first cut pieces
returns-clause-escapes c = refl

pub returns-clause-last : goal.returns-clause-last
unfolding is_space is_quote is_single ends_word begins_url first cut pieces
returns-clause-last c = refl

pub returns-clause-slashes : goal.returns-clause-slashes
unfolding is_space is_quote is_single ends_word begins_url first cut pieces
returns-clause-slashes c = refl

pub returns-clause-urls : goal.returns-clause-urls
unfolding is_space is_quote is_single ends_word begins_url first cut pieces
returns-clause-urls c = (refl, refl, refl)

pub returns-clause-faults : goal.returns-clause-faults
unfolding is_space is_quote is_single ends_word begins_url first cut pieces
returns-clause-faults c = (refl, refl, refl)

pub returns-clause-marks : goal.returns-clause-marks
unfolding is_space is_quote is_single ends_word begins_url first cut pieces
returns-clause-marks c = refl

pub returns-clause-places : goal.returns-clause-places
unfolding place_of
returns-clause-places c = (refl, refl, refl, refl)

pub returns-clause-rule : goal.returns-clause-rule
unfolding is_space is_quote is_single ends_word begins_url first cut pieces
returns-clause-rule c = (refl, refl)
