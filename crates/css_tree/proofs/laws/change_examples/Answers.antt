use Rattle.std.proofs.Common.{refl}
use Rattle.css_text.specs.Characters.{is_space, is_quote, is_single, ends_word}
use Rattle.css_text.specs.Forms.{begins_url}
use Rattle.css_text.specs.Pieces.{first, cut}
use Rattle.css_tree.specs.Clean.{clean_of}
use Rattle.css_tree.proofs.laws.change_examples.Goals as goal

pub returns-clause-value : goal.returns-clause-value
unfolding is_space is_quote is_single ends_word begins_url first cut clean_of
returns-clause-value c = (refl, refl, refl, refl)
