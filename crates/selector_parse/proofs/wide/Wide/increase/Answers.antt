use Rattle.std.proofs.Common.{◌∙◌, arith}
use Rattle.selector_parse.proofs.Words.{value_one}
use Rattle.selector_parse.proofs.wide.Wide.increase.Goals as goal

pub add_words-requires : goal.add_words-requires
add_words-requires c = omega (arith, value_one, c.self.view_is, c.requires)

pub returns : goal.returns
returns c = c.add_words.ensures ∙ rw (value_one, ← c.self.view_is)
