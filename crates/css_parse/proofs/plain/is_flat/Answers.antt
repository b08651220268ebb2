use Rattle.std.proofs.Common.{refl, get_or, false, arith}
use Rattle.std.proofs.lemmas.Bool.{agree_below_at}
use Rattle.css_text.specs.Characters.{is_space, is_quote, is_single, ends_word}
use Rattle.css_parse.specs.Plain.{is_name, is_flat}
use Rattle.css_parse.specs.declared.plain.TheConstants.{FLAT}
use Rattle.css_parse.proofs.plain.is_flat.Goals as goal

pub returns : goal.returns
unfolding is_name is_flat is_space is_quote is_single ends_word
returns c = agree_below_at (λ b. get_or FLAT b false) is_flat 256 c.args.b refl (omega arith)
