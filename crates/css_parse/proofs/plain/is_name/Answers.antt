use Rattle.std.proofs.Common.{refl, get_or, false, arith}
use Rattle.std.proofs.lemmas.Bool.{agree_below_at}
use Rattle.css_text.specs.Characters.{is_space, is_quote, is_single, ends_word}
use Rattle.css_parse.specs.Plain.{is_name}
use Rattle.css_parse.specs.declared.plain.TheConstants.{NAME}
use Rattle.css_parse.proofs.plain.is_name.Goals as goal

pub returns : goal.returns
unfolding is_name is_space is_quote is_single ends_word
returns c = agree_below_at (λ b. get_or NAME b false) is_name 256 c.args.b refl (omega arith)
