use Rattle.std.proofs.Common.{refl, get_or, false, arith, not, ◌||◌}
use Rattle.std.specs.Prelude.{◌==◌}
use Rattle.std.proofs.lemmas.Bool.{agree_below_at}
use Rattle.css_text.specs.Characters.{is_space, is_quote, is_single, ends_word}
use Rattle.css_text.specs.declared.scan.TheConstants.{PLAIN}
use Rattle.css_text.proofs.scan.is_plain.Goals as goal

pub returns : goal.returns
unfolding is_space is_quote is_single ends_word
returns c = agree_below_at (λ b. get_or PLAIN b false) (λ b. not (ends_word b || b == 47 || b == 92)) 256 c.args.b refl (omega arith)
