use Rattle.std.proofs.Common.{refl}
use Rattle.selector_parse.specs.Wide.{weight, value}
use Rattle.selector_parse.proofs.wide.Wide.zero.Goals as goal

pub returns : goal.returns
unfolding value weight
returns c = refl
