use Rattle.std.proofs.Common.{◌≡◌, [], rules, sym, ◌∙◌}
use Rattle.std.proofs.lemmas.Str.{chars-nil}
use Rattle.transforms.specs.Reads.{selector_of}
use Rattle.transforms.proofs.unnest.selector_in.Goals as goal

pub returns-in_default : goal.returns-in_default
returns-in_default c = let e : selector_of c.args.text.now ≡ [] = search rules in chars-nil ∙ sym e
