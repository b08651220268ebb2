use Rattle.rule_sites.proofs.Vendor.{same_word}
use Rattle.rule_sites.proofs.keyframes.is_spelled.Goals as goal

pub returns : goal.returns
returns c = same_word c.eq_ignore_ascii_case.result c.args.name.now c.args.word.now c.eq_ignore_ascii_case.ensures.test c.requires
