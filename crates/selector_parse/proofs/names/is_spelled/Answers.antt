use Rattle.selector_parse.proofs.Spelled.{spelled_from}
use Rattle.selector_parse.proofs.names.is_spelled.Goals as goal

pub returns : goal.returns
returns c = spelled_from c.eq_ignore_ascii_case.result c.args.word.now c.args.name.now c.eq_ignore_ascii_case.ensures.test
