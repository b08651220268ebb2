use Rattle.rules_tree.proofs.LowerWords.{text_test}
use Rattle.rules_tree.proofs.names.is_text.Goals as goal

pub returns : goal.returns
returns c = text_test c.eq_ignore_ascii_case.result c.args.text.now c.args.word.now c.requires c.utf8.text c.eq_ignore_ascii_case.ensures.test
