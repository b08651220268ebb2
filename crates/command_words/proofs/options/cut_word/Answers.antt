use Rattle.command_words.proofs.Cuts.{cut_gives}
use Rattle.command_words.proofs.options.cut_word.Goals as goal

pub returns : goal.returns
returns c = cut_gives c.args.word.now c.split_once.result c.utf8.word c.split_once.ensures.cases
