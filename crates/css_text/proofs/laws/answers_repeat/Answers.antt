use Rattle.css_text.proofs.Repeats.{answers_are}
use Rattle.css_text.proofs.laws.answers_repeat.Goals as goal

pub returns : goal.returns
returns c = answers_are
