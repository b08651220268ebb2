use Rattle.visitor_walk.proofs.AsciiCase.{same_lower}
use Rattle.visitor_walk.proofs.reads.is_same.Goals as goal

pub returns : goal.returns
returns c = same_lower c.args.a.now c.args.b.now _ c.utf8.a c.utf8.b c.eq_ignore_ascii_case.ensures.test
