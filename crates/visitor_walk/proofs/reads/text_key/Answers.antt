use Rattle.std.proofs.lemmas.Str.{chars-nil}
use Rattle.visitor_walk.proofs.reads.text_key.Goals as goal

pub returns-in-Root : goal.returns-in-Root
returns-in-Root c = rw c.in-Root.is chars-nil

pub returns-in-Rule : goal.returns-in-Rule
returns-in-Rule c = rw c.in-Rule.is chars-nil

pub returns-in-Comment : goal.returns-in-Comment
returns-in-Comment c = rw c.in-Comment.is chars-nil
