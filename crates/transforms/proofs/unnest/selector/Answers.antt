use Rattle.std.proofs.Common.{sym, ◌∙◌}
use Rattle.std.proofs.lemmas.Str.{chars-nil}
use Rattle.transforms.proofs.Unnested.{unread-empty}
use Rattle.transforms.proofs.unnest.selector.Goals as goal

pub returns-in-Err : goal.returns-in-Err
returns-in-Err c = chars-nil ∙ sym (unread-empty c.args.work.now c.args.n c.in-Err.field-0 c.in-Err.ensures)
