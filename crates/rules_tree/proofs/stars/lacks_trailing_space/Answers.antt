use Rattle.std.proofs.Common.{◌∙◌}
use Rattle.rules_tree.proofs.StarBytes.{black_back}
use Rattle.rules_tree.proofs.stars.lacks_trailing_space.Goals as goal

pub returns : goal.returns
returns c = c.is_black_before.ensures ∙ black_back c.args.s.now c.trailing_stars_start.result c.trailing_stars_start.ensures
