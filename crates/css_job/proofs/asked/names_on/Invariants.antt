use Rattle.std.proofs.Common.{◌≡◌, take}
use Rattle.css_job.specs.ShelfSeen.{shelf_names}
use Rattle.css_job.proofs.asked.names_on.Given as goal

abbrev pub invariant-loop-plugin : goal.invariant-loop-plugin
invariant-loop-plugin g l = l.names.items ≡ shelf_names (take l.plugin-index l.shelf.items)
