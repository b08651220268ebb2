-- Edits of a call that opens and closes no cursor.
use Rattle.std.specs.Prelude.{◌≡◌, List}
use Rattle.node_store.specs.declared.item.Edit.{Edit}
use Rattle.node_store.specs.Forest.{Forest}
use Rattle.plugin_api.specs.Edited.{Edited}
use Rattle.plugin_api.specs.Open.{open_total}

-- The forest changed by these edits alone, and as many cursors are open as before.
pub record EditedAlone (before after : Forest) (edits : List Edit) : Type 0 where
  pub edited : Edited before after edits
  pub total : open_total after.cursors ≡ open_total before.cursors
