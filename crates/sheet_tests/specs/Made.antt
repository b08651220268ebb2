-- What a plugin of the tests does to a tree.
use Rattle.std.specs.Prelude.{List}
use Rattle.node_store.specs.declared.item.Edit.{Edit}
use Rattle.node_store.specs.Forest.{Forest}
use Rattle.plugin_api.specs.Alone.{EditedAlone}

-- it makes edits, and changes nothing else
abbrev pub IsEdited : Forest → Forest → Type 0
IsEdited before after = (edits : List Edit) × EditedAlone before after edits
