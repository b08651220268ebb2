-- What the walk may note in the log.
use Rattle.std.specs.Prelude.{List, Bool, true, false, nat_lt, length}
use Rattle.node_rows.specs.Nodes.{Node}
use Rattle.node_store.specs.declared.item.Item.{Item}
use Rattle.node_store.specs.declared.item.Item.TheVariants as I

-- the item is of the walk, and a node that is entered was given out
abbrev pub is_note : List Node → Item → Bool
is_note ns (I.Edit e) = false
is_note ns (I.Enter n) = nat_lt n (length ns)
is_note ns _ = true
