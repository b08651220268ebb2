-- What edits in turn make of a forest.
use Rattle.std.specs.Prelude.{◌≡◌, ℕ, List, ◌++◌, true, Some, map}
use Rattle.node_store.specs.declared.item.Edit.{Edit}
use Rattle.node_store.specs.declared.item.Item.TheVariants as I
use Rattle.node_store.specs.Forest.{Forest, Place, cursor_at}
use Rattle.node_store.specs.Edits.{apply_all, all_can, moved_all}

-- The forest changed by these edits alone, each of which could be made at its turn, and logs them. A cursor that stood
-- before still stands, moved by the edits. Cursors that were opened meanwhile are put aside.
pub record Edited (before after : Forest) (edits : List Edit) : Type 0 where
  pub met : all_can before.nodes edits ≡ true
  pub text : after.text ≡ before.text
  pub nodes : after.nodes ≡ apply_all before.nodes edits
  pub log : after.log ≡ before.log ++ map (λ e. I.Edit e) edits
  pub cursors : (serial : ℕ) (c : Place) → cursor_at before.cursors serial ≡ Some c → cursor_at after.cursors serial ≡ moved_all before.nodes edits (Some c)
