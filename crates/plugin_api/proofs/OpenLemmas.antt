-- How many cursors are open, after changes of their list.
use Rattle.std.proofs.Common.{◌≡◌, suc, List, [], ◌∷◌, map, Option, Some, None, refl, ap, ◌∙◌}
use Rattle.std.specs.Option.{option_map}
use Rattle.node_store.specs.declared.item.Edit.{Edit}
use Rattle.node_store.specs.Forest.{Forest, Place}
use Rattle.node_store.specs.Edits.{edited, edited_all, moved_place}
use Rattle.plugin_api.specs.Open.{open_total}

example : open_total (Some (record { container = 0; passed = 1 }) ∷ None ∷ Some (record { container = 2; passed = 0 }) ∷ []) ≡ 2
example = refl

-- cursors that are moved stay as many
pub total-moved : (f : Place → Place) (cs : List (Option Place)) → open_total (map (option_map f) cs) ≡ open_total cs
total-moved f [] = refl
total-moved f (None ∷ cs) = total-moved f cs
total-moved f (Some c ∷ cs) = ap suc (total-moved f cs)

pub total-edited : (f : Forest) (es : List Edit) → open_total (edited_all f es).cursors ≡ open_total f.cursors
total-edited f [] = refl
total-edited f (e ∷ es) = total-edited (edited f e) es ∙ total-moved (moved_place f.nodes e) f.cursors
