-- What edit calls make, with the cursors that are open.
use Rattle.std.proofs.Common.{◌≡◌, List, [], ◌++◌, true, refl, ap, ◌∙◌}
use Rattle.node_store.specs.declared.item.Edit.{Edit}
use Rattle.node_store.specs.Forest.{Forest, unreserved}
use Rattle.node_store.specs.Edits.{all_can, edited_all}
use Rattle.plugin_api.specs.Open.{open_total}
use Rattle.plugin_api.specs.Alone.{EditedAlone}
use Rattle.plugin_api.proofs.EditedLemmas.{edited_by, edited_unmade, Edited-then}
use Rattle.plugin_api.proofs.OpenLemmas.{total-edited}

-- what an edit call made
pub alone_by : (before after : Forest) (es : List Edit) → all_can before.nodes es ≡ true → unreserved after ≡ edited_all (unreserved before) es → EditedAlone before after es
alone_by before after es met made = record {
  edited = edited_by before after es met made;
  total = ap (λ (f : Forest). open_total f.cursors) made ∙ total-edited (unreserved before) es;
}

-- a call that was refused, or wanted memory
pub alone_unmade : (before after : Forest) → unreserved after ≡ unreserved before → EditedAlone before after []
alone_unmade before after e = record { edited = edited_unmade before after e; total = ap (λ (f : Forest). open_total f.cursors) e }

-- the edits of one call after those of another
pub alone-then : (a b c : Forest) (es fs : List Edit) → EditedAlone a b es → EditedAlone b c fs → EditedAlone a c (es ++ fs)
alone-then a b c es fs h g = record { edited = Edited-then a b c es fs h.edited g.edited; total = g.total ∙ h.total }
