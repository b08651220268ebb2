use Rattle.std.proofs.Common.{◌≡◌, ap, sym, ◌∙◌, eqb}
use Rattle.std.specs.List.{list_any}
use Rattle.node_rows.specs.NodeList.{parents_in, last_path}
use Rattle.node_store.proofs.Pushes.{root-on_path}
use Rattle.stringify.proofs.entries.Entries.root.Goals as goal

pub returns : goal.returns
returns c =
    ap (λ l. list_any (eqb 0) (last_path (parents_in l))) (sym c.self.view_is)
    ∙ root-on_path (parents_in c.self.inside.nodes.items) c.self.invariant.order
