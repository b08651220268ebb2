use Rattle.std.proofs.Common.{◌≡◌, ◌-◌, ap, sym, ◌∙◌, eqb, arith}
use Rattle.std.specs.List.{list_any}
use Rattle.node_rows.specs.NodeList.{parents_in, last_path}
use Rattle.node_store.proofs.Pushes.{last-on_path, parents-count}
use Rattle.stringify.proofs.entries.Entries.last.Goals as goal

pub returns : goal.returns
returns c =
    let es = c.self.inside.nodes.items in
    let ps = parents_in es in
    ap (λ l. list_any (eqb (c.len.result - 1)) (last_path (parents_in l))) (sym c.self.view_is)
    ∙ (ap (λ k. list_any (eqb k) (last_path ps)) (omega (arith, parents-count es c.self.invariant.some, c.len.ensures, c.self.inside.nodes.ok.0)) ∙ last-on_path ps)
