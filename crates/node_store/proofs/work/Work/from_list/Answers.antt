use Rattle.std.proofs.Common.{sym, subst, refl, [], ap, ◌∙◌}
use Rattle.node_rows.specs.Sound.{IsSound}
use Rattle.node_store.specs.Seats.{bare, IsStored}
use Rattle.node_store.proofs.Whole.{IsStored-built}
use Rattle.node_store.proofs.work.Work.from_list.Goals as goal

pub over-requires : goal.over-requires
over-requires c =
    let s = subst IsSound c.into_rows-rows.ensures c.facts.ensures in
    subst (λ ns. IsStored c.args.text ns []) (sym c.into_rows-rows.ensures) (IsStored-built c.args.text c.args.nodes c.requires s [] refl)

pub returns : goal.returns
returns c = c.over.ensures ∙ ap (bare c.args.text) c.into_rows-rows.ensures
