use Rattle.std.proofs.Common.{◌≡◌, ◌<◌, [], length, true, ap, sym, ◌∙◌, arith, eqb, subst, IsSome}
use Rattle.std.specs.List.{list_any}
use Rattle.std.proofs.lemmas.List.{get_or_read}
use Rattle.css_tree.specs.Parts.{block_of}
use Rattle.node_rows.specs.declared.node_list.NodeAt.{NodeAt}
use Rattle.node_rows.specs.NodeList.{no_entry, parents_in, last_path}
use Rattle.node_store.specs.NodeList.{IsNodeList}
use Rattle.node_store.proofs.Pushes.{IsNodeList-push, no_bytes}
use Rattle.stringify.proofs.entries.Entries.push.Goals as goal

pub invariant_of-self-2 : goal.invariant_of-self-2
invariant_of-self-2 c =
    let es = c.self.inside.nodes.items in
    let p = c.args.parent in
    let e : NodeAt = record { parent = p; text = c.args.text; span = record { start = 0; end = 0 } } in
    let few : length es < 33554433 = omega (arith, c.if-len-ge33554433.false, c.len.ensures, c.self.inside.nodes.ok.0) in
    let b : p < length es = omega (arith, c.if-parent-len.false, c.len-else-len-ge33554433.ensures, c.self.inside.nodes.ok.0) in
    let on : list_any (eqb p) (last_path (parents_in es)) ≡ true = ap (λ l. list_any (eqb p) (last_path (parents_in l))) c.self.view_is ∙ c.requires in
    let ok = c.fits.ensures c.if-not-fits.false in
    let r = get_or_read es p c.index.result.now b c.index.ensures no_entry in
    subst (IsNodeList []) (sym c.in_ok-push.ensures.items)
    (IsNodeList-push [] es e c.self.invariant few on ok.0 (subst (λ y. IsSome (block_of y.text)) r ok.1) no_bytes)
