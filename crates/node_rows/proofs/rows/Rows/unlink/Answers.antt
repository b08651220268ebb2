use Rattle.std.proofs.Common.{◌≡◌, Some, sym, ◌∙◌, ap, subst}
use Rattle.std.proofs.lemmas.List.{get_or_read}
use Rattle.node_rows.specs.Nodes.{parent_of, place_of, unlinked}
use Rattle.node_rows.specs.Fingers.{IsFinger}
use Rattle.node_rows.specs.Joins.{cut_from, IsWithin}
use Rattle.node_rows.specs.Shown.{shown_rows, no_row}
use Rattle.node_rows.proofs.Cut.{node-in, before-within, after-within, some-counted, IsLinked-cut, shown-cut}
use Rattle.node_rows.proofs.rows.Rows.unlink.Goals as goal

pub cut-requires-clause-before_in : goal.cut-requires-clause-before_in
cut-requires-clause-before_in c =
    let rs = c.self.inside.items.items in
    let child : parent_of (shown_rows rs) c.args.node ≡ Some c.args.parent = rw c.self.view_is c.requires in
    let r = get_or_read rs c.args.node c.index-row.result.now (node-in rs c.self.invariant.0 c.args.parent c.args.node child) c.index-row.ensures no_row in
    subst (λ x. IsWithin rs x.before) (sym r) (before-within rs c.self.invariant.0 c.args.parent c.args.node child)

pub cut-requires-clause-after_in : goal.cut-requires-clause-after_in
cut-requires-clause-after_in c =
    let rs = c.self.inside.items.items in
    let child : parent_of (shown_rows rs) c.args.node ≡ Some c.args.parent = rw c.self.view_is c.requires in
    let r = get_or_read rs c.args.node c.index-row.result.now (node-in rs c.self.invariant.0 c.args.parent c.args.node child) c.index-row.ensures no_row in
    subst (λ x. IsWithin rs x.after) (sym r) (after-within rs c.self.invariant.0 c.args.parent c.args.node child)

pub cut-requires-clause-some : goal.cut-requires-clause-some
cut-requires-clause-some c =
    let rs = c.self.inside.items.items in
    let child : parent_of (shown_rows rs) c.args.node ≡ Some c.args.parent = rw c.self.view_is c.requires in
    some-counted rs c.self.invariant.0 c.args.parent c.args.node child

pub invariant_of-self : goal.invariant_of-self
invariant_of-self c =
    let rs = c.self.inside.items.items in
    let child : parent_of (shown_rows rs) c.args.node ≡ Some c.args.parent = rw c.self.view_is c.requires in
    let r = get_or_read rs c.args.node c.index-row.result.now (node-in rs c.self.invariant.0 c.args.parent c.args.node child) c.index-row.ensures no_row in
    let e = c.cut.ensures ∙ ap (λ x. cut_from rs c.args.parent c.args.node x.before x.after) r in
    let shows = shown-cut rs c.self.invariant.0 c.args.parent c.args.node child c.cut.new.rows.items e ∙ ap (λ ns. unlinked ns c.args.parent (place_of ns c.args.parent c.args.node) c.args.node) c.self.view_is in (
      IsLinked-cut rs c.self.invariant.0 c.args.parent c.args.node child c.cut.new.rows.items e,
      subst (λ ns. IsFinger ns c.finger_without-finger.result) (sym shows) c.finger_without-finger.ensures,
    )

pub returns : goal.returns
returns c =
    let rs = c.self.inside.items.items in
    let child : parent_of (shown_rows rs) c.args.node ≡ Some c.args.parent = rw c.self.view_is c.requires in
    let r = get_or_read rs c.args.node c.index-row.result.now (node-in rs c.self.invariant.0 c.args.parent c.args.node child) c.index-row.ensures no_row in
    shown-cut rs c.self.invariant.0 c.args.parent c.args.node child c.cut.new.rows.items
    (c.cut.ensures ∙ ap (λ x. cut_from rs c.args.parent c.args.node x.before x.after) r)
    ∙ ap (λ ns. unlinked ns c.args.parent (place_of ns c.args.parent c.args.node) c.args.node) c.self.view_is
