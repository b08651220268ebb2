use Rattle.std.proofs.Common.{◌≡◌, ◌<◌, length, None, false, sym, ◌∙◌, ap, subst, arith}
use Rattle.std.proofs.lemmas.List.{get_or_read}
use Rattle.node_rows.specs.Fingers.{IsFinger}
use Rattle.node_rows.specs.Nodes.{children_of, parent_of, holds, linked}
use Rattle.node_rows.specs.Joins.{joined_in, IsWithin}
use Rattle.node_rows.specs.Shown.{shown_rows, no_row}
use Rattle.node_rows.proofs.Join.{length-shown}
use Rattle.node_rows.proofs.Last.{last_within, last_few, last_linked, last_counts, last_shown}
use Rattle.node_rows.proofs.rows.Rows.link_last.Goals as goal

pub join-requires-clause-before_in : goal.join-requires-clause-before_in
join-requires-clause-before_in c =
    let rs = c.self.inside.items.items in
    let wp : c.args.parent < length (shown_rows rs) = rw c.self.view_is c.requires.parent_in in
    let wn : c.args.node < length (shown_rows rs) = rw c.self.view_is c.requires.node_in in
    let loose : parent_of (shown_rows rs) c.args.node ≡ None = rw c.self.view_is c.requires.loose in
    let apart : holds (shown_rows rs) c.args.node c.args.parent ≡ false = rw c.self.view_is c.requires.apart in
    let r = get_or_read rs c.args.parent c.index-row.result.now (rw (← length-shown rs) wp) c.index-row.ensures no_row in
    subst (λ x. IsWithin rs x.last) (sym r) (last_within rs c.self.invariant.0 c.args.parent c.args.node wp wn c.requires.not_root loose apart)

pub join-requires-clause-few : goal.join-requires-clause-few
join-requires-clause-few c =
    let rs = c.self.inside.items.items in
    let wp : c.args.parent < length (shown_rows rs) = rw c.self.view_is c.requires.parent_in in
    let wn : c.args.node < length (shown_rows rs) = rw c.self.view_is c.requires.node_in in
    let loose : parent_of (shown_rows rs) c.args.node ≡ None = rw c.self.view_is c.requires.loose in
    let apart : holds (shown_rows rs) c.args.node c.args.parent ≡ false = rw c.self.view_is c.requires.apart in
    last_few rs c.self.invariant.0 c.args.parent c.args.node wp wn c.requires.not_root loose apart

pub join-requires-clause-total : goal.join-requires-clause-total
join-requires-clause-total c =
    let rs = c.self.inside.items.items in
    omega (arith, c.self.invariant.0.sound.few, length-shown rs)

pub invariant_of-self : goal.invariant_of-self
invariant_of-self c =
    let rs = c.self.inside.items.items in
    let wp : c.args.parent < length (shown_rows rs) = rw c.self.view_is c.requires.parent_in in
    let wn : c.args.node < length (shown_rows rs) = rw c.self.view_is c.requires.node_in in
    let loose : parent_of (shown_rows rs) c.args.node ≡ None = rw c.self.view_is c.requires.loose in
    let apart : holds (shown_rows rs) c.args.node c.args.parent ≡ false = rw c.self.view_is c.requires.apart in
    let r = get_or_read rs c.args.parent c.index-row.result.now (rw (← length-shown rs) wp) c.index-row.ensures no_row in
    let e = c.join.ensures ∙ (ap (joined_in rs c.args.parent c.args.node c.index-row.result.now.last) c.none.ensures ∙ ap (λ x. joined_in rs c.args.parent c.args.node x.last None) r) in
    let counts = c.count.ensures ∙ (ap (λ x. x.tally.count) r ∙ last_counts rs c.self.invariant.0 c.args.parent c.args.node wp wn c.requires.not_root loose apart) in
    let shows = last_shown rs c.self.invariant.0 c.args.parent c.args.node wp wn c.requires.not_root loose apart c.join.new.rows.items e ∙ ap (λ at. linked (shown_rows rs) c.args.parent at c.args.node) (sym counts) in (
      last_linked rs c.self.invariant.0 c.args.parent c.args.node wp wn c.requires.not_root loose apart c.join.new.rows.items e,
      subst (λ ms. IsFinger ms c.finger_with-self-inside.result) (sym shows) (c.finger_with-self-inside.ensures (shown_rows rs) wp wn (omega (arith, counts)) c.self.invariant.1),
    )

pub returns : goal.returns
returns c =
    let rs = c.self.inside.items.items in
    let wp : c.args.parent < length (shown_rows rs) = rw c.self.view_is c.requires.parent_in in
    let wn : c.args.node < length (shown_rows rs) = rw c.self.view_is c.requires.node_in in
    let loose : parent_of (shown_rows rs) c.args.node ≡ None = rw c.self.view_is c.requires.loose in
    let apart : holds (shown_rows rs) c.args.node c.args.parent ≡ false = rw c.self.view_is c.requires.apart in
    let r = get_or_read rs c.args.parent c.index-row.result.now (rw (← length-shown rs) wp) c.index-row.ensures no_row in
    last_shown rs c.self.invariant.0 c.args.parent c.args.node wp wn c.requires.not_root loose apart c.join.new.rows.items (c.join.ensures ∙ (ap (joined_in rs c.args.parent c.args.node c.index-row.result.now.last) c.none.ensures ∙ ap (λ x. joined_in rs c.args.parent c.args.node x.last None) r))
    ∙ ap (λ ns. linked ns c.args.parent (length (children_of ns c.args.parent)) c.args.node) c.self.view_is
