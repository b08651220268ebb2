use Rattle.std.proofs.Common.{◌≡◌, ◌<◌, ◌≤◌, length, None, false, sym, ◌∙◌, ap, arith, subst}
use Rattle.node_rows.specs.Fingers.{IsFinger}
use Rattle.node_rows.specs.Nodes.{parent_of, holds}
use Rattle.node_rows.specs.Shown.{shown_rows, IsLinked}
use Rattle.node_rows.proofs.Join.{shown-at, length-shown, is_within, start_within, end_within, short_kids, joined_same, IsLinked-joined, shown-joined, kids, joined_at}
use Rattle.node_rows.proofs.rows.Rows.link.Goals as goal

pub join-requires-clause-before_in : goal.join-requires-clause-before_in
join-requires-clause-before_in c =
    let rs = c.self.inside.items.items in
    let bp : c.args.parent < length rs = rw (← length-shown rs) (rw c.self.view_is c.requires.parent_in) in
    is_within rs _ (λ z e. end_within rs c.self.invariant.0 c.args.parent bp c.args.at z (e ∙ c.gap-before.ensures.before))

pub join-requires-clause-after_in : goal.join-requires-clause-after_in
join-requires-clause-after_in c =
    let rs = c.self.inside.items.items in
    let bp : c.args.parent < length rs = rw (← length-shown rs) (rw c.self.view_is c.requires.parent_in) in
    is_within rs _ (λ z e. start_within rs c.self.invariant.0 c.args.parent bp c.args.at z (e ∙ c.gap-before.ensures.after))

pub join-requires-clause-few : goal.join-requires-clause-few
join-requires-clause-few c =
    let rs = c.self.inside.items.items in
    let ns = shown_rows rs in
    let bp : c.args.parent < length rs = rw (← length-shown rs) (rw c.self.view_is c.requires.parent_in) in
    let bn : c.args.node < length rs = rw (← length-shown rs) (rw c.self.view_is c.requires.node_in) in
    let loose : parent_of ns c.args.node ≡ None = rw c.self.view_is c.requires.loose in
    let apart : holds ns c.args.node c.args.parent ≡ false = rw c.self.view_is c.requires.apart in
    let place : c.args.at ≤ length (kids rs c.args.parent) = rw (← ap (λ x. x.children) (shown-at rs c.args.parent bp)) (rw c.self.view_is c.requires.place) in
    let h = short_kids rs c.args.parent c.args.at c.args.node c.self.invariant.0 bp bn c.requires.not_root loose apart place in
    omega (arith, (c.self.invariant.0.joined c.args.parent bp).1, c.self.invariant.0.sound.few, length-shown rs)

pub join-requires-clause-total : goal.join-requires-clause-total
join-requires-clause-total c =
    let rs = c.self.inside.items.items in
    omega (arith, c.self.invariant.0.sound.few, length-shown rs)

pub invariant_of-self : goal.invariant_of-self
invariant_of-self c =
    let rs = c.self.inside.items.items in
    let ns = shown_rows rs in
    let bp : c.args.parent < length rs = rw (← length-shown rs) (rw c.self.view_is c.requires.parent_in) in
    let bn : c.args.node < length rs = rw (← length-shown rs) (rw c.self.view_is c.requires.node_in) in
    let loose : parent_of ns c.args.node ≡ None = rw c.self.view_is c.requires.loose in
    let apart : holds ns c.args.node c.args.parent ≡ false = rw c.self.view_is c.requires.apart in
    let place : c.args.at ≤ length (kids rs c.args.parent) = rw (← ap (λ x. x.children) (shown-at rs c.args.parent bp)) (rw c.self.view_is c.requires.place) in
    let e : c.join.new.rows.items ≡ joined_at rs c.args.parent c.args.at c.args.node = joined_same rs c.join.new.rows.items c.args.parent c.args.at c.args.node c.gap-before.result.0 c.gap-before.result.1 c.gap-before.ensures.before c.gap-before.ensures.after c.join.ensures in
    let shows = ap shown_rows e ∙ shown-joined rs c.args.parent c.args.at c.args.node c.self.invariant.0 bp bn c.requires.not_root loose apart place in (
      subst IsLinked (sym e) (IsLinked-joined rs c.args.parent c.args.at c.args.node c.self.invariant.0 bp bn c.requires.not_root loose apart place),
      subst (λ ms. IsFinger ms c.finger_with-self-inside.result) (sym shows) (c.finger_with-self-inside.ensures ns (rw c.self.view_is c.requires.parent_in) (rw c.self.view_is c.requires.node_in) (rw c.self.view_is c.requires.place) c.self.invariant.1),
    )

pub returns : goal.returns
returns c =
    let rs = c.self.inside.items.items in
    let ns = shown_rows rs in
    let bp : c.args.parent < length rs = rw (← length-shown rs) (rw c.self.view_is c.requires.parent_in) in
    let bn : c.args.node < length rs = rw (← length-shown rs) (rw c.self.view_is c.requires.node_in) in
    let loose : parent_of ns c.args.node ≡ None = rw c.self.view_is c.requires.loose in
    let apart : holds ns c.args.node c.args.parent ≡ false = rw c.self.view_is c.requires.apart in
    let place : c.args.at ≤ length (kids rs c.args.parent) = rw (← ap (λ x. x.children) (shown-at rs c.args.parent bp)) (rw c.self.view_is c.requires.place) in
    let e : c.join.new.rows.items ≡ joined_at rs c.args.parent c.args.at c.args.node = joined_same rs c.join.new.rows.items c.args.parent c.args.at c.args.node c.gap-before.result.0 c.gap-before.result.1 c.gap-before.ensures.before c.gap-before.ensures.after c.join.ensures in
    rw (← c.self.view_is) (ap shown_rows e ∙ shown-joined rs c.args.parent c.args.at c.args.node c.self.invariant.0 bp bn c.requires.not_root loose apart place)

pub gap-before-requires-clause-place : goal.gap-before-requires-clause-place
gap-before-requires-clause-place c =
    let rs = c.self.inside.items.items in
    let bp : c.args.parent < length rs = rw (← length-shown rs) (rw c.self.view_is c.requires.parent_in) in
    rw (← ap (λ x. x.children) (shown-at rs c.args.parent bp)) (rw c.self.view_is c.requires.place)
