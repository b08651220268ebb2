use Rattle.std.proofs.Common.{◌-◌, Some, refl, sym, ◌∙◌, ap, subst}
use Rattle.node_rows.specs.declared.finger.Finger.{Finger}
use Rattle.node_rows.specs.Fingers.{IsFinger}
use Rattle.node_rows.specs.Nodes.{unlinked}
use Rattle.node_rows.proofs.Fingers.{IsFinger-before, IsFinger-behind}
use Rattle.node_rows.proofs.rows.Rows.finger_beside.Goals as goal

pub returns-in-Some : goal.returns-in-Some
returns-in-Some c =
    let ns = c.args.self.now in
    let p = c.args.parent in
    let at = c.requires.place in
    let x : Finger = record { parent = p; node = c.in-Some.before; place = c.args.place - 1 } in
    subst (λ i. IsFinger (unlinked ns p i c.args.node) (Some x)) (sym at)
    (IsFinger-before ns c.facts.ensures p c.args.node c.requires.child x refl (ap (λ i. i - 1) at) (sym c.previous_sibling.ensures ∙ c.in-Some.is))

pub returns-in-Some-next_sibling : goal.returns-in-Some-next_sibling
returns-in-Some-next_sibling c =
    let ns = c.args.self.now in
    let p = c.args.parent in
    let at = c.requires.place in
    let x : Finger = record { parent = p; node = c.in-Some-next_sibling.after; place = c.args.place } in
    subst (λ i. IsFinger (unlinked ns p i c.args.node) (Some x)) (sym at)
    (IsFinger-behind ns c.facts.ensures p c.args.node c.requires.child x refl at (sym c.next_sibling.ensures ∙ c.in-Some-next_sibling.is))
