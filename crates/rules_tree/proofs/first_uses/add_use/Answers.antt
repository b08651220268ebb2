use Rattle.std.proofs.Common.{◌≡◌, ℕ, List, Some, None, ◌∙◌, sym, subst, refl}
use Rattle.std.specs.Prelude.{Option}
use Rattle.node_rows.specs.Nodes.{Node}
use Rattle.rules_tree.specs.FirstUses.{IsPropertyAt}
use Rattle.rules_tree.specs.declared.property.Property.{Property}
use Rattle.rules_tree.proofs.Uses.{no_use, later_use, first_use}
use Rattle.rules_tree.proofs.first_uses.add_use.Goals as goal

none_from : (ns : List Node) (n : ℕ) (o : Option Property) → ((p : Property) → o ≡ Some p → ⊥) → IsPropertyAt ns n o → IsPropertyAt ns n None
none_from ns n None h k = k
none_from ns n (Some p) h k = absurd (h p refl)

pub returns-in_default : goal.returns-in_default
returns-in_default c =
    let ns = c.args.work.now.nodes in
    no_use ns c.args.uses.now c.args.n c.requires.uses
    (none_from ns c.args.n c.property_at.result c.in_default.not-Some (subst (λ m. IsPropertyAt ns m c.property_at.result) c.new.ensures c.property_at.ensures))

pub returns-then-contains_key : goal.returns-then-contains_key
returns-then-contains_key c =
    let ns = c.args.work.now.nodes in
    later_use ns c.args.uses.now c.args.n c.requires.uses c.in-Some.property
    (subst (λ o. IsPropertyAt ns c.args.n o) c.in-Some.is (subst (λ m. IsPropertyAt ns m c.property_at.result) c.new.ensures c.property_at.ensures))
    (sym c.contains_key.ensures ∙ c.if-contains_key.true)

pub returns : goal.returns
returns c =
    let ns = c.args.work.now.nodes in
    first_use ns c.args.uses.now c.args.n c.requires.uses c.in-Some.property
    (subst (λ o. IsPropertyAt ns c.args.n o) c.in-Some.is (subst (λ m. IsPropertyAt ns m c.property_at.result) c.new.ensures c.property_at.ensures))
    c.insert.new.self (sym c.contains_key.ensures ∙ c.if-contains_key.false) c.in_ok-insert.ensures.updates
