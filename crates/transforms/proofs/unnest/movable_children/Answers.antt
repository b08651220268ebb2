use Rattle.std.proofs.Common.{◌≡◌, [], ◌∷◌, ◌++◌, length, ap, sym, ◌∙◌, subst, arith, append_assoc}
use Rattle.std.specs.Prelude.{filter}
use Rattle.std.proofs.lemmas.List.Elements.{filter-append}
use Rattle.node_rows.specs.Nodes.{text_of, siblings, from_number, IsGiven}
use Rattle.node_rows.proofs.Behind.{from-next, next-given}
use Rattle.node_store.proofs.Ahead.{front-case}
use Rattle.plugin_api.specs.Effect.{is_movable}
use Rattle.transforms.proofs.Unnested.{first-given}
use Rattle.transforms.proofs.unnest.movable_children.Goals as goal

pub loop-at-init : goal.loop-at-init
loop-at-init c =
    let ns = c.args.work.now.nodes in
    let s = c.facts.ensures.sound in
    let o = c.first_child-at.result in
    record {
      given = first-given ns s c.args.rule o (sym c.first_child-at.ensures);
      same = ap (λ l. l ++ filter (λ m. is_movable (text_of ns m)) (from_number ns o)) c.new-children.ensures.items ∙ ap (filter (λ m. is_movable (text_of ns m))) (front-case ns s c.args.rule o (sym c.first_child-at.ensures));
    }

pub loop-at-smaller : goal.loop-at-smaller
loop-at-smaller c =
    let ns = c.args.work.now.nodes in
    let s = c.facts.ensures.sound in
    let o = c.next_sibling-at.result in
    omega (arith, ap length (ap (from_number ns) c.next_sibling-at.ensures ∙ from-next ns s c.in-Some.child), ap (λ x. length (from_number ns x)) c.in-Some.is)

pub loop-at-preserved : goal.loop-at-preserved
loop-at-preserved c =
    let ns = c.args.work.now.nodes in
    let s = c.facts.ensures.sound in
    let n = c.in-Some.child in
    let o = c.next_sibling-at.result in
    let behind : from_number ns o ≡ siblings ns n = ap (from_number ns) c.next_sibling-at.ensures ∙ from-next ns s n in
    record {
      given = subst (IsGiven ns) (sym c.next_sibling-at.ensures) (next-given ns s n);
      same =
          ap (λ l. l ++ filter (λ m. is_movable (text_of ns m)) (from_number ns o)) c.in_ok-push_movable.ensures
          ∙ (append_assoc c.loop-at.children.items (filter (λ m. is_movable (text_of ns m)) (n ∷ [])) (filter (λ m. is_movable (text_of ns m)) (from_number ns o))
          ∙ (ap (λ l. c.loop-at.children.items ++ l) (sym (filter-append (λ m. is_movable (text_of ns m)) (n ∷ []) (from_number ns o))
          ∙ (ap (λ l. filter (λ m. is_movable (text_of ns m)) (n ∷ l)) behind ∙ ap (λ x. filter (λ m. is_movable (text_of ns m)) (from_number ns x)) (sym c.in-Some.is)))
          ∙ c.loop-at.invariant.same));
    }
