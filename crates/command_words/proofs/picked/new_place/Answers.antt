use Rattle.std.proofs.Common.{◌∙◌, ap, sym, nat_eq}
use Rattle.std.specs.List.{list_any}
use Rattle.command_words.proofs.FreshPlace.{none_empty, some_fresh}
use Rattle.command_words.proofs.picked.new_place.Goals as goal

pub returns-then-is_empty-clause-place : goal.returns-then-is_empty-clause-place
returns-then-is_empty-clause-place c = none_empty c.args.known.now c.args.places.now.items c.args.name.now (sym c.is_empty.ensures ∙ c.if-is_empty.true)

pub returns-else-contains-clause-place : goal.returns-else-contains-clause-place
returns-else-contains-clause-place c =
    some_fresh c.args.known.now c.args.places.now.items c.args.name.now c.in_ok-place.place c.utf8.name (sym c.is_empty.ensures ∙ c.if-is_empty.false) c.in_ok-place.ensures.place
    (ap (list_any (λ j. nat_eq j c.in_ok-place.place)) (sym c.deref.ensures.value) ∙ sym c.contains.ensures.value ∙ c.if-contains.false)
