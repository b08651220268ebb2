use Rattle.std.proofs.Common.{drop, ◌+◌, ◌≤◌, map, length, arith, sym, ap, ◌∙◌}
use Rattle.selector_parse.specs.Worth.{is_group, greater, plus, worth_of_part, worth_of_complex, sum_from, greatest_from, nothing, deepest, depth_of_part, depth_of_complex, size}
use Rattle.selector_parse.specs.declared.part.Args.TheViews.{out-Part}
use Rattle.selector_parse.specs.Wide.{weight}
use Rattle.selector_parse.proofs.Words.{weight_pos, weight_mono}
use Rattle.selector_parse.proofs.Trees.{deepest_item, complex_depth_out}
use Rattle.selector_parse.proofs.Sizes.{complex_worth_out, sum_turn, greatest_turn, greater_small, absent_small, plain_small, room, all_items}
use Rattle.selector_parse.proofs.specificity.+count.Goals as goal

pub add_part-add_own-requires : goal.add_part-add_own-requires
add_part-add_own-requires t c = omega (arith, weight_pos (depth_of_part c.args.part.now), c.requires.room)

pub add_part-add_own-requires-in-Absent : goal.add_part-add_own-requires-in-Absent
add_part-add_own-requires-in-Absent t c = omega (arith, weight_pos (depth_of_part c.args.part.now), c.requires.room)

pub add_part-returns-in-Absent-clause-small : goal.add_part-returns-in-Absent-clause-small
add_part-returns-in-Absent-clause-small t c = absent_small c.args.part.now c.in-Absent.is

pub add_part-returns-then-not-is_group-clause-small : goal.add_part-returns-then-not-is_group-clause-small
add_part-returns-then-not-is_group-clause-small t c = plain_small c.args.part.now (sym (ap (is_group (out-Part c.args.part.now).kind) c.as_str-text.ensures.characters) ∙ sym c.is_group.ensures ∙ c.if-not-is_group.true)

pub list_counts-parts_counts-requires : goal.list_counts-parts_counts-requires
list_counts-parts_counts-requires t c =
    let x = c.complex-item in
    let e = complex_depth_out x.result ∙ ap (λ xs. deepest (map depth_of_part xs)) (sym c.deref.ensures.value) in
    let below = deepest_item depth_of_complex c.args.list.now c.loop-complex.complex-index x.result c.loop-complex-test.true in
    let least = ap depth_of_complex x.is in
    (omega (arith, e, least, below), omega (arith, e, least, below, c.requires.shallow))

pub parts_counts-add_part-requires : goal.parts_counts-add_part-requires
parts_counts-add_part-requires t c =
    let x = c.part-item in
    let below : depth_of_part x.result ≤ deepest (map depth_of_part c.args.parts.now) = omega (arith, ap depth_of_part x.is, deepest_item depth_of_part c.args.parts.now c.loop-part.part-index x.result c.loop-part-test.true) in
    (omega (arith, below), (omega (arith, below, c.requires.shallow), room (size c.loop-part.sum) c.loop-part.part-index (length c.args.parts.now) (depth_of_part x.result) (deepest (map depth_of_part c.args.parts.now)) c.loop-part.invariant.1 c.loop-part-test.true c.well_formed.0.0 below c.requires.shallow))

pub list_counts-loop-complex-preserved : goal.list_counts-loop-complex-preserved
list_counts-loop-complex-preserved t c =
    let x = c.complex-item in
    let l = c.loop-complex in
    let cs = c.args.list.now in
    let worth = c.parts_counts.ensures.value ∙ ap (λ ps. sum_from nothing (map worth_of_part ps)) c.deref.ensures.value ∙ sym (complex_worth_out x.result) ∙ ap worth_of_complex x.is in
    let depth = complex_depth_out x.result ∙ ap (λ xs. deepest (map depth_of_part xs)) (sym c.deref.ensures.value) in
    let below = deepest_item depth_of_complex cs l.complex-index x.result c.loop-complex-test.true in
    let least = ap depth_of_complex x.is in
    let deep : deepest (map depth_of_part c.deref.result.now) + 1 ≤ deepest (map depth_of_complex cs) + 1 = omega (arith, depth, least, below) in
    let small : size c.parts_counts.result ≤ weight (deepest (map depth_of_complex cs) + 1) = omega (arith, c.parts_counts.ensures.small, weight_mono _ _ deep) in (
      ap (λ g. greatest_from g (map worth_of_complex (drop (l.complex-index + 1) cs))) (c.greater-greatest.ensures ∙ ap (greater l.greatest) worth)
          ∙ greatest_turn l.greatest cs l.complex-index x.result c.loop-complex-test.true ∙ l.invariant.0,
      omega (arith, ap size c.greater-greatest.ensures, greater_small l.greatest c.parts_counts.result _ l.invariant.1 small),
    )

pub parts_counts-loop-part-preserved : goal.parts_counts-loop-part-preserved
parts_counts-loop-part-preserved t c =
    let x = c.part-item in
    let l = c.loop-part in
    let ps = c.args.parts.now in
    let below : depth_of_part x.result ≤ deepest (map depth_of_part ps) = omega (arith, ap depth_of_part x.is, deepest_item depth_of_part ps l.part-index x.result c.loop-part-test.true) in (
      ap (λ s. sum_from s (map worth_of_part (drop (l.part-index + 1) ps))) (c.add_part.ensures.value ∙ ap (λ p. plus l.sum (worth_of_part p)) x.is)
          ∙ sum_turn l.sum ps l.part-index x.result c.loop-part-test.true ∙ l.invariant.0,
      omega (arith, ap size c.add_part.ensures.value, c.add_part.ensures.small, weight_mono _ _ below, l.invariant.1),
    )

pub parts_counts-returns-clause-small : goal.parts_counts-returns-clause-small
parts_counts-returns-clause-small t c =
    all_items (size c.loop-part.sum) c.loop-part.part-index (length c.args.parts.now) (deepest (map depth_of_part c.args.parts.now)) c.loop-part.invariant.1 c.loop-part.auto.part-index-end c.well_formed.0.0
