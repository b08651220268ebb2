use Rattle.std.proofs.Common.{◌≡◌, ◌+◌, ◌∙◌, [], length, take, get_or, ap, ap₂, sym, arith}
use Rattle.std.specs.Prelude.{◌||◌}
use Rattle.std.specs.List.{list_any, range_with_len}
use Rattle.std.specs.Str.{chars}
use Rattle.std.proofs.lemmas.List.{take_all}
use Rattle.std.proofs.lemmas.List.Folds.{list_any_more}
use Rattle.node_rows.specs.Nodes.{parent_of}
use Rattle.rules_tree.specs.FirstUses.{is_before, is_named, is_use}
use Rattle.rules_tree.proofs.Finds.{any_below}
use Rattle.rules_tree.proofs.Uses.{uses_none, uses_either, uses_same}
use Rattle.rules_tree.proofs.declaration_block_no_shorthand_property_overrides.first_of.Goals as goal

pub loop-name-init : goal.loop-name-init
loop-name-init c = λ j h. uses_none c.args.work.now.nodes (parent_of c.args.work.now.nodes c.args.n) (range_with_len 0 j)

pub loop-name-preserved : goal.loop-name-preserved
loop-name-preserved c = λ j h.
    let ns = c.args.work.now.nodes in
    let o = parent_of ns c.args.n in
    let xs = c.args.names.now in
    let i = c.loop-name.name-index in
    let x = get_or xs i (record { ref_ptr = (0, 0); now = [] }) in
    uses_either ns o (λ prop. list_any (λ s. is_named (chars s.now) prop) (take i xs)) (is_named (chars x.now)) (λ prop. list_any (λ s. is_named (chars s.now) prop) (take (i + 1) xs))
    (λ prop. list_any_more (λ s. is_named (chars s.now) prop) xs i (record { ref_ptr = (0, 0); now = [] }) c.loop-name-test.true) (range_with_len 0 j)
    ∙ (ap₂ (λ a b. a || b) (c.loop-name.invariant j h) (any_below (is_use ns o (is_named (chars x.now))) j (length ns) h ∙ ap (is_before j) (sym c.first_use.ensures))
    ∙ sym (c.smaller-first.ensures j))

pub returns : goal.returns
returns c = λ j h.
    let ns = c.args.work.now.nodes in
    let o = parent_of ns c.args.n in
    let xs = c.args.names.now in
    let i = c.loop-name.name-index in
    uses_same ns o (λ prop. list_any (λ s. is_named (chars s.now) prop) xs) (λ prop. list_any (λ s. is_named (chars s.now) prop) (take i xs))
    (λ prop. ap (list_any (λ s. is_named (chars s.now) prop)) (sym (take_all i xs c.loop-name-test.false))) (range_with_len 0 j)
    ∙ c.loop-name.invariant j h
