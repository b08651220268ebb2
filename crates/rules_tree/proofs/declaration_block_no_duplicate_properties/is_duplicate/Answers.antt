use Rattle.std.proofs.Common.{◌∙◌, ap, sym, map}
use Rattle.std.specs.Prelude.{◌&&◌, not}
use Rattle.std.specs.List.{list_any}
use Rattle.std.specs.Str.{chars}
use Rattle.node_rows.specs.NumberTrees.{tree_at}
use Rattle.rule_sites.specs.ContextAt.{earlier_of}
use Rattle.rules_tree.specs.Properties.{is_same, props_of}
use Rattle.rules_tree.proofs.SameName.{any_other}
use Rattle.rules_tree.proofs.declaration_block_no_duplicate_properties.is_duplicate.Goals as goal

pub returns-then-is_ignored : goal.returns-then-is_ignored
returns-then-is_ignored c =
    let w = c.args.work.now in
    let prop = chars c.args.prop.now in
    sym (ap (λ b. not b && list_any (is_same prop) (props_of (map (tree_at w.nodes) (earlier_of w.nodes c.args.n)))) (sym c.is_ignored.ensures ∙ c.if-is_ignored.true))

pub returns : goal.returns
returns c =
    let w = c.args.work.now in
    let prop = chars c.args.prop.now in
    c.is_used_before.ensures ∙ any_other prop (props_of (map (tree_at w.nodes) (earlier_of w.nodes c.args.n))) (sym c.is_ignored.ensures ∙ c.if-is_ignored.false)
