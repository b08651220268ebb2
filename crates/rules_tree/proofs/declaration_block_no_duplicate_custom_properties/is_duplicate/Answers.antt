use Rattle.std.proofs.Common.{◌∙◌, ap, sym, map}
use Rattle.std.specs.Prelude.{◌&&◌, bytes_eq}
use Rattle.std.specs.List.{list_any}
use Rattle.std.specs.Str.{chars}
use Rattle.node_rows.specs.NumberTrees.{tree_at}
use Rattle.rule_sites.specs.ContextAt.{earlier_of}
use Rattle.rules_tree.specs.Properties.{props_of}
use Rattle.rules_tree.proofs.SameName.{any_custom}
use Rattle.rules_tree.proofs.declaration_block_no_duplicate_custom_properties.is_duplicate.Goals as goal

pub returns-then-not-is_custom : goal.returns-then-not-is_custom
returns-then-not-is_custom c =
    let w = c.args.work.now in
    let prop = chars c.args.prop.now in
    sym (ap (λ b. b && list_any (bytes_eq prop) (props_of (map (tree_at w.nodes) (earlier_of w.nodes c.args.n)))) (sym c.is_custom.ensures ∙ c.if-not-is_custom.true))

pub returns : goal.returns
returns c =
    let w = c.args.work.now in
    let prop = chars c.args.prop.now in
    c.is_used_before.ensures ∙ any_custom prop (props_of (map (tree_at w.nodes) (earlier_of w.nodes c.args.n))) (sym c.is_custom.ensures ∙ c.if-not-is_custom.false)
