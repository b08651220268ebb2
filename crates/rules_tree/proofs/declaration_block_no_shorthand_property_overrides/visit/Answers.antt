use Rattle.std.proofs.Common.{◌≡◌, ◌++◌, [], Some, None, map, ◌∙◌, sym, ap, subst}
use Rattle.std.specs.Prelude.{OnOk}
use Rattle.std.specs.Str.{chars}
use Rattle.std.proofs.lemmas.List.{append-nil}
use Rattle.lint_config.specs.declared.rule.Rule.TheVariants as R
use Rattle.node_rows.specs.NumberTrees.{tree_at}
use Rattle.rule_sites.specs.Blocks.{start_byte}
use Rattle.rule_sites.specs.ContextAt.{context_at, earlier_of}
use Rattle.rule_sites.specs.Finding.{site_of}
use Rattle.rules_tree.specs.DeclarationBlockNoShorthandPropertyOverrides.{findings, of_prop}
use Rattle.rules_tree.specs.Properties.{prop_of, props_of}
use Rattle.rules_tree.proofs.declaration_block_no_shorthand_property_overrides.visit.Goals as goal

pub returns-in-None : goal.returns-in-None
unfolding findings context_at
returns-in-None c =
    let w = c.args.work.now in
    let n = c.args.n in
    let h = sym c.in-None.ensures ∙ ap prop_of c.text_of.ensures in
    sym (append-nil c.args.sites.now.items)
    ∙ ap (λ o. c.args.sites.now.items ++ map (site_of w.text R.DeclarationBlockNoShorthandPropertyOverrides) (of_prop (start_byte (tree_at w.nodes n)) (props_of (map (tree_at w.nodes) (earlier_of w.nodes n))) o)) h

pub returns-in-Some : goal.returns-in-Some
unfolding findings context_at
returns-in-Some c =
    let w = c.args.work.now in
    let n = c.args.n in
    let h = sym c.in-Some.ensures ∙ ap prop_of c.text_of.ensures in
    subst (λ o. OnOk c.visit_prop.result (c.visit_prop.new.sites.items ≡ c.args.sites.now.items ++ map (site_of w.text R.DeclarationBlockNoShorthandPropertyOverrides) (of_prop (start_byte (tree_at w.nodes n)) (props_of (map (tree_at w.nodes) (earlier_of w.nodes n))) o))) h
    c.visit_prop.ensures
