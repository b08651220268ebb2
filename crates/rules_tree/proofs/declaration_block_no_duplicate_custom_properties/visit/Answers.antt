use Rattle.std.proofs.Common.{◌≡◌, ◌++◌, ◌∷◌, [], Some, None, map, ◌∙◌, sym, ap, subst}
use Rattle.std.specs.Str.{chars}
use Rattle.std.proofs.lemmas.List.{append-nil}
use Rattle.lint_config.specs.declared.rule.Rule.TheVariants as R
use Rattle.node_rows.specs.Nodes.{text_of}
use Rattle.node_rows.specs.NumberTrees.{tree_at}
use Rattle.rule_sites.specs.Blocks.{start_byte}
use Rattle.rule_sites.specs.ContextAt.{context_at, earlier_of}
use Rattle.rule_sites.specs.Finding.{site_of, unmended}
use Rattle.rules_tree.specs.DeclarationBlockNoDuplicateCustomProperties.{findings, of_prop}
use Rattle.rules_tree.specs.Properties.{prop_of, props_of}
use Rattle.rules_tree.proofs.Found.{found, not_found, none_by}
use Rattle.rules_tree.proofs.declaration_block_no_duplicate_custom_properties.visit.Goals as goal

pub returns-in_default : goal.returns-in_default
unfolding findings context_at
returns-in_default c =
    let w = c.args.work.now in
    let n = c.args.n in
    let h = sym (none_by c.prop_of.result (prop_of c.text_of.result.now) c.in_default.not-Some c.prop_of.ensures) ∙ ap prop_of c.text_of.ensures in
    sym (append-nil c.args.sites.now.items)
    ∙ ap (λ o. c.args.sites.now.items ++ map (site_of w.text R.DeclarationBlockNoDuplicateCustomProperties) (of_prop (start_byte (tree_at w.nodes n)) (props_of (map (tree_at w.nodes) (earlier_of w.nodes n))) o)) h

pub returns-in_ok-push_site : goal.returns-in_ok-push_site
unfolding findings context_at
returns-in_ok-push_site c =
    let w = c.args.work.now in
    let n = c.args.n in
    let h = sym c.in-Some.ensures ∙ ap prop_of c.text_of.ensures in
    subst (λ o. c.push_site.new.sites.items ≡ c.args.sites.now.items ++ map (site_of w.text R.DeclarationBlockNoDuplicateCustomProperties) (of_prop (start_byte (tree_at w.nodes n)) (props_of (map (tree_at w.nodes) (earlier_of w.nodes n))) o)) h
    (found _ _ _ _ _ _ _ _ (sym c.is_duplicate.ensures ∙ c.if-is_duplicate.true) c.start_of-at.ensures.value
    (c.in_ok-push_site.ensures.added ∙ ap (λ t. c.args.sites.now.items ++ site_of w.text R.DeclarationBlockNoDuplicateCustomProperties (unmended c.start_of-at.result t) ∷ []) c.in_ok-text.ensures))

pub returns-else-is_duplicate : goal.returns-else-is_duplicate
unfolding findings context_at
returns-else-is_duplicate c =
    let w = c.args.work.now in
    let n = c.args.n in
    let h = sym c.in-Some.ensures ∙ ap prop_of c.text_of.ensures in
    subst (λ o. c.args.sites.now.items ≡ c.args.sites.now.items ++ map (site_of w.text R.DeclarationBlockNoDuplicateCustomProperties) (of_prop (start_byte (tree_at w.nodes n)) (props_of (map (tree_at w.nodes) (earlier_of w.nodes n))) o)) h
    (not_found _ _ _ _ _ (sym c.is_duplicate.ensures ∙ c.if-is_duplicate.false))
