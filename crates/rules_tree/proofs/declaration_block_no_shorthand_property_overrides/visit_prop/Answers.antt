use Rattle.std.proofs.Common.{◌≡◌, ◌++◌, ◌∷◌, [], Some, None, map, filter, slice_get, codes, ◌∙◌, sym, ap, subst}
use Rattle.std.specs.Prelude.{OnOk}
use Rattle.std.specs.Str.{chars}
use Rattle.std.proofs.lemmas.List.{append-nil}
use Rattle.lint_config.specs.declared.rule.Rule.TheVariants as R
use Rattle.node_rows.specs.NumberTrees.{tree_at}
use Rattle.rule_sites.specs.Blocks.{start_byte}
use Rattle.rule_sites.specs.ContextAt.{earlier_of}
use Rattle.rule_sites.specs.Finding.{site_of, unmended}
use Rattle.rules_tree.specs.Properties.{props_of, quoted}
use Rattle.rules_tree.specs.Shorthands.{is_longhand_of}
use Rattle.rules_tree.proofs.Found.{none_case}
use Rattle.rules_tree.proofs.Longhands.{after_none, after_some}
use Rattle.rules_tree.proofs.declaration_block_no_shorthand_property_overrides.visit_prop.Goals as goal

pub returns-in_default : goal.returns-in_default
returns-in_default c =
    let w = c.args.work.now in
    let p = chars c.args.prop.now in
    let fs = filter (is_longhand_of p) (props_of (map (tree_at w.nodes) (earlier_of w.nodes c.args.n))) in
    let h = none_case c.first_longhand.result (None ≡ slice_get fs 0) (λ s. Some (chars s.now) ≡ slice_get fs 0) c.in_default.not-Some c.first_longhand.ensures in
    sym (append-nil c.args.sites.now.items) ∙ ap (λ z. c.args.sites.now.items ++ map (site_of w.text R.DeclarationBlockNoShorthandPropertyOverrides) z) (after_none (start_byte (tree_at w.nodes c.args.n)) p fs h)

pub returns : goal.returns
returns c =
    let w = c.args.work.now in
    let p = chars c.args.prop.now in
    let q = chars c.in-Some.first.now in
    let fs = filter (is_longhand_of p) (props_of (map (tree_at w.nodes) (earlier_of w.nodes c.args.n))) in
    let e = ap (λ t. site_of w.text R.DeclarationBlockNoShorthandPropertyOverrides (unmended c.start_of-at.result t) ∷ []) c.in_ok-text.ensures
    ∙ (ap (λ k. site_of w.text R.DeclarationBlockNoShorthandPropertyOverrides (unmended k (codes "Unexpected shorthand " ++ (quoted p ++ (codes " after " ++ quoted q)))) ∷ []) c.start_of-at.ensures.value
    ∙ ap (map (site_of w.text R.DeclarationBlockNoShorthandPropertyOverrides)) (after_some (start_byte (tree_at w.nodes c.args.n)) p q fs c.in-Some.ensures)) in
    subst (λ z. OnOk c.push_site.result (c.push_site.new.sites.items ≡ c.args.sites.now.items ++ z)) e c.push_site.ensures.added
