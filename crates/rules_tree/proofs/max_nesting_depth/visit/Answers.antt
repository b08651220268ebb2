use Rattle.std.proofs.Common.{◌∙◌, ◌++◌, ◌∷◌, [], sym, ap}
use Rattle.lint_config.specs.declared.rule.Rule.TheVariants.{MaxNestingDepth}
use Rattle.rule_sites.specs.ContextAt.{context_at}
use Rattle.rule_sites.specs.Finding.{site_of, unmended}
use Rattle.rules_tree.specs.MaxNestingDepth.{findings}
use Rattle.rules_tree.proofs.Found.{found}
use Rattle.rules_tree.proofs.max_nesting_depth.visit.Goals as goal

pub returns-in_ok-push_site : goal.returns-in_ok-push_site
unfolding findings context_at
returns-in_ok-push_site c =
    found _ _ _ _ _ _ _ _ (sym c.is_too_deep.ensures ∙ c.if-is_too_deep.true) c.start_of-at.ensures.value
    (c.in_ok-push_site.ensures.added ∙ ap (λ t. c.args.sites.now.items ++ site_of c.args.work.now.text MaxNestingDepth (unmended c.start_of-at.result t) ∷ []) c.in_ok-text.ensures)
