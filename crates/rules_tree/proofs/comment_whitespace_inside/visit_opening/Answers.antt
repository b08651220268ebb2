use Rattle.std.proofs.Common.{◌≡◌, ◌+◌, ◌++◌, ◌∷◌, [], ◌∙◌, refl, sym, ap, arith, codes, Some, None}
use Rattle.std.specs.Str.{chars}
use Rattle.lint_config.specs.declared.rule.Rule.TheVariants.{CommentWhitespaceInside}
use Rattle.rule_sites.specs.Finding.{site_of}
use Rattle.rules_tree.specs.CommentWhitespaceInside.{lacks_space, stars}
use Rattle.rules_tree.proofs.Found.{not_found}
use Rattle.rules_tree.proofs.Whitespace.{lacks_of, stars_of, mended_found}
use Rattle.rules_tree.proofs.comment_whitespace_inside.visit_opening.Goals as goal

pub returns-in_ok-push_site : goal.returns-in_ok-push_site
unfolding chars
returns-in_ok-push_site c =
    let w = c.args.work.now in
    let s = c.args.inner.now in
    let old = c.args.sites.now.items in
    let start = c.args.start in
    let message = codes "Expected whitespace after \"/*\"" in
    mended_found w.text CommentWhitespaceInside _ start start (start + 2 + c.leading_stars.result) (start + 2 + stars (chars s)) message old c.push_site.new.sites.items
    (sym (c.lacks_leading_space.ensures ∙ (ap lacks_space c.as_bytes-bytes.ensures.value ∙ lacks_of s c.utf8.inner)) ∙ c.if-lacks_leading_space.true)
    refl
    (ap (λ k. start + 2 + k) (c.leading_stars.ensures.value ∙ (ap stars c.as_bytes-bytes.ensures.value ∙ stars_of s c.utf8.inner)))
    (c.in_ok-push_site.ensures.added
    ∙ (ap (λ z. old ++ site_of w.text CommentWhitespaceInside (record { at = start; text = z; repair = Some c.in_ok-repair.repair }) ∷ []) c.in_ok-text.ensures
    ∙ ap (λ z. old ++ site_of w.text CommentWhitespaceInside (record { at = start; text = message; repair = Some z }) ∷ []) c.in_ok-repair.ensures))

pub returns-else-lacks_leading_space : goal.returns-else-lacks_leading_space
returns-else-lacks_leading_space c =
    let s = c.args.inner.now in
    not_found _ _ _ _ _ (sym (c.lacks_leading_space.ensures ∙ (ap lacks_space c.as_bytes-bytes.ensures.value ∙ lacks_of s c.utf8.inner)) ∙ c.if-lacks_leading_space.false)
