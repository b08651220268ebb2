use Rattle.std.proofs.Common.{◌≡◌, ◌+◌, ◌-◌, ◌++◌, ◌∷◌, [], ◌∙◌, refl, sym, ap, arith, codes, length, reverse, Some, None}
use Rattle.std.specs.Str.{chars}
use Rattle.css_text.specs.Ahead.{byte_len}
use Rattle.lint_config.specs.declared.rule.Rule.TheVariants.{CommentWhitespaceInside}
use Rattle.rule_sites.specs.Finding.{site_of}
use Rattle.rules_tree.specs.CommentWhitespaceInside.{lacks_space, stars}
use Rattle.rules_tree.proofs.Found.{not_found}
use Rattle.rules_tree.proofs.Whitespace.{lacks_back_of, stars_back_of, length_of, mended_found}
use Rattle.rules_tree.proofs.comment_whitespace_inside.visit_closing.Goals as goal

pub returns-in_ok-push_site : goal.returns-in_ok-push_site
unfolding chars
returns-in_ok-push_site c =
    let w = c.args.work.now in
    let s = c.args.inner.now in
    let old = c.args.sites.now.items in
    let start = c.args.start in
    let message = codes "Expected whitespace before \"*/\"" in
    let by = start + 2 + c.trailing_stars_start.result in
    let end = start + 2 + byte_len (chars s) in
    let here : start + 2 + length s ≡ end = ap (λ k. start + 2 + k) (length_of s c.utf8.inner) in
    let bytes : length c.as_bytes-bytes.result.now ≡ length s = ap length c.as_bytes-bytes.ensures.value in
    let run : stars (reverse c.as_bytes-bytes.result.now) ≡ stars (reverse (chars s)) = ap (λ z. stars (reverse z)) c.as_bytes-bytes.ensures.value ∙ stars_back_of s c.utf8.inner in
    let space : by ≡ end - stars (reverse (chars s)) = omega (arith, here, bytes, run, c.trailing_stars_start.ensures) in
    let at = start + 2 + length c.as_bytes-bytes.result.now in
    let place : at ≡ end = omega (arith, here, bytes) in
    mended_found w.text CommentWhitespaceInside _ at end by (end - stars (reverse (chars s))) message old c.push_site.new.sites.items
    (sym (c.lacks_trailing_space.ensures ∙ (ap (λ z. lacks_space (reverse z)) c.as_bytes-bytes.ensures.value ∙ lacks_back_of s c.utf8.inner)) ∙ c.if-lacks_trailing_space.true)
    place space
    (c.in_ok-push_site.ensures.added
    ∙ (ap (λ z. old ++ site_of w.text CommentWhitespaceInside (record { at = at; text = z; repair = Some c.in_ok-repair.repair }) ∷ []) c.in_ok-text.ensures
    ∙ ap (λ z. old ++ site_of w.text CommentWhitespaceInside (record { at = at; text = message; repair = Some z }) ∷ []) c.in_ok-repair.ensures))

pub returns-else-lacks_trailing_space : goal.returns-else-lacks_trailing_space
returns-else-lacks_trailing_space c =
    let s = c.args.inner.now in
    not_found _ _ _ _ _ (sym (c.lacks_trailing_space.ensures ∙ (ap (λ z. lacks_space (reverse z)) c.as_bytes-bytes.ensures.value ∙ lacks_back_of s c.utf8.inner)) ∙ c.if-lacks_trailing_space.false)
