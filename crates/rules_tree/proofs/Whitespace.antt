-- What is found at a comment's markers.
use Rattle.std.proofs.Common.{◌≡◌, ℕ, ◌+◌, ◌-◌, ◌≤◌, List, [], ◌∷◌, ◌++◌, Bool, true, false, map, length, reverse, codes, refl, ap, sym, ◌∙◌, Some, None, arith}
use Rattle.std.specs.Prelude.{Option}
use Rattle.std.specs.Str.{IsUtf8, chars}
use Rattle.std.proofs.lemmas.List.{append-nil}
use Rattle.std.proofs.lemmas.Str.{encodes-chars}
use Rattle.css_text.specs.Ahead.{byte_len}
use Rattle.css_text.proofs.Transport.{length-bytes}
use Rattle.lint_config.specs.declared.found.Repair.{Repair}
use Rattle.lint_config.specs.declared.found.Site.{Site}
use Rattle.lint_config.specs.declared.rule.Rule.{Rule}
use Rattle.rule_sites.specs.Finding.{Finding, mended, site_of}
use Rattle.rules_tree.specs.CommentWhitespaceInside.{at_opening, at_closing, in_comment, is_exempt, lacks_space, stars}
use Rattle.rules_tree.specs.FindingIf.{finding_if}
use Rattle.rules_tree.proofs.StarBytes.{stars_bytes, lacks_bytes, stars_back, lacks_back, stars-within}

-- by the bytes of a text
module _ (bs : List ℕ) (u : IsUtf8 bs) where
  pub stars_of : stars bs ≡ stars (chars bs)
  stars_of = ap stars (sym (encodes-chars bs u)) ∙ stars_bytes (chars bs)

  pub lacks_of : lacks_space bs ≡ lacks_space (chars bs)
  lacks_of = ap lacks_space (sym (encodes-chars bs u)) ∙ lacks_bytes (chars bs)

  pub stars_back_of : stars (reverse bs) ≡ stars (reverse (chars bs))
  stars_back_of = ap (λ z. stars (reverse z)) (sym (encodes-chars bs u)) ∙ stars_back (chars bs)

  pub lacks_back_of : lacks_space (reverse bs) ≡ lacks_space (reverse (chars bs))
  lacks_back_of = ap (λ z. lacks_space (reverse z)) (sym (encodes-chars bs u)) ∙ lacks_back (chars bs)

  pub length_of : length bs ≡ byte_len (chars bs)
  length_of = ap length (sym (encodes-chars bs u)) ∙ length-bytes (chars bs)

-- where something is found
pub mended_found : (s : List ℕ) (rule : Rule) (b : Bool) (at at' by by' : ℕ) (message : List ℕ) (old new : List Site) → b ≡ true → at ≡ at' → by ≡ by' → new ≡ old ++ site_of s rule (mended at message by by (codes " ")) ∷ []
    → new ≡ old ++ map (site_of s rule) (finding_if b (mended at' message by' by' (codes " ")))
mended_found s rule b at at' by by' message old new e p k h =
    h ∙ (ap (λ z. old ++ site_of s rule (mended z message by by (codes " ")) ∷ []) p ∙ (ap (λ z. old ++ site_of s rule (mended at' message z z (codes " ")) ∷ []) k
    ∙ ap (λ v. old ++ map (site_of s rule) (finding_if v (mended at' message by' by' (codes " ")))) (sym e)))
