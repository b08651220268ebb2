-- What is added to the sites where something is found, and where it isn't.
use Rattle.std.proofs.Common.{◌≡◌, ℕ, List, [], ◌∷◌, ◌++◌, Bool, true, false, map, Some, None, refl, ap, sym, ◌∙◌, Bor}
use Rattle.std.specs.Prelude.{Option, MatchOption}
use Rattle.std.specs.Str.{chars}
use Rattle.std.proofs.lemmas.List.{append-nil}
use Rattle.lint_config.specs.declared.rule.Rule.{Rule}
use Rattle.lint_config.specs.declared.found.Site.{Site}
use Rattle.rule_sites.specs.Finding.{Finding, unmended, site_of}
use Rattle.rules_tree.specs.FindingIf.{finding_if}

pub found : (s : List ℕ) (rule : Rule) (b : Bool) (at byte : ℕ) (message : List ℕ) (old new : List Site) → b ≡ true → at ≡ byte → new ≡ old ++ site_of s rule (unmended at message) ∷ [] → new ≡ old ++ map (site_of s rule) (finding_if b (unmended byte message))
found s rule b at byte message old new e p h =
    h ∙ (ap (λ k. old ++ site_of s rule (unmended k message) ∷ []) p ∙ ap (λ c. old ++ map (site_of s rule) (finding_if c (unmended byte message))) (sym e))

pub not_found : (s : List ℕ) (rule : Rule) (b : Bool) (x : Finding) (old : List Site) → b ≡ false → old ≡ old ++ map (site_of s rule) (finding_if b x)
not_found s rule b x old e = sym (append-nil old) ∙ ap (λ c. old ++ map (site_of s rule) (finding_if c x)) (sym e)

-- a text that is not there
pub none_by : (r : Option (Bor (List ℕ))) (o : Option (List ℕ)) → ((s : Bor (List ℕ)) → r ≡ Some s → ⊥) → MatchOption r (o ≡ None) (λ s. o ≡ Some (chars s.now)) → o ≡ None
none_by None o h k = k
none_by (Some s) o h k = absurd (h s refl)

pub none_case : (r : Option (Bor (List ℕ))) (P : Type 0) (Q : Bor (List ℕ) → Type 0) → ((s : Bor (List ℕ)) → r ≡ Some s → ⊥) → MatchOption r P Q → P
none_case None P Q h k = k
none_case (Some s) P Q h k = absurd (h s refl)
