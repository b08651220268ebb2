-- The table of what the rules find, rule by rule.
use Rattle.std.proofs.Common.{◌≡◌, ℕ, zero, suc, ◌<◌, arith, List, [], ◌∷◌, ◌++◌, Bool, true, false, length, map, refl, ap, sym, ◌∙◌, subst, get_or, take, ◌≤◌}
use Rattle.std.specs.Prelude.{◌&&◌, not, bytes_eq, OnOk, Result}
use Rattle.std.specs.List.{list_any, flat_map}
use Rattle.std.proofs.lemmas.Bool.{false≢true, and_parts}
use Rattle.std.proofs.lemmas.List.{append-nil, take_all}
use Rattle.lint_config.specs.Choices.{allows, are_settings}
use Rattle.lint_config.specs.Rules.{primary_of, name_of}
use Rattle.lint_config.specs.declared.found.Site.{Site}
use Rattle.lint_config.specs.declared.rule.Primary.{Primary}
use Rattle.lint_config.specs.declared.rule.Primary.TheVariants.{Flag, AlwaysWord, Thousand}
use Rattle.lint_config.specs.declared.rule.Rule.{Rule}
use Rattle.lint_config.specs.declared.setting.Choice.{Choice}
use Rattle.lint_config.specs.declared.setting.Choice.TheVariants.{On, Count, Short, Long, Single, Double, Always, Limit}
use Rattle.lint_config.specs.declared.setting.Setting.{Setting}
use Rattle.rule_sites.specs.Context.{Context}
use Rattle.rule_sites.specs.Finding.{Finding, site_of, sites_at}
use Rattle.rules_tree.specs.Findings.{findings}

flag_on : (ch : Choice) → allows Flag ch ≡ true → ch ≡ On
flag_on On e = refl
flag_on (Count n) e = absurd (false≢true e)
flag_on Short e = absurd (false≢true e)
flag_on Long e = absurd (false≢true e)
flag_on Single e = absurd (false≢true e)
flag_on Double e = absurd (false≢true e)
flag_on Always e = absurd (false≢true e)
flag_on (Limit a b c) e = absurd (false≢true e)

always_on : (ch : Choice) → allows AlwaysWord ch ≡ true → ch ≡ Always
always_on On e = absurd (false≢true e)
always_on (Count n) e = absurd (false≢true e)
always_on Short e = absurd (false≢true e)
always_on Long e = absurd (false≢true e)
always_on Single e = absurd (false≢true e)
always_on Double e = absurd (false≢true e)
always_on Always e = refl
always_on (Limit a b c) e = absurd (false≢true e)

-- what the rule of a setting takes
allowed : (st : Setting) (r : Rule) (p : Primary) → st.rule ≡ r → primary_of r ≡ p → allows (primary_of st.rule) st.choice ≡ true → allows p st.choice ≡ true
allowed st r p e h a = ap (λ z. allows z st.choice) (sym (ap primary_of e ∙ h)) ∙ a

counted : (ch : Choice) → allows Thousand ch ≡ true → ((n : ℕ) → ch ≡ Count n → ⊥) → ⊥
counted On e h = false≢true e
counted (Count n) e h = h n refl
counted Short e h = false≢true e
counted Long e h = false≢true e
counted Single e h = false≢true e
counted Double e h = false≢true e
counted Always e h = false≢true e
counted (Limit a b c) e h = false≢true e

pub not_counted : (st : Setting) (r : Rule) → st.rule ≡ r → primary_of r ≡ Thousand → allows (primary_of st.rule) st.choice ≡ true → ((n : ℕ) → st.choice ≡ Count n → ⊥) → ⊥
not_counted st r e p a h = counted st.choice (allowed st r Thousand e p a) h

module _ (s : List ℕ) (st : Setting) (c : Context) where
  pub chosen : (r : Rule) (ch : Choice) (fs : List Finding) → st.rule ≡ r → st.choice ≡ ch → findings r ch c ≡ fs → map (site_of s r) fs ≡ sites_at findings s st c
  chosen r ch fs e h k = ap (map (site_of s r)) (sym k) ∙ (ap (λ x. map (site_of s x) (findings x ch c)) (sym e) ∙ ap (λ x. map (site_of s st.rule) (findings st.rule x c)) (sym h))

  -- of a rule that is on or off
  pub flagged : (r : Rule) (fs : List Finding) → st.rule ≡ r → primary_of r ≡ Flag → allows (primary_of st.rule) st.choice ≡ true → findings r On c ≡ fs → map (site_of s r) fs ≡ sites_at findings s st c
  flagged r fs e p a k = chosen r On fs e (flag_on st.choice (allowed st r Flag e p a)) k

  pub always : (r : Rule) (fs : List Finding) → st.rule ≡ r → primary_of r ≡ AlwaysWord → allows (primary_of st.rule) st.choice ≡ true → findings r Always c ≡ fs → map (site_of s r) fs ≡ sites_at findings s st c
  always r fs e p a k = chosen r Always fs e (always_on st.choice (allowed st r AlwaysWord e p a)) k

  -- of a rule that finds nothing
  pub nothing : (r : Rule) (old : List Site) → st.rule ≡ r → findings r st.choice c ≡ [] → old ≡ old ++ sites_at findings s st c
  nothing r old e k = sym (append-nil old) ∙ ap (λ z. old ++ z) (chosen r st.choice [] e refl k)

-- each of the settings has a choice that its rule takes
pub each_allowed : (xs : List Setting) (k : ℕ) (d : Setting) → are_settings xs ≡ true → k < length xs → allows (primary_of (get_or xs k d).rule) (get_or xs k d).choice ≡ true
each_allowed [] k d h b = absurd (omega arith)
each_allowed (st ∷ rest) zero d h b = (and_parts _ _ (and_parts _ (are_settings rest) h).0).0
each_allowed (st ∷ rest) (suc k) d h b = each_allowed rest k d (and_parts _ (are_settings rest) h).1 (omega arith)

-- all settings are passed
pub all_taken : (F : Setting → List Site) (xs : List Setting) (k : ℕ) (old new : List Site) → length xs ≤ k → new ≡ old ++ flat_map F (take k xs) → new ≡ old ++ flat_map F xs
all_taken F xs k old new b h = h ∙ ap (λ z. old ++ flat_map F z) (take_all k xs b)
