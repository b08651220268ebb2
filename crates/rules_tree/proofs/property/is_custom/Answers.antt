use Rattle.std.proofs.Common.{◌≡◌, ℕ, List, [], ◌∷◌, ◌++◌, Bool, true, false, eqb, get_or, refl, sym, ap, ap₂, ◌∙◌, arith, codes, lit<}
use Rattle.std.specs.Prelude.{◌&&◌, ◌==◌}
use Rattle.std.specs.Char.{to_ascii_lowercase}
use Rattle.std.specs.Str.{chars, IsUtf8}
use Rattle.std.proofs.Math.Bool.{and-true}
use Rattle.std.proofs.lemmas.Bool.{and_right}
use Rattle.std.proofs.lemmas.Bool.Decides.{nat_tests}
use Rattle.std.proofs.lemmas.Str.{encodes-chars}
use Rattle.css_text.specs.Forms.{begins_with}
use Rattle.css_text.proofs.Transport.{begins_with-bytes}
use Rattle.rules_tree.specs.Properties.{is_custom}
use Rattle.rules_tree.proofs.property.is_custom.Goals as goal

dash : (c : ℕ) → eqb c 45 ≡ (to_ascii_lowercase c == 45)
dash c = grind (arith, nat_tests)

dashes : (bs : List ℕ) → (eqb (get_or bs 0 0) 45 && eqb (get_or bs 1 0) 45) ≡ begins_with (codes "--") bs
dashes [] = refl
dashes (c ∷ []) = and_right (eqb c 45) false refl ∙ sym (and_right (to_ascii_lowercase c == 45) false refl)
dashes (c ∷ d ∷ ds) = ap₂ (λ a b. a && b) (dash c) (dash d ∙ sym (and-true (to_ascii_lowercase d == 45)))

custom_is : (bs : List ℕ) → IsUtf8 bs → (eqb (get_or bs 0 0) 45 && eqb (get_or bs 1 0) 45) ≡ is_custom (chars bs)
custom_is bs u = dashes bs ∙ (ap (begins_with (codes "--")) (sym (encodes-chars bs u)) ∙ begins_with-bytes (codes "--") (chars bs) (lit< tt, (lit< tt, tt)))

pub returns : goal.returns
returns c = c.begins_dashes.ensures ∙ (ap (λ b. eqb (get_or b 0 0) 45 && eqb (get_or b 1 0) 45) c.as_bytes.ensures.value ∙ custom_is c.args.prop.now c.utf8.prop)
