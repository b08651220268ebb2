-- Arrays of more items than a rule's value has.
use Rattle.std.proofs.Common.{◌≡◌, ◌≤◌, List, [], ◌∷◌, None, length, refl, arith}
use Rattle.serde_json.specs.View.{items_view}
use Rattle.serde_json.specs.declared.value.Value.{Value}
use Rattle.lint_config.specs.declared.rule.Primary.{Primary}
use Rattle.lint_config.specs.RuleValues.{mode_of_items}

pub too_many : (p : Primary) (vs : List Value) → 3 ≤ length vs → None ≡ mode_of_items p (items_view vs)
too_many p [] h = absurd (omega arith)
too_many p (u ∷ []) h = absurd (omega arith)
too_many p (u ∷ v ∷ []) h = absurd (omega arith)
too_many p (u ∷ v ∷ w ∷ vs) h = refl
