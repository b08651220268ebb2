use Rattle.std.proofs.Common.{◌≡◌, ℕ, List, [], ◌∷◌, true, false, refl, sym, ◌∙◌}
use Rattle.std.specs.Str.{chars}
use Rattle.std.proofs.lemmas.Result.{IfOk-weaker}
use Rattle.css_tree.specs.Changes.{is_empty_text}
use Rattle.node_rows.proofs.SameText.{empty_chars}
use Rattle.edit_calls.specs.Plans.{space_before, space_text}
use Rattle.edit_calls.proofs.making.space_before.Goals as goal

before_none : (cs : List ℕ) → is_empty_text cs ≡ true → space_before cs ≡ []
before_none [] e = refl
before_none (c ∷ cs) e = absurd cc

before_some : (cs : List ℕ) → is_empty_text cs ≡ false → space_before cs ≡ space_text
before_some [] e = absurd cc
before_some (c ∷ cs) e = refl

pub returns-then-is_empty : goal.returns-then-is_empty
returns-then-is_empty c =
    let cs = chars c.args.params.now in
    let empty = c.is_empty.ensures ∙ empty_chars c.args.params.now c.utf8.params in
    IfOk-weaker c.nothing.result (λ t. t ≡ []) (λ t. t ≡ space_before cs) (λ t e. e ∙ sym (before_none cs (sym empty ∙ c.if-is_empty.true))) c.nothing.ensures

pub returns-else-is_empty : goal.returns-else-is_empty
returns-else-is_empty c =
    let cs = chars c.args.params.now in
    let empty = c.is_empty.ensures ∙ empty_chars c.args.params.now c.utf8.params in
    IfOk-weaker c.space.result (λ t. t ≡ space_text) (λ t. t ≡ space_before cs) (λ t e. e ∙ sym (before_some cs (sym empty ∙ c.if-is_empty.false))) c.space.ensures
