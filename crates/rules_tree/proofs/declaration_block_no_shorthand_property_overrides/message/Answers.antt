use Rattle.std.proofs.Common.{◌∷◌, [], ◌++◌, refl, codes, subst, ◌≡◌, ◌∙◌, sym, ap, append_assoc}
use Rattle.std.specs.Prelude.{IfOk}
use Rattle.std.specs.Str.{chars}
use Rattle.rules_tree.proofs.Messages.{two_quoted}
use Rattle.rules_tree.proofs.declaration_block_no_shorthand_property_overrides.message.Goals as goal

pub returns : goal.returns
returns c =
    let s = c.args.shorthand.now in
    let t = c.args.first.now in
    let k = two_quoted _ (codes "Unexpected shorthand \"") s (codes "\" after \"") t c.utf8.shorthand c.utf8.first refl refl c.in_ok-text.ensures.ok
    ∙ ap (λ z. codes "Unexpected shorthand \"" ++ z) (sym (append_assoc (chars s) (34 ∷ []) (codes " after \"" ++ (chars t ++ 34 ∷ [])))) in
    subst (λ z. IfOk c.from_string.result (λ t. t ≡ z)) k c.from_string.ensures
