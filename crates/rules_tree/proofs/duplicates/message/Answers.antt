use Rattle.std.proofs.Common.{◌∷◌, [], refl, codes, subst, ◌≡◌}
use Rattle.std.specs.Prelude.{IfOk}
use Rattle.rules_tree.proofs.Messages.{with_text, ascii_chars}
use Rattle.rules_tree.proofs.duplicates.message.Goals as goal

pub returns : goal.returns
returns c =
    let k = with_text _ (codes "Unexpected duplicate \"") c.args.prop.now (34 ∷ []) (34 ∷ []) c.utf8.prop refl (ascii_chars (34 ∷ []) refl) c.in_ok-text.ensures.ok in
    subst (λ z. IfOk c.from_string.result (λ t. t ≡ z)) k c.from_string.ensures
