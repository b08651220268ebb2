use Rattle.std.proofs.Common.{ap, ◌∙◌}
use Rattle.css_tree.specs.Changes.{same_text}
use Rattle.node_rows.proofs.SameText.{same_chars}
use Rattle.transforms.proofs.short_hex.is_without_comments.Goals as goal

pub returns : goal.returns
returns c = c.eq.ensures
    ∙ (same_chars _ _ _ c.as_str.utf8 c.as_str-2.utf8 c.as_str.ensures.characters ∙ ap (λ x. same_text x c.args.value.now.clean) c.as_str-2.ensures.characters)
