use Rattle.std.proofs.Common.{◌∙◌, ap, sym, length, get_or}
use Rattle.std.specs.Prelude.{◌&&◌, not, nat_lt}
use Rattle.css_text.specs.Characters.{is_space}
use Rattle.rules_tree.specs.CommentWhitespaceInside.{stars}
use Rattle.rules_tree.proofs.StarBytes.{black_at}
use Rattle.rules_tree.proofs.stars.lacks_leading_space.Goals as goal

pub returns : goal.returns
returns c =
    let s = c.args.s.now in
    c.is_black_at.ensures ∙ (ap (λ n. nat_lt n (length s) && not (is_space (get_or s n 0))) c.leading_stars.ensures.value ∙ sym (black_at s (stars s)))
