use Rattle.std.proofs.Common.{◌∙◌, ap, codes}
use Rattle.std.specs.Prelude.{bytes_eq}
use Rattle.std.proofs.lemmas.List.{take_rest}
use Rattle.rule_sites.specs.Keyframes.{lower}
use Rattle.rule_sites.proofs.Vendor.{prefixed_at, where_some, where_none}
use Rattle.rule_sites.proofs.keyframes.is_prefixed.Goals as goal

pub returns-then-letters-gt0 : goal.returns-then-letters-gt0
returns-then-letters-gt0 c =
    c.is_spelled.ensures ∙ ap (λ z. bytes_eq (lower z) (codes "-keyframes")) (take_rest c.args.name.now c.letter_count-letters.result)
    ∙ where_some c.letter_count-letters.result _ c.if-letters-gt0.true ∙ prefixed_at c.args.name.now c.letter_count-letters.result c.letter_count-letters.ensures.value

pub returns-else-letters-gt0 : goal.returns-else-letters-gt0
returns-else-letters-gt0 c = where_none c.letter_count-letters.result _ c.if-letters-gt0.false ∙ prefixed_at c.args.name.now c.letter_count-letters.result c.letter_count-letters.ensures.value
