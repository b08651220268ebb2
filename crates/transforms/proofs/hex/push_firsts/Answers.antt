use Rattle.std.proofs.Common.{[], ◌∷◌, ◌++◌, ap, sym, ◌∙◌, append_assoc}
use Rattle.std.specs.Str.{chars}
use Rattle.std.specs.String.{string_bytes}
use Rattle.transforms.specs.Hex.{firsts}
use Rattle.transforms.proofs.hex.push_firsts.Goals as goal

pub loop-first-preserved : goal.loop-first-preserved
loop-first-preserved c =
    let s = chars (string_bytes c.loop-first.text) in
    let t = firsts (chars c.behind_pair-rest.result.now) in
    let x = c.in-Some.first in (
      c.behind_pair-rest.ensures.utf8,
      ap (λ l. l ++ t) c.in_ok-push_char.ensures
          ∙ (append_assoc s (x ∷ []) t
          ∙ (ap (λ l. s ++ l) (sym (c.behind_pair-rest.ensures.firsts x) ∙ ap firsts (sym c.in-Some.ensures.parts)) ∙ c.loop-first.invariant.1)),
    )
