use Rattle.std.proofs.Common.{[], List, ℕ, ap, ◌∙◌}
use Rattle.std.proofs.lemmas.Str.{chars-nil}
use Rattle.std.specs.Str.{chars}
use Rattle.stringify.specs.declared.printed.Start.{Start}
use Rattle.stringify.specs.Sheet.{Sheet}
use Rattle.stringify.proofs.output.Output.with_capacity.Goals as goal

abbrev sheet : List ℕ → List Start → Sheet
sheet text starts = record { text = text; starts = starts }

pub returns : goal.returns
returns c =
    let text = c.in_ok-with_capacity.ensures.bytes in
    let starts = c.in_ok-with_capacity-2.ensures.items in
    ap (λ bs. sheet (chars bs) c.in_ok-with_capacity-2.field-0.items) text ∙ (ap (λ s. sheet s c.in_ok-with_capacity-2.field-0.items) chars-nil ∙ ap (sheet []) starts)
