use Rattle.std.proofs.Common.{◌++◌, ap, ◌∙◌}
use Rattle.std.specs.Str.{chars}
use Rattle.std.specs.String.{string_bytes}
use Rattle.std.proofs.lemmas.Str.{chars-nil}
use Rattle.css_text.specs.ValueParts.{written}
use Rattle.value_parse.specs.Tree.{parts_of}
use Rattle.plugin_api.specs.Effect.{shortened, IsShort}
use Rattle.transforms.proofs.Shorts.{if_ok_same}
use Rattle.transforms.proofs.short_hex.short_text.Goals as goal

pub returns : goal.returns
returns c =
    let parts = parts_of c.in_ok-parts.parts.items in
    let is = c.in_ok-write_parts.ensures
    ∙ (ap (λ s. s ++ written (shortened (parts_of c.deref.result.now))) (ap chars c.new-text.ensures.bytes ∙ chars-nil) ∙ ap (λ xs. written (shortened (parts_of xs))) c.deref.ensures.value) in
    if_ok_same c.from_string.result (chars (string_bytes c.write_parts.new.text)) (IsShort (chars c.args.source.now)) (λ t e. record { parts = parts; are = c.in_ok-parts.ensures.parts; text = e ∙ is }) c.from_string.ensures
