use Rattle.std.proofs.Common.{◌++◌, ◌∷◌, [], ap, ◌∙◌}
use Rattle.std.specs.Str.{chars}
use Rattle.std.specs.String.{string_bytes}
use Rattle.std.proofs.lemmas.Str.{IsUtf8-had}
use Rattle.stringify.specs.Sheet.{begin, start_of}
use Rattle.stringify.proofs.Puts.{sheet, bytes-counted}
use Rattle.stringify.proofs.output.Output.begin.Goals as goal

pub returns : goal.returns
returns c =
    let x = c.self.inside in
    let utf8 = IsUtf8-had (string_bytes x.text) x.text.ok in
    ap (sheet (chars (string_bytes x.text))) (c.in_ok-push.ensures.items
    ∙ ap (λ at. x.starts.items ++ start_of c.args.n at ∷ []) (c.len-at.ensures ∙ (x.text.bytes.ok.0 ∙ bytes-counted (string_bytes x.text) utf8)))
    ∙ ap (begin c.args.n) c.self.view_is
