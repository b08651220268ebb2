use Rattle.std.proofs.Common.{◌++◌, ◌∷◌, [], ap, ◌∙◌}
use Rattle.std.specs.Str.{chars}
use Rattle.std.specs.String.{string_bytes}
use Rattle.std.proofs.lemmas.Str.{chars-append, IsUtf8-had}
use lib.Utf8.{encode}
use Rattle.stringify.specs.Sheet.{put}
use Rattle.stringify.proofs.Puts.{sheet, char-spelled}
use Rattle.stringify.proofs.output.Output.push.Goals as goal

pub returns : goal.returns
returns c =
    let x = c.self.inside in
    let utf8 = IsUtf8-had (string_bytes x.text) x.text.ok in
    ap (λ t. sheet t x.starts.items) (ap chars c.in_ok-push.ensures.bytes ∙ (chars-append (string_bytes x.text) (encode c.args.c) utf8 ∙ ap (λ l. chars (string_bytes x.text) ++ l) (char-spelled c.args.c c.ranges.c.0)))
    ∙ ap (put (c.args.c ∷ [])) c.self.view_is
