use Rattle.std.proofs.Common.{ap, ◌∙◌}
use Rattle.std.specs.Str.{chars}
use Rattle.std.specs.String.{string_bytes}
use Rattle.std.proofs.lemmas.Str.{chars-append, IsUtf8-had}
use Rattle.stringify.specs.Sheet.{put}
use Rattle.stringify.proofs.Puts.{sheet}
use Rattle.stringify.proofs.output.Output.push_str.Goals as goal

pub returns : goal.returns
returns c =
    let x = c.self.inside in
    let utf8 = IsUtf8-had (string_bytes x.text) x.text.ok in
    ap (λ t. sheet t x.starts.items) (ap chars c.in_ok-push_str.ensures.bytes ∙ chars-append (string_bytes x.text) c.args.s.now utf8)
    ∙ ap (put (chars c.args.s.now)) c.self.view_is
