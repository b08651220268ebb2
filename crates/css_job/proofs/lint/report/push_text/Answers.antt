use Rattle.std.proofs.Common.{◌∙◌, ◌++◌, ap, sym, string_bytes}
use Rattle.std.proofs.lemmas.Str.{encodes-chars}
use Rattle.css_job.proofs.lint.report.push_text.Goals as goal

pub returns : goal.returns
returns c = c.in_ok-push_str.ensures.bytes ∙ ap (λ z. string_bytes c.args.to.now ++ z) (sym (encodes-chars c.args.text.now c.utf8.text))
