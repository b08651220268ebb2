use Rattle.std.proofs.Common.{ap, ◌∙◌, List, ℕ, codes}
use Rattle.std.specs.Str.{chars}
use Rattle.css_text.specs.declared.text.Place.{Place}
use Rattle.css_job.specs.Warnings.{Warning}
use Rattle.css_job.specs.declared.lint.warning.Severity.TheVariants.{Error}
use Rattle.css_job.proofs.Names.{kind_chars}
use Rattle.css_job.proofs.lint.warning.Warning.syntax.Goals as goal

abbrev on : Place → List ℕ → Warning
on place text = record { place = place; severity = Error; text = text; rule = codes "CssSyntaxError" }

pub returns : goal.returns
unfolding chars
returns c = ap (on c.args.fault.place) (ap chars c.kind_name.ensures ∙ kind_chars c.args.fault.kind)
