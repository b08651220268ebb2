use Rattle.std.proofs.Common.{refl}
use lib.Utf8.{encode}
use Rattle.std.specs.Fmt.{digits}
use Rattle.json.specs.Print.{escape_byte}
use Rattle.report_text.specs.Lines.{lines}
use Rattle.report_text.specs.Unix.{unix}
use Rattle.report_text.specs.Json.{json}
use Rattle.report_text.proofs.laws.examples.Goals as goal

pub returns-clause-none : goal.returns-clause-none
unfolding lines unix json
returns-clause-none c = (refl, refl, refl, refl)

pub returns-clause-one : goal.returns-clause-one
unfolding encode digits escape_byte
returns-clause-one c = (refl, refl, refl, refl, refl)

pub returns-clause-two : goal.returns-clause-two
unfolding encode digits escape_byte
returns-clause-two c = (refl, refl, refl, refl)
