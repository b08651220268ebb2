use Rattle.std.proofs.Common.{◌≡◌, [], arith}
use Rattle.std.proofs.lemmas.Grind.{common_steps}
use Rattle.css_parse.specs.Standing.{sheet, gap_text}
use Rattle.css_parse.proofs.ParserPlaces.{no-gap}
use Rattle.css_parse.proofs.parser.Parser.new.Goals as goal

pub returns-clause-model : goal.returns-clause-model
returns-clause-model c =
    let none : gap_text (sheet c.args.texts) c.at.result ≡ [] = no-gap (sheet c.args.texts) c.text_start.result c.at.result c.at.ensures in
    grind (arith, common_steps)
