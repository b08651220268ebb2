use Rattle.std.proofs.Common.{ap, ◌∙◌}
use Rattle.css_parse.specs.Machine.{left}
use Rattle.css_parse.specs.Standing.{sheet}
use Rattle.css_parse.proofs.ParserPlaces.{no-gap}
use Rattle.css_parse.proofs.parser.Parser.close_at.Goals as goal

pub leave-requires : goal.leave-requires
leave-requires c = no-gap (sheet c.seal.new.self.texts) c.args.end c.at-self.result c.at-self.ensures

pub returns-clause-model : goal.returns-clause-model
returns-clause-model c p e = c.leave.ensures.model ∙ ap left (c.in_ok-seal.ensures.model p e)
