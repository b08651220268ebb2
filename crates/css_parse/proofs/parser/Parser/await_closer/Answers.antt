use Rattle.std.proofs.Common.{refl}
use Rattle.css_parse.specs.Standing.{sheet}
use Rattle.css_parse.proofs.ParserPlaces.{up-to-run}
use Rattle.css_parse.proofs.parser.Parser.await_closer.Goals as goal

pub returns-clause-up_to : goal.returns-clause-up_to
returns-clause-up_to c = up-to-run (sheet c.args.self.now.texts) c.args.self.now _ c.args.piece c.requires.next refl refl c.in_ok-push-2.ensures
