use Rattle.std.proofs.Common.{ap, refl}
use Rattle.css_parse.specs.Model.{model}
use Rattle.css_parse.specs.Standing.{sheet}
use Rattle.css_parse.proofs.Standing.{gap}
use Rattle.css_parse.proofs.ParserPlaces.{next-gap, up-to-gap}
use Rattle.css_parse.specs.Machine.{Machine}
use Rattle.css_parse.proofs.parser.Parser.add_gap.Goals as goal

pub returns-clause-model : goal.returns-clause-model
returns-clause-model c =
    let s = c.args.self.now in
    ap {B = Machine} (λ z. record (model s) { gap = z }) (next-gap (sheet s.texts) s c.args.piece.now (gap s.gap.start c.end-self.result) c.requires.next c.requires.idle (ap (gap s.gap.start) c.end-self.ensures.value))

pub returns-clause-up_to : goal.returns-clause-up_to
returns-clause-up_to c =
    let s = c.args.self.now in
    up-to-gap (sheet s.texts) s _ c.args.piece.now c.requires.next c.requires.idle refl (ap (gap s.gap.start) c.end-self.ensures.value) c.requires.idle
