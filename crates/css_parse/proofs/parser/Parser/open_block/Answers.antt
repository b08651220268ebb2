use Rattle.std.proofs.Common.{◌≡◌, [], ap, ◌∙◌, sym, subst, refl, arith}
use Rattle.std.proofs.lemmas.Grind.{common_steps}
use Rattle.css_tree.specs.Pieces.{end_of}
use Rattle.css_parse.specs.Standing.{sheet, gap_text, IsBehind}
use Rattle.css_parse.proofs.Standing.{gap}
use Rattle.css_parse.proofs.ParserPlaces.{no-gap, up-to-none}
use Rattle.css_parse.proofs.parser.Parser.open_block.Goals as goal

pub open_node-requires : goal.open_node-requires
open_node-requires c = subst (IsBehind (sheet c.args.self.now.texts) c.args.self.now.gap) (sym c.as_slice-run.ensures) c.requires.next.up_to.behind

pub returns-clause-model : goal.returns-clause-model
returns-clause-model c =
    let s = c.args.self.now in
    let none : gap_text (sheet s.texts) c.at-self.result ≡ [] = no-gap (sheet s.texts) (end_of c.args.piece) c.at-self.result (c.at-self.ensures ∙ ap (λ e. gap e e) c.end.ensures.value) in
    grind (arith, common_steps)

pub returns-clause-up_to : goal.returns-clause-up_to
returns-clause-up_to c =
    up-to-none (sheet c.args.self.now.texts) c.args.self.now _ c.args.piece c.requires.next refl (c.at-self.ensures ∙ ap (λ e. gap e e) c.end.ensures.value) c.clear.ensures
