use Rattle.css_parse.specs.Standing.{sheet, gap_text}
use Rattle.css_parse.proofs.Giving.{sealed-root}
use Rattle.css_parse.proofs.parser.Parser.seal_root.Goals as goal

pub returns : goal.returns
returns c =
    sealed-root c.args.self.now.semicolon (gap_text (sheet c.args.self.now.texts) c.args.self.now.gap) c.args.self.now.nodes c.args.self.now.number _ c.set_block.new.self c.requires.known c.in_ok-block.ensures c.set_block.ensures
