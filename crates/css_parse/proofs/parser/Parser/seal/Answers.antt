use Rattle.std.proofs.Common.{sym}
use Rattle.css_parse.specs.Model.{model}
use Rattle.css_parse.proofs.Giving.{sealed-node}
use Rattle.css_parse.proofs.parser.Parser.seal.Goals as goal

pub returns-clause-model : goal.returns-clause-model
returns-clause-model c p e =
    sealed-node (model c.args.self.now) p _ c.args.end c.set_block.new.self c.set_end.new.self c.requires.known c.in_ok-block.ensures c.set_block.ensures (sym e) c.set_end.ensures
