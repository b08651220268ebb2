use Rattle.std.proofs.Common.{Some, ap, ◌∙◌, sym}
use Rattle.css_tree.specs.declared.node.Block.{Block}
use Rattle.css_parse.specs.Standing.{sheet}
use Rattle.css_parse.proofs.Standing.{gap-text}
use Rattle.css_parse.proofs.parser.Parser.block.Goals as goal

pub returns : goal.returns
returns c = ap {B = Block} (λ z. record { semicolon = c.args.self.now.semicolon; after = Some z }) (c.in_ok-after.ensures ∙ sym (gap-text (sheet c.args.self.now.texts) c.args.self.now.gap))
