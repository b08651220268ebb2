use Rattle.std.proofs.Common.{◌≡◌, IfOk, subst}
use lib.Utf8.{encodes}
use Rattle.css_parse.proofs.Standing.{start-empty, chars-empty}
use Rattle.css_parse.proofs.texts.Texts.empty.Goals as goal

pub part-requires : goal.part-requires
part-requires c = start-empty c.args.self.now.sheet.now

pub returns : goal.returns
returns c = subst (λ x. IfOk c.part.result (λ t. t ≡ x)) (chars-empty (encodes c.args.self.now.sheet.now) 0) c.part.ensures
