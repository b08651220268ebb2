use Rattle.std.proofs.Common.{◌≡◌, ◌<◌, length, slice_index, ap, ◌∙◌, sym, arith}
use Rattle.std.proofs.lemmas.Grind.{common_steps}
use Rattle.css_parse.proofs.PlainClosing.{found-close}
use Rattle.css_parse.proofs.parser.Parser.take_close.Goals as goal

pub returns : goal.returns
returns c =
    let some : 0 < length c.args.self.now.frames.items = grind (arith, common_steps) in
    let is : c.byte_at.result ≡ 125 = grind (arith, common_steps) in
    let brace = sym (c.byte_at.ensures ∙ ap (λ z. slice_index z c.args.at) c.as_bytes.ensures.value) ∙ is in
    let k = found-close c.args.src.now c.args.at c.args.self.now c.utf8.src c.requires.going c.requires.idle some brace in
    let e = c.in_ok-close_at.ensures in
    (omega arith, k.within, k.on c.close_at.new.self e.model e.texts e.gap e.run)
