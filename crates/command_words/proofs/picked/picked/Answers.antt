use Rattle.std.proofs.Common.{ap, arith, length}
use Rattle.std.specs.Str.{chars}
use Rattle.command_words.proofs.Picks.{picks_begin}
use Rattle.command_words.proofs.picked.picked.Goals as goal

pub loop-left-init : goal.loop-left-init
loop-left-init c = record {
  is = picks_begin c.args.known.now (chars c.args.names.now) c.new-places.result.items c.new-places.ensures.items;
  below = λ k d h. absurd (omega (arith, ap length c.new-places.ensures.items, h));
}
