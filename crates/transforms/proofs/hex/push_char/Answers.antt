use Rattle.std.proofs.Common.{◌∷◌, []}
use Rattle.value_parse.proofs.Trees.{push_chars}
use Rattle.transforms.proofs.Shorts.{char-spelled}
use lib.Utf8.{encode}
use Rattle.transforms.proofs.hex.push_char.Goals as goal

pub returns : goal.returns
returns c = push_chars c.args.text.now (c.args.c ∷ []) _ (encode c.args.c) (char-spelled c.args.c c.ranges.c.0) c.in_ok-push.ensures.bytes
