use Rattle.std.proofs.Common.{ap, ◌∙◌}
use Rattle.plugin_api.specs.Effect.{has}
use Rattle.transforms.proofs.NoHash.{hash_chars}
use Rattle.transforms.proofs.short_hex.has_hash.Goals as goal

pub returns : goal.returns
returns c = c.contains.ensures.value ∙ (ap (has 35) c.as_bytes.ensures.value ∙ hash_chars c.args.text.now c.utf8.text)
