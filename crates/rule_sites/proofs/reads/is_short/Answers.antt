use Rattle.std.proofs.Common.{ap, arith, length}
use Rattle.css_text.specs.Ahead.{byte_len}
use Rattle.css_text.proofs.Transport.{length-bytes}
use Rattle.rule_sites.proofs.reads.is_short.Goals as goal

pub returns : goal.returns
returns c = omega (arith, c.as_str.ensures.short, ap length c.as_str.ensures.bytes, length-bytes c.text.result.now, ap byte_len c.text.ensures)
