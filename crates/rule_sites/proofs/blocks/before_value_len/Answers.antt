use Rattle.std.proofs.Common.{ap, arith}
use Rattle.css_text.specs.Ahead.{byte_len}
use Rattle.css_text.proofs.Slices.{byte_len-append}
use Rattle.rule_sites.specs.Blocks.{before_value}
use Rattle.rule_sites.proofs.Places.{string_len}
use Rattle.rule_sites.proofs.blocks.before_value_len.Goals as goal

pub returns-in-Declaration : goal.returns-in-Declaration
returns-in-Declaration c = omega (arith, ap (λ t. byte_len (before_value t)) c.in-Declaration.is, byte_len-append c.in-Declaration.prop c.in-Declaration.between, string_len _ _ c.as_str.ensures.bytes, string_len _ _ c.as_str-in-Declaration.ensures.bytes)
