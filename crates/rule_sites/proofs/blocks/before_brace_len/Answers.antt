use Rattle.std.proofs.Common.{ap, arith}
use Rattle.css_text.specs.Ahead.{byte_len}
use Rattle.css_text.proofs.Slices.{byte_len-append}
use Rattle.rule_sites.specs.Blocks.{before_brace}
use Rattle.rule_sites.proofs.Fronts.{at_rule_len}
use Rattle.rule_sites.proofs.Places.{string_len}
use Rattle.rule_sites.proofs.blocks.before_brace_len.Goals as goal

pub overflow_add-result : goal.overflow_add-result
overflow_add-result c = omega (arith, c.requires, ap (λ t. byte_len (before_brace t)) c.in-AtRule.is, at_rule_len c.in-AtRule.name c.in-AtRule.after_name c.in-AtRule.params.source c.in-AtRule.between, string_len _ _ c.as_str.ensures.bytes, string_len _ _ c.as_str-in-AtRule.ensures.bytes, string_len _ _ c.as_str-in-AtRule-2.ensures.bytes)

pub overflow_add-result-in-AtRule : goal.overflow_add-result-in-AtRule
overflow_add-result-in-AtRule c = omega (arith, c.requires, ap (λ t. byte_len (before_brace t)) c.in-AtRule.is, at_rule_len c.in-AtRule.name c.in-AtRule.after_name c.in-AtRule.params.source c.in-AtRule.between, string_len _ _ c.as_str.ensures.bytes, string_len _ _ c.as_str-in-AtRule.ensures.bytes, string_len _ _ c.as_str-in-AtRule-2.ensures.bytes, string_len _ _ c.as_str-in-AtRule-3.ensures.bytes)

pub returns-in-AtRule : goal.returns-in-AtRule
returns-in-AtRule c = omega (arith, ap (λ t. byte_len (before_brace t)) c.in-AtRule.is, at_rule_len c.in-AtRule.name c.in-AtRule.after_name c.in-AtRule.params.source c.in-AtRule.between, string_len _ _ c.as_str.ensures.bytes, string_len _ _ c.as_str-in-AtRule.ensures.bytes, string_len _ _ c.as_str-in-AtRule-2.ensures.bytes, string_len _ _ c.as_str-in-AtRule-3.ensures.bytes)

pub returns-in-Rule : goal.returns-in-Rule
returns-in-Rule c = omega (arith, ap (λ t. byte_len (before_brace t)) c.in-Rule.is, byte_len-append c.in-Rule.selector.source c.in-Rule.between, string_len _ _ c.as_str-in-Rule.ensures.bytes, string_len _ _ c.as_str-in-Rule-2.ensures.bytes)
