use Rattle.std.proofs.Common.{ap, arith, ◌∙◌}
use Rattle.css_text.specs.Ahead.{byte_len}
use Rattle.rule_sites.proofs.Places.{string_len}
use Rattle.rules_tree.specs.Important.{before_mark, blanks_of}
use Rattle.rules_tree.proofs.MarkFront.{mark_len}
use Rattle.rules_tree.proofs.important.before_mark_len.Goals as goal

pub overflow_add-result : goal.overflow_add-result
overflow_add-result c = omega (arith, c.requires, ap (λ t. byte_len (before_mark t)) c.in-Declaration.is, mark_len c.in-Declaration.prop c.in-Declaration.between c.in-Declaration.value.source (blanks_of c.in-Declaration.important_raw), string_len _ _ c.as_str.ensures.bytes, string_len _ _ c.as_str-in-Declaration.ensures.bytes, string_len _ _ c.as_str-in-Declaration-2.ensures.bytes)

pub overflow_add-result-in-Declaration : goal.overflow_add-result-in-Declaration
overflow_add-result-in-Declaration c = omega (arith, c.requires, ap (λ t. byte_len (before_mark t)) c.in-Declaration.is, mark_len c.in-Declaration.prop c.in-Declaration.between c.in-Declaration.value.source (blanks_of c.in-Declaration.important_raw), string_len _ _ c.as_str.ensures.bytes, string_len _ _ c.as_str-in-Declaration.ensures.bytes, string_len _ _ c.as_str-in-Declaration-2.ensures.bytes, c.blanks_len.ensures, ap (λ s. byte_len (blanks_of s)) c.as_str-in-Declaration-3.ensures.characters)

pub returns-in-Declaration : goal.returns-in-Declaration
returns-in-Declaration c = omega (arith, ap (λ t. byte_len (before_mark t)) c.in-Declaration.is, mark_len c.in-Declaration.prop c.in-Declaration.between c.in-Declaration.value.source (blanks_of c.in-Declaration.important_raw), string_len _ _ c.as_str.ensures.bytes, string_len _ _ c.as_str-in-Declaration.ensures.bytes, string_len _ _ c.as_str-in-Declaration-2.ensures.bytes, c.blanks_len.ensures, ap (λ s. byte_len (blanks_of s)) c.as_str-in-Declaration-3.ensures.characters)
