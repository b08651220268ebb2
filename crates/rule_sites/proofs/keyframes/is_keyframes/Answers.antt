use Rattle.std.proofs.Common.{◌∙◌, ap, sym}
use Rattle.rule_sites.specs.Keyframes.{is_keyframes, is_keyframes_name}
use Rattle.rule_sites.proofs.Vendor.{name_bytes}
use Rattle.rule_sites.proofs.keyframes.is_keyframes.Goals as goal

pub returns-in-AtRule : goal.returns-in-AtRule
returns-in-AtRule c = c.is_keyframes_name.ensures ∙ ap is_keyframes_name c.as_bytes.ensures.value ∙ name_bytes c.as_str.result.now c.as_str.utf8 ∙ ap is_keyframes_name c.as_str.ensures.characters ∙ sym (ap is_keyframes c.in-AtRule.is)
