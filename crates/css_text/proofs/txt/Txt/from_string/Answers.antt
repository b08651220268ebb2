use Rattle.std.proofs.Common.{arith}
use Rattle.std.proofs.lemmas.Str.{IsUtf8-string_bytes}
use Rattle.std.specs.String.{string_bytes}
use Rattle.std.specs.Rc.{rc_value}
use Rattle.css_text.proofs.Shared.{whole}
use Rattle.css_text.proofs.txt.Txt.from_string.Goals as goal

pub invariant_of-result : goal.invariant_of-result
invariant_of-result c = whole (string_bytes (rc_value c.in-Ok-new.whole)) c.in-Ok.end (IsUtf8-string_bytes (rc_value c.in-Ok-new.whole)) (grind arith)
