use Rattle.selector_parse.proofs.Printed.{push_sign}
use Rattle.selector_parse.proofs.normal.write_sign.Goals as goal

pub returns : goal.returns
returns c = push_sign c.args.text.now _ c.args.sign c.requires c.in_ok-push.ensures.bytes
