use Rattle.report_text.proofs.Texts.{json_whole}
use Rattle.report_text.proofs.json_text.json.Goals as goal

pub returns : goal.returns
returns c = json_whole c.args.files.now _ _ _ _ c.new-text.ensures.bytes c.in_ok-push_str.ensures.bytes c.in_ok-push_files.ensures c.in_ok-push_str-2.ensures.bytes
