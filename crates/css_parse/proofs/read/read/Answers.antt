use Rattle.css_parse.proofs.ListFacts.{nodes_of}
use Rattle.css_parse.proofs.read.read.Goals as goal

pub returns : goal.returns
returns c = nodes_of c.read_pieces.result c.args.text.now c.as_str.result.now c.as_str.utf8 c.as_str.ensures.bytes c.as_str.ensures.characters c.as_str.ensures.short c.read_pieces.ensures
