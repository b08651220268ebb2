use Rattle.source_map.proofs.Same.{decodes_back}
use Rattle.source_map.proofs.laws.decodes_back.Goals as goal

pub returns : goal.returns
returns c = decodes_back
