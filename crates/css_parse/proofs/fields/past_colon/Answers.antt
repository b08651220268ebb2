use Rattle.css_parse.proofs.FieldTexts.{past_some, past_none}
use Rattle.css_parse.proofs.fields.past_colon.Goals as goal

pub returns-then-front-rest : goal.returns-then-front-rest
returns-then-front-rest c = past_some c.args.front c.args.rest.now c.if-front-rest.true

pub returns-else-front-rest : goal.returns-else-front-rest
returns-else-front-rest c = past_none c.args.front c.args.rest.now c.requires c.if-front-rest.false
