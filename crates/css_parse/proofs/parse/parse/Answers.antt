use Rattle.css_parse.proofs.ListFacts.{refusal}
use Rattle.css_parse.proofs.parse.parse.Goals as goal

pub from_list-requires : goal.from_list-requires
from_list-requires c = c.in-Ok.ensures.list

pub returns-in-Err-Fault-clause-refused : goal.returns-in-Err-Fault-clause-refused
returns-in-Err-Fault-clause-refused c =
    let h = rw c.in-Err-Fault.field-0-is at c.in-Err-Fault.ensures in
    let p = rw c.in-Err-Fault.field-0-is at c.placed.ensures in
    refusal c.in-Err-Fault.found c.placed.result c.args.text h.0 p
