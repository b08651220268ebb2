use Rattle.node_store.proofs.StaysFresh.{reserved_is_fresh, closed_is_fresh}
use Rattle.node_store.proofs.laws.stays_fresh.Goals as goal

pub returns-clause-reserved : goal.returns-clause-reserved
returns-clause-reserved c = reserved_is_fresh

pub returns-clause-closed : goal.returns-clause-closed
returns-clause-closed c = closed_is_fresh
