-- Edit calls make edits, whatever they answer.
use Rattle.std.proofs.Common.{◌≡◌, ℕ, ◌+◌, List, [], ◌++◌, None, Result, Ok, Err, refl, ap}
use Rattle.css_text.specs.declared.stop.Stop.{Stop}
use Rattle.css_text.specs.declared.stop.Stop.TheVariants as S
use Rattle.node_store.specs.declared.fault.TreeFault.{TreeFault}
use Rattle.node_store.specs.declared.item.Edit.{Edit}
use Rattle.node_store.specs.declared.item.Moment.{Moment}
use Rattle.node_store.specs.Forest.{Forest}
use Rattle.edit_calls.specs.Answers.{Answers, AnswersNew}
use Rattle.plugin_api.specs.declared.visitor.VisitFault.TheVariants.{Plugin, Memory}
use Rattle.plugin_api.specs.Open.{open_total, LeavesOpen}
use Rattle.plugin_api.specs.Visit.{Answer}
use Rattle.plugin_api.specs.Calls.{Met}
use Rattle.plugin_api.proofs.AloneLemmas.{alone_by, alone_unmade, alone-then}
use Rattle.sheet_tests.specs.Made.{IsEdited}

pub answered : (plan : Result (List Edit) TreeFault) (before after : Forest) (r : Result (Unit {0}) (Stop TreeFault)) → Answers plan before after r → IsEdited before after
answered plan before after (Ok x) h = (h.0, alone_by before after h.0 h.2.met h.2.made)
answered plan before after (Err (S.Fault f)) h = ([], alone_unmade before after h.1)
answered plan before after (Err (S.Memory e)) h = ([], alone_unmade before after h.1)

pub answered_new : (plan : Result (List Edit) TreeFault) (before after : Forest) (r : Result ℕ (Stop TreeFault)) → AnswersNew plan before after r → IsEdited before after
answered_new plan before after (Ok n) h = (h.1, alone_by before after h.1 h.3.met h.3.made)
answered_new plan before after (Err (S.Fault f)) h = ([], alone_unmade before after h.1)
answered_new plan before after (Err (S.Memory e)) h = ([], alone_unmade before after h.1)

pub untouched : (f : Forest) → IsEdited f f
untouched f = ([], alone_unmade f f refl)

pub edited_then : (a b c : Forest) → IsEdited a b → IsEdited b c → IsEdited a c
edited_then a b c h g = (h.0 ++ g.0, alone-then a b c h.0 g.0 h.1 g.1)

leaves_none : (before after : Forest) (r : Answer) → open_total after.cursors ≡ open_total before.cursors → LeavesOpen 0 0 before after r
leaves_none before after (Ok x) e = ap (λ n. n + 0) e
leaves_none before after (Err (Plugin text)) e = ap (λ n. n + 0) e
leaves_none before after (Err (Memory x)) e = tt

pub met_by : (before after : Forest) (m : Moment) (r : Answer) → IsEdited before after → Met None 0 0 before after m r
met_by before after m r h = record { edits = h.0; edited = h.1.edited; does = tt; leaves = leaves_none before after r h.1.total }
