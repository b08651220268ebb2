-- All promises of a run from what its stages did.
use Rattle.std.proofs.Common.{◌≡◌, List, inr}
use Rattle.std.specs.Io.KnownBytes.{Keeps}
use Rattle.plugin_api.specs.Shelf.{PluginSeen}
use Rattle.css_job.specs.Outside.{Snapshot, KeepsFolder}
use Rattle.css_job.specs.Stated.{Asked, Ends, Heard, RanOut}
use Rattle.css_job.specs.Stages.{Unprepared}
use Rattle.css_job.specs.Promises.{Promises, OutOfMemory}
use Rattle.css_job.specs.declared.run.Ended.{Ended}
use Rattle.css_job.proofs.Causes.{usage, read, write, too_large, not_utf8, syntax, unfailed}
use Rattle.css_job.proofs.LintCauses.{css_syntax_error, warned, status}
use Rattle.css_job.proofs.WalkCauses.{unchanged, untouched, plugin_failed, budget_spent, edit_budget_spent, settled, never_spent}
use Rattle.css_job.proofs.Complete.{complete}
use Rattle.css_job.proofs.OneOutcome.{one_outcome}

pub promised : (asked : Asked) (after : List PluginSeen) (a c : Snapshot) (e : Ended) → Ends asked a c e → Heard asked.shelf after e.log.items → KeepsFolder a c → Promises asked after a c e
promised asked after a c e h k f = record {
  stated = h;
  heard = k;
  folder = f;
  usage = usage asked a c e h;
  read_fault = read asked a c e h;
  too_large = too_large asked a c e h;
  not_utf8 = not_utf8 asked a c e h;
  syntax = syntax asked a c e h;
  plugin_failed = plugin_failed asked a c e h after k;
  budget_spent = budget_spent asked a c e h;
  edit_budget_spent = edit_budget_spent asked a c e h;
  write_fault = write asked a c e h;
  status = status asked a c e h;
  unchanged = unchanged asked a c e h;
  untouched = untouched asked a c e h;
  settled = settled asked a c e h;
  never_spent = never_spent asked a c e h;
  css_syntax_error = css_syntax_error asked a c e h;
  warned = warned asked a c e h;
  repeated = one_outcome asked a c e h;
  complete = complete asked a c e h after k;
  unfailed = unfailed asked a c e h;
}

-- before anything was written
pub unprepared : (asked : Asked) (after : List PluginSeen) (a c : Snapshot) → Unprepared asked after a.left c.left a.reads c.reads → c.outs ≡ a.outs → c.errs ≡ a.errs → Keeps a.out c.out → Keeps a.err c.err → KeepsFolder a c → OutOfMemory asked after a c
unprepared asked after a c u outs errs out err f = record {
  ran = inr (record { bytes = u.bytes; fed = u.fed; reads = u.reads; outs = outs; errs = errs; out = out; err = err; log = u.visits.log; cut = u.visits.cut; heard = u.visits.heard });
  folder = f;
}
