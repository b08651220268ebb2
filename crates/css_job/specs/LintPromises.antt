-- What `lint` promises: its report is on the warnings of the text.
use Rattle.std.specs.Prelude.{ℕ, ◌≡◌, List, [], ◌∷◌, Option, Some, None, Ok}
use Rattle.std.specs.Str.{chars}
use Rattle.std.specs.Io.KnownBytes.{Appends}
use Rattle.io_edge.specs.Causes.{Rose}
use Rattle.css_tree.specs.declared.fault.SyntaxFault.{SyntaxFault}
use Rattle.css_tree.specs.Tree.{Tree}
use Rattle.css_tree.specs.Reads.{Reads}
use Rattle.css_parse.specs.Answer.{IsFaultOf}
use Rattle.command_words.specs.Words.{Command, Lint}
use Rattle.css_job.specs.Faults.{input_name}
use Rattle.css_job.specs.Reading.{HasNoTree}
use Rattle.css_job.specs.Warnings.{Warning, warnings, syntax_warning}
use Rattle.css_job.specs.Report.{report}
use Rattle.css_job.specs.LintPlan.{lint_status}
use Rattle.css_job.specs.Outside.{Snapshot}
use Rattle.css_job.specs.declared.run.Ended.{Ended}

-- the report is on these warnings, and the status is theirs
pub record Reports (ws : List Warning) (old new : Snapshot) (ended : Ended) : Type 0 where
  pub status : ended.status ≡ lint_status ws
  pub report : ¬ Rose old.errs new.errs → Appends old.err new.err (report input_name ws)

-- of an input that is told: where `lint` ends without a fault and no tree is the text's, the one warning is on the text's first fault, and the status is 2
abbrev pub SyntaxErrorCause : Option Command → Snapshot → Snapshot → Ended → Type 0
SyntaxErrorCause command old new ended = (bytes : List ℕ) → command ≡ Some Lint → old.left ≡ Some bytes → HasNoTree (chars bytes) → ended.fault ≡ None → (ended.status ≡ 2) × ((f : SyntaxFault) × IsFaultOf f (chars bytes) × Reports (syntax_warning f ∷ []) old new ended)

-- and where a tree is the text's, the warnings are those of that tree
abbrev pub WarnedCause : Option Command → Snapshot → Snapshot → Ended → Type 0
WarnedCause command old new ended = (bytes : List ℕ) (t : Tree) → command ≡ Some Lint → old.left ≡ Some bytes → Reads (chars bytes) t → ended.fault ≡ None → Reports (warnings (chars bytes) (Ok t)) old new ended
