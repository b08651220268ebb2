-- What `lint` writes: the report on its warnings.
use Rattle.std.specs.Prelude.{ℕ, ◌==◌, count_by, List, [], ◌∷◌, None, if◌then◌else◌}
use Rattle.css_job.specs.Faults.{input_name}
use Rattle.css_job.specs.Warnings.{Warning}
use Rattle.css_job.specs.Report.{is_error, report}
use Rattle.css_job.specs.Plan.{Plan, to_err}

-- 2 where there is a warning of severity error
abbrev pub lint_status : List Warning → ℕ
lint_status ws = if count_by is_error ws == 0 then 0 else 2

-- the report goes to the standard error
abbrev pub reported : List Warning → Plan
reported ws = record { fault = None; caller = []; status = lint_status ws; writes = to_err (report input_name ws) ∷ [] }
