-- The table of the commands, and the order of the faults before them: what is to be done, as a function of the command, the names of the shelf's plugins, the input, what that is read as, what the walk came to, and whether the input couldn't be read.
use Rattle.std.specs.Prelude.{ℕ, nat_lt, List, length, Bool, Option, Some, None, if◌then◌else◌}
use Rattle.std.specs.Str.{chars, is_utf8}
use Rattle.std.specs.Str.Lossy.{utf8_valid_len}
use Rattle.command_words.specs.Words.{Command, Transform, Lint}
use Rattle.css_job.specs.Faults.{input_name}
use Rattle.css_job.specs.Reading.{Reading}
use Rattle.css_job.specs.Warnings.{warnings}
use Rattle.css_job.specs.Plan.{Plan, stopped, limit}
use Rattle.css_job.specs.TransformPlan.{Reached, transformed}
use Rattle.css_job.specs.LintPlan.{reported}
use Rattle.css_job.specs.declared.fault.Fault.TheVariants.{Usage, ReadFault, TooLarge, NotUtf8}

-- what a command does with a text of that reading
unfoldable pub text_plan : Command → List (List ℕ) → List ℕ → Reading → Reached → Plan
text_plan (Transform o) names s reading r = transformed o names reading r
text_plan Lint names s reading r = reported (warnings s reading)

-- the first that comes of TooLarge, NotUtf8, and what the command does with the text
abbrev pub input_plan : Command → List (List ℕ) → List ℕ → Reading → Reached → Plan
input_plan command names bytes reading r =
    if nat_lt limit (length bytes) then stopped (TooLarge input_name)
    else if is_utf8 bytes then text_plan command names (chars bytes) reading r
    else stopped (NotUtf8 input_name (utf8_valid_len bytes))

abbrev pub plan_of : Option Command → List (List ℕ) → List ℕ → Reading → Reached → Bool → Plan
plan_of None names bytes reading r unread = stopped Usage
plan_of (Some command) names bytes reading r unread = if unread then stopped (ReadFault input_name) else input_plan command names bytes reading r
