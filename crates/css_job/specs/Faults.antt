-- The names of the standard streams, and the status and the line of each fault.
use Rattle.std.specs.Prelude.{ℕ, List, ◌++◌, codes, decimal, encode_utf8_all}
use Rattle.css_text.specs.declared.stop.TextFault.{TextFault}
use Rattle.css_text.specs.declared.stop.TextFault.TheVariants as T
use Rattle.css_tree.specs.declared.fault.SyntaxKind.{SyntaxKind}
use Rattle.css_tree.specs.declared.fault.SyntaxKind.TheVariants as K
use Rattle.css_job.specs.Trace.{line, moment_text}
use Rattle.css_job.specs.declared.fault.Fault.{Fault}
use Rattle.css_job.specs.declared.fault.Fault.TheVariants.{Usage, ReadFault, WriteFault, TooLarge, NotUtf8, Syntax, PluginFailed, BudgetSpent, EditBudgetSpent}
use Rattle.css_job.specs.declared.target.Target.{Target}
use Rattle.css_job.specs.declared.target.Target.TheVariants.{StdOut, StdErr}

abbrev pub input_name : List ℕ
input_name = codes "<stdin>"

abbrev pub name_of : Target → List ℕ
name_of StdOut = codes "<stdout>"
name_of StdErr = codes "<stderr>"

abbrev pub kind_name : SyntaxKind → List ℕ
kind_name K.UnclosedString = codes "UnclosedString"
kind_name K.UnclosedComment = codes "UnclosedComment"
kind_name K.UnclosedUrl = codes "UnclosedUrl"
kind_name K.UnclosedBracket = codes "UnclosedBracket"
kind_name K.UnclosedBlock = codes "UnclosedBlock"
kind_name K.UnexpectedClose = codes "UnexpectedClose"
kind_name K.UnknownWord = codes "UnknownWord"
kind_name K.AtRuleWithoutName = codes "AtRuleWithoutName"
kind_name K.TooDeep = codes "TooDeep"

-- The line of a fault, where the plugin that was called last has that name. A name is a list of characters, and a line one of bytes.
abbrev pub line_of : List ℕ → Fault → List ℕ
line_of plugin Usage = line (codes "usage: csswork transform|lint|sample")
line_of plugin (ReadFault name) = line (codes "csswork: cannot read " ++ encode_utf8_all name)
line_of plugin (WriteFault name) = line (codes "csswork: cannot write " ++ encode_utf8_all name)
line_of plugin (TooLarge name) = codes "csswork: " ++ (encode_utf8_all name ++ line (codes " has more than 8388608 bytes"))
line_of plugin (NotUtf8 name at) = codes "csswork: " ++ (encode_utf8_all name ++ (codes " is not UTF-8 at byte " ++ line (decimal at)))
line_of plugin (Syntax name fault) = codes "csswork: " ++ (encode_utf8_all name ++ (codes ":" ++ (decimal fault.place.line ++ (codes ":" ++ (decimal fault.place.column ++ (codes ": " ++ line (kind_name fault.kind)))))))
line_of plugin (PluginFailed text moment) = codes "csswork: plugin " ++ (encode_utf8_all plugin ++ (codes " failed at " ++ (moment_text moment ++ (codes ": " ++ line (encode_utf8_all text)))))
line_of plugin (BudgetSpent calls next) = codes "csswork: budget of " ++ (decimal calls ++ (codes " calls spent before " ++ line (moment_text next)))
line_of plugin (EditBudgetSpent edits budget at) = codes "csswork: edit budget of " ++ (decimal budget ++ (codes " passed with " ++ (decimal edits ++ (codes " edits at " ++ line (moment_text at)))))

-- how many bytes stand before the first wrong sequence of a text
abbrev pub wrong_at : TextFault → ℕ
wrong_at (T.NotUtf8 at) = at

abbrev pub status_of : Fault → ℕ
status_of Usage = 64
status_of (ReadFault name) = 1
status_of (WriteFault name) = 1
status_of (TooLarge name) = 1
status_of (NotUtf8 name at) = 1
status_of (Syntax name fault) = 1
status_of (PluginFailed text moment) = 1
status_of (BudgetSpent calls next) = 1
status_of (EditBudgetSpent edits budget at) = 1
