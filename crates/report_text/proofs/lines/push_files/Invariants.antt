use Rattle.std.proofs.Common.{◌≡◌, ◌++◌, take, string_bytes}
use Rattle.std.specs.List.{flat_map}
use Rattle.report_text.specs.Lines.{file_lines}
use Rattle.report_text.proofs.lines.push_files.Given as goal

abbrev pub invariant-loop-file : goal.invariant-loop-file
invariant-loop-file l = string_bytes l.to ≡ string_bytes l.fn.to ++ flat_map file_lines (take l.file-index l.files)
