-- What the loop over the pieces of a text answers.
use Rattle.std.specs.Prelude.{◌≡◌, ℕ, List, Result, Ok, Err}
use Rattle.css_text.specs.declared.stop.Stop.{Stop}
use Rattle.css_text.specs.declared.stop.Stop.TheVariants as E
use Rattle.css_text.specs.Ahead.{byte_len, begins_bom}
use Rattle.node_rows.specs.declared.node_list.NodeAt.{NodeAt}
use Rattle.css_tree.specs.Pieces.{pieces_of}
use Rattle.css_tree.specs.Fault.{Fault, lexical_fault}
use Rattle.css_parse.specs.Machine.{Final, answer, faulty, done, start}

-- what the machine comes to over a whole text
abbrev pub whole : List ℕ → Final
whole s = answer (start (begins_bom s) (byte_len s)) (pieces_of s) (lexical_fault s)

abbrev pub IsRead : Result (List NodeAt) (Stop Fault) → List ℕ → Type 0
IsRead (Ok es) s = whole s ≡ done es
IsRead (Err (E.Fault f)) s = whole s ≡ faulty f
IsRead (Err (E.Memory e)) s = Unit {0}
