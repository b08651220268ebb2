-- The lines of faults.
use Rattle.std.proofs.Common.{◌≡◌, ℕ, List, ◌++◌, Ok, Err, Result, sym, ap, ◌∙◌, string_bytes, codes, append_assoc}
use Rattle.std.specs.Prelude.{IfOk, decimal, encode_utf8_all}
use Rattle.std.specs.Str.{chars, IsUtf8}
use Rattle.std.proofs.lemmas.Str.{encodes-chars}
use Rattle.std.specs.declared.string.String.{String}
use Rattle.std.specs.declared.alloc.Global.{Global}
use Rattle.std.specs.declared.alloc.AllocError.{AllocError}
use Rattle.node_store.specs.declared.item.Moment.{Moment}
use Rattle.css_job.specs.Trace.{event_name, moment_text}
use Rattle.css_job.specs.Faults.{line_of}
use Rattle.css_job.specs.declared.fault.Fault.{Fault}
use Rattle.css_job.specs.declared.fault.Fault.TheVariants.{PluginFailed, BudgetSpent}

-- that of a fault of no plugin is the same for each
pub line_is : (r : Result (String Global) AllocError) (plugin : List ℕ) (f g : Fault) → g ≡ f → IfOk r (λ text. (p : List ℕ) → string_bytes text ≡ line_of p f) → IfOk r (λ text. string_bytes text ≡ line_of plugin g)
line_is (Ok text) plugin f g e h = h plugin ∙ ap (line_of plugin) (sym e)
line_is (Err x) plugin f g e h = tt

-- a moment in its parts, and what stands behind it
ends_in : (event : List ℕ) (node : ℕ) (m : Moment) → event ≡ event_name m.event → node ≡ m.node → (rest : List ℕ) → event ++ (codes " " ++ (decimal node ++ rest)) ≡ moment_text m ++ rest
ends_in event node m e n rest =
    ap (λ x. x ++ (codes " " ++ (decimal node ++ rest))) e
    ∙ (ap (λ x. event_name m.event ++ (codes " " ++ (decimal x ++ rest))) n ∙ sym (append_assoc (event_name m.event) (codes " " ++ decimal m.node) rest))

-- the line of a spent budget, in its parts
pub budget_line : (r : Result (String Global) AllocError) (calls node : ℕ) (event : List ℕ) (next : Moment) → event ≡ event_name next.event → node ≡ next.node
    → IfOk r (λ text. string_bytes text ≡ codes "csswork: budget of " ++ (decimal calls ++ (codes " calls spent before " ++ (event ++ (codes " " ++ (decimal node ++ codes "\n"))))))
    → IfOk r (λ text. (plugin : List ℕ) → string_bytes text ≡ line_of plugin (BudgetSpent calls next))
budget_line (Ok text) calls node event next e n h = λ plugin.
    h ∙ ap (λ x. codes "csswork: budget of " ++ (decimal calls ++ (codes " calls spent before " ++ x))) (ends_in event node next e n (codes "\n"))
budget_line (Err x) calls node event next e n h = tt

-- and that of a plugin's fault
pub failed_line : (r : Result (String Global) AllocError) (plugin text : List ℕ) (node : ℕ) (event bytes : List ℕ) (moment : Moment) → IsUtf8 plugin → event ≡ event_name moment.event → node ≡ moment.node → bytes ≡ encode_utf8_all text
    → IfOk r (λ line. string_bytes line ≡ codes "csswork: plugin " ++ (plugin ++ (codes " failed at " ++ (event ++ (codes " " ++ (decimal node ++ (codes ": " ++ (bytes ++ codes "\n"))))))))
    → IfOk r (λ line. string_bytes line ≡ line_of (chars plugin) (PluginFailed text moment))
failed_line (Ok line) plugin text node event bytes moment u e n t h =
    h
    ∙ (ap (λ x. codes "csswork: plugin " ++ (plugin ++ (codes " failed at " ++ x))) (ends_in event node moment e n (codes ": " ++ (bytes ++ codes "\n")))
    ∙ (ap (λ x. codes "csswork: plugin " ++ (plugin ++ (codes " failed at " ++ (moment_text moment ++ (codes ": " ++ (x ++ codes "\n")))))) t
    ∙ ap (λ x. codes "csswork: plugin " ++ (x ++ (codes " failed at " ++ (moment_text moment ++ (codes ": " ++ (encode_utf8_all text ++ codes "\n")))))) (sym (encodes-chars plugin u))))
failed_line (Err x) plugin text node event bytes moment u e n t h = tt
