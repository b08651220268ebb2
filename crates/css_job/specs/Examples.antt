-- The answer on small inputs.
use Rattle.std.specs.Prelude.{◌≡◌, ℕ, List, [], ◌∷◌, Option, Some, None, Ok, Err, false, codes}
use Rattle.css_tree.specs.declared.fault.SyntaxFault.{SyntaxFault}
use Rattle.css_tree.specs.declared.fault.SyntaxKind.TheVariants as K
use Rattle.css_tree.specs.declared.node.NodeText.TheVariants as N
use Rattle.css_tree.specs.Tree.{Tree, none}
use Rattle.node_rows.specs.Nodes.{Node}
use Rattle.node_store.specs.declared.item.Edit.TheVariants as D
use Rattle.node_store.specs.declared.item.Event.TheVariants as E
use Rattle.node_store.specs.declared.item.Item.TheVariants as I
use Rattle.node_store.specs.declared.item.Moment.{Moment}
use Rattle.visitor_walk.specs.declared.walk_end.WalkEnd.TheVariants as W
use Rattle.css_tree.specs.Examples.{sheet, at, ending, plain, in_rule}
use Rattle.css_job.specs.Reading.{Reading, IsReadingOf}
use Rattle.command_words.specs.Words.{Command, command_of}
use Rattle.css_job.specs.TransformPlan.{Reached}
use Rattle.css_job.specs.Answer.{Object, Answer, input, write_to, answer}
use Rattle.css_job.specs.declared.fault.Fault.TheVariants.{Usage, ReadFault, WriteFault, NotUtf8, Syntax, PluginFailed, BudgetSpent, EditBudgetSpent}
use Rattle.css_job.specs.declared.target.Target.TheVariants.{StdOut, StdErr}

-- the names of the plugins of a shelf
abbrev pub names : List (List ℕ)
names = codes "drop-empty" ∷ codes "short-hex" ∷ []

abbrev pub asked_by : List (List ℕ) → Option Command
asked_by words = command_of names words

-- without a walk, what it came to doesn't matter
abbrev pub ended_by : List (List ℕ) → List ℕ → Reading → Option Object → Answer → Type 0
ended_by words bytes reading failed a = (reached : Reached) → answer (asked_by words) names bytes reading reached failed ≡ a

abbrev pub lint_words : List (List ℕ)
lint_words = codes "lint" ∷ []

abbrev pub transform_words : List (List ℕ)
transform_words = codes "transform" ∷ []

-- `a{}`
abbrev pub empty_rule : Tree
empty_rule = in_rule 3 (ending false []) none

abbrev pub empty_report : List ℕ
empty_report = codes "<stdin>\n  1:2  error  Unexpected empty block  block-no-empty\n\n1 problem (1 error, 0 warnings)\n"

-- an empty block is reported, and where the report can't be written nothing more is said
abbrev pub EmptyBlock : Type 0
EmptyBlock = IsReadingOf (codes "a{}") (Ok empty_rule)
    × (ended_by lint_words (codes "a{}") (Ok empty_rule) None (record { fault = None; status = 2; out = []; err = empty_report }))
    × (ended_by lint_words (codes "a{}") (Ok empty_rule) (Some (write_to StdErr)) (record { fault = Some (WriteFault (codes "<stderr>")); status = 1; out = []; err = empty_report }))

-- the root with these children, as a node
abbrev pub root_of : List ℕ → Node
root_of children = record { text = N.Root false (ending false []); span = Some (record { start = 0; end = 3 }); parent = None; children = children; dirty = false }

-- `a{}` as a node
abbrev pub rule_node : Node
rule_node = record { text = N.Rule (Some []) (plain (codes "a")) [] (ending false []); span = Some (record { start = 0; end = 3 }); parent = Some 0; children = []; dirty = false }

-- a walk without hooks
abbrev pub unhooked : Reached
unhooked = record { log = I.Pass ∷ I.Enter 0 ∷ I.Enter 1 ∷ I.Leave 1 ∷ I.Leave 0 ∷ I.End ∷ []; end = W.Done; nodes = root_of (1 ∷ []) ∷ rule_node ∷ [] }

-- it is printed as it is, and where the output fails a line says so
abbrev pub Printed : Type 0
Printed = (answer (asked_by transform_words) names (codes "a{}") (Ok empty_rule) unhooked None ≡ record { fault = None; status = 0; out = codes "a{}"; err = [] })
    × (answer (asked_by transform_words) names (codes "a{}") (Ok empty_rule) unhooked (Some (write_to StdOut)) ≡ record { fault = Some (WriteFault (codes "<stdout>")); status = 1; out = codes "a{}"; err = codes "csswork: cannot write <stdout>\n" })

abbrev pub drop_words : List (List ℕ)
drop_words = codes "transform" ∷ codes "--use=drop-empty" ∷ codes "--trace" ∷ []

abbrev pub leaving : Moment
leaving = record { event = E.RuleExit; node = 1 }

-- a walk that takes the rule out
abbrev pub dropped : Reached
dropped = record { log = I.Pass ∷ I.Enter 0 ∷ I.Enter 1 ∷ I.Call 0 0 leaving ∷ I.Edit (D.Remove 1) ∷ I.Back None ∷ I.Leave 1 ∷ I.Leave 0 ∷ I.Pass ∷ I.Enter 0 ∷ I.Leave 0 ∷ I.End ∷ []; end = W.Done; nodes = root_of [] ∷ record rule_node { parent = None } ∷ [] }

-- its trace goes first
abbrev pub Dropped : Type 0
Dropped = answer (asked_by drop_words) names (codes "a{}") (Ok empty_rule) dropped None
    ≡ record { fault = None; status = 0; out = []; err = codes "pass\nenter 0\nenter 1\ncall drop-empty/0 RuleExit 1\nedit remove 1\nback\nleave 1\nleave 0\npass\nenter 0\nleave 0\nend\n" }

-- a walk whose one call failed
abbrev pub failing : Reached
failing = record { log = I.Pass ∷ I.Enter 0 ∷ I.Enter 1 ∷ I.Call 0 0 leaving ∷ I.Back (Some (codes "no")) ∷ []; end = W.Failed (codes "no") leaving; nodes = root_of (1 ∷ []) ∷ rule_node ∷ [] }

-- nothing is printed, and a line after the trace says so
abbrev pub Failing : Type 0
Failing = answer (asked_by drop_words) names (codes "a{}") (Ok empty_rule) failing None
    ≡ record { fault = Some (PluginFailed (codes "no") leaving); status = 1; out = []; err = codes "pass\nenter 0\nenter 1\ncall drop-empty/0 RuleExit 1\nback fault\ncsswork: plugin drop-empty failed at RuleExit 1: no\n" }

-- walks that would have made too many calls, or made too many edits
abbrev pub Spent : Type 0
Spent = (answer (asked_by transform_words) names (codes "a{}") (Ok empty_rule) (record unhooked { end = W.BudgetSpent 10 leaving }) None ≡ record { fault = Some (BudgetSpent 10 leaving); status = 1; out = []; err = codes "csswork: budget of 10 calls spent before RuleExit 1\n" })
    × (answer (asked_by (codes "transform" ∷ codes "--edit-budget" ∷ codes "5" ∷ [])) names (codes "a{}") (Ok empty_rule) (record unhooked { end = W.EditBudgetSpent 6 leaving }) None ≡ record { fault = Some (EditBudgetSpent 6 5 leaving); status = 1; out = []; err = codes "csswork: edit budget of 5 passed with 6 edits at RuleExit 1\n" })

-- a block that holds a comment, inside an at-rule, and beside it one that holds nothing: `@b c{d /**/{}e{/**/}}`
abbrev pub nested : Tree
nested = sheet false 21 (ending false []) (at 0 21 (N.AtRule (Some []) (codes "b") (codes " ") (plain (codes "c")) [] (Some (ending false [])))
    (at 5 13 (N.Rule (Some []) (plain (codes "d")) (codes " /**/") (ending false [])) none
    (at 13 20 (N.Rule (Some []) (plain (codes "e")) [] (ending false [])) (at 15 19 (N.Comment (Some []) [] [] []) none none) none)) none)

abbrev pub Nested : Type 0
Nested = IsReadingOf (codes "@b c{d /**/{}e{/**/}}") (Ok nested)
    × (ended_by lint_words (codes "@b c{d /**/{}e{/**/}}") (Ok nested) None (record { fault = None; status = 2; out = []; err = codes "<stdin>\n  1:12  error  Unexpected empty block  block-no-empty\n\n1 problem (1 error, 0 warnings)\n" }))

abbrev pub unclosed : SyntaxFault
unclosed = record { kind = K.UnclosedString; at = 4; place = record { line = 1; column = 5 } }

-- a text that no sheet is
abbrev pub Unclosed : Type 0
Unclosed = IsReadingOf (codes "a{b:\"x") (Err unclosed)
    × (ended_by transform_words (codes "a{b:\"x") (Err unclosed) None (record { fault = Some (Syntax (codes "<stdin>") unclosed); status = 1; out = []; err = codes "csswork: <stdin>:1:5: UnclosedString\n" }))
    × (ended_by lint_words (codes "a{b:\"x") (Err unclosed) None (record { fault = None; status = 2; out = []; err = codes "<stdin>\n  1:5  error  UnclosedString  CssSyntaxError\n\n1 problem (1 error, 0 warnings)\n" }))

-- bytes that are no UTF-8, whatever they are read as
abbrev pub Wrong : Type 0
Wrong = (reading : Reading) → ended_by lint_words (0x61 ∷ 0xff ∷ []) reading None (record { fault = Some (NotUtf8 (codes "<stdin>") 1); status = 1; out = []; err = codes "csswork: <stdin> is not UTF-8 at byte 1\n" })

-- a read that failed
abbrev pub Broken : Type 0
Broken = (reading : Reading) → ended_by lint_words (codes "a{}") reading (Some input) (record { fault = Some (ReadFault (codes "<stdin>")); status = 1; out = []; err = codes "csswork: cannot read <stdin>\n" })

abbrev pub NoWord : Type 0
NoWord = (reading : Reading) → ended_by [] (codes "a{}") reading None (record { fault = Some Usage; status = 64; out = []; err = codes "usage: csswork transform|lint|sample\n" })
