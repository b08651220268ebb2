-- Small runs: logs of hooks on small trees, and what they leave.
use Rattle.std.specs.Prelude.{◌≡◌, ℕ, List, [], ◌∷◌, ◌++◌, Option, Some, None, true, false, Bool, map, length, codes}
use Rattle.css_tree.specs.declared.node.Field.TheVariants as F
use Rattle.css_tree.specs.declared.node.NodeText.{NodeText}
use Rattle.css_tree.specs.declared.node.NodeText.TheVariants as N
use Rattle.css_tree.specs.declared.node.Block.{Block}
use Rattle.css_tree.specs.declared.node.Source.{Source}
use Rattle.node_rows.specs.Nodes.{Node}
use Rattle.node_store.specs.declared.item.Event.{Event}
use Rattle.node_store.specs.declared.item.Event.TheVariants as E
use Rattle.node_store.specs.declared.item.Edit.{Edit}
use Rattle.node_store.specs.declared.item.Edit.TheVariants.{Set, New, Insert, Remove}
use Rattle.node_store.specs.declared.item.Item.{Item}
use Rattle.node_store.specs.declared.item.Item.TheVariants as I
use Rattle.visitor_machine.specs.Hooks.{PickedHook}
use Rattle.visitor_machine.specs.Machine.{State, Stage, Ended, Opening, Walking, Passing, Closing, Stopped}
use Rattle.visitor_machine.specs.Follow.{follow, start}

abbrev pub block : Block
block = record { semicolon = false; after = Some [] }

abbrev pub plain : List ℕ → Source
plain text = record { source = text; clean = text }

abbrev pub rule : List ℕ → NodeText
rule selector = N.Rule (Some []) (plain selector) [] block

abbrev pub declaration : List ℕ → NodeText
declaration prop = N.Declaration (Some []) prop (codes ":") (plain (codes "c")) false [] []

-- a dirty node below a parent, with children
abbrev pub node : NodeText → Option ℕ → List ℕ → Node
node text parent children = record { text = text; span = None; parent = parent; children = children; dirty = true }

abbrev pub root : List ℕ → Node
root children = node (N.Root false block) None children

-- `a{b{}}`
abbrev pub nested : List Node
nested = root (1 ∷ []) ∷ node (rule (codes "a")) (Some 0) (2 ∷ []) ∷ node (rule (codes "b")) (Some 1) [] ∷ []

-- `a{}b{}`
abbrev pub beside : List Node
beside = root (1 ∷ 2 ∷ []) ∷ node (rule (codes "a")) (Some 0) [] ∷ node (rule (codes "b")) (Some 0) [] ∷ []

-- `a{}`
abbrev pub single : List Node
single = root (1 ∷ []) ∷ node (rule (codes "a")) (Some 0) [] ∷ []

-- `a{b:c}`
abbrev pub declared : List Node
declared = root (1 ∷ []) ∷ node (rule (codes "a")) (Some 0) (2 ∷ []) ∷ node (declaration (codes "b")) (Some 1) [] ∷ []

-- one hook without a filter
abbrev pub hook_at : Event → List PickedHook
hook_at e = record { plugin = 0; hook = 0; event = e; filter = None } ∷ []

-- and another one at the same event, with a filter
abbrev pub filtered_at : Event → List ℕ → List PickedHook
filtered_at e text = hook_at e ++ record { plugin = 0; hook = 1; event = e; filter = Some text } ∷ []

abbrev pub call : ℕ → Event → ℕ → Item
call hook e n = I.Call 0 hook (record { event = e; node = n })

-- a call of a hook at a node, its edits, and its end
abbrev pub called : ℕ → Event → ℕ → List Edit → List Item
called hook e n edits = call hook e n ∷ (map (λ x. I.Edit x) edits ++ I.Back None ∷ [])

abbrev pub is_ended : Stage → Bool
is_ended Ended = true
is_ended _ = false

-- whether the run is whole, and each node's children and mark at its end
abbrev pub outcome : Option State → Bool × List (List ℕ × Bool)
outcome None = (false, [])
outcome (Some s) = (is_ended s.stage, map (λ x. (x.children, x.dirty)) s.nodes)

abbrev pub outcome_of : List PickedHook → List Node → List Item → Bool × List (List ℕ × Bool)
outcome_of hs ns log = outcome (follow hs 1000 (start hs ns) log)

-- a rule put in before or behind the second one is visited too
abbrev pub InsertedBefore : Type 0
InsertedBefore = outcome_of (hook_at E.Rule) beside (
    I.Pass ∷ I.Enter 0 ∷ I.Enter 1 ∷ called 0 E.Rule 1 [] ++ I.Leave 1 ∷ I.Enter 2 ∷ called 0 E.Rule 2 (New 3 (rule (codes "n")) None ∷ Insert 3 0 1 ∷ []) ++ I.Leave 2 ∷ I.Leave 0 ∷
    I.Pass ∷ I.Enter 0 ∷ I.Enter 3 ∷ called 0 E.Rule 3 [] ++ I.Leave 3 ∷ I.Leave 0 ∷ I.End ∷ [])
    ≡ (true, (1 ∷ 3 ∷ 2 ∷ [], false) ∷ ([], false) ∷ ([], false) ∷ ([], false) ∷ [])

abbrev pub InsertedBehind : Type 0
InsertedBehind = outcome_of (hook_at E.Rule) beside (
    I.Pass ∷ I.Enter 0 ∷ I.Enter 1 ∷ called 0 E.Rule 1 [] ++ I.Leave 1 ∷ I.Enter 2 ∷ called 0 E.Rule 2 (New 3 (rule (codes "n")) None ∷ Insert 3 0 2 ∷ []) ++ I.Leave 2 ∷
    I.Enter 3 ∷ called 0 E.Rule 3 [] ++ I.Leave 3 ∷ I.Leave 0 ∷ I.Pass ∷ I.Enter 0 ∷ I.Leave 0 ∷ I.End ∷ [])
    ≡ (true, (1 ∷ 2 ∷ 3 ∷ [], false) ∷ ([], false) ∷ ([], false) ∷ ([], false) ∷ [])

-- the rule behind one that is taken out is visited all the same; then the log isn't whole before a second pass
abbrev pub TakenOut : Type 0
TakenOut = (outcome_of (hook_at E.Rule) beside (
    I.Pass ∷ I.Enter 0 ∷ I.Enter 1 ∷ called 0 E.Rule 1 (Remove 1 ∷ []) ++ I.Leave 1 ∷ I.Enter 2 ∷ called 0 E.Rule 2 [] ++ I.Leave 2 ∷ I.Leave 0 ∷
    I.Pass ∷ I.Enter 0 ∷ I.Leave 0 ∷ I.End ∷ [])
    ≡ (true, (2 ∷ [], false) ∷ ([], false) ∷ ([], false) ∷ []))
    × (outcome_of (hook_at E.Rule) beside (
    I.Pass ∷ I.Enter 0 ∷ I.Enter 1 ∷ called 0 E.Rule 1 (Remove 1 ∷ []) ++ I.Leave 1 ∷ I.Enter 2 ∷ called 0 E.Rule 2 [] ++ I.Leave 2 ∷ I.Leave 0 ∷ I.End ∷ [])
    ≡ (false, []))

-- a rule and the one inside it are exchanged while both are open
abbrev pub Exchanged : Type 0
Exchanged = outcome_of (hook_at E.Rule) nested (
    I.Pass ∷ I.Enter 0 ∷ I.Enter 1 ∷ called 0 E.Rule 1 [] ++ I.Enter 2 ∷ called 0 E.Rule 2 (Remove 2 ∷ Insert 2 0 0 ∷ Remove 1 ∷ Insert 1 2 0 ∷ []) ++
    I.Enter 1 ∷ called 0 E.Rule 1 [] ++ I.Leave 1 ∷ I.Leave 2 ∷ I.Leave 1 ∷ I.Leave 0 ∷
    I.Pass ∷ I.Enter 0 ∷ I.Enter 2 ∷ called 0 E.Rule 2 [] ++ I.Leave 2 ∷ I.Leave 0 ∷ I.End ∷ [])
    ≡ (true, (2 ∷ [], false) ∷ ([], false) ∷ (1 ∷ [], false) ∷ [])

-- an open rule is taken out from inside; one that moves behind its sibling is visited again
abbrev pub Moved : Type 0
Moved = (outcome_of (hook_at E.Rule) nested (
    I.Pass ∷ I.Enter 0 ∷ I.Enter 1 ∷ called 0 E.Rule 1 [] ++ I.Enter 2 ∷ called 0 E.Rule 2 (Remove 1 ∷ []) ++ I.Leave 2 ∷ I.Leave 1 ∷ I.Leave 0 ∷
    I.Pass ∷ I.Enter 0 ∷ I.Leave 0 ∷ I.End ∷ [])
    ≡ (true, ([], false) ∷ (2 ∷ [], false) ∷ ([], false) ∷ []))
    × (outcome_of (hook_at E.RuleExit) beside (
    I.Pass ∷ I.Enter 0 ∷ I.Enter 1 ∷ called 0 E.RuleExit 1 (Remove 1 ∷ Insert 1 0 1 ∷ []) ++ I.Leave 1 ∷ I.Enter 2 ∷ called 0 E.RuleExit 2 [] ++ I.Leave 2 ∷
    I.Enter 1 ∷ called 0 E.RuleExit 1 [] ++ I.Leave 1 ∷ I.Leave 0 ∷ I.Pass ∷ I.Enter 0 ∷ I.Leave 0 ∷ I.End ∷ [])
    ≡ (true, (2 ∷ 1 ∷ [], false) ∷ ([], false) ∷ ([], false) ∷ []))

-- a filter is compared with the property that the node has when the hook comes up
abbrev pub LateFilter : Type 0
LateFilter = outcome_of (filtered_at E.Declaration (codes "X")) declared (
    I.Pass ∷ I.Enter 0 ∷ I.Enter 1 ∷ I.Enter 2 ∷ called 0 E.Declaration 2 (Set F.Prop 2 (codes "x") ∷ []) ++ called 1 E.Declaration 2 [] ++ I.Leave 2 ∷ I.Leave 1 ∷ I.Leave 0 ∷
    I.Pass ∷ I.Enter 0 ∷ I.Enter 1 ∷ I.Enter 2 ∷ called 0 E.Declaration 2 [] ++ called 1 E.Declaration 2 [] ++ I.Leave 2 ∷ I.Leave 1 ∷ I.Leave 0 ∷ I.End ∷ [])
    ≡ (true, (1 ∷ [], false) ∷ (2 ∷ [], false) ∷ ([], false) ∷ [])

abbrev pub stage_of : Option State → Option Stage
stage_of None = None
stage_of (Some s) = Some s.stage

abbrev pub stage_after : ℕ → Event → List Item → Option Stage
stage_after most e log = stage_of (follow (hook_at e) most (start (hook_at e) single) log)

-- with a budget of no edits, nothing follows the end of a call with one
abbrev pub TooManyEdits : Type 0
TooManyEdits = (stage_after 0 E.RuleExit (I.Pass ∷ I.Enter 0 ∷ I.Enter 1 ∷ called 0 E.RuleExit 1 (Remove 1 ∷ [])) ≡ Some Stopped)
    × (stage_after 0 E.RuleExit (I.Pass ∷ I.Enter 0 ∷ I.Enter 1 ∷ called 0 E.RuleExit 1 (Remove 1 ∷ []) ++ I.Leave 1 ∷ []) ≡ None)

-- nothing follows a call that failed
abbrev pub FailedCall : Type 0
FailedCall = (stage_after 9 E.Rule (I.Pass ∷ I.Enter 0 ∷ I.Enter 1 ∷ call 0 E.Rule 1 ∷ I.Back (Some (codes "no")) ∷ []) ≡ Some Stopped)
    × (stage_after 9 E.Rule (I.Pass ∷ I.Enter 0 ∷ I.Enter 1 ∷ call 0 E.Rule 1 ∷ I.Back (Some (codes "no")) ∷ I.Leave 1 ∷ []) ≡ None)

-- an edit that changes nothing is no item of a run, nor is one outside a call
abbrev pub NoEdit : Type 0
NoEdit = (stage_after 9 E.Rule (I.Pass ∷ I.Enter 0 ∷ I.Enter 1 ∷ call 0 E.Rule 1 ∷ I.Edit (Set F.Selector 1 (codes "a")) ∷ []) ≡ None)
    × (stage_after 9 E.Rule (I.Pass ∷ I.Enter 0 ∷ I.Edit (Remove 1) ∷ []) ≡ None)
