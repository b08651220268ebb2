-- The traces of small logs.
use Rattle.std.specs.Prelude.{◌≡◌, ℕ, List, [], ◌∷◌, ◌++◌, Some, None, codes}
use Rattle.std.specs.List.{flat_map}
use Rattle.css_tree.specs.declared.node.Field.TheVariants as F
use Rattle.css_tree.specs.declared.node.Raw.TheVariants as R
use Rattle.css_tree.specs.declared.node.NodeText.TheVariants as N
use Rattle.node_store.specs.declared.item.Event.{Event}
use Rattle.node_store.specs.declared.item.Event.TheVariants as E
use Rattle.node_store.specs.declared.item.Edit.TheVariants as D
use Rattle.node_store.specs.declared.item.Item.{Item}
use Rattle.node_store.specs.declared.item.Item.TheVariants as I
use Rattle.css_job.specs.Trace.{line, event_name, field_name, raw_name, trace, caller}

-- a call at a node, and that it came back
abbrev pub called : ℕ → ℕ → Event → ℕ → Item
called plugin hook event node = I.Call plugin hook (record { event = event; node = node })

abbrev pub back : Item
back = I.Back None

-- `@media print{a{b{}}}`, whose empty blocks are dropped from the inside out
abbrev pub dropped : List Item
dropped = I.Pass ∷ I.Enter 0 ∷ I.Enter 1 ∷ I.Enter 2 ∷ I.Enter 3
    ∷ called 0 0 E.RuleExit 3 ∷ I.Edit (D.Remove 3) ∷ back ∷ I.Leave 3
    ∷ called 0 0 E.RuleExit 2 ∷ I.Edit (D.Remove 2) ∷ back ∷ I.Leave 2
    ∷ called 0 1 E.AtRuleExit 1 ∷ I.Edit (D.Remove 1) ∷ back ∷ I.Leave 1
    ∷ I.Leave 0 ∷ I.Pass ∷ I.Enter 0 ∷ I.Leave 0 ∷ I.End ∷ []

abbrev pub Dropped : Type 0
Dropped = trace (codes "drop-empty" ∷ []) dropped ≡ codes "pass\nenter 0\nenter 1\nenter 2\nenter 3\ncall drop-empty/0 RuleExit 3\nedit remove 3\nback\nleave 3\ncall drop-empty/0 RuleExit 2\nedit remove 2\nback\nleave 2\ncall drop-empty/1 AtRuleExit 1\nedit remove 1\nback\nleave 1\nleave 0\npass\nenter 0\nleave 0\nend\n"

-- one edit of each kind, and then a fault
abbrev pub edited : List Item
edited = called 1 0 E.Declaration 12
    ∷ I.Edit (D.Set F.Value 12 (codes "x"))
    ∷ I.Edit (D.SetRaw R.AfterName 7 [])
    ∷ I.Edit (D.New 13 (N.Comment None [] (codes "k") []) None)
    ∷ I.Edit (D.Insert 13 7 10)
    ∷ I.Edit (D.Remove 12)
    ∷ I.Back (Some (codes "no")) ∷ []

abbrev pub two_names : List (List ℕ)
two_names = codes "p" ∷ codes "q" ∷ []

abbrev pub Edited : Type 0
Edited = trace two_names edited ≡ codes "call q/0 Declaration 12\nedit set 12 value\nedit raw 7 afterName\nedit new 13\nedit insert 13 under 7 at 10\nedit remove 12\nback fault\n"

-- a name is written in UTF-8, and a place that the shelf doesn't have has no name
abbrev pub Names : Type 0
Names = (trace (codes "é" ∷ []) (called 0 2 E.Once 0 ∷ []) ≡ codes "call " ++ 0xc3 ∷ 0xa9 ∷ codes "/2 Once 0\n")
    × (trace two_names (called 2 0 E.Once 0 ∷ []) ≡ codes "call /0 Once 0\n")
    × (trace two_names [] ≡ [])

abbrev pub Spelt : Type 0
Spelt = (flat_map (λ e. line (event_name e)) (E.Once ∷ E.Root ∷ E.RootExit ∷ E.AtRule ∷ E.AtRuleExit ∷ E.Rule ∷ E.RuleExit ∷ E.Declaration ∷ E.DeclarationExit ∷ E.Comment ∷ E.CommentExit ∷ E.OnceExit ∷ []) ≡ codes "Once\nRoot\nRootExit\nAtRule\nAtRuleExit\nRule\nRuleExit\nDeclaration\nDeclarationExit\nComment\nCommentExit\nOnceExit\n")
    × (flat_map (λ f. line (field_name f)) (F.Prop ∷ F.Value ∷ F.Important ∷ F.Selector ∷ F.Name ∷ F.Params ∷ F.Text ∷ []) ≡ codes "prop\nvalue\nimportant\nselector\nname\nparams\ntext\n")
    × (flat_map (λ r. line (raw_name r)) (R.Before ∷ R.After ∷ R.Between ∷ R.AfterName ∷ R.Left ∷ R.Right ∷ R.Important ∷ R.Tail ∷ R.Semicolon ∷ []) ≡ codes "before\nafter\nbetween\nafterName\nleft\nright\nimportant\ntail\nsemicolon\n")

-- the last call counts, and not what follows it; without one the name is empty
abbrev pub Caller : Type 0
Caller = (caller two_names (called 0 0 E.Once 0 ∷ back ∷ edited) ≡ codes "q")
    × (caller two_names (edited ++ called 0 1 E.Rule 2 ∷ back ∷ I.End ∷ []) ≡ codes "p")
    × (caller two_names (I.Pass ∷ I.Enter 0 ∷ I.Leave 0 ∷ I.End ∷ []) ≡ [])
