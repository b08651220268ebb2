-- What the duties ask for at nodes of small sheets, and how open cursors are counted.
use Rattle.std.specs.Prelude.{◌≡◌, ℕ, List, [], ◌∷◌, ◌++◌, Bool, true, false, Option, Some, None, codes}
use Rattle.css_text.specs.declared.lexer.PieceKind.TheVariants.{Word, Quoted}
use Rattle.css_text.specs.ValueParts.{plain, function, none, value, written}
use Rattle.css_tree.specs.declared.node.Field.TheVariants as F
use Rattle.css_tree.specs.declared.node.NodeText.{NodeText}
use Rattle.css_tree.specs.declared.node.NodeText.TheVariants.{Root, Comment}
use Rattle.node_rows.specs.Nodes.{Node}
use Rattle.node_store.specs.declared.item.Event.{Event}
use Rattle.node_store.specs.declared.item.Event.TheVariants as E
use Rattle.node_store.specs.declared.item.Moment.{Moment}
use Rattle.node_store.specs.declared.item.Edit.TheVariants.{Set, Insert, Remove}
use Rattle.node_store.specs.Examples.{block, rule, node, passing}
use Rattle.plugin_api.specs.declared.visitor.Duty.TheVariants.{Quiet, DropComment, DropEmpty, Unnest}
use Rattle.plugin_api.specs.Effect.{short_word, shortened, IsEffect}
use Rattle.plugin_api.specs.Open.{open_total}

abbrev pub root : List ℕ → Node
root children = node (Root false block) None children

abbrev pub comment : List ℕ → List ℕ → NodeText
comment left text = Comment (Some []) left text []

-- a comment alone in the sheet
abbrev pub noted : NodeText → List Node
noted text = root (1 ∷ []) ∷ node text (Some 0) [] ∷ []

-- the rule 2 alone in the rule 1
abbrev pub nested : List ℕ → List ℕ → List Node
nested outer inner = root (1 ∷ []) ∷ node (rule outer) (Some 0) (2 ∷ []) ∷ node (rule inner) (Some 1) [] ∷ []

abbrev pub at : Event → ℕ → Moment
at event n = record { event = event; node = n }

-- Colours of six or eight digits in equal pairs, whatever their case, are shortened; other words stay.
abbrev pub ShortWords : Type 0
ShortWords = (short_word (codes "#aaBBcc") ≡ codes "#aBc")
    × (short_word (codes "#AabBcCDd") ≡ codes "#AbcD")
    × (short_word (codes "#aabbcd") ≡ codes "#aabbcd")
    × (short_word (codes "#aabb") ≡ codes "#aabb")
    × (short_word (codes "aabbcc") ≡ codes "aabbcc")
    × (short_word (codes "#gghhii") ≡ codes "#gghhii")

-- `f(#aabbcc)'#aabbcc'`: words inside a Function are shortened, and quoted texts stay
abbrev pub Shortened : Type 0
Shortened = written (shortened (value function 0 (codes "f") (value (plain Word) 2 (codes "#aabbcc") none true none) true (value (plain Quoted) 10 (codes "'#aabbcc'") none true none))) ≡ codes "f(#abc)'#aabbcc'"

-- A comment is removed when it is entered, unless its text begins with `!` at once.
abbrev pub Comments : Type 0
Comments = IsEffect DropComment (noted (comment [] (codes "x"))) (at E.Comment 1) (Remove 1 ∷ [])
    × IsEffect DropComment (noted (comment [] (codes "!x"))) (at E.Comment 1) []
    × IsEffect DropComment (noted (comment (codes " ") (codes "!x"))) (at E.Comment 1) (Remove 1 ∷ [])
    × IsEffect DropComment (noted (comment [] (codes "x"))) (at E.CommentExit 1) []

-- A rule is removed when it is left without children; one that has children stays, and so does the root.
abbrev pub Empty : Type 0
Empty = IsEffect DropEmpty (nested (codes "a") (codes "b")) (at E.RuleExit 2) (Remove 2 ∷ [])
    × IsEffect DropEmpty (nested (codes "a") (codes "b")) (at E.RuleExit 1) []
    × IsEffect DropEmpty (nested (codes "a") (codes "b")) (at E.Rule 2) []
    × IsEffect DropEmpty (root [] ∷ []) (at E.RootExit 0) []

-- `a{&:b{}}` becomes `a{}a:b{}`. A rule below a list of selectors stays, and so does one without `&` at its start.
abbrev pub Unnested : Type 0
Unnested = IsEffect Unnest (nested (codes "a") (codes "&:b")) (at E.RuleExit 1) (Set F.Selector 2 (codes "a:b") ∷ Remove 2 ∷ Insert 2 0 1 ∷ [])
    × IsEffect Unnest (nested (codes "a,c") (codes "&:b")) (at E.RuleExit 1) []
    × IsEffect Unnest (nested (codes "a") (codes "b &")) (at E.RuleExit 1) []
    × IsEffect Unnest (nested (codes "a") (codes "&b")) (at E.RuleExit 1) []

abbrev pub Nothing : Type 0
Nothing = IsEffect Quiet (nested (codes "a") (codes "&:b")) (at E.RuleExit 1) []

-- two of four serials have an open cursor
abbrev pub OpenCursors : Type 0
OpenCursors = open_total (None ∷ passing ∷ None ∷ passing ∷ []) ≡ 2
