-- The trace of a walk: a line for each item of its log.
use Rattle.std.specs.Prelude.{ℕ, List, [], ◌∷◌, ◌++◌, Some, None, codes, decimal, encode_utf8_all, slice_index_or}
use Rattle.std.specs.List.{flat_map}
use Rattle.css_tree.specs.declared.node.Field.{Field}
use Rattle.css_tree.specs.declared.node.Field.TheVariants as F
use Rattle.css_tree.specs.declared.node.Raw.{Raw}
use Rattle.css_tree.specs.declared.node.Raw.TheVariants as R
use Rattle.node_store.specs.declared.item.Event.{Event}
use Rattle.node_store.specs.declared.item.Event.TheVariants as E
use Rattle.node_store.specs.declared.item.Edit.{Edit}
use Rattle.node_store.specs.declared.item.Edit.TheVariants as D
use Rattle.node_store.specs.declared.item.Item.{Item}
use Rattle.node_store.specs.declared.item.Item.TheVariants as I
use Rattle.node_store.specs.declared.item.Moment.{Moment}

abbrev pub line : List ℕ → List ℕ
line s = s ++ 10 ∷ []

abbrev pub event_name : Event → List ℕ
event_name E.Once = codes "Once"
event_name E.Root = codes "Root"
event_name E.RootExit = codes "RootExit"
event_name E.AtRule = codes "AtRule"
event_name E.AtRuleExit = codes "AtRuleExit"
event_name E.Rule = codes "Rule"
event_name E.RuleExit = codes "RuleExit"
event_name E.Declaration = codes "Declaration"
event_name E.DeclarationExit = codes "DeclarationExit"
event_name E.Comment = codes "Comment"
event_name E.CommentExit = codes "CommentExit"
event_name E.OnceExit = codes "OnceExit"

abbrev pub field_name : Field → List ℕ
field_name F.Prop = codes "prop"
field_name F.Value = codes "value"
field_name F.Important = codes "important"
field_name F.Selector = codes "selector"
field_name F.Name = codes "name"
field_name F.Params = codes "params"
field_name F.Text = codes "text"

abbrev pub raw_name : Raw → List ℕ
raw_name R.Before = codes "before"
raw_name R.After = codes "after"
raw_name R.Between = codes "between"
raw_name R.AfterName = codes "afterName"
raw_name R.Left = codes "left"
raw_name R.Right = codes "right"
raw_name R.Important = codes "important"
raw_name R.Tail = codes "tail"
raw_name R.Semicolon = codes "semicolon"

-- an event and a node's number
abbrev pub moment_text : Moment → List ℕ
moment_text m = event_name m.event ++ (codes " " ++ decimal m.node)

-- the bytes of the name of the plugin at a place of the shelf
abbrev pub name_at : List (List ℕ) → ℕ → List ℕ
name_at names place = encode_utf8_all (slice_index_or names place [])

abbrev pub edit_text : Edit → List ℕ
edit_text (D.Set field node text) = codes "edit set " ++ (decimal node ++ (codes " " ++ field_name field))
edit_text (D.SetRaw raw node text) = codes "edit raw " ++ (decimal node ++ (codes " " ++ raw_name raw))
edit_text (D.New node text span) = codes "edit new " ++ decimal node
edit_text (D.Insert node parent at) = codes "edit insert " ++ (decimal node ++ (codes " under " ++ (decimal parent ++ (codes " at " ++ decimal at))))
edit_text (D.Remove node) = codes "edit remove " ++ decimal node

-- the call of the hook at a place of the plugin of that name, which is written in bytes
abbrev pub call_text : List ℕ → ℕ → Moment → List ℕ
call_text name hook moment = codes "call " ++ (name ++ (codes "/" ++ (decimal hook ++ (codes " " ++ moment_text moment))))

abbrev pub item_text : List (List ℕ) → Item → List ℕ
item_text names I.Pass = codes "pass"
item_text names (I.Enter node) = codes "enter " ++ decimal node
item_text names (I.Call plugin hook moment) = call_text (name_at names plugin) hook moment
item_text names (I.Edit e) = edit_text e
item_text names (I.Back None) = codes "back"
item_text names (I.Back (Some text)) = codes "back fault"
item_text names (I.Leave node) = codes "leave " ++ decimal node
item_text names I.End = codes "end"

-- the trace of a log, where the plugins of the shelf have these names
unfoldable pub trace : List (List ℕ) → List Item → List ℕ
trace names log = flat_map (λ i. line (item_text names i)) log

abbrev pub called_last : List ℕ → List (List ℕ) → List Item → List ℕ
called_last name names [] = name
called_last name names (I.Call plugin hook moment ∷ is) = called_last (slice_index_or names plugin []) names is
called_last name names (_ ∷ is) = called_last name names is

-- the name of the plugin whose hook was called last
unfoldable pub caller : List (List ℕ) → List Item → List ℕ
caller names log = called_last [] names log
