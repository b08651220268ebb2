-- The walk between two calls: how the open visits of the code show the machine's, and where its steps lead.
use Rattle.std.specs.Prelude.{◌≡◌, ◌≢◌, ℕ, ◌+◌, List, [], ◌∷◌, ◌++◌, true, false, drop, Option, Some, None, Result, Ok, Err, IfOk, IfSome, IsSome, slice_get, length, ◌<◌, ◌≤◌, ◌*◌, ◌⊎◌, count_by, filter}
use Rattle.std.specs.declared.alloc.AllocError.{AllocError}
use Rattle.node_rows.specs.Nodes.{Node, is_dirty, children_of}
use Rattle.node_rows.specs.Marks.{with_mark}
use Rattle.node_store.specs.declared.item.Item.{Item}
use Rattle.node_store.specs.declared.item.Item.TheVariants as I
use Rattle.node_store.specs.Forest.{Forest, Place, cursor_at}
use Rattle.node_store.specs.Cursors.{through, first_of}
use Rattle.node_store.specs.Edits.{apply}
use Rattle.node_store.specs.declared.item.Event.TheVariants as E
use Rattle.visitor_machine.specs.Hooks.{PickedHook, fits, is_at}
use Rattle.visitor_machine.specs.Machine.{called, key_at, Frame, Stage, State, turn_in, walking, turn, item_of, done, closing}
use Rattle.visitor_machine.specs.Follow.{follow}
use Rattle.visitor_machine.specs.Settled.{IsInTree}
use Rattle.visitor_walk.specs.declared.turn.Open.{Open}
use Rattle.visitor_walk.specs.declared.turn.Due.{Due}
use Rattle.visitor_walk.specs.declared.turn.Next.{Next}
use Rattle.visitor_walk.specs.declared.hooks.RunHook.{RunHook}
use Rattle.visitor_walk.specs.declared.hooks.RunHooks.{RunHooks}
use Rattle.visitor_walk.specs.Groups.{shown_hooks, group_of}
use Rattle.plugin_api.specs.Open.{open_total}
use Rattle.plugin_api.specs.Shelf.{PluginSeen, hook_at}
use Rattle.node_store.specs.declared.item.Event.{Event}

-- the cursor of a visit, where it has one, stands behind so many children of the node; with none no child is passed
abbrev pub IsSeated : List (Option Place) → Option ℕ → ℕ → ℕ → Type 0
IsSeated cs None node passed = passed ≡ 0
IsSeated cs (Some serial) node passed = cursor_at cs serial ≡ Some (record { container = node; passed = passed })

-- the cursor of a visit, where it has one, isn't the one of the serial
abbrev pub Apart : Option ℕ → ℕ → Type 0
Apart None serial = Unit {0}
Apart (Some s) serial = s ≢ serial

abbrev pub AllApart : List Open → ℕ → Type 0
AllApart [] serial = Unit {0}
AllApart (o ∷ os) serial = Apart o.children serial × AllApart os serial

-- how many cursors a visit has
abbrev pub held_by : Option ℕ → ℕ
held_by None = 0
held_by (Some serial) = 1

-- how many the visits have
abbrev pub held : List Open → ℕ
held [] = 0
held (o ∷ os) = held_by o.children + held os

-- the visits have other cursors
abbrev pub AreOthers : Option ℕ → List Open → Type 0
AreOthers None os = Unit {0}
AreOthers (Some s) os = AllApart os s

pub record IsShown (cs : List (Option Place)) (o : Open) (f : Frame) : Type 0 where
  pub node : f.node ≡ o.node
  pub enter : f.enter ≡ o.enter
  pub exit : f.exit ≡ o.exit
  pub seat : IsSeated cs o.children o.node f.passed

-- the open visits of the code, the innermost first, each with a cursor of its own, are those of the machine
abbrev pub AllShown : List (Option Place) → List Open → List Frame → Type 0
AllShown cs [] [] = Unit {0}
AllShown cs (o ∷ os) (f ∷ fs) = IsShown cs o f × (AreOthers o.children os × AllShown cs os fs)
AllShown cs _ _ = ⊥

-- the cursors of the visits are open
abbrev pub AreOpen : List (Option Place) → List Open → Type 0
AreOpen cs os = (fs : List Frame) × AllShown cs os fs

-- A visit was known to be in the tree at no later edit than the last, and where it was at the last, its node is in the tree.
pub record IsSure (ns : List Node) (edits : ℕ) (o : Open) : Type 0 where
  pub past : o.sure ≤ edits
  pub there : o.sure ≡ edits → IsInTree ns o.node

abbrev pub AllSure : List Node → ℕ → List Open → Type 0
AllSure ns edits [] = Unit {0}
AllSure ns edits (o ∷ os) = IsSure ns edits o × AllSure ns edits os

-- the code stands where the machine does
pub record Shows (f : Forest) (os : List Open) (s : State) : Type 0 where
  pub nodes : s.nodes ≡ f.nodes
  pub free : s.calling ≡ false
  pub frames : AllShown f.cursors os s.frames
  pub sure : AllSure f.nodes s.edits os

-- the stage is one of a pass
abbrev pub IsPass : List PickedHook → Stage → Type 0
IsPass hs stage = (ns : _) (fs : _) → turn_in hs ns fs stage ≡ walking hs ns fs

-- items of the walk that are no calls
abbrev pub IsPlain : List Item → Type 0
IsPlain [] = Unit {0}
IsPlain (I.Pass ∷ is) = IsPlain is
IsPlain (I.Enter n ∷ is) = IsPlain is
IsPlain (I.Leave n ∷ is) = IsPlain is
IsPlain (I.End ∷ is) = IsPlain is
IsPlain _ = ⊥

-- the nodes after the items
abbrev pub nodes_through : List Node → List Item → List Node
nodes_through ns [] = ns
nodes_through ns (I.Edit e ∷ is) = nodes_through (apply ns e) is
nodes_through ns (I.Enter n ∷ is) = nodes_through (with_mark ns n false) is
nodes_through ns (_ ∷ is) = nodes_through ns is

-- The walk logged what the machine does from the state, with no call, and cursors beside those of its visits stay.
pub record Strolls (hs : List PickedHook) (most : ℕ) (f : Forest) (os : List Open) (s : State) (g : Forest) : Type 0 where
  pub items : List Item
  pub state : State
  pub run : follow hs most s items ≡ Some state
  pub plain : IsPlain items
  pub text : g.text ≡ f.text
  pub log : g.log ≡ f.log ++ items
  pub nodes : g.nodes ≡ state.nodes
  pub through : state.nodes ≡ nodes_through s.nodes items
  pub edits : state.edits ≡ s.edits
  pub kept : (serial : ℕ) (c : Place) → cursor_at f.cursors serial ≡ Some c → AllApart os serial → cursor_at g.cursors serial ≡ Some c

-- Cursors that were not of the visits are not of them now, and as many are open beside theirs as before.
pub record StayApart (f g : Forest) (os us : List Open) : Type 0 where
  pub apart : (serial : ℕ) (c : Place) → cursor_at f.cursors serial ≡ Some c → AllApart os serial → AllApart us serial
  pub count : open_total g.cursors + held os ≡ open_total f.cursors + held us

-- as many are open as before, beside the cursor of a visit that has another now
abbrev pub AsMany : Forest → Forest → Option ℕ → Option ℕ → Type 0
AsMany f g old new = open_total g.cursors + held_by old ≡ open_total f.cursors + held_by new

-- The machine makes that call next, and the visits of the code are already those after it.
pub record IsDue (hs : List PickedHook) (g : Forest) (os : List Open) (t : State) (due : Due) : Type 0 where
  pub item : item_of (turn hs t) ≡ Some (I.Call due.plugin due.hook due.moment)
  pub before : t.nodes ≡ g.nodes
  pub free : t.calling ≡ false
  pub calling : (done hs t (turn hs t)).calling ≡ true
  pub nodes : (done hs t (turn hs t)).nodes ≡ g.nodes
  pub frames : AllShown g.cursors os (done hs t (turn hs t)).frames
  pub sure : AllSure g.nodes t.edits os

-- after a turn: nothing is due yet, or a call is
abbrev pub Turned : List PickedHook → Forest → Forest → List Open → List Open → State → State → Option Due → Type 0
Turned hs f g os us s t None = Shows g us t × (StayApart f g os us × (t.stage ≡ s.stage))
Turned hs f g os us s t (Some due) = IsDue hs g us t due × (StayApart f g os us × ((done hs t (turn hs t)).stage ≡ s.stage))

-- the first dirty child of the node that isn't passed
abbrev pub due_child : List Node → ℕ → ℕ → Option (ℕ × ℕ)
due_child ns n passed = through (is_dirty ns) (drop passed (children_of ns n))

abbrev pub passed_with : ℕ → Option (ℕ × ℕ) → ℕ
passed_with passed None = passed
passed_with passed (Some x) = passed + x.1

-- the text, the nodes and the log stay
pub record SameBeside (f g : Forest) : Type 0 where
  pub text : g.text ≡ f.text
  pub nodes : g.nodes ≡ f.nodes
  pub log : g.log ≡ f.log

-- a node whose visit has no cursor has no children
abbrev pub IsEmptyWhere : Forest → ℕ → Option ℕ → Type 0
IsEmptyWhere f n None = children_of f.nodes n ≡ []
IsEmptyWhere f n (Some serial) = Unit {0}

-- A visit has a cursor now, or its node has no children.
pub record Opened (f g : Forest) (n : ℕ) (old : Option ℕ) (r : Result (Option ℕ) AllocError) : Type 0 where
  pub same : SameBeside f g
  pub kept : (serial : ℕ) (c : Place) → cursor_at f.cursors serial ≡ Some c → Apart old serial → (cursor_at g.cursors serial ≡ Some c) × IfOk r (λ new. Apart new serial)
  pub count : IfOk r (λ new. AsMany f g old new)
  pub seat : (passed : ℕ) → IsSeated f.cursors old n passed → IfOk r (λ new. IsSeated g.cursors new n passed × IsEmptyWhere f n new)

-- The next dirty child of a visit is passed, where there is one.
pub record NextDirty (f g : Forest) (children r : Option ℕ) : Type 0 where
  pub same : SameBeside f g
  pub given : IfSome r (λ m. m < length f.nodes)
  pub dirty : IfSome r (λ m. is_dirty f.nodes m ≡ true)
  pub kept : (serial : ℕ) (c : Place) → cursor_at f.cursors serial ≡ Some c → Apart children serial → cursor_at g.cursors serial ≡ Some c
  pub count : open_total g.cursors ≡ open_total f.cursors
  pub child : (n passed : ℕ) → IsSeated f.cursors children n passed → IsEmptyWhere f n children → (r ≡ first_of (due_child f.nodes n passed)) × IsSeated g.cursors children n (passed_with passed (due_child f.nodes n passed))

-- the item is logged, unless memory is wanting
abbrev pub NotedOr : Result (Unit {0}) AllocError → List Item → List Item → Item → Type 0
NotedOr (Ok _) old new i = new ≡ old ++ i ∷ []
NotedOr (Err _) old new i = new ≡ old

-- a cursor, where there is one and it is open, is closed, and no other one
pub record Closes (f g : Forest) (children : Option ℕ) : Type 0 where
  pub same : SameBeside f g
  pub count : (n passed : ℕ) → IsSeated f.cursors children n passed → AsMany f g children None
  pub kept : (serial : ℕ) → Apart children serial → cursor_at g.cursors serial ≡ cursor_at f.cursors serial

-- the visit is left, and its cursor closed
pub record Leaves (f g : Forest) (o : Open) (r : Result (Unit {0}) AllocError) : Type 0 where
  pub text : g.text ≡ f.text
  pub nodes : g.nodes ≡ f.nodes
  pub log : NotedOr r f.log g.log (I.Leave o.node)
  pub kept : (serial : ℕ) → Apart o.children serial → cursor_at g.cursors serial ≡ cursor_at f.cursors serial
  pub count : IfOk r (λ _. (n passed : ℕ) → IsSeated f.cursors o.children n passed → AsMany f g o.children None)

-- the visit of a node that is entered, which was known to be in the tree at that edit
abbrev pub fresh : ℕ → ℕ → Open
fresh sure n = record { node = n; enter = 0; exit = 0; children = None; sure = sure }

-- The child is entered, with a visit of its own; after want of memory it may be entered, or not.
pub record Enters (f g : Forest) (old new : List Open) (o : Open) (child : ℕ) (r : Result (Unit {0}) AllocError) : Type 0 where
  pub text : g.text ≡ f.text
  pub cursors : g.cursors ≡ f.cursors
  pub noted : ((g.nodes ≡ f.nodes) × (g.log ≡ f.log)) ⊎ ((g.nodes ≡ with_mark f.nodes child false) × (g.log ≡ f.log ++ I.Enter child ∷ []))
  pub ok : IfOk r (λ _. (g.nodes ≡ with_mark f.nodes child false) × (g.log ≡ f.log ++ I.Enter child ∷ []) × (new ≡ (old ++ o ∷ []) ++ fresh o.sure child ∷ []))

-- the call of the first hook, at or after `from`, that fits the key of the node, and the place behind it
pub record IsNext (ns : List Node) (hooks : List RunHook) (n from : ℕ) (next : Next) : Type 0 where
  pub x : PickedHook × ℕ
  pub found : through (fits (key_at ns n)) (drop from (shown_hooks hooks)) ≡ Some x
  pub behind : from + x.1 ≡ next.behind
  pub call : called n x.0 ≡ I.Call next.due.plugin next.due.hook next.due.moment

-- A visit has this cursor now, which stands behind so many children; all other cursors stay.
pub record Reseats (f g : Forest) (old new : Option ℕ) (n passed : ℕ) : Type 0 where
  pub same : SameBeside f g
  pub count : AsMany f g old new
  pub kept : (serial : ℕ) (c : Place) → cursor_at f.cursors serial ≡ Some c → Apart old serial → (cursor_at g.cursors serial ≡ Some c) × Apart new serial
  pub seat : IsSeated g.cursors new n passed

abbrev pub dirty_total : List Node → ℕ
dirty_total ns = count_by (λ x. x.dirty) ns

-- what is left to do until the next call falls with each turn
abbrev pub IsLess : Forest → Forest → List Open → List Open → Option Due → Type 0
IsLess f g old new None = (2 * dirty_total g.nodes + length new < 2 * dirty_total f.nodes + (length old + 1)) × (dirty_total g.nodes ≤ dirty_total f.nodes)
IsLess f g old new (Some due) = dirty_total g.nodes ≤ dirty_total f.nodes

-- within a pass: no visit is open, or a call is due
abbrev pub Advanced : List PickedHook → Forest → Forest → List Open → List Open → State → Option Due → Type 0
Advanced hs f g os us t None = Shows g us t × (StayApart f g os us × (IsPass hs t.stage × (us ≡ [])))
Advanced hs f g os us t (Some due) = IsDue hs g us t due × (StayApart f g os us × IsPass hs (done hs t (turn hs t)).stage)

-- a pass begins
abbrev pub Began : List PickedHook → Forest → Forest → List Open → State → Type 0
Began hs f g us t = Shows g us t × (IsPass hs t.stage × StayApart f g [] us)

-- the passes are over, or a call is due
abbrev pub Passed : List PickedHook → Forest → Forest → List Open → List Open → State → Option Due → Type 0
Passed hs f g os us t None = Advanced hs f g os us t None × (turn hs t ≡ closing (filter (is_at E.OnceExit) hs))
Passed hs f g os us t (Some due) = Advanced hs f g os us t (Some due)

-- the hooks are on the shelf
abbrev pub AreOnShelf : List PluginSeen → List RunHook → Type 0
AreOnShelf shelf hooks = (at : ℕ) (h : RunHook) → slice_get hooks at ≡ Some h → IsSome (hook_at shelf h.plugin h.hook)

abbrev pub AllOnShelf : List PluginSeen → RunHooks → Type 0
AllOnShelf shelf hooks = (e : Event) → AreOnShelf shelf (group_of hooks e)

abbrev pub IsOnShelf : List PluginSeen → Due → Type 0
IsOnShelf shelf due = IsSome (hook_at shelf due.plugin due.hook)
