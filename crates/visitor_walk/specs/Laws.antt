-- What the items of a walk tell of its end.
use Rattle.std.specs.Prelude.{◌≡◌, ◌≢◌, ℕ, ◌⊎◌, List, [], ◌∷◌, ◌++◌, false, map, Some, IsSome, Contains}
use Rattle.node_rows.specs.Nodes.{Node}
use Rattle.node_store.specs.declared.item.Edit.{Edit}
use Rattle.node_store.specs.declared.item.Item.{Item}
use Rattle.node_store.specs.declared.item.Item.TheVariants as I
use Rattle.node_store.specs.declared.item.Moment.{Moment}
use Rattle.plugin_api.specs.Shelf.{PluginSeen, hook_at}
use Rattle.visitor_machine.specs.Hooks.{PickedHook}
use Rattle.visitor_machine.specs.Machine.{State}
use Rattle.visitor_machine.specs.Follow.{follow, start}
use Rattle.visitor_walk.specs.declared.walk_end.WalkEnd.{WalkEnd}
use Rattle.visitor_walk.specs.Picked.{picked_hooks}
use Rattle.visitor_walk.specs.Heard.{said_of}
use Rattle.visitor_walk.specs.Walk.{Ends}

-- a run has one end at most
abbrev pub OneEnd : Type 0
OneEnd = (hooks : List PickedHook) (budget most : ℕ) (nodes : List Node) (items : List Item) (state : State) (a b : WalkEnd)
    → follow hooks most (start hooks nodes) items ≡ Some state
    → Ends a hooks budget most state items → Ends b hooks budget most state items → a ≡ b

-- the items end with a call of the hook j of the plugin i at that moment, its edits, and its end with that text
pub record EndsFailed (i j : ℕ) (moment : Moment) (text : List ℕ) (items : List Item) : Type 0 where
  pub front : List Item
  pub edits : List Edit
  pub are : items ≡ front ++ I.Call i j moment ∷ (map (λ e. I.Edit e) edits ++ I.Back (Some text) ∷ [])

-- the hook's visitor says that one text, and no other visitor says any
pub record SaysAlone (i j : ℕ) (text : List ℕ) (items : List Item) : Type 0 where
  pub said : said_of i j false items ≡ text ∷ []
  pub others : (p h : ℕ) → (p ≢ i) ⊎ (h ≢ j) → said_of p h false items ≡ []

-- where a visitor says something, the run ends with its call, which failed
pub record Failure (i j : ℕ) (items : List Item) : Type 0 where
  pub moment : Moment
  pub text : List ℕ
  pub ends : EndsFailed i j moment text items
  pub alone : SaysAlone i j text items

abbrev pub SaidOnce : Type 0
SaidOnce = (hooks : List PickedHook) (most : ℕ) (nodes : List Node) (items : List Item) (state : State) (i j : ℕ)
    → follow hooks most (start hooks nodes) items ≡ Some state
    → said_of i j false items ≢ [] → Failure i j items

-- where a run ends with a call that failed, its visitor says the text, and no other one says any
abbrev pub FailedSaid : Type 0
FailedSaid = (hooks : List PickedHook) (most : ℕ) (nodes : List Node) (items : List Item) (state : State) (i j : ℕ) (moment : Moment) (text : List ℕ)
    → follow hooks most (start hooks nodes) items ≡ Some state
    → EndsFailed i j moment text items → SaysAlone i j text items

-- the plugin is picked, and has a hook at that place
pub record IsPicked (shelf : List PluginSeen) (picked : List ℕ) (i j : ℕ) : Type 0 where
  pub among : Contains picked i
  pub there : IsSome (hook_at shelf i j)

-- each call of a run is of a hook of a picked plugin
abbrev pub CallsPicked : Type 0
CallsPicked = (shelf : List PluginSeen) (picked : List ℕ) (most : ℕ) (nodes : List Node) (items : List Item) (state : State) (front : List Item) (i j : ℕ) (moment : Moment) (rest : List Item)
    → follow (picked_hooks shelf picked) most (start (picked_hooks shelf picked) nodes) items ≡ Some state
    → items ≡ front ++ I.Call i j moment ∷ rest → IsPicked shelf picked i j
