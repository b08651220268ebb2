-- What the visitors of a shelf tell, say and owe of the items of a walk.
use Rattle.std.specs.Prelude.{◌≡◌, ℕ, suc, ◌&&◌, List, [], ◌∷◌, ◌++◌, Bool, false, Option, Some, None, Result, Ok, Err, if◌then◌else◌, map, nat_eq}
use Rattle.std.specs.Option.{option_map}
use Rattle.std.specs.declared.alloc.AllocError.{AllocError}
use Rattle.node_store.specs.declared.item.Edit.{Edit}
use Rattle.node_store.specs.declared.item.Item.{Item}
use Rattle.node_store.specs.declared.item.Item.TheVariants as I
use Rattle.node_store.specs.declared.item.Moment.{Moment}
use Rattle.node_rows.specs.Nodes.{Node}
use Rattle.plugin_api.specs.declared.visitor.Told.{Told}
use Rattle.plugin_api.specs.declared.visitor.VisitFault.TheVariants.{Plugin, Memory}
use Rattle.plugin_api.specs.Visit.{Answer, Dutiful}
use Rattle.plugin_api.specs.Shelf.{HookSeen, PluginSeen, hook_at}
use Rattle.visitor_machine.specs.Hooks.{PickedHook}
use Rattle.visitor_machine.specs.Machine.{State}
use Rattle.visitor_machine.specs.Follow.{follow, start}

-- how many edits stand first
abbrev pub edits_ahead : List Item → ℕ
edits_ahead (I.Edit e ∷ is) = suc (edits_ahead is)
edits_ahead _ = 0

-- What the hook j of the plugin i tells of the items, before which the log holds `at` items: of each of its calls the
-- moment, the items up to and with the call, and its edits.
abbrev pub told_of : ℕ → ℕ → ℕ → List Item → List Told
told_of i j at [] = []
told_of i j at (I.Call p h m ∷ is) = if nat_eq p i && nat_eq h j then record { moment = m; at = suc at; edits = edits_ahead is } ∷ told_of i j (suc at) is else told_of i j (suc at) is
told_of i j at (_ ∷ is) = told_of i j (suc at) is

-- the texts with which its calls came back; `mine` says that the last call was one of its
abbrev pub said_of : ℕ → ℕ → Bool → List Item → List (List ℕ)
said_of i j mine [] = []
said_of i j mine (I.Call p h m ∷ is) = said_of i j (nat_eq p i && nat_eq h j) is
said_of i j mine (I.Back (Some text) ∷ is) = if mine then text ∷ said_of i j mine is else said_of i j mine is
said_of i j mine (_ ∷ is) = said_of i j mine is

-- the list of a visitor that tells, with more
abbrev pub told_more : Option (List Told) → List Told → Option (List Told)
told_more told more = option_map (λ ts. ts ++ more) told

-- After want of memory the last of what a visitor has to tell may be missing.
abbrev pub Tells : {A : Type 0} → Result A AllocError → Option (List Told) → Option (List Told) → List Told → Type 0
Tells (Ok _) old new more = new ≡ told_more old more
Tells (Err _) old new more = (rest : List Told) × (told_more new rest ≡ told_more old more)

-- After want of memory the text of the last fault may be missing from the log.
abbrev pub Says : {A : Type 0} → Result A AllocError → List (List ℕ) → List (List ℕ) → List (List ℕ) → Type 0
Says (Ok _) old new more = new ≡ old ++ more
Says (Err _) old new more = (rest : List (List ℕ)) × (new ≡ old ++ (more ++ rest))

-- A hook after the walk: its visitor tells and says what the items hold of it, leaves no cursor open if they have no call of
-- it, and the rest stays.
pub record HookHeard {A : Type 0} (r : Result A AllocError) (i j at : ℕ) (items : List Item) (old new : HookSeen) : Type 0 where
  pub event : new.event ≡ old.event
  pub filter : new.filter ≡ old.filter
  pub duty : new.duty ≡ old.duty
  pub tells : Tells r old.told new.told (told_of i j at items)
  pub says : Says r old.said new.said (said_of i j false items)
  pub left : told_of i j at items ≡ [] → new.left ≡ old.left

-- a hook is there after the walk where it was before, and only there
abbrev pub Heard : {A : Type 0} → Result A AllocError → ℕ → ℕ → ℕ → List Item → Option HookSeen → Option HookSeen → Type 0
Heard r i j at items None new = new ≡ None
Heard r i j at items (Some old) new = (h : HookSeen) × (new ≡ Some h) × HookHeard r i j at items old h

-- the shelf after the walk
pub record Hears {A : Type 0} (r : Result A AllocError) (at : ℕ) (items : List Item) (old new : List PluginSeen) : Type 0 where
  pub names : map (λ p. p.name) new ≡ map (λ p. p.name) old
  pub hooks : (i j : ℕ) → Heard r i j at items (hook_at old i j) (hook_at new i j)

-- What follows a call and its edits: the call came back, or the walk ended for want of memory.
abbrev pub came_back : List Item → Answer
came_back (I.Back None ∷ is) = Ok tt
came_back (I.Back (Some text) ∷ is) = Err (Plugin text)
came_back _ = Err (Memory (record {}))

abbrev pub duty_of : Option HookSeen → List Node → Moment → List Edit → Answer → Type 0
duty_of None ns m es r = Unit {0}
duty_of (Some h) ns m es r = Dutiful h.duty ns m es r

-- Between a call and its end stand the edits that the duty of the hook's visitor asks for, from the nodes at the call.
abbrev pub KeepDuties : List PluginSeen → List PickedHook → ℕ → List Node → List Item → Type 0
KeepDuties shelf hs most ns items =
    (front : List Item) (p h : ℕ) (m : Moment) (es : List Edit) (rest : List Item) (s : State)
    → items ≡ front ++ I.Call p h m ∷ (map (λ e. I.Edit e) es ++ rest) → edits_ahead rest ≡ 0
    → follow hs most (start hs ns) front ≡ Some s → duty_of (hook_at shelf p h) s.nodes m es (came_back rest)
