-- What is heard where nothing was logged, and what is still known of it after want of memory.
use Rattle.std.proofs.Common.{ℕ, List, [], ◌++◌, false, Option, Some, None, Result, Ok, Err, refl, ap, sym, ◌∙◌, append-nil}
use Rattle.std.specs.declared.alloc.AllocError.{AllocError}
use Rattle.node_store.specs.declared.item.Item.{Item}
use Rattle.plugin_api.specs.declared.visitor.Told.{Told}
use Rattle.plugin_api.specs.Shelf.{HookSeen, PluginSeen, hook_at}
use Rattle.visitor_walk.specs.declared.walk_end.WalkEnd.{WalkEnd}
use Rattle.visitor_walk.specs.Heard as H
use Rattle.visitor_walk.proofs.Hearing.{none_more}

tells_none : {A : Type 0} (r : Result A AllocError) (old : Option (List Told)) → H.Tells r old old []
tells_none (Ok x) old = sym (none_more old)
tells_none (Err e) old = ([], refl)

says_none : {A : Type 0} (r : Result A AllocError) (old : List (List ℕ)) → H.Says r old old []
says_none (Ok x) old = sym (append-nil old)
says_none (Err e) old = ([], sym (append-nil old))

none_heard : {A : Type 0} (r : Result A AllocError) (i j : ℕ) (o : Option HookSeen) → H.Heard r i j 0 [] o o
none_heard r i j None = refl
none_heard r i j (Some h) = (h, refl, record { event = refl; filter = refl; duty = refl; tells = tells_none r h.told; says = says_none r h.said; left = λ e. refl })

-- nothing was logged
pub unheard : {A : Type 0} (r : Result A AllocError) (shelf : List PluginSeen) → H.Hears r 0 [] shelf shelf
unheard r shelf = record { names = refl; hooks = λ i j. none_heard r i j (hook_at shelf i j) }

heard_whole : (end : WalkEnd) (i j at : ℕ) (items : List Item) (o n : Option HookSeen) → H.Heard {A = WalkEnd} (Ok end) i j at items o n → H.Heard {A = Unit {0}} (Ok tt) i j at items o n
heard_whole end i j at items None n h = h
heard_whole end i j at items (Some o) n h = (h.0, h.1, record { event = h.2.event; filter = h.2.filter; duty = h.2.duty; tells = h.2.tells; says = h.2.says; left = h.2.left })

heard_cut : (e : AllocError) (i j at : ℕ) (items : List Item) (o n : Option HookSeen) → H.Heard {A = WalkEnd} (Err e) i j at items o n → H.Heard {A = Unit {0}} (Err (record {})) i j at items o n
heard_cut e i j at items None n h = h
heard_cut e i j at items (Some o) n h = (h.0, h.1, record { event = h.2.event; filter = h.2.filter; duty = h.2.duty; tells = h.2.tells; says = h.2.says; left = h.2.left })

heard_less : (end : WalkEnd) (i j at : ℕ) (items : List Item) (o n : Option HookSeen) → H.Heard {A = WalkEnd} (Ok end) i j at items o n → H.Heard {A = Unit {0}} (Err (record {})) i j at items o n
heard_less end i j at items None n h = h
heard_less end i j at items (Some o) n h = (
  h.0,
  h.1,
  record {
    event = h.2.event;
    filter = h.2.filter;
    duty = h.2.duty;
    tells = ([], none_more h.0.told ∙ h.2.tells);
    says = ([], h.2.says ∙ ap (λ l. o.said ++ l) (sym (append-nil (H.said_of i j false items))));
    left = h.2.left;
  },
)

-- what was heard in a walk that ended
pub hears_whole : (end : WalkEnd) (at : ℕ) (items : List Item) (old new : List PluginSeen) → H.Hears {A = WalkEnd} (Ok end) at items old new → H.Hears {A = Unit {0}} (Ok tt) at items old new
hears_whole end at items old new h = record { names = h.names; hooks = λ i j. heard_whole end i j at items (hook_at old i j) (hook_at new i j) (h.hooks i j) }

-- in one that wanted memory
pub hears_cut : (e : AllocError) (at : ℕ) (items : List Item) (old new : List PluginSeen) → H.Hears {A = WalkEnd} (Err e) at items old new → H.Hears {A = Unit {0}} (Err (record {})) at items old new
hears_cut e at items old new h = record { names = h.names; hooks = λ i j. heard_cut e i j at items (hook_at old i j) (hook_at new i j) (h.hooks i j) }

-- and in one that ended before memory was wanting
pub hears_less : (end : WalkEnd) (at : ℕ) (items : List Item) (old new : List PluginSeen) → H.Hears {A = WalkEnd} (Ok end) at items old new → H.Hears {A = Unit {0}} (Err (record {})) at items old new
hears_less end at items old new h = record { names = h.names; hooks = λ i j. heard_less end i j at items (hook_at old i j) (hook_at new i j) (h.hooks i j) }
