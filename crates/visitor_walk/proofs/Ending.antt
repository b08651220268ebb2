-- The beginning of a walk, and its ends.
use Rattle.std.proofs.Common.{◌≡◌, ℕ, ◌+◌, List, [], true, false, length, Option, Some, None, Result, Ok, Err, IsErr, refl, ap, sym, ◌∙◌, subst, append-nil, slice_get, ◌≤◌, arith}
use Rattle.std.specs.Prelude.{filter}
use Rattle.std.specs.declared.alloc.AllocError.{AllocError}
use Rattle.std.proofs.lemmas.Bool.{false≢true}
use Rattle.node_store.specs.declared.item.Event.TheVariants as E
use Rattle.node_store.specs.declared.item.Item.{Item}
use Rattle.node_store.specs.Forest.{Forest, IsForest}
use Rattle.plugin_api.specs.Open.{open_total}
use Rattle.plugin_api.specs.Shelf.{HookSeen, PluginSeen, left_total, hook_at, shelf_seen}
use Rattle.visitor_machine.specs.Hooks.{PickedHook, is_at}
use Rattle.visitor_machine.specs.Machine.{State, Opening, turn, closing}
use Rattle.visitor_machine.specs.Follow.{start, follow}
use Rattle.visitor_machine.proofs.Whole.{settles}
use Rattle.visitor_machine.proofs.Bound.{bounded}
use Rattle.visitor_walk.specs.declared.hooks.RunHook.{RunHook}
use Rattle.visitor_walk.specs.declared.hooks.RunHooks.{RunHooks}
use Rattle.visitor_walk.specs.declared.spent.Limits.{Limits}
use Rattle.visitor_walk.specs.declared.walk_end.WalkEnd.{WalkEnd}
use Rattle.visitor_walk.specs.declared.walk_end.WalkEnd.TheVariants.{Done, Failed, BudgetSpent, EditBudgetSpent}
use Rattle.visitor_walk.specs.Picked.{picked_hooks}
use Rattle.visitor_walk.specs.Groups.{shown_hooks, group_of, IsGrouped, listed_hooks}
use Rattle.visitor_walk.specs.Heard.{Heard}
use Rattle.visitor_walk.specs.Walk.{Walks, Ends, IsSettledAfter}
use Rattle.visitor_walk.specs.Turns.{IsPass, AllOnShelf, AreOnShelf}
use Rattle.visitor_walk.specs.Ran.{Stands, Finishes, Breaks, AreLeft, in_progress}
use Rattle.visitor_walk.proofs.Going.{all_duties}
use Rattle.visitor_walk.proofs.Hearing.{none_more}
use Rattle.visitor_walk.proofs.Picking.{once_hooks, exit_hooks}
use Rattle.std.specs.declared.alloc.Global.{Global}
use Rattle.std.specs.declared.dyn_box.DynBox.{DynBox}
use Rattle.node_store.specs.declared.item.Event.{Event}
use Rattle.plugin_api.specs.declared.plugin.Plugin.{Plugin}
use Rattle.plugin_api.specs.declared.visitor.Told.{Told}
use Rattle.plugin_api.specs.declared.visitor.Duty.{Duty}
use Rattle.visitor_walk.proofs.Grouping.{listed_seen}
use Rattle.visitor_walk.proofs.Rooting.{each_broken}

-- before the first item
pub first_heard : (i j at : ℕ) (o : Option HookSeen) → Heard in_progress i j at [] o o
first_heard i j at None = refl
first_heard i j at (Some h) = (h, refl, record { event = refl; filter = refl; duty = refl; tells = sym (none_more h.told); says = sym (append-nil h.said); left = λ e. refl })

abbrev pub first_stands : (hs : List PickedHook) (most : ℕ) (f : Forest) (shelf : List PluginSeen) → Stands hs most f shelf f shelf (record { calls = 0; edits = 0 }) []
first_stands hs most f shelf = record {
  ran = record {
    items = [];
    state = start hs f.nodes;
    text = refl;
    log = sym (append-nil f.log);
    run = refl;
    nodes = refl;
    through = refl;
    cursors = λ serial c e. e;
    hears = record { names = refl; hooks = λ i j. first_heard i j (length f.log) (hook_at shelf i j) };
    duties = tt;
  };
  shows = record { nodes = refl; free = refl; frames = tt; sure = tt };
  free = λ serial c e. tt;
  count = let i : open_total f.cursors + left_total shelf ≡ open_total f.cursors + left_total shelf + 0 = omega arith in i;
  calls = refl;
  edits = refl;
}

pub first_left : (hs : List PickedHook) (f : Forest) (hooks : RunHooks) (once : List RunHook) → IsGrouped hooks hs → once ≡ group_of hooks E.Once → AreLeft hs false (start hs f.nodes) (shown_hooks once)
first_left hs f hooks once gr e = ap Opening (sym (ap shown_hooks e ∙ (gr E.Once ∙ once_hooks hs)))

pub last_left : (hs : List PickedHook) (s : State) (hooks : RunHooks) (once_exit : List RunHook) → IsGrouped hooks hs → once_exit ≡ group_of hooks E.OnceExit → turn hs s ≡ closing (filter (is_at E.OnceExit) hs) → AreLeft hs true s (shown_hooks once_exit)
last_left hs s hooks once_exit gr e i = i ∙ ap closing (sym (ap shown_hooks e ∙ (gr E.OnceExit ∙ exit_hooks hs)))

pub pass_after : (hs : List PickedHook) (s : State) → AreLeft hs false s [] → IsPass hs s.stage
pass_after hs s e = subst (IsPass hs) (sym e) (λ ns fs. refl)

-- what a walk did is what was asked of it
settled_after : (end : WalkEnd) (hs : List PickedHook) (limits : Limits) (f : Forest) (s : State) (items : List Item) → IsForest f → follow hs limits.edits (start hs f.nodes) items ≡ Some s → Ends end hs limits.calls limits.edits s items → IsSettledAfter end hs limits.edits f.nodes items
settled_after Done hs limits f s items k run e = λ d. settles hs limits.edits f.nodes items s k.sound k.some d (run, e)
settled_after (Failed text moment) hs limits f s items k run e = tt
settled_after (BudgetSpent calls moment) hs limits f s items k run e = tt
settled_after (EditBudgetSpent edits at) hs limits f s items k run e = tt

module _ (picked : List ℕ) (limits : Limits) (f g : Forest) (old new : List PluginSeen) (k : IsForest f) where
  abbrev hs : List PickedHook
  hs = picked_hooks old picked

  pub walks_end : (end : WalkEnd) → Finishes hs limits f old g new [] end → Walks f g old new picked limits.calls limits.edits (Ok end)
  walks_end end r = record {
    items = r.ran.items;
    state = r.ran.state;
    text = r.ran.text;
    log = r.ran.log;
    run = r.ran.run;
    nodes = r.ran.nodes;
    cursors = r.ran.cursors;
    closed = let i : open_total g.cursors + left_total old ≡ open_total f.cursors + left_total new + 0 = r.count in let j : open_total g.cursors + left_total old ≡ open_total f.cursors + left_total new = omega arith in j;
    paid = r.paid;
    hears = r.ran.hears;
    duties = all_duties old hs limits.edits f.nodes r.ran.items r.ran.duties;
    ends = r.ends;
    settled = settled_after end hs limits f r.ran.state r.ran.items k r.ran.run r.ends;
    bounded = λ q. bounded hs limits.edits f.nodes r.ran.items r.ran.state k.some q r.ran.run;
  }

  walks_less : (e : AllocError) → Breaks hs limits f old g new e → Walks f g old new picked limits.calls limits.edits (Err e)
  walks_less e r = record {
    items = r.ran.items;
    state = r.ran.state;
    text = r.ran.text;
    log = r.ran.log;
    run = r.ran.run;
    nodes = r.ran.nodes;
    cursors = r.ran.cursors;
    closed = tt;
    paid = r.paid;
    hears = r.ran.hears;
    duties = all_duties old hs limits.edits f.nodes r.ran.items r.ran.duties;
    ends = tt;
    settled = tt;
    bounded = λ q. bounded hs limits.edits f.nodes r.ran.items r.ran.state k.some q r.ran.run;
  }

  pub walks_broken : (a : Result WalkEnd AllocError) → IsErr a → ((e : AllocError) → Breaks hs limits f old g new e) → Walks f g old new picked limits.calls limits.edits a
  walks_broken (Ok x) h b = absurd (false≢true h)
  walks_broken (Err e) h b = walks_less e (b e)

-- the hooks that were read from the shelf are those that are seen of it
pub grouped_seen : {X : Type 0} {F : X → Type 0} (told : DynBox X Global F → Option (List Told)) (said : DynBox X Global F → List (List ℕ)) (duty : DynBox X Global F → Option Duty) (left : DynBox X Global F → ℕ) (hooks : RunHooks) (shelf : List (Plugin X F)) (picked : List ℕ) → IsGrouped hooks (listed_hooks shelf picked) → IsGrouped hooks (picked_hooks (shelf_seen told said duty left shelf) picked)
grouped_seen told said duty left hooks shelf picked gr = subst (IsGrouped hooks) (listed_seen told said duty left shelf picked) gr

pub group_there : (shelf : List PluginSeen) (hooks : RunHooks) (e : Event) (xs : List RunHook) → xs ≡ group_of hooks e → AllOnShelf shelf hooks → AreOnShelf shelf xs
group_there shelf hooks e xs i a = λ at h k. a e at h (ap (λ l. slice_get l at) (sym i) ∙ k)

pub first_broken : (hs : List PickedHook) (limits : Limits) (f : Forest) (shelf : List PluginSeen) (e : AllocError) → Breaks hs limits f shelf f shelf e
first_broken hs limits f shelf e = let z : 0 ≤ limits.calls = omega arith in each_broken (first_stands hs limits.edits f shelf) limits e refl z
