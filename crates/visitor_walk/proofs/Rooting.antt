-- The hooks that are called with the root, one after another.
use Rattle.std.proofs.Common.{◌≡◌, ℕ, ◌+◌, ◌≤◌, List, [], ◌∷◌, Bool, true, false, length, Some, refl, ap, sym, ◌∙◌, subst, drop, arith, slice_get, Result, Ok, Err, IsErr, Option, None}
use Rattle.std.specs.declared.alloc.AllocError.{AllocError}
use Rattle.std.proofs.lemmas.Bool.{false≢true}
use Rattle.node_store.specs.declared.item.Item.TheVariants as I
use Rattle.node_store.specs.Forest.{Forest, cursor_at, unreserved}
use Rattle.node_store.specs.Edits.{noted}
use Rattle.plugin_api.specs.Open.{open_total}
use Rattle.plugin_api.specs.Shelf.{PluginSeen}
use Rattle.visitor_machine.specs.Hooks.{PickedHook}
use Rattle.visitor_machine.specs.Machine.{State, ToOnce, ToOnceExit, ToEnd, Move, turn, turn_in, item_of, done, called}
use Rattle.visitor_walk.specs.declared.hooks.RunHook.{RunHook}
use Rattle.visitor_walk.specs.declared.turn.Due.{Due}
use Rattle.visitor_walk.specs.declared.spent.Spent.{Spent}
use Rattle.visitor_walk.specs.declared.spent.Limits.{Limits}
use Rattle.visitor_walk.specs.declared.walk_end.WalkEnd.{WalkEnd}
use Rattle.visitor_walk.specs.declared.walk_end.WalkEnd.TheVariants.{Done}
use Rattle.visitor_walk.specs.Groups.{shown_hook, shown_hooks}
use Rattle.visitor_walk.specs.Turns.{AllShown, Strolls}
use Rattle.visitor_walk.specs.Ran.{EachMade, Stands, IsReady, Finishes, Breaks, AreLeft}
use Rattle.visitor_walk.proofs.Turning.{moved_on}
use Rattle.visitor_walk.proofs.Passing.{pass_fails}
use Rattle.visitor_walk.proofs.Walking.{ran_on, calls_on, count_on, broken_on}
use Rattle.visitor_walk.proofs.Grouping.{drop_at, drop_all}

-- the machine's move, while hooks are left
pub left_turn : (hs : List PickedHook) (closes : Bool) (s : State) (h : PickedHook) (rest : List PickedHook) → AreLeft hs closes s (h ∷ rest) → (m : Move) × (turn hs s ≡ m) × (item_of m ≡ Some (called 0 h)) × ((done hs s m).calling ≡ true) × ((done hs s m).nodes ≡ s.nodes) × ((done hs s m).frames ≡ s.frames)
left_turn hs false s h rest e = (ToOnce h rest, ap (turn_in hs s.nodes s.frames) e, refl, refl, refl, refl)
left_turn hs true s h rest e = (ToOnceExit h rest, e, refl, refl, refl, refl)

-- the hooks that are left after a call
pub left_next : (hs : List PickedHook) (closes : Bool) (s u : State) (h : PickedHook) (rest : List PickedHook) → AreLeft hs closes s (h ∷ rest) → u.stage ≡ (done hs s (turn hs s)).stage → AreLeft hs closes u rest
left_next hs false s u h rest e i = i ∙ ap (λ m. (done hs s m).stage) (ap (turn_in hs s.nodes s.frames) e)
left_next hs true s u h rest e i = ap (turn_in hs u.nodes u.frames) (i ∙ ap (λ m. (done hs s m).stage) e)

-- the hooks that are left, with the first apart
pub left_at : (hs : List PickedHook) (closes : Bool) (s : State) (hooks : List RunHook) (at : ℕ) (h : RunHook) → slice_get hooks at ≡ Some h → AreLeft hs closes s (shown_hooks (drop at hooks)) → AreLeft hs closes s (shown_hook h ∷ shown_hooks (drop (at + 1) hooks))
left_at hs closes s hooks at h e l = subst (λ xs. AreLeft hs closes s (shown_hooks xs)) (drop_at hooks at h e) l

pub left_none : (hs : List PickedHook) (closes : Bool) (s : State) (hooks : List RunHook) (at : ℕ) → length hooks ≤ at → AreLeft hs closes s (shown_hooks (drop at hooks)) → AreLeft hs closes s []
left_none hs closes s hooks at i l = subst (λ xs. AreLeft hs closes s (shown_hooks xs)) (drop_all hooks at i) l

module _ {hs : List PickedHook} {most : ℕ} {begin f : Forest} {old new : List PluginSeen} {spent : Spent} (t : Stands hs most begin old f new spent []) where
  abbrev pub each_ready : (closes : Bool) (h : RunHook) (rest : List PickedHook) (due : Due) (n : ℕ) → AreLeft hs closes t.ran.state (shown_hook h ∷ rest) → due ≡ record { plugin = h.plugin; hook = h.hook; moment = record { event = h.event; node = n } } → n ≡ 0 → IsReady hs most begin old f new spent [] due
  each_ready closes h rest due n e d z =
      let s = t.ran.state in
      let m = left_turn hs closes s (shown_hook h) rest e in
      let at : Some (called 0 (shown_hook h)) ≡ Some (I.Call due.plugin due.hook due.moment) = ap (λ k. Some (called k (shown_hook h))) (sym z) ∙ ap (λ (x : Due). Some (I.Call x.plugin x.hook x.moment)) (sym d) in
      record {
        ran = t.ran;
        is = record {
          item = ap item_of m.1 ∙ (m.2 ∙ at);
          before = t.shows.nodes;
          free = t.shows.free;
          calling = ap (λ k. (done hs s k).calling) m.1 ∙ m.3;
          nodes = ap (λ k. (done hs s k).nodes) m.1 ∙ (m.4 ∙ t.shows.nodes);
          frames = subst (λ fs. AllShown f.cursors [] fs) (sym (ap (λ k. (done hs s k).frames) m.1 ∙ m.5)) t.shows.frames;
          sure = tt;
        };
        free = t.free;
        count = t.count;
        calls = t.calls;
        edits = t.edits;
      }

  -- the End is logged
  pub end_noted : (limits : Limits) (g : Forest) → limits.edits ≡ most → spent.calls ≤ limits.calls → AreLeft hs true t.ran.state [] → unreserved g ≡ noted (unreserved f) I.End → Finishes hs (record { calls = limits.calls; edits = most }) begin old g new [] Done
  end_noted limits g q l e i =
      let w : Strolls hs most f [] t.ran.state g = moved_on hs most f g [] t.ran.state ToEnd I.End t.shows.free e refl tt refl (ap (λ (x : Forest). x.text) i) (ap (λ (x : Forest). x.log) i) (ap (λ (x : Forest). x.nodes) i ∙ sym t.shows.nodes) (λ serial c j a. ap (λ (x : Forest). cursor_at x.cursors serial) i ∙ j) in
      let ran = ran_on t w in
      record { ran = ran; ends = refl; shown = ([], tt); count = count_on t w [] (record { apart = λ serial c j a. a; count = ap (λ (x : Forest). open_total x.cursors + 0) i }); paid = let c = calls_on t w in omega arith }

  -- the End doesn't find memory
  pub end_fails : (limits : Limits) (g : Forest) (e : AllocError) → limits.edits ≡ most → spent.calls ≤ limits.calls → unreserved g ≡ unreserved f → Breaks hs (record { calls = limits.calls; edits = most }) begin old g new e
  end_fails limits g e q l i = broken_on t (pass_fails hs most f g t.ran.state t.shows i) limits e q l

  pub each_broken : (limits : Limits) (e : AllocError) → limits.edits ≡ most → spent.calls ≤ limits.calls → Breaks hs (record { calls = limits.calls; edits = most }) begin old f new e
  each_broken limits e q l = end_fails limits f e q l refl

pub each_failed : (hs : List PickedHook) (limits : Limits) {begin : Forest} {old : List PluginSeen} (g : Forest) (new : List PluginSeen) (spent : Spent) (closes : Bool) (a : Result (Option WalkEnd) AllocError) → IsErr a → ((e : AllocError) → Breaks hs limits begin old g new e) → EachMade hs limits begin old g new spent closes a
each_failed hs limits g new spent closes (Ok None) h b = absurd (false≢true h)
each_failed hs limits g new spent closes (Ok (Some x)) h b = absurd (false≢true h)
each_failed hs limits g new spent closes (Err e) h b = b e
