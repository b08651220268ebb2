-- The walk through its passes.
use Rattle.std.proofs.Common.{◌≡◌, ℕ, ◌+◌, ◌≤◌, List, [], Option, Some, None, Result, Ok, Err, IsErr, IsSome, refl, sym, ◌∙◌, subst, arith}
use Rattle.std.specs.declared.alloc.AllocError.{AllocError}
use Rattle.std.proofs.lemmas.Bool.{false≢true}
use Rattle.node_store.specs.Forest.{Forest}
use Rattle.plugin_api.specs.Open.{open_total}
use Rattle.plugin_api.specs.Shelf.{PluginSeen, left_total, hook_at}
use Rattle.visitor_machine.specs.Hooks.{PickedHook}
use Rattle.visitor_machine.specs.Machine.{Stage}
use Rattle.visitor_machine.specs.Calls.{calls_in}
use Rattle.visitor_walk.specs.declared.hooks.RunHooks.{RunHooks}
use Rattle.visitor_walk.specs.declared.turn.Open.{Open}
use Rattle.visitor_walk.specs.declared.turn.Due.{Due}
use Rattle.visitor_walk.specs.declared.spent.Spent.{Spent}
use Rattle.visitor_walk.specs.declared.spent.Limits.{Limits}
use Rattle.visitor_walk.specs.declared.walk_end.WalkEnd.{WalkEnd}
use Rattle.visitor_walk.specs.declared.walk_end.WalkEnd.TheVariants.{Done}
use Rattle.visitor_walk.specs.Turns.{held, Shows, IsPass, IsDue, Strolls, StayApart, Passed, AllOnShelf}
use Rattle.visitor_walk.specs.Ran.{Ran, AreFree, AreCounted, Stands, IsReady, Breaks, PassesMade, in_progress}
use Rattle.visitor_walk.proofs.Chunks as Chunks
use Rattle.visitor_walk.proofs.Going.{strolled, some_moved}
use Rattle.visitor_walk.proofs.Making.{ran_broken}

-- the walk goes on by a stroll
module _ {hs : List PickedHook} {most : ℕ} {begin f : Forest} {old new : List PluginSeen} {spent : Spent} {os : List Open} (t : Stands hs most begin old f new spent os) {g : Forest} (w : Strolls hs most f os t.ran.state g) where
  abbrev pub ran_on : Ran in_progress hs most begin old g new
  ran_on = strolled t.ran t.free w

  pub calls_on : calls_in ran_on.items ≡ spent.calls
  calls_on =
      let a = Chunks.calls-append t.ran.items w.items in
      let b = Chunks.plain_calls w.items w.plain in
      let c = t.calls in
      omega arith

  pub free_on : (us : List Open) → StayApart f g os us → AreFree begin us
  free_on us k = λ serial c e. let d = some_moved begin.nodes t.ran.items c in k.apart serial d.0 (t.ran.cursors serial c e ∙ d.1) (t.free serial c e)

  pub count_on : (us : List Open) → StayApart f g os us → AreCounted begin old g new us
  count_on us k =
      let i : open_total f.cursors + left_total old ≡ open_total begin.cursors + left_total new + held os = t.count in
      let j : open_total g.cursors + held os ≡ open_total f.cursors + held us = k.count in
      let l : open_total g.cursors + left_total old ≡ open_total begin.cursors + left_total new + held us = omega arith in
      l

  abbrev pub ready : (us : List Open) (due : Due) → IsDue hs g us w.state due → StayApart f g os us → IsReady hs most begin old g new spent us due
  ready us due d k = record { ran = ran_on; is = d; free = free_on us k; count = count_on us k; calls = calls_on; edits = w.edits ∙ t.edits }

  abbrev pub stands_on : (us : List Open) → Shows g us w.state → StayApart f g os us → Stands hs most begin old g new spent us
  stands_on us s k = record { ran = ran_on; shows = s; free = free_on us k; count = count_on us k; calls = calls_on; edits = w.edits ∙ t.edits }

  pub broken_on : (limits : Limits) (e : AllocError) → limits.edits ≡ most → spent.calls ≤ limits.calls → Breaks hs (record { calls = limits.calls; edits = most }) begin old g new e
  broken_on limits e i l = record { ran = ran_broken Done e refl ran_on; paid = let c = calls_on in omega arith }

pub passes_broken : (hs : List PickedHook) (limits : Limits) {begin : Forest} {old : List PluginSeen} (g : Forest) (new : List PluginSeen) (spent : Spent) (a : Result (Option WalkEnd) AllocError) → IsErr a → ((e : AllocError) → Breaks hs limits begin old g new e) → PassesMade hs limits begin old g new spent a
passes_broken hs limits g new spent (Ok None) h b = absurd (false≢true h)
passes_broken hs limits g new spent (Ok (Some x)) h b = absurd (false≢true h)
passes_broken hs limits g new spent (Err e) h b = b e

pub passes_over : (hs : List PickedHook) (limits : Limits) {begin f g : Forest} {old new : List PluginSeen} {spent : Spent} {os : List Open} (us : List Open) (t : Stands hs limits.edits begin old f new spent os) → (v : Strolls hs limits.edits f os t.ran.state g) × Passed hs f g os us v.state None → PassesMade hs limits begin old g new spent (Ok None)
passes_over hs limits {f = f} {g = g} {os = os} us t v =
    let e = v.1.0.1.1.1 in
    (stands_on t v.0 [] (subst (λ l. Shows g l v.0.state) e v.1.0.0) (subst (StayApart f g os) e v.1.0.1.0), v.1.1)

pub same_pass : (hs : List PickedHook) (a b : Stage) → a ≡ b → IsPass hs b → IsPass hs a
same_pass hs a b e p = subst (IsPass hs) (sym e) p

pub still_on_shelf : (old new : List PluginSeen) (hooks : RunHooks) → ((i j : ℕ) → IsSome (hook_at old i j) → IsSome (hook_at new i j)) → AllOnShelf old hooks → AllOnShelf new hooks
still_on_shelf old new hooks k a = λ e at h i. k h.plugin h.hook (a e at h i)
