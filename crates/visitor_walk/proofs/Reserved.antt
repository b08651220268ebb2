-- A walk from a forest in which more or less is reserved.
use Rattle.std.proofs.Common.{◌≡◌, ℕ, List, Result, subst}
use Rattle.std.specs.declared.alloc.AllocError.{AllocError}
use Rattle.node_store.specs.Forest.{Forest, unreserved}
use Rattle.plugin_api.specs.Shelf.{PluginSeen}
use Rattle.visitor_walk.specs.declared.walk_end.WalkEnd.{WalkEnd}
use Rattle.visitor_walk.specs.Walk.{Walks}

module _ (after : Forest) (old new : List PluginSeen) (picked : List ℕ) (budget most : ℕ) (r : Result WalkEnd AllocError) where
  from_bare : (f : Forest) → Walks (unreserved f) after old new picked budget most r → Walks f after old new picked budget most r
  from_bare f w = record {
    items = w.items;
    state = w.state;
    text = w.text;
    log = w.log;
    run = w.run;
    nodes = w.nodes;
    cursors = w.cursors;
    closed = w.closed;
    paid = w.paid;
    hears = w.hears;
    duties = w.duties;
    ends = w.ends;
    settled = w.settled;
    bounded = w.bounded;
  }

  to_bare : (f : Forest) → Walks f after old new picked budget most r → Walks (unreserved f) after old new picked budget most r
  to_bare f w = record {
    items = w.items;
    state = w.state;
    text = w.text;
    log = w.log;
    run = w.run;
    nodes = w.nodes;
    cursors = w.cursors;
    closed = w.closed;
    paid = w.paid;
    hears = w.hears;
    duties = w.duties;
    ends = w.ends;
    settled = w.settled;
    bounded = w.bounded;
  }

  -- it is a walk from the forest before, too
  pub walks_as : (before reserved : Forest) → unreserved reserved ≡ unreserved before → Walks reserved after old new picked budget most r → Walks before after old new picked budget most r
  walks_as before reserved e w = from_bare before (subst (λ f. Walks f after old new picked budget most r) e (to_bare reserved w))
