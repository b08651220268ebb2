-- What `transform` makes of a walk.
use Rattle.std.proofs.Common.{◌≡◌, ℕ, List, [], ◌++◌, length, Some, Ok, Err, Result, refl, sym, ap, subst, ◌∙◌, inr}
use Rattle.std.specs.declared.vec.Vec.{Vec}
use Rattle.std.specs.declared.alloc.Global.{Global}
use Rattle.std.specs.declared.alloc.AllocError.{AllocError}
use Rattle.node_store.specs.declared.item.Item.{Item}
use Rattle.node_store.specs.Forest.{Forest, IsForest}
use Rattle.node_store.specs.Fresh.{IsFresh}
use Rattle.plugin_api.specs.Shelf.{PluginSeen}
use Rattle.visitor_machine.specs.Settled.{SettlesAt}
use Rattle.visitor_walk.specs.declared.walk_end.WalkEnd.{WalkEnd}
use Rattle.visitor_walk.specs.declared.walk_end.WalkEnd.TheVariants.{Done}
use Rattle.visitor_walk.specs.Heard.{Hears}
use Rattle.visitor_walk.specs.Picked.{picked_hooks}
use Rattle.visitor_walk.specs.Walk.{Walks, IsSettledAfter}
use Rattle.command_words.specs.Words.{Options, Transform}
use Rattle.css_job.specs.TransformPlan.{Reached, budget_for, walk_plan}
use Rattle.css_job.specs.CommandPlan.{text_plan}
use Rattle.css_job.specs.Walked.{Run, Walked}
use Rattle.css_job.specs.Stated.{Heard, IsCutLog, names_of}
use Rattle.css_job.specs.Stages.{plan_seen, CutOff, Planned}
use Rattle.css_job.specs.declared.plan.Plan as P
use Rattle.css_job.proofs.Unheard.{hears_whole, hears_cut, hears_less}
use Rattle.css_job.proofs.Freshly.{fresh_dirty}

module _ (f g : Forest) (sound : IsForest f) (fresh : IsFresh f) (old new : List PluginSeen) (o : Options) (budget most : ℕ) (calls : budget ≡ budget_for o.budget fresh.tree) (edits : most ≡ budget_for o.edit_budget fresh.tree)
    (picked : List ℕ) (places : picked ≡ o.picked) (r : Result WalkEnd AllocError) (walks : Walks f g old new picked budget most r) where
  abbrev Asked : Result WalkEnd AllocError → Type 0
  Asked v = Walks f g old new o.picked (budget_for o.budget fresh.tree) (budget_for o.edit_budget fresh.tree) v

  abbrev Made : List Item → Type 0
  Made items = Run (picked_hooks old o.picked) (budget_for o.edit_budget fresh.tree) old f.text items

  as_asked : (v : Result WalkEnd AllocError) → r ≡ v → Asked v
  as_asked v e =
      subst (λ p. Walks f g old new p (budget_for o.budget fresh.tree) (budget_for o.edit_budget fresh.tree) v) places
      (subst (λ b. Walks f g old new picked b (budget_for o.edit_budget fresh.tree) v) calls
      (subst (λ m. Walks f g old new picked budget m v) edits
      (subst (λ x. Walks f g old new picked budget most x) e walks)))

  run_of : (v : Result WalkEnd AllocError) (w : Asked v) → Made w.items
  run_of v w = record { forest = f; is_forest = sound; is_fresh = fresh; of = refl; state = w.state; run = w.run; duties = w.duties }

  cut_log : (v : Result WalkEnd AllocError) (w : Asked v) → IsCutLog old (Some (Transform o)) f.text w.items
  cut_log v w = record { options = o; is_transform = refl; tree = fresh.tree; reads = fresh.reads; made = run_of v w; paid = w.paid }

  -- the log was empty before the walk
  from_start : (v : Result WalkEnd AllocError) (w : Asked v) → Hears v 0 w.items old new
  from_start v w = subst (λ n. Hears v n w.items old new) (ap length fresh.no_log) w.hears

  -- the walk wanted memory
  pub cut_walk : (e : AllocError) → r ≡ Err e → CutOff old new (Some (Transform o)) f.text
  cut_walk e is = let w = as_asked (Err e) is in record { log = w.items; cut = inr (cut_log (Err e) w); heard = hears_cut e 0 w.items old new (from_start (Err e) w) }

  -- the plan after the walk did
  pub cut_plan : (end : WalkEnd) → r ≡ Ok end → CutOff old new (Some (Transform o)) f.text
  cut_plan end is = let w = as_asked (Ok end) is in record { log = w.items; cut = inr (cut_log (Ok end) w); heard = hears_less end 0 w.items old new (from_start (Ok end) w) }

  abbrev reached_by : (end : WalkEnd) → Asked (Ok end) → Reached
  reached_by end w = record { log = w.items; end = end; nodes = g.nodes }

  settled_by : (end : WalkEnd) (w : Asked (Ok end)) → end ≡ Done → SettlesAt (picked_hooks old o.picked) (budget_for o.edit_budget fresh.tree) f.nodes w.items
  settled_by end w e = (subst (λ x. IsSettledAfter x (picked_hooks old o.picked) (budget_for o.edit_budget fresh.tree) f.nodes w.items) e w.settled) (fresh_dirty f fresh)

  walked : (end : WalkEnd) (w : Asked (Ok end)) → Walked (picked_hooks old o.picked) (budget_for o.budget fresh.tree) (budget_for o.edit_budget fresh.tree) old f.text (reached_by end w)
  unfolding run_of
  walked end w = record { made = run_of (Ok end) w; paid = w.paid; ends = w.ends; nodes = w.nodes; settled = settled_by end w }

  -- the log and the work are kept
  module _ (end : WalkEnd) (is : r ≡ Ok end) (plan : P.Plan) (log : Vec Item Global) (h : Forest) (xs : List Item) (names : List (List ℕ)) (taken : log.items ≡ g.log) (left : h ≡ record g { log = []; spare = 0 })
      (lent : xs ≡ log.items) (named : names ≡ names_of new) (planned : plan_seen plan ≡ walk_plan o.trace names most (record { log = xs; end = end; nodes = h.nodes })) where
    log_is : (w : Asked (Ok end)) → log.items ≡ w.items
    log_is w = taken ∙ (w.log ∙ ap (λ x. x ++ w.items) fresh.no_log)

    plan_is : (w : Asked (Ok end)) → plan_seen plan ≡ walk_plan o.trace (names_of old) (budget_for o.edit_budget fresh.tree) (reached_by end w)
    plan_is w =
        planned
        ∙ (ap (λ z. walk_plan o.trace z most (record { log = xs; end = end; nodes = h.nodes })) (named ∙ w.hears.names)
        ∙ (ap (λ m. walk_plan o.trace (names_of old) m (record { log = xs; end = end; nodes = h.nodes })) edits
        ∙ (ap (λ l. walk_plan o.trace (names_of old) (budget_for o.edit_budget fresh.tree) (record { log = l; end = end; nodes = h.nodes })) (lent ∙ log_is w)
        ∙ ap (λ x. walk_plan o.trace (names_of old) (budget_for o.edit_budget fresh.tree) (record { log = w.items; end = end; nodes = x.nodes })) left)))

    planned_by : (w : Asked (Ok end)) → Planned (Transform o) old new f.text (Ok (record { plan = plan; log = log; work = Some h }))
    unfolding text_plan
    planned_by w = record {
      reading = Ok fresh.tree;
      is_reading = fresh.reads;
      reached = reached_by end w;
      kept = record {
        walked = walked end w;
        log = log_is w;
        work = (h, refl, ap (λ x. x.text) left ∙ w.text, ap (λ x. x.nodes) left, ap (λ x. x.log) left);
        heard = subst (λ l. Heard old new l) (sym (log_is w)) (hears_whole end 0 w.items old new (from_start (Ok end) w));
      };
      is = plan_is w;
    }

    pub planned_walk : Planned (Transform o) old new f.text (Ok (record { plan = plan; log = log; work = Some h }))
    planned_walk = planned_by (as_asked (Ok end) is)
