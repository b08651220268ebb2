-- The causes of the faults that a walk has, and what a walk leaves.
use Rattle.std.proofs.Common.{◌≡◌, ◌≢◌, ℕ, ◌+◌, ◌*◌, ◌<◌, ◌≤◌, List, [], ◌∷◌, ◌++◌, length, false, Option, Some, None, IsSome, Ok, refl, ap, sym, ◌∙◌, subst, inl, inr, arith, append-nil, map}
use Rattle.std.specs.Prelude.{min, encode_utf8_all}
use Rattle.std.specs.Str.{chars}
use Rattle.std.specs.Io.KnownBytes.{Appends}
use Rattle.std.proofs.Math.Nat.{mul-le-mul_right, le-min}
use Rattle.std.proofs.lemmas.Bool.{false≢true}
use Rattle.std.proofs.lemmas.Str.{encodes-chars}
use Rattle.css_tree.specs.Tree.{Tree}
use Rattle.css_tree.specs.Print.{print}
use Rattle.css_tree.specs.Numbered.{numbered}
use Rattle.css_tree.specs.Reads.{Reads}
use Rattle.css_tree.proofs.Reading as tree
use Rattle.node_rows.specs.NumberTrees.{tree_at}
use Rattle.node_store.specs.declared.item.Item.{Item}
use Rattle.node_store.specs.declared.item.Item.TheVariants as I
use Rattle.node_store.specs.declared.item.Moment as N
use Rattle.plugin_api.specs.Shelf.{HookSeen, PluginSeen, hook_at}
use Rattle.visitor_machine.specs.Machine as M
use Rattle.visitor_machine.specs.Follow.{follow, start}
use Rattle.visitor_machine.specs.Calls.{calls_in, IsQuiet}
use Rattle.visitor_machine.specs.Settled.{SettlesAt}
use Rattle.visitor_machine.proofs.Kept.{quiet_sheet}
use Rattle.visitor_machine.proofs.Untouched as law
use Rattle.visitor_walk.specs.declared.walk_end.WalkEnd.{WalkEnd}
use Rattle.visitor_walk.specs.declared.walk_end.WalkEnd.TheVariants as W
use Rattle.visitor_walk.specs.Heard.{said_of, Heard}
use Rattle.visitor_walk.specs.Laws.{EndsFailed}
use Rattle.visitor_walk.specs.Picked.{picked_hooks}
use Rattle.visitor_walk.specs.Walk as walk
use Rattle.visitor_walk.specs.Walk.{EndsCalled, IsNextCall}
use Rattle.visitor_walk.proofs.Picking.{IsThere, picked_there}
use Rattle.visitor_walk.proofs.Saying.{said_once, failed_said}
use Rattle.command_words.specs.Words.{Options, Transform, most_budget}
use Rattle.css_job.specs.TransformPlan.{budget_for, fault_of}
use Rattle.css_job.specs.Stated as O
use Rattle.css_job.specs.Outside.{Snapshot}
use Rattle.css_job.specs.Stated.{Asked, names_of, Ends}
use Rattle.css_job.specs.TransformPromises.{Grew, HasSaid, PluginFailedCause, IsLogOf, AsksBeyond, EditsBeyond, BudgetCause, EditBudgetCause, AreQuiet, UnchangedCause, KeepsUntouched, UntouchedCause, SettledCause, NeverSpent}
use Rattle.css_job.specs.declared.fault.Fault.{Fault}
use Rattle.css_job.specs.declared.fault.Fault.TheVariants.{PluginFailed, BudgetSpent, EditBudgetSpent}
use Rattle.css_job.specs.declared.run.Ended.{Ended}
use Rattle.css_job.proofs.Ways.{Turned, Printed, walk_by}
use Rattle.css_job.proofs.Causes.{told, not_lint, took_whole, cause_of, unfaulty, its_answer}
use Rattle.css_job.proofs.PickedCalls.{each_from_all, called_place, start_stays}
use Rattle.css_job.proofs.Quiet.{quiet_edits, next_bounded, fresh_length, quiet_run}
use Rattle.css_job.proofs.Turns.{same_options, has_turn, no_log, work_turn, hooks, call_budget, edit_budget, walk_of, log_of, is_log, options_same, tree_same, nodes_same, state_same, end_is}

-- what a visitor said grew by what the log holds of it
grew_by : (i j : ℕ) (log : List Item) (text : List ℕ) (old new : Option HookSeen) → Heard {A = Unit {0}} (Ok tt) i j 0 log old new → IsSome old → said_of i j false log ≡ text ∷ [] → Grew text old new
grew_by i j log text None new h s e = absurd (false≢true s)
grew_by i j log text (Some old) new h s e = (h.0, h.1, h.2.says ∙ ap (λ l. old.said ++ l) e)

said_some : (i j : ℕ) (log : List Item) (old new : Option HookSeen) → Heard {A = Unit {0}} (Ok tt) i j 0 log old new → HasSaid old new → said_of i j false log ≢ []
said_some i j log None new h s e = s
said_some i j log (Some old) new h s e =
    let same : Some s.0 ≡ Some h.0 = sym s.1 ∙ h.1 in
    let is : s.0 ≡ h.0 = cc in
    s.2 (ap (λ x. x.said) is ∙ (h.2.says ∙ (ap (λ l. old.said ++ l) e ∙ append-nil old.said)))

there_at : (shelf : List PluginSeen) (picked : List ℕ) (most : ℕ) (ns : _) (s : M.State) (log : List Item) (m : N.Moment) (text : List ℕ) → follow (picked_hooks shelf picked) most (start (picked_hooks shelf picked) ns) log ≡ Some s → (e : EndsCalled log m (Some text)) → IsSome (hook_at shelf e.plugin e.hook)
there_at shelf picked most ns s log m text run e =
    let hs = picked_hooks shelf picked in
    let all = each_from_all (IsThere shelf) hs (picked_there shelf picked) in
    called_place (λ p k. IsSome (hook_at shelf p k)) hs all most (start hs ns) s e.front e.plugin e.hook m (map (λ x. I.Edit x) e.edits ++ I.Back (Some text) ∷ []) (start_stays (λ p k. IsSome (hook_at shelf p k)) hs all ns) (ap (follow hs most (start hs ns)) (sym e.are) ∙ run)

failed_of : (log : List Item) (m : N.Moment) (text : List ℕ) (e : EndsCalled log m (Some text)) → EndsFailed e.plugin e.hook m text log
failed_of log m text e = record { front = e.front; edits = e.edits; are = e.are }

called_of : (i j : ℕ) (log : List Item) (m : N.Moment) (text : List ℕ) → EndsFailed i j m text log → EndsCalled log m (Some text)
called_of i j log m text e = record { front = e.front; plugin = i; hook = j; edits = e.edits; are = e.are }

-- the default budget is beyond what a run without an edit calls
budget_beyond : (k n calls : ℕ) → k ≤ 40 → k * n ≤ 20000000 → calls ≡ min most_budget (1000 + 40 * n) → calls < k * n → ⊥
budget_beyond k n calls a b e l =
    let t : k * n ≤ 40 * n = mul-le-mul_right n a in
    let u : k * n ≤ 1000 + 40 * n = below_more (k * n) (40 * n) t in
    let m : k * n ≤ min most_budget (1000 + 40 * n) = le-min b u in
    never_below calls (k * n) l (subst (λ z. k * n ≤ z) (sym e) m)
  where
    below_more : (x y : ℕ) → x ≤ y → x ≤ 1000 + y
    below_more x y a = omega arith

    never_below : (x y : ℕ) → x < y → y ≤ x → ⊥
    never_below x y a b = omega arith

module _ (asked : Asked) (a c : Snapshot) (e : Ended) (h : Ends asked a c e) where
  -- a fault of the walk's end is the run's
  faulty_end : (t : Turned asked.command h.bytes h.reading h.failed) (end : WalkEnd) (f : Fault) → h.reached.end ≡ end → fault_of end (edit_budget asked a c e h t) ≡ Some f → e.fault ≡ Some f
  faulty_end t end f x y = h.fault ∙ walk_by asked.command (names_of asked.shelf) h.bytes h.reading h.reached h.failed t f (ap (λ z. fault_of z (edit_budget asked a c e h t)) x ∙ y)

  -- the walk's end, where it is known
  ends_as : (t : Turned asked.command h.bytes h.reading h.failed) (end : WalkEnd) → h.reached.end ≡ end → walk.Ends end (hooks asked a c e h t) (call_budget asked a c e h t) (edit_budget asked a c e h t) (walk_of asked a c e h t).made.state h.reached.log
  ends_as t end x = subst (λ z. walk.Ends z (hooks asked a c e h t) (call_budget asked a c e h t) (edit_budget asked a c e h t) (walk_of asked a c e h t).made.state h.reached.log) x (walk_of asked a c e h t).ends

  module _ (after : List PluginSeen) (heard : O.Heard asked.shelf after e.log.items) where
    failed_only : (text : List ℕ) (m : N.Moment) → e.fault ≡ Some (PluginFailed text m) → (x : EndsCalled e.log.items m (Some text)) × Grew text (hook_at asked.shelf x.plugin x.hook) (hook_at after x.plugin x.hook)
    failed_only text m g =
        let q = cause_of asked a c e h (Some (PluginFailed text m)) g in
        let t = q.0 in
        let w = walk_of asked a c e h t in
        let l = log_of asked a c e h t in
        let x : EndsCalled e.log.items m (Some text) = subst (λ z. EndsCalled z m (Some text)) (sym l) (ends_as t (W.Failed text m) q.1) in
        let run = ap (follow (hooks asked a c e h t) (edit_budget asked a c e h t) (start (hooks asked a c e h t) w.made.forest.nodes)) l ∙ w.made.run in
        let there = there_at asked.shelf t.options.picked (edit_budget asked a c e h t) w.made.forest.nodes w.made.state e.log.items m text run x in
        let alone = failed_said (hooks asked a c e h t) (edit_budget asked a c e h t) (start (hooks asked a c e h t) w.made.forest.nodes) w.made.state e.log.items x.plugin x.hook m text run (failed_of e.log.items m text x) in
        (x, grew_by x.plugin x.hook e.log.items text (hook_at asked.shelf x.plugin x.hook) (hook_at after x.plugin x.hook) (heard.hooks x.plugin x.hook) there alone.said)

    failed_turn : (i j : ℕ) → said_of i j false e.log.items ≢ [] → Turned asked.command h.bytes h.reading h.failed
    failed_turn i j n =
        elim (has_turn asked a c e h) [
          | inl none ↦ absurd (n (ap (said_of i j false) (no_log asked a c e h none)))
          | inr t ↦ t
        ]

    failed_always : (i j : ℕ) → HasSaid (hook_at asked.shelf i j) (hook_at after i j) → (text : List ℕ) × ((m : N.Moment) × (e.fault ≡ Some (PluginFailed text m)))
    failed_always i j s =
        let n = said_some i j e.log.items (hook_at asked.shelf i j) (hook_at after i j) (heard.hooks i j) s in
        let t = failed_turn i j n in
        let w = walk_of asked a c e h t in
        let l = log_of asked a c e h t in
        let o = said_once (hooks asked a c e h t) (edit_budget asked a c e h t) (start (hooks asked a c e h t) w.made.forest.nodes) w.made.state h.reached.log i j refl w.made.run (subst (λ z. said_of i j false z ≢ []) l n) in
        let end = end_is asked a c e h t (W.Failed o.text o.moment) (called_of i j h.reached.log o.moment o.text o.ends) in
        (o.text, (o.moment, faulty_end t (W.Failed o.text o.moment) (PluginFailed o.text o.moment) end refl))

    pub plugin_failed : PluginFailedCause asked.shelf after e
    plugin_failed = record { only = λ text m g. failed_only text m g; always = λ i j s. failed_always i j s }

  -- what the machine asks for beyond the budget of calls
  beyond_only : (calls : ℕ) (m : N.Moment) → e.fault ≡ Some (BudgetSpent calls m) → AsksBeyond asked (chars h.bytes) e.log.items calls m
  beyond_only calls m g =
      let q = cause_of asked a c e h (Some (BudgetSpent calls m)) g in
      let t = q.0 in
      let x = ends_as t (W.BudgetSpent calls m) q.1 in
      let r : AsksBeyond asked (chars h.bytes) h.reached.log calls m = record { of = is_log asked a c e h t; budget = x.0; spent = x.1 ∙ sym x.0; is_next = x.2 } in
      subst (λ z. AsksBeyond asked (chars h.bytes) z calls m) (sym (log_of asked a c e h t)) r

  beyond_always : (t : Turned asked.command h.bytes h.reading h.failed) (calls : ℕ) (m : N.Moment) → AsksBeyond asked (chars h.bytes) h.reached.log calls m → e.fault ≡ Some (BudgetSpent calls m)
  beyond_always t calls m x =
      let o = options_same asked a c e h t x.of in
      let v = tree_same asked a c e h t x.of in
      let b : calls ≡ call_budget asked a c e h t = x.budget ∙ (ap (λ z. budget_for z.budget x.of.tree) o ∙ ap (budget_for t.options.budget) v) in
      let n0 : IsNextCall (picked_hooks asked.shelf x.of.options.picked) x.of.run.state m = x.is_next in
      let n1 = subst (λ z. IsNextCall (picked_hooks asked.shelf z.picked) x.of.run.state m) o n0 in
      let n2 = subst (λ s. IsNextCall (hooks asked a c e h t) s m) (state_same asked a c e h t x.of) n1 in
      faulty_end t (W.BudgetSpent calls m) (BudgetSpent calls m) (end_is asked a c e h t (W.BudgetSpent calls m) (b, x.spent ∙ b, n2)) refl

  pub budget_spent : BudgetCause asked a e
  budget_spent = record {
    only = λ bytes calls m is g. subst (λ b. AsksBeyond asked (chars b) e.log.items calls m) (told h.bytes bytes a.left is h.fed.told) (beyond_only calls m g);
    always = λ bytes calls m is w x.
        let t = work_turn asked a c e h w in
        let s = sym (told h.bytes bytes a.left is h.fed.told) in
        beyond_always t calls m (subst (λ z. AsksBeyond asked (chars h.bytes) z calls m) (log_of asked a c e h t) (subst (λ b. AsksBeyond asked (chars b) e.log.items calls m) s x));
  }

  -- more edits than the budget allows
  edits_only : (edits budget : ℕ) (m : N.Moment) → e.fault ≡ Some (EditBudgetSpent edits budget m) → EditsBeyond asked (chars h.bytes) e.log.items edits budget m
  edits_only edits budget m g =
      let q = cause_of asked a c e h (Some (EditBudgetSpent edits budget m)) g in
      let t = q.0 in
      let x = ends_as t (W.EditBudgetSpent edits m) q.2 in
      let r : EditsBeyond asked (chars h.bytes) h.reached.log edits budget m = record { of = is_log asked a c e h t; is_budget = q.1; made = x.0; passed = subst (λ b. b < edits) (sym q.1) x.1; ends = x.2 } in
      subst (λ z. EditsBeyond asked (chars h.bytes) z edits budget m) (sym (log_of asked a c e h t)) r

  edits_always : (t : Turned asked.command h.bytes h.reading h.failed) (edits budget : ℕ) (m : N.Moment) → EditsBeyond asked (chars h.bytes) h.reached.log edits budget m → e.fault ≡ Some (EditBudgetSpent edits budget m)
  edits_always t edits budget m x =
      let o = options_same asked a c e h t x.of in
      let v = tree_same asked a c e h t x.of in
      let b : budget ≡ edit_budget asked a c e h t = x.is_budget ∙ (ap (λ z. budget_for z.edit_budget x.of.tree) o ∙ ap (budget_for t.options.edit_budget) v) in
      let n = x.made ∙ ap (λ s. s.edits) (state_same asked a c e h t x.of) in
      faulty_end t (W.EditBudgetSpent edits m) (EditBudgetSpent edits budget m) (end_is asked a c e h t (W.EditBudgetSpent edits m) (n, subst (λ z. z < edits) b x.passed, x.ends)) (ap (λ z. Some (EditBudgetSpent edits z m)) (sym b))

  pub edit_budget_spent : EditBudgetCause asked a e
  edit_budget_spent = record {
    only = λ bytes edits budget m is g. subst (λ b. EditsBeyond asked (chars b) e.log.items edits budget m) (told h.bytes bytes a.left is h.fed.told) (edits_only edits budget m g);
    always = λ bytes edits budget m is w x.
        let t = work_turn asked a c e h w in
        let s = sym (told h.bytes bytes a.left is h.fed.told) in
        edits_always t edits budget m (subst (λ z. EditsBeyond asked (chars h.bytes) z edits budget m) (log_of asked a c e h t) (subst (λ b. EditsBeyond asked (chars b) e.log.items edits budget m) s x));
  }

  -- the printing of what was read, where nothing is edited, is the text
  prints_text : (p : Printed asked.command h.bytes h.reading h.reached h.failed (its_answer asked a c e h)) → IsQuiet h.reached.log → (its_answer asked a c e h).out ≡ h.bytes
  prints_text p q =
      let t = p.turned in
      let w = walk_of asked a c e h t in
      let k = quiet_sheet (hooks asked a c e h t) (edit_budget asked a c e h t) w.made.forest h.reached.log w.made.state w.made.is_forest w.made.is_fresh q w.made.run in
      p.out ∙ (ap (λ ns. encode_utf8_all (print (tree_at ns 0))) w.nodes ∙ (ap encode_utf8_all (k ∙ w.made.of) ∙ encodes-chars h.bytes t.text.utf8))

  quiet_log : (t : Turned asked.command h.bytes h.reading h.failed) (o : Options) → asked.command ≡ Some (Transform o) → AreQuiet asked.shelf o.picked → IsQuiet h.reached.log
  quiet_log t o k q =
      let w = walk_of asked a c e h t in
      quiet_run asked.shelf t.options.picked (edit_budget asked a c e h t) w.made.forest.nodes h.reached.log w.made.state (subst (λ z. AreQuiet asked.shelf z.picked) (same_options asked.command o t.options k t.is) q) w.made.duties w.made.run

  pub unchanged : UnchangedCause asked a c e
  unchanged bytes o k q is none b =
      elim (unfaulty asked a c e h none).by [
        | inl p ↦ subst (Appends a.out c.out) (prints_text p (quiet_log p.turned o k q) ∙ told h.bytes bytes a.left is h.fed.told) (took_whole _ a.out c.out a.outs c.outs h.out b)
        | inr l ↦ not_lint asked.command o k l.is
      ]

  keeps_untouched : (p : Printed asked.command h.bytes h.reading h.reached h.failed (its_answer asked a c e h)) → KeepsUntouched asked (chars h.bytes) a c h.reached.log
  keeps_untouched p =
      let t = p.turned in
      let w = walk_of asked a c e h t in
      record {
        of = is_log asked a c e h t;
        prints = λ b. subst (Appends a.out c.out) (p.out ∙ ap (λ ns. encode_utf8_all (print (tree_at ns 0))) w.nodes) (took_whole _ a.out c.out a.outs c.outs h.out b);
        kept = λ n l u. law.untouched (hooks asked a c e h t) (edit_budget asked a c e h t) w.made.forest h.reached.log w.made.state n w.made.is_forest w.made.is_fresh w.made.run l u;
      }

  pub untouched : UntouchedCause asked a c e
  untouched bytes k is none =
      elim (unfaulty asked a c e h none).by [
        | inl p ↦ subst (λ b. KeepsUntouched asked (chars b) a c e.log.items) (told h.bytes bytes a.left is h.fed.told) (subst (KeepsUntouched asked (chars h.bytes) a c) (sym (log_of asked a c e h p.turned)) (keeps_untouched p))
        | inr l ↦ not_lint asked.command k.0 k.1 l.is
      ]

  -- no run has ended before its first item
  not_ended : (of : IsLogOf asked (chars h.bytes) []) → of.run.state.stage ≡ M.Ended → ⊥
  not_ended of s =
      let r : Some (start (picked_hooks asked.shelf of.options.picked) of.run.forest.nodes) ≡ Some of.run.state = of.run.run in
      let q : start (picked_hooks asked.shelf of.options.picked) of.run.forest.nodes ≡ of.run.state = cc in
      let x = ap (λ z. z.stage) q ∙ s in
      absurd (cc)

  settled_walk : (t : Turned asked.command h.bytes h.reading h.failed) (of : IsLogOf asked (chars h.bytes) h.reached.log) → of.run.state.stage ≡ M.Ended → SettlesAt (picked_hooks asked.shelf of.options.picked) (budget_for of.options.edit_budget of.tree) of.run.forest.nodes h.reached.log
  settled_walk t of s =
      let w = walk_of asked a c e h t in
      let end = end_is asked a c e h t W.Done (sym (ap (λ z. z.stage) (state_same asked a c e h t of)) ∙ s) in
      let r3 : SettlesAt (hooks asked a c e h t) (edit_budget asked a c e h t) w.made.forest.nodes h.reached.log = w.settled end in
      let r2 = subst (λ ns. SettlesAt (hooks asked a c e h t) (edit_budget asked a c e h t) ns h.reached.log) (sym (nodes_same asked a c e h t of)) r3 in
      let r1 = subst (λ v. SettlesAt (hooks asked a c e h t) (budget_for t.options.edit_budget v) of.run.forest.nodes h.reached.log) (sym (tree_same asked a c e h t of)) r2 in
      subst (λ o. SettlesAt (picked_hooks asked.shelf o.picked) (budget_for o.edit_budget of.tree) of.run.forest.nodes h.reached.log) (sym (options_same asked a c e h t of)) r1

  -- the same of the bytes and the log as they are known
  abbrev Settled : List ℕ → List Item → Type 0
  Settled s log = (of : IsLogOf asked s log) → of.run.state.stage ≡ M.Ended → SettlesAt (picked_hooks asked.shelf of.options.picked) (budget_for of.options.edit_budget of.tree) of.run.forest.nodes log

  settled_log : Settled (chars h.bytes) e.log.items
  settled_log =
      elim (has_turn asked a c e h) [
        | inl none ↦ subst (Settled (chars h.bytes)) (sym (no_log asked a c e h none)) (λ of s. absurd (not_ended of s))
        | inr t ↦ subst (Settled (chars h.bytes)) (sym (log_of asked a c e h t)) (λ of s. settled_walk t of s)
      ]

  pub settled : SettledCause asked a e
  settled bytes is = subst (λ b. Settled (chars b) e.log.items) (told h.bytes bytes a.left is h.fed.told) settled_log

  no_edits_spent : (edits budget : ℕ) (m : N.Moment) → IsQuiet e.log.items → EditsBeyond asked (chars h.bytes) e.log.items edits budget m → ⊥
  no_edits_spent edits budget m q x =
      let hs = picked_hooks asked.shelf x.of.options.picked in
      let z = quiet_edits hs (budget_for x.of.options.edit_budget x.of.tree) (start hs x.of.run.forest.nodes) x.of.run.state e.log.items q x.of.run.run in
      let p = x.passed in
      let i = x.made in
      omega arith

  no_calls_spent : (t : Tree) (o : Options) (calls : ℕ) (m : N.Moment) → Reads (chars h.bytes) t → asked.command ≡ Some (Transform o) → o.budget ≡ None → IsQuiet e.log.items → length (picked_hooks asked.shelf o.picked) ≤ 40 → length (picked_hooks asked.shelf o.picked) * length (numbered t) ≤ 20000000 → AsksBeyond asked (chars h.bytes) e.log.items calls m → ⊥
  no_calls_spent t o calls m r k none q few less x =
      let p = same_options asked.command x.of.options o x.of.is_transform k in
      let hs = picked_hooks asked.shelf o.picked in
      let size : length x.of.run.forest.nodes ≡ length (numbered t) = fresh_length x.of.run.forest x.of.run.is_fresh t (subst (λ s. Reads s t) (sym x.of.run.of) r) in
      let v : x.of.tree ≡ t = tree.one_reading (chars h.bytes) x.of.tree t x.of.reads r in
      let some : 0 < length x.of.run.forest.nodes = x.of.run.is_forest.some in
      let l0 = next_bounded (picked_hooks asked.shelf x.of.options.picked) (budget_for x.of.options.edit_budget x.of.tree) x.of.run.forest.nodes e.log.items x.of.run.state m some q x.of.run.run x.is_next in
      let l1 : calls_in e.log.items < length hs * length x.of.run.forest.nodes = subst (λ z. calls_in e.log.items < length (picked_hooks asked.shelf z.picked) * length x.of.run.forest.nodes) p l0 in
      let l2 : calls_in e.log.items < length hs * length (numbered t) = subst (λ z. calls_in e.log.items < length hs * z) size l1 in
      let b : calls ≡ min most_budget (1000 + 40 * length (numbered t)) = x.budget ∙ (ap (λ z. budget_for z.budget x.of.tree) p ∙ (ap (λ z. budget_for z x.of.tree) none ∙ ap (budget_for None) v)) in
      budget_beyond (length hs) (length (numbered t)) calls few less b (subst (λ z. z < length hs * length (numbered t)) x.spent l2)

  pub never_spent : NeverSpent asked a e
  never_spent = record {
    calls = λ bytes t o calls m is r k none q few less g. no_calls_spent t o calls m (subst (λ b. Reads (chars b) t) (sym (told h.bytes bytes a.left is h.fed.told)) r) k none q few less (beyond_only calls m g);
    edits = λ bytes edits budget m is q g. no_edits_spent edits budget m q (edits_only edits budget m g);
  }
