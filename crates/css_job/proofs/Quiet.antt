-- Runs without an edit: where no picked visitor may make one, how many edits are counted, and how many calls are made.
use Rattle.std.proofs.Common.{◌≡◌, ℕ, suc, ◌+◌, ◌*◌, ◌<◌, ◌≤◌, List, [], ◌∷◌, ◌++◌, length, Bool, true, false, Option, Some, None, IsSome, Ok, Err, refl, ap, sym, ◌∙◌, subst, cond, map, append_assoc, arith}
use Rattle.std.specs.Prelude.{◌&&◌, slice_get}
use Rattle.std.proofs.lemmas.Bool.{false≢true, and_parts}
use Rattle.std.proofs.lemmas.List.{length-map}
use Rattle.std.proofs.lemmas.List.Elements.{All-head, All-tail}
use Rattle.css_tree.specs.Tree.{Tree}
use Rattle.css_tree.specs.Reads.{Reads}
use Rattle.css_tree.specs.Numbered.{numbered}
use Rattle.css_tree.proofs.Reading as tree
use Rattle.node_rows.specs.Nodes.{Node}
use Rattle.node_rows.proofs.Built.{nodes_of-length}
use Rattle.node_store.specs.declared.item.Edit.{Edit}
use Rattle.node_store.specs.declared.item.Item.{Item}
use Rattle.node_store.specs.declared.item.Item.TheVariants as I
use Rattle.node_store.specs.declared.item.Moment.{Moment}
use Rattle.node_store.specs.Edits.{can}
use Rattle.node_store.specs.Forest.{Forest}
use Rattle.node_store.specs.Fresh.{numbered_of, IsFresh}
use Rattle.plugin_api.specs.declared.visitor.Duty.TheVariants.{Quiet}
use Rattle.plugin_api.specs.declared.visitor.VisitFault.TheVariants.{Plugin, Memory}
use Rattle.plugin_api.specs.Visit.{Answer, Does, Dutiful}
use Rattle.plugin_api.specs.Shelf.{HookSeen, PluginSeen, hooks_of, hook_at}
use Rattle.visitor_machine.specs.Hooks.{PickedHook}
use Rattle.visitor_machine.specs.Machine.{State, Move, ToPass, ToRoot, ToChild, ToEnterHook, ToExitHook, ToOnce, ToOnceExit, ToLeave, ToEnd, Nothing, item_of, turn, done}
use Rattle.visitor_machine.specs.Follow.{same_item, is_item, by_move, follow, start}
use Rattle.visitor_machine.specs.Calls.{calls_in, IsQuiet}
use Rattle.visitor_machine.proofs.Bound.{bounded}
use Rattle.visitor_machine.proofs.Ends.{Each}
use Rattle.visitor_machine.proofs.Runs.{when_parts, by_move_parts, follow_parts, some_same}
use Rattle.visitor_machine.proofs.Turns.{follow_one, step_item}
use Rattle.visitor_walk.specs.Heard.{edits_ahead, came_back, duty_of, KeepDuties}
use Rattle.visitor_walk.specs.Picked.{hooks_from, picked_hooks}
use Rattle.visitor_walk.specs.Walk.{IsNextCall}
use Rattle.visitor_walk.proofs.Calling.{back_free, back_edits}
use Rattle.visitor_walk.proofs.Chunks.{calls-append}
use Rattle.visitor_walk.proofs.Picking.{IsThere, picked_there}
use Rattle.css_job.specs.TransformPromises.{AreQuiet}
use Rattle.css_job.proofs.PickedCalls.{each_append, each_from_all, Stays, step_stays, call_place, start_stays}

-- the edits that stand first, and what stands behind them
record Split (is : List Item) : Type 0 where
  pub edits : List Edit
  pub rest : List Item
  pub are : is ≡ map (λ e. I.Edit e) edits ++ rest
  pub none : edits_ahead rest ≡ 0

split : (is : List Item) → Split is
split [] = record { edits = []; rest = []; are = refl; none = refl }
split (I.Edit e ∷ is) = let s = split is in record { edits = e ∷ s.edits; rest = s.rest; are = ap (λ l. I.Edit e ∷ l) s.are; none = s.none }
split (I.Pass ∷ is) = record { edits = []; rest = I.Pass ∷ is; are = refl; none = refl }
split (I.Enter n ∷ is) = record { edits = []; rest = I.Enter n ∷ is; are = refl; none = refl }
split (I.Call p k m ∷ is) = record { edits = []; rest = I.Call p k m ∷ is; are = refl; none = refl }
split (I.Back o ∷ is) = record { edits = []; rest = I.Back o ∷ is; are = refl; none = refl }
split (I.Leave n ∷ is) = record { edits = []; rest = I.Leave n ∷ is; are = refl; none = refl }
split (I.End ∷ is) = record { edits = []; rest = I.End ∷ is; are = refl; none = refl }

front_nil : {A : Type 0} (xs ys : List A) → [] ≡ xs ++ ys → xs ≡ []
front_nil [] ys e = refl
front_nil (x ∷ xs) ys e = absurd cc

-- a quiet visitor makes no edit
no_edits : (ns : List Node) (m : Moment) (es : List Edit) (r : Answer) → Does Quiet ns m es r → es ≡ []
no_edits ns m es (Ok x) d = d
no_edits ns m es (Err (Plugin text)) d = absurd d
no_edits ns m es (Err (Memory x)) d = let q = d [] refl in front_nil es q.0 q.1

abbrev IsNoCall : Item → Type 0
IsNoCall (I.Call p k m) = ⊥
IsNoCall _ = Unit {0}

no_call : (i : Item) (p k : ℕ) (m : Moment) → IsNoCall i → same_item i (I.Call p k m) ≡ true → ⊥
no_call I.Pass p k m h e = false≢true e
no_call (I.Enter n) p k m h e = false≢true e
no_call (I.Call q l o) p k m h e = h
no_call (I.Edit x) p k m h e = false≢true e
no_call (I.Back o) p k m h e = false≢true e
no_call (I.Leave n) p k m h e = false≢true e
no_call I.End p k m h e = false≢true e

module _ (hs : List PickedHook) where
  done_free : (s : State) (i : Item) (v : Move) → IsNoCall i → is_item i (item_of v) ≡ true → s.calling ≡ false → (done hs s v).calling ≡ false
  done_free s i ToPass h e c = c
  done_free s i ToRoot h e c = c
  done_free s i (ToChild n k) h e c = c
  done_free s i (ToEnterHook n x k) h e c = absurd (no_call i x.plugin x.hook _ h e)
  done_free s i (ToExitHook n x k) h e c = absurd (no_call i x.plugin x.hook _ h e)
  done_free s i (ToOnce x l) h e c = absurd (no_call i x.plugin x.hook _ h e)
  done_free s i (ToOnceExit x l) h e c = absurd (no_call i x.plugin x.hook _ h e)
  done_free s i (ToLeave n) h e c = c
  done_free s i ToEnd h e c = c
  done_free s i Nothing h e c = c

  moves_free : (s t : State) (i : Item) (b : Bool) → by_move hs s i b ≡ Some t → b ≡ false
  moves_free s t i true e = absurd cc
  moves_free s t i false e = refl

  moved_free : (s t : State) (i : Item) → IsNoCall i → by_move hs s i s.calling ≡ Some t → t.calling ≡ false
  moved_free s t i h e =
      let p = by_move_parts hs s i s.calling e in
      ap (λ u. u.calling) (sym p.1) ∙ done_free s i (turn hs s) h p.0 (moves_free s t i s.calling e)

  done_edits : (s : State) (v : Move) → (done hs s v).edits ≡ s.edits
  done_edits s ToPass = refl
  done_edits s ToRoot = refl
  done_edits s (ToChild n k) = refl
  done_edits s (ToEnterHook n x k) = refl
  done_edits s (ToExitHook n x k) = refl
  done_edits s (ToOnce x l) = refl
  done_edits s (ToOnceExit x l) = refl
  done_edits s (ToLeave n) = refl
  done_edits s ToEnd = refl
  done_edits s Nothing = refl

  moved_edits : (s t : State) (i : Item) → by_move hs s i s.calling ≡ Some t → t.edits ≡ s.edits
  moved_edits s t i e = ap (λ u. u.edits) (sym (by_move_parts hs s i s.calling e).1) ∙ done_edits s (turn hs s)

  -- without an edit none is counted
  pub quiet_edits : (most : ℕ) (s t : State) (log : List Item) → IsQuiet log → follow hs most s log ≡ Some t → t.edits ≡ s.edits
  quiet_edits most s t [] q e = ap (λ u. u.edits) (sym (some_same e))
  quiet_edits most s t (I.Edit x ∷ is) q e = absurd q
  quiet_edits most s t (I.Back o ∷ is) q e =
      let p = follow_parts hs most s (I.Back o) is t e in
      quiet_edits most p.mid t is q p.rest ∙ (ap (λ u. u.edits) (sym (when_parts s.calling p.first).1) ∙ back_edits most s o)
  quiet_edits most s t (I.Pass ∷ is) q e = let p = follow_parts hs most s I.Pass is t e in quiet_edits most p.mid t is q p.rest ∙ moved_edits s p.mid I.Pass p.first
  quiet_edits most s t (I.Enter n ∷ is) q e = let p = follow_parts hs most s (I.Enter n) is t e in quiet_edits most p.mid t is q p.rest ∙ moved_edits s p.mid (I.Enter n) p.first
  quiet_edits most s t (I.Call p k m ∷ is) q e = let r = follow_parts hs most s (I.Call p k m) is t e in quiet_edits most r.mid t is q r.rest ∙ moved_edits s r.mid (I.Call p k m) r.first
  quiet_edits most s t (I.Leave n ∷ is) q e = let p = follow_parts hs most s (I.Leave n) is t e in quiet_edits most p.mid t is q p.rest ∙ moved_edits s p.mid (I.Leave n) p.first
  quiet_edits most s t (I.End ∷ is) q e = let p = follow_parts hs most s I.End is t e in quiet_edits most p.mid t is q p.rest ∙ moved_edits s p.mid I.End p.first

quiet_call : (is : List Item) (p k : ℕ) (m : Moment) → IsQuiet is → IsQuiet (is ++ I.Call p k m ∷ [])
quiet_call [] p k m q = tt
quiet_call (I.Edit x ∷ is) p k m q = absurd q
quiet_call (I.Back o ∷ is) p k m q = quiet_call is p k m q
quiet_call (I.Pass ∷ is) p k m q = quiet_call is p k m q
quiet_call (I.Enter n ∷ is) p k m q = quiet_call is p k m q
quiet_call (I.Call r l o ∷ is) p k m q = quiet_call is p k m q
quiet_call (I.Leave n ∷ is) p k m q = quiet_call is p k m q
quiet_call (I.End ∷ is) p k m q = quiet_call is p k m q

next_parts : (b : Bool) (o : Option Item) (i : Item) → cond {A = Option Item} b None o ≡ Some i → (b ≡ false) × (o ≡ Some i)
next_parts true o i e = absurd cc
next_parts false o i e = (refl, e)

-- one call more would be no more calls than there are hooks times nodes
pub next_bounded : (hs : List PickedHook) (most : ℕ) (ns : List Node) (log : List Item) (s : State) (m : Moment) → 0 < length ns → IsQuiet log → follow hs most (start hs ns) log ≡ Some s → IsNextCall hs s m → calls_in log < length hs * length ns
next_bounded hs most ns log s m z q e n =
    let x = next_parts s.calling (item_of (turn hs s)) (I.Call n.plugin n.hook m) n.is in
    let t = step_item hs most s (I.Call n.plugin n.hook m) x.0 x.1 in
    let run = follow_one hs most (start hs ns) s (done hs s (turn hs s)) log (I.Call n.plugin n.hook m) e t in
    let b = bounded hs most ns (log ++ I.Call n.plugin n.hook m ∷ []) (done hs s (turn hs s)) z (quiet_call log n.plugin n.hook m q) run in
    let c : calls_in (log ++ I.Call n.plugin n.hook m ∷ []) ≡ calls_in log + 1 = calls-append log (I.Call n.plugin n.hook m ∷ []) in
    subst (λ y. y ≤ length hs * length ns) (c ∙ plus_one (calls_in log)) b
  where
    plus_one : (k : ℕ) → k + 1 ≡ suc k
    plus_one k = omega arith

-- a fresh forest has the nodes of its text's tree
pub fresh_length : (f : Forest) (h : IsFresh f) (t : Tree) → Reads f.text t → length f.nodes ≡ length (numbered t)
fresh_length f h t r =
    ap length h.are_nodes
    ∙ (nodes_of-length h.entries
    ∙ (sym (length-map h.entries numbered_of)
    ∙ (ap length h.are_numbered ∙ ap (λ x. length (numbered x)) (tree.one_reading f.text h.tree t h.reads r))))

-- every hook at that place is there and quiet
abbrev QuietAt : List PluginSeen → ℕ → Type 0
QuietAt shelf i = (j : ℕ) (h : HookSeen) → hook_at shelf i j ≡ Some h → h.duty ≡ Some Quiet

abbrev IsQuietHook : List PluginSeen → ℕ → ℕ → Type 0
IsQuietHook shelf p k = (h : HookSeen) × (hook_at shelf p k ≡ Some h) × (h.duty ≡ Some Quiet)

hooks_quiet : (shelf : List PluginSeen) (i k : ℕ) (hs : List HookSeen) → QuietAt shelf i → Each (λ x. QuietAt shelf x.plugin) (hooks_from i k hs)
hooks_quiet shelf i k [] q = tt
hooks_quiet shelf i k (h ∷ hs) q = (q, hooks_quiet shelf i (suc k) hs q)

picked_quiet : (shelf : List PluginSeen) (picked : List ℕ) → AreQuiet shelf picked → Each (λ x. QuietAt shelf x.plugin) (picked_hooks shelf picked)
picked_quiet shelf [] q = tt
picked_quiet shelf (i ∷ is) q = each_append (λ x. QuietAt shelf x.plugin) (hooks_from i 0 (hooks_of (slice_get shelf i))) (picked_hooks shelf is) (hooks_quiet shelf i 0 (hooks_of (slice_get shelf i)) (All-head (QuietAt shelf) i is q)) (picked_quiet shelf is (All-tail (QuietAt shelf) i is q))

quiet_hook : (shelf : List PluginSeen) (p k : ℕ) (o : Option HookSeen) → hook_at shelf p k ≡ o → IsSome o → QuietAt shelf p → IsQuietHook shelf p k
quiet_hook shelf p k None e s q = absurd (false≢true s)
quiet_hook shelf p k (Some h) e s q = (h, e, q k h e)

quiet_each : (shelf : List PluginSeen) (hs : List PickedHook) → Each (IsThere shelf) hs → Each (λ x. QuietAt shelf x.plugin) hs → Each (λ x. IsQuietHook shelf x.plugin x.hook) hs
quiet_each shelf [] t q = tt
quiet_each shelf (h ∷ hs) t q = (quiet_hook shelf h.plugin h.hook (hook_at shelf h.plugin h.hook) refl t.0 q.0, quiet_each shelf hs t.1 q.1)

duty_none : (shelf : List PluginSeen) (p k : ℕ) (ns : List Node) (m : Moment) (es : List Edit) (r : Answer) → IsQuietHook shelf p k → duty_of (hook_at shelf p k) ns m es r → es ≡ []
duty_none shelf p k ns m es r x d = no_edits ns m es r (subst (λ y. Dutiful y ns m es r) x.2 (subst (λ o. duty_of o ns m es r) x.1 d))

module _ (shelf : List PluginSeen) (hs : List PickedHook) (all : Each (λ x. IsQuietHook shelf x.plugin x.hook) hs) (most : ℕ) (ns : List Node) (items : List Item) (duties : KeepDuties shelf hs most ns items) where
  -- the items end with a call
  record Opened (front : List Item) : Type 0 where
    pub before : List Item
    pub plugin : ℕ
    pub hook : ℕ
    pub moment : Moment
    pub state : State
    pub are : front ≡ before ++ I.Call plugin hook moment ∷ []
    pub run : follow hs most (start hs ns) before ≡ Some state
    pub quiet : IsQuietHook shelf plugin hook

  abbrev WhenOpen : List Item → Bool → Type 0
  WhenOpen front true = Opened front
  WhenOpen front false = Unit {0}

  when_open : (front : List Item) (b : Bool) → Opened front → WhenOpen front b
  when_open front true o = o
  when_open front false o = tt

  when_free : (front : List Item) (b : Bool) → b ≡ false → WhenOpen front b
  when_free front b e = subst (WhenOpen front) (sym e) tt

  never_edits : (front is : List Item) (e : Edit) → Opened front → items ≡ front ++ I.Edit e ∷ is → ⊥
  never_edits front is e o i =
      let s = split is in
      let a : items ≡ o.before ++ I.Call o.plugin o.hook o.moment ∷ (I.Edit e ∷ is) = i ∙ (ap (λ l. l ++ I.Edit e ∷ is) o.are ∙ append_assoc o.before (I.Call o.plugin o.hook o.moment ∷ []) (I.Edit e ∷ is)) in
      let b : items ≡ o.before ++ I.Call o.plugin o.hook o.moment ∷ (map (λ x. I.Edit x) (e ∷ s.edits) ++ s.rest) = a ∙ ap (λ l. o.before ++ I.Call o.plugin o.hook o.moment ∷ (I.Edit e ∷ l)) s.are in
      let d = duties o.before o.plugin o.hook o.moment (e ∷ s.edits) s.rest o.state b s.none o.run in
      let n = duty_none shelf o.plugin o.hook o.state.nodes o.moment (e ∷ s.edits) (came_back s.rest) o.quiet d in
      cc

  quiet_from : (front is : List Item) (s t : State) → follow hs most (start hs ns) front ≡ Some s → Stays (IsQuietHook shelf) hs all s.stage → WhenOpen front s.calling → follow hs most s is ≡ Some t → items ≡ front ++ is → IsQuiet is
  quiet_from front [] s t run h w e i = tt
  quiet_from front (I.Edit x ∷ is) s t run h w e i =
      let p = follow_parts hs most s (I.Edit x) is t e in
      let c = (and_parts s.calling (can s.nodes x) (when_parts (s.calling && can s.nodes x) p.first).0).0 in
      never_edits front is x (subst (WhenOpen front) c w) i
  quiet_from front (I.Back o ∷ is) s t run h w e i =
      let p = follow_parts hs most s (I.Back o) is t e in
      let c : p.mid.calling ≡ false = ap (λ u. u.calling) (sym (when_parts s.calling p.first).1) ∙ back_free most s o in
      quiet_from (front ++ I.Back o ∷ []) is p.mid t (follow_one hs most (start hs ns) s p.mid front (I.Back o) run p.first) (step_stays (IsQuietHook shelf) hs all most s p.mid (I.Back o) h p.first) (when_free (front ++ I.Back o ∷ []) p.mid.calling c) p.rest (i ∙ sym (append_assoc front (I.Back o ∷ []) is))
  quiet_from front (I.Call r k m ∷ is) s t run h w e i =
      let p = follow_parts hs most s (I.Call r k m) is t e in
      let o : Opened (front ++ I.Call r k m ∷ []) = record { before = front; plugin = r; hook = k; moment = m; state = s; are = refl; run = run; quiet = call_place (IsQuietHook shelf) hs all most s p.mid r k m h p.first } in
      quiet_from (front ++ I.Call r k m ∷ []) is p.mid t (follow_one hs most (start hs ns) s p.mid front (I.Call r k m) run p.first) (step_stays (IsQuietHook shelf) hs all most s p.mid (I.Call r k m) h p.first) (when_open (front ++ I.Call r k m ∷ []) p.mid.calling o) p.rest (i ∙ sym (append_assoc front (I.Call r k m ∷ []) is))
  quiet_from front (I.Pass ∷ is) s t run h w e i =
      let p = follow_parts hs most s I.Pass is t e in
      quiet_from (front ++ I.Pass ∷ []) is p.mid t (follow_one hs most (start hs ns) s p.mid front I.Pass run p.first) (step_stays (IsQuietHook shelf) hs all most s p.mid I.Pass h p.first) (when_free (front ++ I.Pass ∷ []) p.mid.calling (moved_free hs s p.mid I.Pass tt p.first)) p.rest (i ∙ sym (append_assoc front (I.Pass ∷ []) is))
  quiet_from front (I.Enter n ∷ is) s t run h w e i =
      let p = follow_parts hs most s (I.Enter n) is t e in
      quiet_from (front ++ I.Enter n ∷ []) is p.mid t (follow_one hs most (start hs ns) s p.mid front (I.Enter n) run p.first) (step_stays (IsQuietHook shelf) hs all most s p.mid (I.Enter n) h p.first) (when_free (front ++ I.Enter n ∷ []) p.mid.calling (moved_free hs s p.mid (I.Enter n) tt p.first)) p.rest (i ∙ sym (append_assoc front (I.Enter n ∷ []) is))
  quiet_from front (I.Leave n ∷ is) s t run h w e i =
      let p = follow_parts hs most s (I.Leave n) is t e in
      quiet_from (front ++ I.Leave n ∷ []) is p.mid t (follow_one hs most (start hs ns) s p.mid front (I.Leave n) run p.first) (step_stays (IsQuietHook shelf) hs all most s p.mid (I.Leave n) h p.first) (when_free (front ++ I.Leave n ∷ []) p.mid.calling (moved_free hs s p.mid (I.Leave n) tt p.first)) p.rest (i ∙ sym (append_assoc front (I.Leave n ∷ []) is))
  quiet_from front (I.End ∷ is) s t run h w e i =
      let p = follow_parts hs most s I.End is t e in
      quiet_from (front ++ I.End ∷ []) is p.mid t (follow_one hs most (start hs ns) s p.mid front I.End run p.first) (step_stays (IsQuietHook shelf) hs all most s p.mid I.End h p.first) (when_free (front ++ I.End ∷ []) p.mid.calling (moved_free hs s p.mid I.End tt p.first)) p.rest (i ∙ sym (append_assoc front (I.End ∷ []) is))

-- where every picked visitor is quiet, a run has no edit
pub quiet_run : (shelf : List PluginSeen) (picked : List ℕ) (most : ℕ) (ns : List Node) (items : List Item) (t : State) → AreQuiet shelf picked → KeepDuties shelf (picked_hooks shelf picked) most ns items → follow (picked_hooks shelf picked) most (start (picked_hooks shelf picked) ns) items ≡ Some t → IsQuiet items
quiet_run shelf picked most ns items t q d e =
    let hs = picked_hooks shelf picked in
    let all = quiet_each shelf hs (each_from_all (IsThere shelf) hs (picked_there shelf picked)) (picked_quiet shelf picked q) in
    quiet_from shelf hs all most ns items d [] items (start hs ns) t refl (start_stays (IsQuietHook shelf) hs all ns) tt e refl
