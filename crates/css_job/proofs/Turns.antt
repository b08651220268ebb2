-- When a run has a walk, and what that is.
use Rattle.std.proofs.Common.{◌≡◌, ℕ, List, length, Bool, true, false, Option, Some, None, refl, ap, sym, ◌∙◌, subst, inl, inr, cond, Ok, Err}
use Rattle.std.specs.Prelude.{◌⊎◌, nat_lt}
use Rattle.std.specs.Str.{chars, is_utf8}
use Rattle.std.proofs.lemmas.Str.{is_utf8-from_IsUtf8}
use Rattle.css_tree.specs.Tree.{Tree}
use Rattle.css_tree.specs.Reads.{Reads}
use Rattle.css_tree.proofs.Reading as tree
use Rattle.node_rows.specs.Nodes.{Node}
use Rattle.node_store.specs.declared.item.Item.{Item}
use Rattle.visitor_machine.specs.Hooks.{PickedHook}
use Rattle.visitor_machine.specs.Machine.{State}
use Rattle.visitor_machine.specs.Follow.{follow, start}
use Rattle.visitor_machine.proofs.OneFresh.{one_fresh}
use Rattle.visitor_walk.specs.declared.walk_end.WalkEnd.{WalkEnd}
use Rattle.visitor_walk.specs.Picked.{picked_hooks}
use Rattle.visitor_walk.specs.Walk as walk
use Rattle.visitor_walk.proofs.LastItems.{ends_once}
use Rattle.command_words.specs.Words.{Options, Command, Transform, Lint}
use Rattle.css_job.specs.Reading.{Reading, IsReadingOf}
use Rattle.css_job.specs.TransformPlan.{Turn, budget_for, text_turn, turn_of, kept_log}
use Rattle.css_job.specs.Plan.{limit}
use Rattle.css_job.specs.Walked.{Walked, IsWalked, IsKept}
use Rattle.css_job.specs.Answer.{Object, input, write_to, is_input}
use Rattle.css_job.specs.Outside.{Snapshot}
use Rattle.css_job.specs.Stated.{Asked, Ends}
use Rattle.css_job.specs.TransformPromises.{IsLogOf, HasWalked}
use Rattle.css_job.specs.declared.run.Ended.{Ended}
use Rattle.css_job.proofs.Commands.{not_large}
use Rattle.css_job.proofs.Ways.{Turned, text_from}

text_or : (o : Options) (bytes : List ℕ) (v : Tree) (failed : Option Object) (l u : Bool) → is_input failed ≡ false → nat_lt limit (length bytes) ≡ l → is_utf8 bytes ≡ u → (text_turn o bytes (Ok v) ≡ None) ⊎ Turned (Some (Transform o)) bytes (Ok v) failed
text_or o bytes v failed true u i a b = inl (ap (λ x. cond {A = Option Turn} x None (cond (is_utf8 bytes) (Some (record { options = o; tree = v })) None)) a)
text_or o bytes v failed false false i a b = inl (ap (λ x. cond {A = Option Turn} x None (cond (is_utf8 bytes) (Some (record { options = o; tree = v })) None)) a ∙ ap (λ x. cond {A = Option Turn} x (Some (record { options = o; tree = v })) None) b)
text_or o bytes v failed false true i a b = inr (record { options = o; tree = v; is = refl; read = i; text = text_from bytes a b; tree_is = refl })

-- a run has no walk, or a text was read for `transform`
turned_or : (command : Option Command) (bytes : List ℕ) (reading : Reading) (failed : Option Object) → (turn_of command bytes reading (is_input failed) ≡ None) ⊎ Turned command bytes reading failed
turned_or None bytes reading failed = inl refl
turned_or (Some Lint) bytes reading failed = inl refl
turned_or (Some (Transform o)) bytes reading (Some input) = inl refl
turned_or (Some (Transform o)) bytes (Err f) None = inl refl
turned_or (Some (Transform o)) bytes (Ok v) None = text_or o bytes v None (nat_lt limit (length bytes)) (is_utf8 bytes) refl refl refl
turned_or (Some (Transform o)) bytes (Err f) (Some (write_to w)) = inl refl
turned_or (Some (Transform o)) bytes (Ok v) (Some (write_to w)) = text_or o bytes v (Some (write_to w)) (nat_lt limit (length bytes)) (is_utf8 bytes) refl refl refl

turn_is : (command : Option Command) (bytes : List ℕ) (reading : Reading) (failed : Option Object) (t : Turned command bytes reading failed) → turn_of command bytes reading (is_input failed) ≡ Some (record { options = t.options; tree = t.tree })
turn_is command bytes reading failed t =
    ap (λ x. turn_of x bytes reading (is_input failed)) t.is
    ∙ (ap (λ x. turn_of (Some (Transform t.options)) bytes reading x) t.read
    ∙ (ap (text_turn t.options bytes) t.tree_is
    ∙ (ap (λ x. cond {A = Option Turn} x None (cond (is_utf8 bytes) (Some (record { options = t.options; tree = t.tree })) None)) (not_large (length bytes) t.text.short)
    ∙ ap (λ x. cond {A = Option Turn} x (Some (record { options = t.options; tree = t.tree })) None) (is_utf8-from_IsUtf8 bytes t.text.utf8))))

pub same_options : (command : Option Command) (o p : Options) → command ≡ Some (Transform o) → command ≡ Some (Transform p) → o ≡ p
same_options command o p a b = let e : Some (Transform o) ≡ Some (Transform p) = sym a ∙ b in cc

some_none : {A B : Type 0} (o : Option A) (x : A) → o ≡ Some x → o ≡ None → B
some_none o x e f = let h = sym e ∙ f in absurd (cc)

-- the state of a run of these hooks under that budget of edits
abbrev Follows : List PickedHook → ℕ → List Node → List Item → State → Type 0
Follows hs most ns log s = follow hs most (start hs ns) log ≡ Some s

same_state : (hs : List PickedHook) (most : ℕ) (ns : List Node) (log : List Item) (s t : State) → Follows hs most ns log s → Follows hs most ns log t → s ≡ t
same_state hs most f log s t a b = let e : Some s ≡ Some t = sym a ∙ b in cc

module _ (asked : Asked) (a c : Snapshot) (e : Ended) (h : Ends asked a c e) where
  -- there is no walk, or a text was read for `transform`
  pub has_turn : (turn_of asked.command h.bytes h.reading (is_input h.failed) ≡ None) ⊎ Turned asked.command h.bytes h.reading h.failed
  has_turn = turned_or asked.command h.bytes h.reading h.failed

  pub no_log : turn_of asked.command h.bytes h.reading (is_input h.failed) ≡ None → e.log.items ≡ kept_log None h.reached
  no_log n = h.log ∙ ap (λ o. kept_log o h.reached) n

  -- a kept work comes of a walk
  pub work_turn : HasWalked e → Turned asked.command h.bytes h.reading h.failed
  work_turn w =
      elim has_turn [
        | inl n ↦ some_none e.work w.0 w.1 (subst (λ o. IsKept (chars h.bytes) o h.reached e.work) n h.work)
        | inr t ↦ t
      ]

  module _ (t : Turned asked.command h.bytes h.reading h.failed) where
    abbrev pub hooks : List PickedHook
    hooks = picked_hooks asked.shelf t.options.picked

    abbrev pub call_budget : ℕ
    call_budget = budget_for t.options.budget t.tree

    abbrev pub edit_budget : ℕ
    edit_budget = budget_for t.options.edit_budget t.tree

    pub walk_of : Walked hooks call_budget edit_budget asked.shelf (chars h.bytes) h.reached
    walk_of = subst (λ o. IsWalked asked.shelf (chars h.bytes) o h.reached) (turn_is asked.command h.bytes h.reading h.failed t) h.walked

    pub work_of : IsKept (chars h.bytes) (Some (record { options = t.options; tree = t.tree })) h.reached e.work
    work_of = subst (λ o. IsKept (chars h.bytes) o h.reached e.work) (turn_is asked.command h.bytes h.reading h.failed t) h.work

    pub log_of : e.log.items ≡ h.reached.log
    log_of = h.log ∙ ap (λ o. kept_log o h.reached) (turn_is asked.command h.bytes h.reading h.failed t)

    pub reads_of : Reads (chars h.bytes) t.tree
    reads_of = subst (IsReadingOf (chars h.bytes)) t.tree_is h.is_reading

    abbrev pub is_log : IsLogOf asked (chars h.bytes) h.reached.log
    is_log = record { options = t.options; is_transform = t.is; tree = t.tree; reads = reads_of; run = walk_of.made }

    -- every run with this log is the one of the walk
    module _ (of : IsLogOf asked (chars h.bytes) h.reached.log) where
      pub options_same : of.options ≡ t.options
      options_same = same_options asked.command of.options t.options of.is_transform t.is

      pub tree_same : of.tree ≡ t.tree
      tree_same = tree.one_reading (chars h.bytes) of.tree t.tree of.reads reads_of

      pub nodes_same : of.run.forest.nodes ≡ walk_of.made.forest.nodes
      nodes_same = one_fresh of.run.forest walk_of.made.forest of.run.is_fresh walk_of.made.is_fresh (of.run.of ∙ sym walk_of.made.of)

      pub state_same : of.run.state ≡ walk_of.made.state
      state_same =
          let r0 : Follows (picked_hooks asked.shelf of.options.picked) (budget_for of.options.edit_budget of.tree) of.run.forest.nodes h.reached.log of.run.state = of.run.run in
          let r1 = subst (λ o. Follows (picked_hooks asked.shelf o.picked) (budget_for o.edit_budget of.tree) of.run.forest.nodes h.reached.log of.run.state) options_same r0 in
          let r2 = subst (λ v. Follows hooks (budget_for t.options.edit_budget v) of.run.forest.nodes h.reached.log of.run.state) tree_same r1 in
          let r3 = subst (λ ns. Follows hooks edit_budget ns h.reached.log of.run.state) nodes_same r2 in
          same_state hooks edit_budget walk_of.made.forest.nodes h.reached.log of.run.state walk_of.made.state r3 walk_of.made.run

    -- the walk's end is the one that its log tells
    pub end_is : (end : WalkEnd) → walk.Ends end hooks call_budget edit_budget walk_of.made.state h.reached.log → h.reached.end ≡ end
    end_is end x = ends_once hooks edit_budget (start hooks walk_of.made.forest.nodes) walk_of.made.state h.reached.log walk_of.made.run call_budget h.reached.end end walk_of.ends x
