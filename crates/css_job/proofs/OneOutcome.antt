-- Two runs that are asked for the same, over the same bytes, have one outcome.
use Rattle.std.proofs.Common.{◌≡◌, ℕ, List, length, Bool, true, false, Option, Some, None, Ok, Err, refl, ap, sym, ◌∙◌, subst, inl, inr, cond}
use Rattle.std.specs.Prelude.{◌⊎◌, nat_lt}
use Rattle.std.specs.List.{All}
use Rattle.std.specs.Str.{chars, is_utf8}
use Rattle.std.specs.Io.KnownBytes.{Appends}
use Rattle.css_tree.specs.Tree.{Tree}
use Rattle.node_rows.specs.Nodes.{Node}
use Rattle.node_store.specs.declared.item.Item.{Item}
use Rattle.plugin_api.specs.Shelf.{PluginSeen}
use Rattle.visitor_machine.specs.Hooks.{PickedHook}
use Rattle.visitor_machine.specs.Machine.{State}
use Rattle.visitor_machine.specs.Follow.{follow, start}
use Rattle.visitor_machine.proofs.OneFresh.{one_fresh}
use Rattle.visitor_machine.proofs.Runs.{some_same}
use Rattle.visitor_walk.specs.declared.walk_end.WalkEnd.{WalkEnd}
use Rattle.visitor_walk.specs.OneLog.{SameDuties, HasDuty, EndedWalk}
use Rattle.visitor_walk.proofs.OneLog.{one_log}
use Rattle.command_words.specs.Words.{Options, Command, Transform, Lint}
use Rattle.css_job.specs.Reading.{Reading, IsReadingOf}
use Rattle.css_job.specs.TransformPlan.{Turn, Reached, turn_of, kept_log}
use Rattle.css_job.specs.Plan.{limit}
use Rattle.css_job.specs.CommandPlan.{text_plan, plan_of}
use Rattle.css_job.specs.Walked.{Walked, IsWalked, hooks_of, calls_of, edits_of}
use Rattle.css_job.specs.Answer.{Object, input, write_to, Answer, answer, finish, is_input, failed_target}
use Rattle.css_job.specs.Outside.{Snapshot, Licensed}
use Rattle.css_job.specs.Stated.{Asked, names_of, answer_to, turn_in, Ends}
use Rattle.css_job.specs.OneOutcome.{SameShelf, AllOwe, PickedOwe, NoneRose, EndedRun, SameJob, TookOne, SameOutcome, OneOutcome}
use Rattle.css_job.specs.declared.run.Ended.{Ended}
use Rattle.css_job.specs.declared.target.Target.TheVariants.{StdOut, StdErr}
use Rattle.css_job.proofs.Readings.{one_reading}
use Rattle.css_job.proofs.Causes.{told, not_input, took_whole}
use Rattle.css_job.proofs.SameShelves.{same_names, same_hooks, same_duties, all_owe}

abbrev turn_for : Options → Tree → Turn
turn_for o t = record { options = o; tree = t }

-- a walk is one of `transform`
turn_command : (command : Option Command) (bytes : List ℕ) (reading : Reading) (unread : Bool) (turn : Turn) → turn_of command bytes reading unread ≡ Some turn → command ≡ Some (Transform turn.options)
turn_command None bytes reading unread turn e = absurd cc
turn_command (Some Lint) bytes reading unread turn e = absurd cc
turn_command (Some (Transform o)) bytes reading true turn e = absurd cc
turn_command (Some (Transform o)) bytes (Err f) false turn e = absurd cc
turn_command (Some (Transform o)) bytes (Ok t) false turn e = by_tests (nat_lt limit (length bytes)) (is_utf8 bytes) e
  where
    by_tests : (large utf8 : Bool) → cond {A = Option Turn} large None (cond utf8 (Some (turn_for o t)) None) ≡ Some turn → Some (Transform o) ≡ Some (Transform turn.options)
    by_tests true utf8 g = absurd cc
    by_tests false false g = absurd cc
    by_tests false true g =
        let q : turn_for o t ≡ turn = cc in
        ap (λ (x : Turn). Some (Transform x.options)) q

-- where a walk would come, nothing is chosen by the tests before it
unchosen : {A : Type 0} (turn : Turn) (large utf8 : Bool) (a b c d : A) → cond {A = Option Turn} large None (cond utf8 (Some turn) None) ≡ None → cond large a (cond utf8 b c) ≡ cond large a (cond utf8 d c)
unchosen turn true utf8 a b c d e = refl
unchosen turn false true a b c d e = absurd cc
unchosen turn false false a b c d e = refl

-- without a walk the plan doesn't tell of one
plan_unwalked : (command : Option Command) (names : List (List ℕ)) (bytes : List ℕ) (reading : Reading) (r q : Reached) (unread : Bool) → turn_of command bytes reading unread ≡ None → plan_of command names bytes reading r unread ≡ plan_of command names bytes reading q unread
unfolding text_plan
plan_unwalked None names bytes reading r q unread e = refl
plan_unwalked (Some Lint) names bytes reading r q unread e = refl
plan_unwalked (Some (Transform o)) names bytes reading r q true e = refl
plan_unwalked (Some (Transform o)) names bytes (Err f) r q false e = refl
plan_unwalked (Some (Transform o)) names bytes (Ok t) r q false e = unchosen (turn_for o t) (nat_lt limit (length bytes)) (is_utf8 bytes) _ _ _ _ e

answer_unwalked : (command : Option Command) (names : List (List ℕ)) (bytes : List ℕ) (reading : Reading) (r q : Reached) (failed : Option Object) → turn_of command bytes reading (is_input failed) ≡ None → answer command names bytes reading r failed ≡ answer command names bytes reading q failed
unfolding answer
answer_unwalked command names bytes reading r q failed e = ap (λ p. finish p (failed_target failed)) (plan_unwalked command names bytes reading r q (is_input failed) e)

ended_walk : (hs : List PickedHook) (budget most : ℕ) (shelf : List PluginSeen) (s : List ℕ) (r : Reached) (w : Walked hs budget most shelf s r) → EndedWalk shelf hs budget most w.made.forest.nodes r.log r.end
ended_walk hs budget most shelf s r w = record { state = w.made.state; run = w.made.run; duties = w.made.duties; paid = w.paid; ends = w.ends }

abbrev reached : List Item → WalkEnd → List Node → Reached
reached log end nodes = record { log = log; end = end; nodes = nodes }

-- two walks of one text, with the same hooks and budgets, whose visitors have the same duties
module _ (a b : List PluginSeen) (hs : List PickedHook) (budget most : ℕ) (s : List ℕ) (r q : Reached) (same : SameDuties a b) (own : All (HasDuty a) hs) (x : Walked hs budget most a s r) (y : Walked hs budget most b s q) where
  nodes_same : x.made.forest.nodes ≡ y.made.forest.nodes
  nodes_same = one_fresh x.made.forest y.made.forest x.made.is_fresh y.made.is_fresh (x.made.of ∙ sym y.made.of)

  log_and_end : (r.log ≡ q.log) × (r.end ≡ q.end)
  log_and_end =
      let w = subst (λ ns. EndedWalk b hs budget most ns q.log q.end) (sym nodes_same) (ended_walk hs budget most b s q y) in
      one_log hs budget most x.made.forest.nodes a b r.log q.log r.end q.end same own (ended_walk hs budget most a s r x) w

  state_same : x.made.state ≡ y.made.state
  state_same =
      some_same
      (sym x.made.run
      ∙ (ap (λ ns. follow hs most (start hs ns) r.log) nodes_same
      ∙ (ap (follow hs most (start hs y.made.forest.nodes)) log_and_end.0 ∙ y.made.run)))

  reached_same : r ≡ q
  reached_same =
      ap (λ l. reached l r.end r.nodes) log_and_end.0
      ∙ (ap (λ e. reached q.log e r.nodes) log_and_end.1
      ∙ ap (reached q.log q.end) (x.nodes ∙ (ap (λ (t : State). t.nodes) state_same ∙ sym y.nodes)))

-- two runs of one turn have no walk, or come to the same
same_walk : (a b : List PluginSeen) (s : List ℕ) (o : Option Turn) (r q : Reached) → SameShelf a b → ((turn : Turn) → o ≡ Some turn → AllOwe a turn.options.picked) → IsWalked a s o r → IsWalked b s o q → (o ≡ None) ⊎ (r ≡ q)
same_walk a b s None r q same own x y = inl refl
same_walk a b s (Some turn) r q same own x y =
    let z : Walked (hooks_of a turn) (calls_of turn) (edits_of turn) b s q = subst (λ hs. Walked hs (calls_of turn) (edits_of turn) b s q) (sym (same_hooks a b turn.options.picked same)) y in
    inr (reached_same a b (hooks_of a turn) (calls_of turn) (edits_of turn) s r q (same_duties a b same) (all_owe a turn.options.picked (own turn refl)) x z)

same_log : (o : Option Turn) (r q : Reached) → (o ≡ None) ⊎ (r ≡ q) → kept_log o r ≡ kept_log o q
same_log o r q h =
    elim h [
      | inl n ↦ ap (λ x. kept_log x r) n ∙ sym (ap (λ x. kept_log x q) n)
      | inr e ↦ ap (kept_log o) e
    ]

same_answer : (command : Option Command) (names : List (List ℕ)) (bytes : List ℕ) (reading : Reading) (r q : Reached) (failed : Option Object) → (turn_of command bytes reading (is_input failed) ≡ None) ⊎ (r ≡ q) → answer command names bytes reading r failed ≡ answer command names bytes reading q failed
same_answer command names bytes reading r q failed h =
    elim h [
      | inl n ↦ answer_unwalked command names bytes reading r q failed n
      | inr e ↦ ap (λ x. answer command names bytes reading x failed) e
    ]

-- where no count rose, no object failed
none_failed : (failed : Option Object) (old new : Snapshot) → Licensed failed old new → NoneRose old new → failed ≡ None
none_failed None old new l n = refl
none_failed (Some input) old new l n = absurd (n.reads l.0)
none_failed (Some (write_to StdOut)) old new l n = absurd (n.outs l.1)
none_failed (Some (write_to StdErr)) old new l n = absurd (n.errs l.2)

took_one : (text other : List ℕ) (old new before after : Option (List ℕ)) → text ≡ other → Appends old new text → Appends before after other → TookOne old new before after
took_one text other old new before after e h k = record { text = text; one = h; other = subst (Appends before after) (sym e) k }

module _ (job : Asked) (old new : Snapshot) (ended : Ended) (h : Ends job old new ended) (own : PickedOwe job) (run : EndedRun) (same : SameJob job old run) where
  abbrev its : Ends run.job run.old run.new run.ended
  its = run.ends

  bytes_same : its.bytes ≡ h.bytes
  bytes_same = told its.bytes same.bytes run.old.left same.its its.fed.told ∙ sym (told h.bytes same.bytes old.left same.told h.fed.told)

  reading_same : its.reading ≡ h.reading
  reading_same = one_reading (chars h.bytes) its.reading h.reading (subst (λ b. IsReadingOf (chars b) its.reading) bytes_same its.is_reading) h.is_reading

  abbrev turn : Option Turn
  turn = turn_in job h.bytes h.reading h.failed

  abbrev its_turn : Option Turn
  its_turn = turn_in run.job its.bytes its.reading its.failed

  module _ (read : is_input h.failed ≡ false) (its_read : is_input its.failed ≡ false) where
    turn_same : its_turn ≡ turn
    turn_same =
        ap (λ c. turn_of c its.bytes its.reading (is_input its.failed)) (sym same.command)
        ∙ (ap (λ b. turn_of job.command b its.reading (is_input its.failed)) bytes_same
        ∙ (ap (λ r. turn_of job.command h.bytes r (is_input its.failed)) reading_same
        ∙ ap (turn_of job.command h.bytes h.reading) (its_read ∙ sym read)))

    walk_same : (turn ≡ None) ⊎ (h.reached ≡ its.reached)
    walk_same =
        let w = subst (λ b. IsWalked run.job.shelf (chars b) its_turn its.reached) bytes_same its.walked in
        same_walk job.shelf run.job.shelf (chars h.bytes) turn h.reached its.reached same.shelf (λ t e. own t.options (turn_command job.command h.bytes h.reading (is_input h.failed) t e)) h.walked (subst (λ o. IsWalked run.job.shelf (chars h.bytes) o its.reached) turn_same w)

    log_same : ended.log.items ≡ run.ended.log.items
    log_same = h.log ∙ (same_log turn h.reached its.reached walk_same ∙ (sym (ap (λ o. kept_log o its.reached) turn_same) ∙ sym its.log))

  module _ (none : h.failed ≡ None) (its_none : its.failed ≡ None) where
    answer_same : answer_to job h.bytes h.reading h.reached h.failed ≡ answer_to run.job its.bytes its.reading its.reached its.failed
    answer_same =
        same_answer job.command (names_of job.shelf) h.bytes h.reading h.reached its.reached h.failed (walk_same (ap is_input none) (ap is_input its_none))
        ∙ (ap (λ c. answer c (names_of job.shelf) h.bytes h.reading its.reached h.failed) same.command
        ∙ (ap (λ names. answer run.job.command names h.bytes h.reading its.reached h.failed) (same_names job.shelf run.job.shelf same.shelf)
        ∙ (ap (λ b. answer run.job.command (names_of run.job.shelf) b h.reading its.reached h.failed) (sym bytes_same)
        ∙ (ap (λ r. answer run.job.command (names_of run.job.shelf) its.bytes r its.reached h.failed) (sym reading_same)
        ∙ ap (answer run.job.command (names_of run.job.shelf) its.bytes its.reading its.reached) (none ∙ sym its_none)))))

  outcome_same : NoneRose old new → NoneRose run.old run.new → SameOutcome old new ended run
  outcome_same n m =
      let a = answer_same (none_failed h.failed old new h.licensed n) (none_failed its.failed run.old run.new its.licensed m) in
      record {
        status = h.status ∙ (ap (λ (x : Answer). x.status) a ∙ sym its.status);
        fault = h.fault ∙ (ap (λ (x : Answer). x.fault) a ∙ sym its.fault);
        out = took_one _ _ old.out new.out run.old.out run.new.out (ap (λ (x : Answer). x.out) a) (took_whole _ old.out new.out old.outs new.outs h.out n.outs) (took_whole _ run.old.out run.new.out run.old.outs run.new.outs its.out m.outs);
        err = took_one _ _ old.err new.err run.old.err run.new.err (ap (λ (x : Answer). x.err) a) (took_whole _ old.err new.err old.errs new.errs h.err n.errs) (took_whole _ run.old.err run.new.err run.old.errs run.new.errs its.err m.errs);
      }

pub one_outcome : OneOutcome
one_outcome job old new ended h own run same = record {
  log = λ n m. log_same job old new ended h own run same (not_input h.failed old new h.licensed n) (not_input run.ends.failed run.old run.new run.ends.licensed m);
  outcome = λ n m. outcome_same job old new ended h own run same n m;
}
