-- The ways in which an answer comes: what each fault, and a run without one, says of the command, the input and the walk.
use Rattle.std.proofs.Common.{◌≡◌, ℕ, ◌<◌, ◌≤◌, List, [], ◌∷◌, ◌++◌, length, Bool, true, false, Option, Some, None, refl, sym, ap, subst, ◌∙◌, inl, inr, cond, Ok, Err, arith, append-nil}
use Rattle.std.specs.Prelude.{◌⊎◌, nat_lt, encode_utf8_all}
use Rattle.std.specs.Str.{chars, is_utf8, IsValidUpTo}
use Rattle.std.specs.Str.Lossy.{utf8_valid_len}
use Rattle.std.proofs.lemmas.Bool.{false≢true}
use Rattle.std.proofs.lemmas.Bool.Decides.{nat_tests}
use Rattle.std.proofs.lemmas.Str.{IsUtf8-from_is_utf8, is_utf8-from_IsUtf8, utf8_valid_len-IsValidUpTo}
use Rattle.css_tree.specs.declared.fault.SyntaxFault.{SyntaxFault}
use Rattle.css_tree.specs.Tree.{Tree}
use Rattle.css_tree.specs.Print.{print}
use Rattle.node_rows.specs.NumberTrees.{tree_at}
use Rattle.node_store.specs.declared.item.Item.{Item}
use Rattle.visitor_walk.specs.declared.walk_end.WalkEnd.{WalkEnd}
use Rattle.visitor_walk.specs.declared.walk_end.WalkEnd.TheVariants as W
use Rattle.command_words.specs.Words.{Options, Command, Transform, Lint}
use Rattle.css_job.specs.Faults.{input_name, name_of, status_of}
use Rattle.css_job.specs.Trace.{caller}
use Rattle.css_job.specs.Reading.{Reading}
use Rattle.css_job.specs.Warnings.{warnings}
use Rattle.css_job.specs.Report.{report}
use Rattle.css_job.specs.Plan.{Plan, stopped, limit, to_out}
use Rattle.css_job.specs.TransformPlan.{budget_for, Reached, fault_of, walk_status, traced, printed}
use Rattle.css_job.specs.LintPlan.{lint_status}
use Rattle.css_job.specs.CommandPlan.{text_plan, plan_of}
use Rattle.css_job.specs.Answer.{Object, input, write_to, Answer, answer, is_input, finish, finish_with, failed_target, bytes_for}
use Rattle.css_job.specs.Causes.{IsTaken, IsTransform, IsTextInput}
use Rattle.css_job.specs.declared.fault.Fault.{Fault}
use Rattle.css_job.specs.declared.fault.Fault.TheVariants.{Usage, ReadFault, WriteFault, TooLarge, NotUtf8, Syntax, PluginFailed, BudgetSpent, EditBudgetSpent}
use Rattle.css_job.specs.declared.target.Target.{Target}
use Rattle.css_job.specs.declared.target.Target.TheVariants.{StdOut}
use Rattle.css_job.proofs.Commands.{not_large, is_large, not_utf8}
use Rattle.css_job.proofs.Wrong.{wrong_from}

-- a text was read for `transform`, and this is its tree
pub record Turned (command : Option Command) (bytes : List ℕ) (reading : Reading) (failed : Option Object) : Type 0 where
  pub options : Options
  pub tree : Tree
  pub is : command ≡ Some (Transform options)
  pub read : is_input failed ≡ false
  pub text : IsTextInput bytes
  pub tree_is : reading ≡ Ok tree

-- the target whose write failed
pub record Unwritten (command : Option Command) (failed : Option Object) (name : List ℕ) : Type 0 where
  pub target : Target
  pub taken : IsTaken command
  pub failed_is : failed ≡ Some (write_to target)
  pub name_is : name ≡ name_of target

-- what `transform` writes, where nothing fails
pub record Printed (command : Option Command) (bytes : List ℕ) (reading : Reading) (reached : Reached) (failed : Option Object) (a : Answer) : Type 0 where
  pub turned : Turned command bytes reading failed
  pub done : reached.end ≡ W.Done
  pub status : a.status ≡ 0
  pub out : a.out ≡ encode_utf8_all (print (tree_at reached.nodes 0))

-- what `lint` writes
pub record Reported (command : Option Command) (bytes : List ℕ) (reading : Reading) (a : Answer) : Type 0 where
  pub is : command ≡ Some Lint
  pub status : a.status ≡ lint_status (warnings (chars bytes) reading)
  pub err : a.err ≡ report input_name (warnings (chars bytes) reading)

pub record Unfaulty (command : Option Command) (bytes : List ℕ) (reading : Reading) (reached : Reached) (failed : Option Object) (a : Answer) : Type 0 where
  pub none : failed ≡ None
  pub text : IsTextInput bytes
  pub by : Printed command bytes reading reached failed a ⊎ Reported command bytes reading a

-- what a fault says, and what none says
abbrev pub Cause : Option Command → List ℕ → Reading → Reached → Option Object → Answer → Option Fault → Type 0
Cause command bytes reading reached failed a None = Unfaulty command bytes reading reached failed a
Cause command bytes reading reached failed a (Some Usage) = command ≡ None
Cause command bytes reading reached failed a (Some (ReadFault name)) = (name ≡ input_name) × IsTaken command × (failed ≡ Some input)
Cause command bytes reading reached failed a (Some (WriteFault name)) = Unwritten command failed name
Cause command bytes reading reached failed a (Some (TooLarge name)) = (name ≡ input_name) × IsTaken command × (limit < length bytes) × (is_input failed ≡ false)
Cause command bytes reading reached failed a (Some (NotUtf8 name at)) = (name ≡ input_name) × IsTaken command × (length bytes ≤ limit) × IsValidUpTo bytes at × (is_input failed ≡ false)
Cause command bytes reading reached failed a (Some (Syntax name d)) = (name ≡ input_name) × IsTransform command × IsTextInput bytes × (reading ≡ Err d) × (is_input failed ≡ false)
Cause command bytes reading reached failed a (Some (PluginFailed text m)) = Turned command bytes reading failed × (reached.end ≡ W.Failed text m)
Cause command bytes reading reached failed a (Some (BudgetSpent calls next)) = Turned command bytes reading failed × (reached.end ≡ W.BudgetSpent calls next)
Cause command bytes reading reached failed a (Some (EditBudgetSpent edits budget at)) = (t : Turned command bytes reading failed) × (budget ≡ budget_for t.options.edit_budget t.tree) × (reached.end ≡ W.EditBudgetSpent edits at)

abbrev pub HasStatus : Option Fault → ℕ → Type 0
HasStatus None n = Unit {0}
HasStatus (Some f) n = n ≡ status_of f

pub record Way (command : Option Command) (bytes : List ℕ) (reading : Reading) (reached : Reached) (failed : Option Object) (a : Answer) : Type 0 where
  pub cause : Cause command bytes reading reached failed a a.fault
  pub status : HasStatus a.fault a.status

few_bytes : (n : ℕ) → nat_lt limit n ≡ false → n ≤ limit
few_bytes n h = grind (arith, nat_tests)

many_bytes : (n : ℕ) → nat_lt limit n ≡ true → limit < n
many_bytes n h = grind (arith, nat_tests)

pub text_from : (bytes : List ℕ) → nat_lt limit (length bytes) ≡ false → is_utf8 bytes ≡ true → IsTextInput bytes
text_from bytes l u = record { short = few_bytes (length bytes) l; utf8 = IsUtf8-from_is_utf8 bytes u }

input_failed : (f : Option Object) → is_input f ≡ true → f ≡ Some input
input_failed None e = absurd (false≢true e)
input_failed (Some input) e = refl
input_failed (Some (write_to t)) e = absurd (false≢true e)

-- the input failed and didn't
both_ways : {A : Type 0} (failed : Option Object) → is_input failed ≡ false → failed ≡ Some input → A
both_ways failed i j = absurd (false≢true (sym i ∙ ap is_input j))

-- the trace doesn't go to the output
traced_out : (b : Bool) (names : List (List ℕ)) (log : List Item) (bytes : List ℕ) → bytes_for StdOut (traced b names log ++ to_out bytes ∷ []) ≡ bytes
traced_out true names log bytes = append-nil bytes
traced_out false names log bytes = append-nil bytes

abbrev picked : Command → List (List ℕ) → List ℕ → Reading → Reached → Bool → Bool → Bool → Plan
picked k names bytes reading r unread large utf8 = cond unread (stopped (ReadFault input_name)) (cond large (stopped (TooLarge input_name)) (cond utf8 (text_plan k names (chars bytes) reading r) (stopped (NotUtf8 input_name (utf8_valid_len bytes)))))

-- the plan of a walk of that end
abbrev ended_plan : Options → List (List ℕ) → Tree → Reached → WalkEnd → Plan
ended_plan o names t r end = record { fault = fault_of end (budget_for o.edit_budget t); caller = caller names r.log; status = walk_status end; writes = traced o.trace names r.log ++ printed end r.nodes }

module _ (command : Option Command) (names : List (List ℕ)) (bytes : List ℕ) (reading : Reading) (reached : Reached) (failed : Option Object) where
  abbrev It : Answer → Type 0
  It a = Way command bytes reading reached failed a

  unanswered : command ≡ None → answer command names bytes reading reached failed ≡ finish (stopped Usage) (failed_target failed)
  unfolding answer
  unanswered t = ap (λ c. finish (plan_of c names bytes reading reached (is_input failed)) (failed_target failed)) t

  answered : (k : Command) (u l b : Bool) → command ≡ Some k → is_input failed ≡ u → nat_lt limit (length bytes) ≡ l → is_utf8 bytes ≡ b → answer command names bytes reading reached failed ≡ finish (picked k names bytes reading reached u l b) (failed_target failed)
  unfolding answer
  answered k u l b t i m v =
      ap (λ c. finish (plan_of c names bytes reading reached (is_input failed)) (failed_target failed)) t
      ∙ (ap (λ x. finish (picked k names bytes reading reached x (nat_lt limit (length bytes)) (is_utf8 bytes)) (failed_target failed)) i
      ∙ (ap (λ x. finish (picked k names bytes reading reached u x (is_utf8 bytes)) (failed_target failed)) m
      ∙ ap (λ x. finish (picked k names bytes reading reached u l x) (failed_target failed)) v))

  walk_way : (o : Options) (v : Tree) (end : WalkEnd) (f : Option Object) → command ≡ Some (Transform o) → is_input failed ≡ false → IsTextInput bytes → reading ≡ Ok v → reached.end ≡ end → failed ≡ f → It (finish (ended_plan o names v reached end) (failed_target f))
  walk_way o v W.Done None t i x r e j = record {
    cause = record {
      none = j;
      text = x;
      by = inl (record { turned = record { options = o; tree = v; is = t; read = i; text = x; tree_is = r }; done = e; status = refl; out = traced_out o.trace names reached.log (encode_utf8_all (print (tree_at reached.nodes 0))) });
    };
    status = tt;
  }
  walk_way o v W.Done (Some input) t i x r e j = both_ways failed i j
  walk_way o v W.Done (Some (write_to w)) t i x r e j = record { cause = record { target = w; taken = (Transform o, t); failed_is = j; name_is = refl }; status = refl }
  walk_way o v (W.Failed text m) f t i x r e j = record { cause = (record { options = o; tree = v; is = t; read = i; text = x; tree_is = r }, e); status = refl }
  walk_way o v (W.BudgetSpent calls next) f t i x r e j = record { cause = (record { options = o; tree = v; is = t; read = i; text = x; tree_is = r }, e); status = refl }
  walk_way o v (W.EditBudgetSpent edits at) f t i x r e j = record { cause = (record { options = o; tree = v; is = t; read = i; text = x; tree_is = r }, refl, e); status = refl }

  text_way : (k : Command) (g : Reading) (f : Option Object) → command ≡ Some k → is_input failed ≡ false → IsTextInput bytes → reading ≡ g → failed ≡ f → It (finish (text_plan k names (chars bytes) g reached) (failed_target f))
  unfolding text_plan
  text_way (Transform o) (Ok v) f t i x r j = walk_way o v reached.end f t i x r refl j
  text_way (Transform o) (Err g) f t i x r j = record { cause = (refl, (o, t), x, r, i); status = refl }
  text_way Lint g None t i x r j = record {
    cause = record {
      none = j;
      text = x;
      by = inr (record {
        is = t;
        status = ap (λ z. lint_status (warnings (chars bytes) z)) (sym r);
        err = append-nil (report input_name (warnings (chars bytes) g)) ∙ ap (λ z. report input_name (warnings (chars bytes) z)) (sym r);
      });
    };
    status = tt;
  }
  text_way Lint g (Some input) t i x r j = both_ways failed i j
  text_way Lint g (Some (write_to w)) t i x r j = record { cause = record { target = w; taken = (Lint, t); failed_is = j; name_is = refl }; status = refl }

  input_way : (k : Command) (l b : Bool) → command ≡ Some k → is_input failed ≡ false → nat_lt limit (length bytes) ≡ l → is_utf8 bytes ≡ b → It (finish (picked k names bytes reading reached false l b) (failed_target failed))
  input_way k true b t i l u = record { cause = (refl, (k, t), many_bytes (length bytes) l, i); status = refl }
  input_way k false false t i l u = record { cause = (refl, (k, t), few_bytes (length bytes) l, wrong_from bytes u, i); status = refl }
  input_way k false true t i l u = text_way k reading failed t i (text_from bytes l u) refl refl

  command_way : (c : Option Command) (u : Bool) → command ≡ c → is_input failed ≡ u → It (answer command names bytes reading reached failed)
  command_way None u t i = subst It (sym (unanswered t)) (record { cause = t; status = refl })
  command_way (Some k) true t i = subst It (sym (answered k true (nat_lt limit (length bytes)) (is_utf8 bytes) t i refl refl)) (record { cause = (refl, (k, t), input_failed failed i); status = refl })
  command_way (Some k) false t i = subst It (sym (answered k false (nat_lt limit (length bytes)) (is_utf8 bytes) t i refl refl)) (input_way k (nat_lt limit (length bytes)) (is_utf8 bytes) t i refl refl)

  pub way : Way command bytes reading reached failed (answer command names bytes reading reached failed)
  way = command_way command (is_input failed) refl refl

  -- and the way back, from each cause to its fault
  pub usage_by : command ≡ None → (answer command names bytes reading reached failed).fault ≡ Some Usage
  usage_by t = ap (λ a. a.fault) (unanswered t)

  pub large_by : (k : Command) → command ≡ Some k → is_input failed ≡ false → limit < length bytes → (answer command names bytes reading reached failed).fault ≡ Some (TooLarge input_name)
  large_by k t i l = ap (λ a. a.fault) (answered k false true (is_utf8 bytes) t i (is_large (length bytes) l) refl)

  pub wrong_by : (k : Command) (at : ℕ) → command ≡ Some k → is_input failed ≡ false → length bytes ≤ limit → IsValidUpTo bytes at → (answer command names bytes reading reached failed).fault ≡ Some (NotUtf8 input_name at)
  wrong_by k at t i l v = ap (λ a. a.fault) (answered k false false false t i (not_large (length bytes) l) (not_utf8 bytes at (is_utf8 bytes) refl v)) ∙ ap (λ n. Some (NotUtf8 input_name n)) (utf8_valid_len-IsValidUpTo bytes at v)

  text_by : (k : Command) → command ≡ Some k → is_input failed ≡ false → IsTextInput bytes → answer command names bytes reading reached failed ≡ finish (text_plan k names (chars bytes) reading reached) (failed_target failed)
  text_by k t i x = answered k false false true t i (not_large (length bytes) x.short) (is_utf8-from_IsUtf8 bytes x.utf8)

  pub syntax_by : (o : Options) (d : SyntaxFault) → command ≡ Some (Transform o) → is_input failed ≡ false → IsTextInput bytes → reading ≡ Err d → (answer command names bytes reading reached failed).fault ≡ Some (Syntax input_name d)
  unfolding text_plan
  syntax_by o d t i x r = ap (λ a. a.fault) (text_by (Transform o) t i x) ∙ ap (λ z. (finish (text_plan (Transform o) names (chars bytes) z reached) (failed_target failed)).fault) r

  -- the fault of a walk
  pub walk_by : (t : Turned command bytes reading failed) (f : Fault) → fault_of reached.end (budget_for t.options.edit_budget t.tree) ≡ Some f → (answer command names bytes reading reached failed).fault ≡ Some f
  unfolding text_plan
  walk_by t f e =
      ap (λ a. a.fault) (text_by (Transform t.options) t.is t.read t.text)
      ∙ (ap (λ z. (finish (text_plan (Transform t.options) names (chars bytes) z reached) (failed_target failed)).fault) t.tree_is
      ∙ ap (λ z. (finish_with z (caller names reached.log) (walk_status reached.end) (traced t.options.trace names reached.log ++ printed reached.end reached.nodes) (failed_target failed)).fault) e)
