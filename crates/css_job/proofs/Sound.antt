-- Each plan can be carried out.
use Rattle.std.proofs.Common.{◌≡◌, ℕ, List, [], ◌∷◌, ◌++◌, length, Bool, true, false, Some, None, Ok, Err, refl, sym, ap, subst, ◌∙◌, cond, arith, length-append}
use Rattle.std.specs.Prelude.{Option, nat_lt}
use Rattle.std.specs.Str.{chars, is_utf8}
use Rattle.std.specs.Str.Lossy.{utf8_valid_len}
use Rattle.node_rows.specs.Nodes.{Node}
use Rattle.node_store.specs.declared.item.Item.{Item}
use Rattle.visitor_walk.specs.declared.walk_end.WalkEnd.{WalkEnd}
use Rattle.visitor_walk.specs.declared.walk_end.WalkEnd.TheVariants as W
use Rattle.command_words.specs.Words.{Command, Transform, Lint}
use Rattle.css_job.specs.Faults.{input_name}
use Rattle.css_job.specs.Reading.{Reading}
use Rattle.css_job.specs.Plan.{Piece, Plan, stopped, limit, to_err, to_out}
use Rattle.css_job.specs.TransformPlan.{Reached, traced, printed, fault_of, walk_status}
use Rattle.css_job.specs.CommandPlan.{plan_of, text_plan}
use Rattle.css_job.specs.Answer.{begun, same_target}
use Rattle.css_job.specs.Stages.{IsSound}
use Rattle.css_job.specs.declared.fault.Fault.{Fault}
use Rattle.css_job.specs.declared.fault.Fault.TheVariants.{Usage, ReadFault, TooLarge, NotUtf8, Syntax}

no_split : {A : Type 0} (done after : List Piece) (p : Piece) → [] ≡ done ++ p ∷ after → A
no_split done after p e = absurd (omega (arith, ap length e, length-append done (p ∷ after)))

-- nothing is written
quiet_sound : (fault : Option Fault) (caller : List ℕ) (status : ℕ) → IsSound (record { fault = fault; caller = caller; status = status; writes = [] })
quiet_sound fault caller status = record { quiet = λ g h. tt; once = λ done after p e. no_split done after p e }

stopped_sound : (f : Fault) → IsSound (stopped f)
stopped_sound f = quiet_sound (Some f) [] _

begun_one : (p q : Piece) → begun p.to (q ∷ []) ≡ q ∷ []
begun_one p q = by (same_target p.to q.to)
  where
    by : (b : Bool) → cond b (q ∷ []) (q ∷ []) ≡ q ∷ []
    by true = refl
    by false = refl

one_split : (done after : List Piece) (p q : Piece) → q ∷ [] ≡ done ++ p ∷ after → q ∷ [] ≡ done ++ p ∷ []
one_split [] after p q e = cc
one_split (d ∷ done) after p q e = absurd (omega (arith, ap length e, length-append done (p ∷ after)))

-- one write, and no fault
one_sound : (caller : List ℕ) (status : ℕ) (q : Piece) → IsSound (record { fault = None; caller = caller; status = status; writes = q ∷ [] })
one_sound caller status q = record { quiet = λ g h. cc; once = λ done after p e. begun_one p q ∙ one_split done after p q e }

-- a trace, beside a fault or not
trace_sound : (fault : Option Fault) (caller : List ℕ) (status : ℕ) (text : List ℕ) → IsSound (record { fault = fault; caller = caller; status = status; writes = to_err text ∷ [] })
trace_sound fault caller status text = record { quiet = λ g h. (refl, tt); once = λ done after p e. begun_one p (to_err text) ∙ one_split done after p (to_err text) e }

first_is : (q p : Piece) (qs ps : List Piece) → q ∷ qs ≡ p ∷ ps → q ≡ p
first_is q p qs ps e = cc

rest_is : (q p : Piece) (qs ps : List Piece) → q ∷ qs ≡ p ∷ ps → qs ≡ ps
rest_is q p qs ps e = cc

-- a trace and a printing, in any cut
two_split : (text bytes : List ℕ) (done after : List Piece) (p : Piece) → to_err text ∷ to_out bytes ∷ [] ≡ done ++ p ∷ after → begun p.to (to_err text ∷ to_out bytes ∷ []) ≡ done ++ p ∷ []
two_split text bytes [] after p e = subst (λ x. begun x.to (to_err text ∷ to_out bytes ∷ []) ≡ x ∷ []) (first_is (to_err text) p _ _ e) refl
two_split text bytes (d ∷ []) after p e =
    let a : to_err text ≡ d = first_is (to_err text) d _ _ e in
    let b : to_out bytes ≡ p = first_is (to_out bytes) p _ _ (rest_is (to_err text) d (to_out bytes ∷ []) (p ∷ after) e) in
    subst (λ x. begun x.to (to_err text ∷ to_out bytes ∷ []) ≡ d ∷ x ∷ []) b (ap (λ y. y ∷ to_out bytes ∷ []) a)
two_split text bytes (d ∷ c ∷ done) after p e = absurd (omega (arith, ap length e, length-append done (p ∷ after)))

two_sound : (caller : List ℕ) (status : ℕ) (text bytes : List ℕ) → IsSound (record { fault = None; caller = caller; status = status; writes = to_err text ∷ to_out bytes ∷ [] })
two_sound caller status text bytes = record { quiet = λ g h. cc; once = λ done after p e. two_split text bytes done after p e }

walk_sound : (trace : Bool) (names : List (List ℕ)) (log : List Item) (end : WalkEnd) (nodes : List Node) (caller : List ℕ) (most : ℕ) → IsSound (record { fault = fault_of end most; caller = caller; status = walk_status end; writes = traced trace names log ++ printed end nodes })
walk_sound true names log W.Done nodes caller most = two_sound caller 0 _ _
walk_sound true names log (W.Failed text moment) nodes caller most = trace_sound _ caller 1 _
walk_sound true names log (W.BudgetSpent calls next) nodes caller most = trace_sound _ caller 1 _
walk_sound true names log (W.EditBudgetSpent edits at) nodes caller most = trace_sound _ caller 1 _
walk_sound false names log W.Done nodes caller most = one_sound caller 0 _
walk_sound false names log (W.Failed text moment) nodes caller most = quiet_sound _ caller 1
walk_sound false names log (W.BudgetSpent calls next) nodes caller most = quiet_sound _ caller 1
walk_sound false names log (W.EditBudgetSpent edits at) nodes caller most = quiet_sound _ caller 1

text_sound : (command : Command) (names : List (List ℕ)) (s : List ℕ) (reading : Reading) (r : Reached) → IsSound (text_plan command names s reading r)
unfolding text_plan
text_sound (Transform o) names s (Ok t) r = walk_sound o.trace names r.log r.end r.nodes _ _
text_sound (Transform o) names s (Err f) r = stopped_sound (Syntax input_name f)
text_sound Lint names s reading r = one_sound [] _ _

input_by : (command : Command) (names : List (List ℕ)) (bytes : List ℕ) (reading : Reading) (r : Reached) (large utf8 : Bool) → IsSound (cond large (stopped (TooLarge input_name)) (cond utf8 (text_plan command names (chars bytes) reading r) (stopped (NotUtf8 input_name (utf8_valid_len bytes)))))
input_by command names bytes reading r true utf8 = stopped_sound (TooLarge input_name)
input_by command names bytes reading r false true = text_sound command names (chars bytes) reading r
input_by command names bytes reading r false false = stopped_sound (NotUtf8 input_name (utf8_valid_len bytes))

command_sound : (o : Option Command) (names : List (List ℕ)) (bytes : List ℕ) (reading : Reading) (r : Reached) (unread : Bool) → IsSound (plan_of o names bytes reading r unread)
command_sound None names bytes reading r unread = stopped_sound Usage
command_sound (Some command) names bytes reading r true = stopped_sound (ReadFault input_name)
command_sound (Some command) names bytes reading r false = input_by command names bytes reading r (nat_lt limit (length bytes)) (is_utf8 bytes)

pub sound_plan : (command : Option Command) (names : List (List ℕ)) (bytes : List ℕ) (reading : Reading) (r : Reached) (unread : Bool) (plan : Plan) → plan ≡ plan_of command names bytes reading r unread → IsSound plan
sound_plan command names bytes reading r unread plan e = subst IsSound (sym e) (command_sound command names bytes reading r unread)
