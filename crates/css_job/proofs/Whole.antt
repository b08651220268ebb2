-- Both stages in a row.
use Rattle.std.proofs.Common.{◌≡◌, ℕ, List, Bool, true, false, Some, None, Ok, refl, sym, ap, subst, arith, inl}
use Rattle.std.specs.Prelude.{Option, is_some}
use Rattle.std.specs.Str.{chars}
use Rattle.std.specs.declared.vec.Vec.{Vec}
use Rattle.std.specs.declared.alloc.Global.{Global}
use Rattle.io_edge.specs.Causes.{Rose}
use Rattle.node_store.specs.declared.item.Item.{Item}
use Rattle.node_store.specs.Forest.{Forest}
use Rattle.plugin_api.specs.Shelf.{PluginSeen}
use Rattle.command_words.specs.Words.{Command}
use Rattle.css_job.specs.Faults.{input_name}
use Rattle.css_job.specs.Reading.{Reading, IsReadingOf}
use Rattle.css_job.specs.Plan.{Plan, stopped}
use Rattle.css_job.specs.TransformPlan.{Reached, turn_of}
use Rattle.css_job.specs.CommandPlan.{plan_of}
use Rattle.css_job.specs.Answer.{Object, input, write_to, answer, finish, is_input}
use Rattle.css_job.specs.Stated.{Asked, Heard, Ends, RanOut, RanOutWriting, Runs, answer_to, names_of}
use Rattle.css_job.specs.Outside.{Snapshot, Licensed, Took, TookFront, Fed, IsRead}
use Rattle.css_job.specs.Stages.{Stage, plan_seen, stage_seen, Kept, Sinks, IsPrepared, Carried, Stranded, Blames}
use Rattle.css_job.specs.declared.carry_out.Settled.{Settled}
use Rattle.css_job.specs.declared.fault.Fault.TheVariants.{ReadFault}
use Rattle.css_job.specs.declared.prepared.Prepared as S
use Rattle.css_job.specs.declared.run.Ended.{Ended}
use Rattle.css_job.specs.declared.target.Target.{Target}
use Rattle.css_job.specs.declared.target.Target.TheVariants.{StdOut, StdErr}

abbrev pub sinks_of : Snapshot → Sinks
sinks_of m = record { out = m.out; err = m.err; outs = m.outs; errs = m.errs }

-- the object that failed first, where no read did
abbrev object : Option Target → Option Object
object None = None
object (Some t) = Some (write_to t)

-- a run that ended so, with what it kept
abbrev ended_with : Settled → Vec Item Global → Option Forest → Ended
ended_with e log work = record { status = e.status; fault = e.fault; log = log; work = work }

licensed_read : (t : Option Target) (a c : Snapshot) → c.reads ≡ a.reads → Blames t (sinks_of a) (sinks_of c) → Licensed (object t) a c
licensed_read None a c e h = (e, h.outs, h.errs)
licensed_read (Some StdOut) a c e h = (e, h.0, h.1)
licensed_read (Some StdErr) a c e h = (e, h.0, h.1)

licensed_unread : (t : Option Target) (a c : Snapshot) → Rose a.reads c.reads → (t ≡ Some StdOut → ⊥) → Blames t (sinks_of a) (sinks_of c) → Licensed (Some input) a c
licensed_unread None a c rose free h = (rose, h.outs, omega (arith, h.errs))
licensed_unread (Some StdOut) a c rose free h = absurd (free refl)
licensed_unread (Some StdErr) a c rose free h = (rose, h.0, h.1.later)

-- where a read failed, nothing but the fault line is written
unread_by : (o : Option Command) (names : List (List ℕ)) (bytes : List ℕ) (reading : Reading) (r : Reached) → is_some o ≡ true → plan_of o names bytes reading r true ≡ stopped (ReadFault input_name)
unread_by None names bytes reading r e = cc
unread_by (Some command) names bytes reading r e = refl

-- of an input that is read as this, and a walk that came to this
module _ (asked : Asked) (after : List PluginSeen) (a c : Snapshot) (bytes : List ℕ) (reading : Reading) (is_reading : IsReadingOf (chars bytes) reading) (r : Reached) (fed : Fed asked.command bytes a.left c.left) where
  abbrev plan_by : Bool → Plan
  plan_by unread = plan_of asked.command (names_of asked.shelf) bytes reading r unread

  abbrev KeptBy : Bool → Stage → Type 0
  KeptBy unread stage = Kept asked.shelf after (chars bytes) (turn_of asked.command bytes reading unread) r stage

  answer_read : (t : Option Target) → finish (plan_by false) t ≡ answer_to asked bytes reading r (object t)
  unfolding answer
  answer_read None = refl
  answer_read (Some t) = refl

  kept_read : (t : Option Target) (stage : Stage) → KeptBy false stage → KeptBy (is_input (object t)) stage
  kept_read None stage k = k
  kept_read (Some t) stage k = k

  answer_unread : (t : Option Target) → is_some asked.command ≡ true → finish (stopped (ReadFault input_name)) t ≡ answer_to asked bytes reading r (Some input)
  unfolding answer
  answer_unread t e = ap (λ p. finish p None) (sym (unread_by asked.command (names_of asked.shelf) bytes reading r e))

  ended_read : (e : Settled) (plan : Plan) (log : Vec Item Global) (work : Option Forest) → c.reads ≡ a.reads → (is_some asked.command ≡ true → IsRead bytes fed.given c.left) → KeptBy false (record { plan = plan; log = log.items; work = work }) → Carried (plan_by false) (sinks_of a) (sinks_of c) e → Ends asked a c (ended_with e log work)
  ended_read e plan log work same end kept k =
      let is = answer_read k.failed in
      let stays = kept_read k.failed (record { plan = plan; log = log.items; work = work }) kept in
      record {
        bytes = bytes;
        reading = reading;
        is_reading = is_reading;
        failed = object k.failed;
        licensed = licensed_read k.failed a c same k.blamed;
        fed = fed;
        is_read = λ t u. end t;
        reached = r;
        walked = stays.walked;
        log = stays.log;
        work = stays.work;
        status = subst (λ x. e.status ≡ x.status) is k.status;
        fault = subst (λ x. e.fault ≡ x.fault) is k.fault;
        out = subst (λ x. Took x.out a.out c.out a.outs c.outs) is k.out;
        err = subst (λ x. Took x.err a.err c.err a.errs c.errs) is k.err;
      }

  ended_unread : (e : Settled) (plan : Plan) (log : Vec Item Global) (work : Option Forest) → is_some asked.command ≡ true → Rose a.reads c.reads → KeptBy true (record { plan = plan; log = log.items; work = work }) → Carried (plan_by true) (sinks_of a) (sinks_of c) e → Ends asked a c (ended_with e log work)
  ended_unread e plan log work taken rose kept h =
      let k = subst (λ p. Carried p (sinks_of a) (sinks_of c) e) (unread_by asked.command (names_of asked.shelf) bytes reading r taken) h in
      let is = answer_unread k.failed taken in
      record {
        bytes = bytes;
        reading = reading;
        is_reading = is_reading;
        failed = Some input;
        licensed = licensed_unread k.failed a c rose (k.quiet (ReadFault input_name) refl) k.blamed;
        fed = fed;
        is_read = λ t u. cc;
        reached = r;
        walked = kept.walked;
        log = kept.log;
        work = kept.work;
        status = subst (λ x. e.status ≡ x.status) is k.status;
        fault = subst (λ x. e.fault ≡ x.fault) is k.fault;
        out = subst (λ x. Took x.out a.out c.out a.outs c.outs) is k.out;
        err = subst (λ x. Took x.err a.err c.err a.errs c.errs) is k.err;
      }

  ended_by : (unread : Bool) (e : Settled) (plan : Plan) (log : Vec Item Global) (work : Option Forest) → (unread ≡ true → Rose a.reads c.reads) → (unread ≡ false → c.reads ≡ a.reads) → (unread ≡ true → is_some asked.command ≡ true) → (is_some asked.command ≡ true → unread ≡ false → IsRead bytes fed.given c.left) → KeptBy unread (record { plan = plan; log = log.items; work = work }) → Carried (plan_by unread) (sinks_of a) (sinks_of c) e → Ends asked a c (ended_with e log work)
  ended_by true e plan log work rose same wanted end kept k = ended_unread e plan log work (wanted refl) (rose refl) kept k
  ended_by false e plan log work rose same wanted end kept k = ended_read e plan log work (same refl) (λ t. end t refl) kept k

  stranded_read : (stage : Stage) → c.reads ≡ a.reads → KeptBy false stage → Stranded (plan_by false) (sinks_of a) (sinks_of c) → RanOutWriting asked after a c
  stranded_read stage same kept k =
      let is = answer_read k.failed in
      let stays = kept_read k.failed stage kept in
      record {
        bytes = bytes;
        reading = reading;
        is_reading = is_reading;
        failed = object k.failed;
        licensed = licensed_read k.failed a c same k.blamed;
        fed = fed;
        reached = r;
        walked = stays.walked;
        heard = subst (λ l. Heard asked.shelf after l) stays.log stays.heard;
        out = subst (λ x. TookFront x.out a.out c.out) is k.out;
        err = subst (λ x. TookFront x.err a.err c.err) is k.err;
      }

  stranded_unread : (stage : Stage) → is_some asked.command ≡ true → Rose a.reads c.reads → KeptBy true stage → Stranded (plan_by true) (sinks_of a) (sinks_of c) → RanOutWriting asked after a c
  stranded_unread stage taken rose kept h =
      let k = subst (λ p. Stranded p (sinks_of a) (sinks_of c)) (unread_by asked.command (names_of asked.shelf) bytes reading r taken) h in
      let is = answer_unread k.failed taken in
      record {
        bytes = bytes;
        reading = reading;
        is_reading = is_reading;
        failed = Some input;
        licensed = licensed_unread k.failed a c rose (k.quiet (ReadFault input_name) refl) k.blamed;
        fed = fed;
        reached = r;
        walked = kept.walked;
        heard = subst (λ l. Heard asked.shelf after l) kept.log kept.heard;
        out = subst (λ x. TookFront x.out a.out c.out) is k.out;
        err = subst (λ x. TookFront x.err a.err c.err) is k.err;
      }

  stranded_by : (unread : Bool) (stage : Stage) → (unread ≡ true → Rose a.reads c.reads) → (unread ≡ false → c.reads ≡ a.reads) → (unread ≡ true → is_some asked.command ≡ true) → KeptBy unread stage → Stranded (plan_by unread) (sinks_of a) (sinks_of c) → RanOutWriting asked after a c
  stranded_by true stage rose same wanted kept k = stranded_unread stage (wanted refl) (rose refl) kept k
  stranded_by false stage rose same wanted kept k = stranded_read stage (same refl) kept k

pub ended_run : (asked : Asked) (after : List PluginSeen) (a c : Snapshot) (e : Settled) (p : S.Prepared) → IsPrepared asked after a.left c.left a.reads c.reads (stage_seen p) → Carried (plan_seen p.plan) (sinks_of a) (sinks_of c) e → Runs asked after a c (Ok (record { status = e.status; fault = e.fault; log = p.log; work = p.work }))
ended_run asked after a c e p h k = (
  ended_by asked after a c h.bytes h.reading h.is_reading h.reached h.fed h.unread e (plan_seen p.plan) p.log p.work h.rose h.same h.wanted h.is_read h.kept (subst (λ q. Carried q (sinks_of a) (sinks_of c) e) h.is k),
  h.kept.heard,
)

pub stranded_run : (asked : Asked) (after : List PluginSeen) (a c : Snapshot) (p : S.Prepared) → IsPrepared asked after a.left c.left a.reads c.reads (stage_seen p) → Stranded (plan_seen p.plan) (sinks_of a) (sinks_of c) → RanOut asked after a c
stranded_run asked after a c p h k = inl (stranded_by asked after a c h.bytes h.reading h.is_reading h.reached h.fed h.unread (stage_seen p) h.rose h.same h.wanted h.kept (subst (λ q. Stranded q (sinks_of a) (sinks_of c)) h.is k))
