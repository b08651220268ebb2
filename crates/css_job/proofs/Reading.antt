-- The first stage.
use Rattle.std.proofs.Common.{◌≡◌, ℕ, ◌<◌, ◌≤◌, List, [], length, Bool, true, false, Some, None, Ok, Err, Result, IsErr, refl, sym, ap, subst, ◌∙◌, arith, length-append, ◌⊎◌, inl, inr, true≢false}
use Rattle.std.specs.Prelude.{Option, IfSome, is_some}
use Rattle.std.specs.Str.{chars}
use Rattle.std.specs.Io.KnownBytes.{Consumes, IsAtEnd}
use Rattle.std.proofs.KnownBytes.{Consumes-nil, Consumes-whole, Keeps-refl}
use Rattle.std.proofs.lemmas.Bool.{false≢true}
use Rattle.std.specs.declared.vec.Vec.{Vec}
use Rattle.std.specs.declared.alloc.Global.{Global}
use Rattle.std.specs.declared.alloc.AllocError.{AllocError}
use Rattle.io_edge.specs.Causes.{Rose}
use Rattle.io_edge.specs.Whole.{ReadsAll}
use Rattle.io_edge.specs.declared.edge.ReadStop.{ReadStop}
use Rattle.io_edge.specs.declared.edge.ReadStop.TheVariants as RS
use Rattle.plugin_api.specs.Shelf.{PluginSeen}
use Rattle.command_words.specs.Words.{Command}
use Rattle.css_job.specs.Faults.{input_name}
use Rattle.css_job.specs.Reading.{Reading, IsReadingOf}
use Rattle.css_job.specs.Plan.{Plan, limit, stopped}
use Rattle.css_job.specs.TransformPlan.{Reached, turn_of}
use Rattle.css_job.specs.CommandPlan.{plan_of}
use Rattle.css_job.specs.Stated.{Asked, names_of}
use Rattle.css_job.specs.Outside.{Fed}
use Rattle.css_job.specs.Stages.{stage_seen, Stage, Kept, CutOff, IsInputPlan, PlansInput, Prepares, IsPrepared, Unprepared}
use Rattle.css_job.specs.declared.prepared.Prepared as S
use Rattle.css_job.specs.declared.fault.Fault.TheVariants.{Usage, ReadFault, TooLarge}
use Rattle.css_job.proofs.Readings.{some_reading}
use Rattle.css_job.proofs.Commands.{Stages, unwalked, nothing, kept_none, cut_none, large_plan, large_turn, unread_turn}

-- what an input is, where it isn't read to its end: what it tells, or these bytes
abbrev known : Option (List ℕ) → List ℕ → List ℕ
known None bytes = bytes
known (Some xs) bytes = xs

known_told : (left : Option (List ℕ)) (bytes : List ℕ) → IfSome left (λ xs. known left bytes ≡ xs)
known_told None bytes = tt
known_told (Some xs) bytes = refl

-- what the bytes of an input are read as
abbrev text_reading : List ℕ → Reading
text_reading bytes = (some_reading (chars bytes)).0

text_is_read : (bytes : List ℕ) → IsReadingOf (chars bytes) (text_reading bytes)
text_is_read bytes = (some_reading (chars bytes)).1

none_fed : (asked : Asked) (left : Option (List ℕ)) → Fed asked.command (known left []) left left
none_fed asked left = record { told = known_told left []; given = []; front = Consumes-nil left; unread = λ h. Keeps-refl left }

pub not_taken : (asked : Asked) (left : Option (List ℕ)) (n : ℕ) (p : S.Prepared) (plan : Plan) → asked.command ≡ None → stage_seen p ≡ unwalked plan → plan ≡ stopped Usage → Prepares asked asked.shelf left left n n (Ok p)
not_taken asked left n p plan e i k = record {
  bytes = known left [];
  reading = text_reading (known left []);
  is_reading = text_is_read (known left []);
  unread = false;
  rose = λ h. cc;
  same = λ h. refl;
  wanted = λ h. cc;
  fed = none_fed asked left;
  is_read = λ t u. absurd (true≢false (sym t ∙ ap is_some e));
  reached = nothing;
  kept = kept_none asked.shelf (chars (known left [])) (turn_of asked.command (known left []) (text_reading (known left [])) false) nothing (stage_seen p) plan (ap (λ o. turn_of o (known left []) (text_reading (known left [])) false) e) i;
  is = ap (λ z. z.plan) i ∙ (k ∙ sym (ap (λ o. plan_of o (names_of asked.shelf) (known left []) (text_reading (known left [])) nothing false) e));
}

-- where the words wanted memory
pub none_read : (asked : Asked) (left : Option (List ℕ)) (n : ℕ) → Unprepared asked asked.shelf left left n n
none_read asked left n = record { bytes = known left []; reads = inl refl; fed = none_fed asked left; visits = cut_none asked.shelf asked.command (chars (known left [])) }

-- want of memory for the plan of a wrong use, before anything is read
pub failed_unasked : (asked : Asked) (left : Option (List ℕ)) (n : ℕ) (q : Stages) → IsErr q → Prepares asked asked.shelf left left n n q
failed_unasked asked left n (Ok p) h = absurd (false≢true h)
failed_unasked asked left n (Err e) h = none_read asked left n

told_whole : (a b : Option (List ℕ)) (bytes : List ℕ) → Consumes a b bytes → IsAtEnd b → IfSome a (λ xs. bytes ≡ xs)
told_whole a b bytes c e = Consumes-whole a b bytes (λ xs. bytes ≡ xs) c e refl

-- what a long front is of is long
long : (a b : Option (List ℕ)) (front : List ℕ) → Consumes a b front → limit < length front → limit < length (known a front)
long None b front c l = l
long (Some xs) None front c l = absurd c
long (Some xs) (Some ys) front c l = omega (arith, l, ap length c, length-append front ys)

-- the words ask for this command
module _ (asked : Asked) (command : Command) (taken : asked.command ≡ Some command) (a b : Option (List ℕ)) (before now : ℕ) where
  is_taken : is_some asked.command ≡ true
  is_taken = ap is_some taken

  fed_front : (bytes front : List ℕ) → IfSome a (λ xs. bytes ≡ xs) → Consumes a b front → Fed asked.command bytes a b
  fed_front bytes front t c = record { told = t; given = front; front = c; unread = λ h. absurd (true≢false (sym is_taken ∙ ap is_some h)) }

  plan_as : (bytes : List ℕ) (reading : Reading) (r : Reached) (unread : Bool) (plan : Plan) → plan ≡ plan_of (Some command) (names_of asked.shelf) bytes reading r unread → plan ≡ plan_of asked.command (names_of asked.shelf) bytes reading r unread
  plan_as bytes reading r unread plan e = e ∙ sym (ap (λ o. plan_of o (names_of asked.shelf) bytes reading r unread) taken)

  kept_as : (after : List PluginSeen) (bytes : List ℕ) (reading : Reading) (r : Reached) (stage : Stage) → Kept asked.shelf after (chars bytes) (turn_of (Some command) bytes reading false) r stage → Kept asked.shelf after (chars bytes) (turn_of asked.command bytes reading false) r stage
  kept_as after bytes reading r stage k = subst (λ o. Kept asked.shelf after (chars bytes) (turn_of o bytes reading false) r stage) (sym taken) k

  read_whole : (after : List PluginSeen) (bytes : List ℕ) (stage : Stage) → length bytes ≤ limit → Consumes a b bytes → IsAtEnd b → now ≡ before → IsInputPlan command asked.shelf after bytes stage → IsPrepared asked after a b before now stage
  unfolding fed_front
  read_whole after bytes stage l c end same p = record {
    bytes = bytes;
    reading = p.reading;
    is_reading = p.is_reading;
    unread = false;
    rose = λ h. cc;
    same = λ h. same;
    wanted = λ h. cc;
    fed = fed_front bytes bytes (told_whole a b bytes c end) c;
    is_read = λ t u. record { drained = λ m. end; passed = λ m. m };
    reached = p.reached;
    kept = kept_as after bytes p.reading p.reached stage p.kept;
    is = plan_as bytes p.reading p.reached false stage.plan p.is;
  }

  read_failed : (front : List ℕ) (stage : Stage) (plan : Plan) → Consumes a b front → Rose before now → stage ≡ unwalked plan → plan ≡ stopped (ReadFault input_name) → IsPrepared asked asked.shelf a b before now stage
  read_failed front stage plan c rose i k = record {
    bytes = known a front;
    reading = text_reading (known a front);
    is_reading = text_is_read (known a front);
    unread = true;
    rose = λ h. rose;
    same = λ h. cc;
    wanted = λ h. is_taken;
    fed = fed_front (known a front) front (known_told a front) c;
    is_read = λ t u. cc;
    reached = nothing;
    kept = kept_none asked.shelf (chars (known a front)) (turn_of asked.command (known a front) (text_reading (known a front)) true) nothing stage plan (ap (λ o. turn_of o (known a front) (text_reading (known a front)) true) taken ∙ unread_turn command (known a front) (text_reading (known a front))) i;
    is = ap (λ z. z.plan) i ∙ plan_as (known a front) (text_reading (known a front)) nothing true plan k;
  }

  too_large : (front : List ℕ) (stage : Stage) (plan : Plan) → Consumes a b front → limit < length front → now ≡ before → stage ≡ unwalked plan → plan ≡ stopped (TooLarge input_name) → IsPrepared asked asked.shelf a b before now stage
  unfolding fed_front
  too_large front stage plan c l same i k = record {
    bytes = known a front;
    reading = text_reading (known a front);
    is_reading = text_is_read (known a front);
    unread = false;
    rose = λ h. cc;
    same = λ h. same;
    wanted = λ h. cc;
    fed = fed_front (known a front) front (known_told a front) c;
    is_read = λ t u. record { drained = λ m. absurd (omega (arith, m, long a b front c l)); passed = λ m. l };
    reached = nothing;
    kept = kept_as asked.shelf (known a front) (text_reading (known a front)) nothing stage (kept_none asked.shelf (chars (known a front)) (turn_of (Some command) (known a front) (text_reading (known a front)) false) nothing stage plan (large_turn command (known a front) (text_reading (known a front)) (long a b front c l)) i);
    is = ap (λ z. z.plan) i ∙ plan_as (known a front) (text_reading (known a front)) nothing false plan (k ∙ large_plan command (names_of asked.shelf) (known a front) (text_reading (known a front)) nothing (long a b front c l));
  }

  out_of_memory : (front : List ℕ) → Consumes a b front → (now ≡ before) ⊎ Rose before now → Unprepared asked asked.shelf a b before now
  out_of_memory front c reads = record { bytes = known a front; reads = reads; fed = fed_front (known a front) front (known_told a front) c; visits = cut_none asked.shelf asked.command (chars (known a front)) }

  failed_by : (r : Stages) → IsErr r → Unprepared asked asked.shelf a b before now → Prepares asked asked.shelf a b before now r
  failed_by (Ok p) h u = absurd (false≢true h)
  failed_by (Err e) h u = u

  -- the same of what `read_all` answers
  at_read : (r v : Result (Vec ℕ Global) ReadStop) → ReadsAll limit a b before now r → r ≡ v → ReadsAll limit a b before now v
  at_read r v h e = subst (λ x. ReadsAll limit a b before now x) e h

  pub few_read : (r : Result (Vec ℕ Global) ReadStop) (bytes : Vec ℕ Global) → ReadsAll limit a b before now r → r ≡ Ok bytes → length bytes.items ≤ limit
  few_read r bytes h e = (at_read r (Ok bytes) h e).2

  pub prepared_whole : (r : Result (Vec ℕ Global) ReadStop) (after : List PluginSeen) (bytes : Vec ℕ Global) (q : Stages) → ReadsAll limit a b before now r → r ≡ Ok bytes → PlansInput command asked.shelf after bytes.items q → Prepares asked after a b before now q
  prepared_whole r after bytes (Ok p) h e k = let d = at_read r (Ok bytes) h e in read_whole after bytes.items (stage_seen p) d.2 d.0 d.1 d.3 k
  prepared_whole r after bytes (Err x) h e k = let d = at_read r (Ok bytes) h e in record {
    bytes = bytes.items;
    reads = inl d.3;
    fed = fed_front bytes.items bytes.items (told_whole a b bytes.items d.0 d.1) d.0;
    visits = subst (λ o. CutOff asked.shelf after o (chars bytes.items)) (sym taken) k;
  }

  pub prepared_unread : (r : Result (Vec ℕ Global) ReadStop) (s : ReadStop) (p : S.Prepared) (plan : Plan) → ReadsAll limit a b before now r → r ≡ Err s → s ≡ RS.ReadFault → stage_seen p ≡ unwalked plan → plan ≡ stopped (ReadFault input_name) → Prepares asked asked.shelf a b before now (Ok p)
  prepared_unread r s p plan h e f i k = let d = at_read r (Err RS.ReadFault) h (e ∙ ap (λ x. Err x) f) in read_failed d.0 (stage_seen p) plan d.1 d.3 i k

  pub failed_unread : (r : Result (Vec ℕ Global) ReadStop) (s : ReadStop) (q : Stages) → ReadsAll limit a b before now r → r ≡ Err s → s ≡ RS.ReadFault → IsErr q → Prepares asked asked.shelf a b before now q
  failed_unread r s q h e f x = let d = at_read r (Err RS.ReadFault) h (e ∙ ap (λ y. Err y) f) in failed_by q x (out_of_memory d.0 d.1 (inr d.3))

  pub prepared_large : (r : Result (Vec ℕ Global) ReadStop) (s : ReadStop) (p : S.Prepared) (plan : Plan) → ReadsAll limit a b before now r → r ≡ Err s → s ≡ RS.TooLarge → stage_seen p ≡ unwalked plan → plan ≡ stopped (TooLarge input_name) → Prepares asked asked.shelf a b before now (Ok p)
  prepared_large r s p plan h e f i k = let d = at_read r (Err RS.TooLarge) h (e ∙ ap (λ x. Err x) f) in too_large d.0 (stage_seen p) plan d.1 d.2 d.3 i k

  pub failed_large : (r : Result (Vec ℕ Global) ReadStop) (s : ReadStop) (q : Stages) → ReadsAll limit a b before now r → r ≡ Err s → s ≡ RS.TooLarge → IsErr q → Prepares asked asked.shelf a b before now q
  failed_large r s q h e f x = let d = at_read r (Err RS.TooLarge) h (e ∙ ap (λ y. Err y) f) in failed_by q x (out_of_memory d.0 d.1 (inl d.3))

  pub unprepared_memory : (r : Result (Vec ℕ Global) ReadStop) (s : ReadStop) (x : AllocError) → ReadsAll limit a b before now r → r ≡ Err s → s ≡ RS.Memory x → Unprepared asked asked.shelf a b before now
  unprepared_memory r s x h e f = let d = at_read r (Err (RS.Memory x)) h (e ∙ ap (λ y. Err y) f) in out_of_memory d.0 d.1 (inl d.2)
