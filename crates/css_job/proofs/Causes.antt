-- The causes of the faults that all commands have.
use Rattle.std.proofs.Common.{◌≡◌, ℕ, ◌<◌, ◌≤◌, List, ◌++◌, length, true, false, Option, Some, None, refl, ap, subst, sym, ◌∙◌, inl, inr, append-nil, true≢false}
use Rattle.std.specs.Prelude.{IfSome}
use Rattle.std.specs.Str.{chars, IsValidUpTo}
use Rattle.std.specs.Io.KnownBytes.{Appends}
use Rattle.io_edge.specs.Causes.{Rose}
use Rattle.css_parse.specs.Answer.{IsFaultOf}
use Rattle.command_words.specs.Words.{Command, Options, Transform, Lint}
use Rattle.css_job.specs.Faults.{name_of, status_of}
use Rattle.css_job.specs.Reading.{IsReadingOf, HasNoTree}
use Rattle.css_job.specs.Plan.{limit}
use Rattle.css_job.specs.Answer.{Object, input, write_to, Answer, is_input}
use Rattle.css_job.specs.Outside.{Snapshot, Licensed, Took}
use Rattle.css_job.specs.Stated.{Asked, names_of, answer_to, Ends}
use Rattle.css_job.specs.Causes.{UsageCause, ReadCause, WriteCause, IsTextInput, TooLargeCause, NotUtf8Cause, SyntaxCause, Unfailed, IsFailedSink}
use Rattle.css_job.specs.declared.fault.Fault.{Fault}
use Rattle.css_job.specs.declared.fault.Fault.TheVariants.{Usage, ReadFault, WriteFault, TooLarge, NotUtf8, Syntax}
use Rattle.css_job.specs.declared.run.Ended.{Ended}
use Rattle.css_job.specs.declared.target.Target.{Target}
use Rattle.css_job.specs.declared.target.Target.TheVariants.{StdOut, StdErr}
use Rattle.css_job.proofs.Readings.{faulty_reading}
use Rattle.css_job.proofs.Ways.{Cause, HasStatus, Unfaulty, way, usage_by, large_by, wrong_by, syntax_by}

-- the two commands are two
pub not_lint : {A : Type 0} (command : Option Command) (o : Options) → command ≡ Some (Transform o) → command ≡ Some Lint → A
not_lint command o t e = let h = sym t ∙ e in absurd (cc)

-- where no read failed, the input isn't the object that did
pub not_input : (failed : Option Object) (m n : Snapshot) → Licensed failed m n → ¬ Rose m.reads n.reads → is_input failed ≡ false
not_input None m n l r = refl
not_input (Some input) m n l r = absurd (r l.0)
not_input (Some (write_to t)) m n l r = refl

-- the input that is told is the one that the answer is about
pub told : (bytes xs : List ℕ) (left : Option (List ℕ)) → left ≡ Some xs → IfSome left (λ ys. bytes ≡ ys) → bytes ≡ xs
told bytes xs left e h = subst (λ l. IfSome l (λ ys. bytes ≡ ys)) e h

not_read : (failed : Option Object) (a c : Snapshot) → is_input failed ≡ false → Licensed failed a c → c.reads ≡ a.reads
not_read None a c e h = h.0
not_read (Some input) a c e h = absurd (true≢false e)
not_read (Some (write_to StdOut)) a c e h = h.0
not_read (Some (write_to StdErr)) a c e h = h.0

failed_sink : (t : Target) (name : List ℕ) (a c : Snapshot) → name ≡ name_of t → Licensed (Some (write_to t)) a c → IsFailedSink name a c
failed_sink StdOut name a c e h = inl (e, h.1)
failed_sink StdErr name a c e h = inr (e, h.2)

-- where no call failed, all of a text was taken
pub took_whole : (text : List ℕ) (x y : Option (List ℕ)) (m n : ℕ) → Took text x y m n → ¬ Rose m n → Appends x y text
took_whole text x y m n t b = elim t.whole [
  | inl e ↦ subst (Appends x y) (sym (append-nil t.front) ∙ (ap (λ z. t.front ++ z) (sym e) ∙ t.joined)) t.appended
  | inr r ↦ absurd (b r)
]

module _ (asked : Asked) (a c : Snapshot) (e : Ended) (h : Ends asked a c e) where
  abbrev pub its_answer : Answer
  its_answer = answer_to asked h.bytes h.reading h.reached h.failed

  -- what the fault of a run says
  pub cause_of : (f : Option Fault) → e.fault ≡ f → Cause asked.command h.bytes h.reading h.reached h.failed its_answer f
  cause_of f g = subst (Cause asked.command h.bytes h.reading h.reached h.failed its_answer) (sym h.fault ∙ g) (way asked.command (names_of asked.shelf) h.bytes h.reading h.reached h.failed).cause

  pub status_of_fault : (f : Fault) → e.fault ≡ Some f → e.status ≡ status_of f
  status_of_fault f g = h.status ∙ subst (λ o. HasStatus o its_answer.status) (sym h.fault ∙ g) (way asked.command (names_of asked.shelf) h.bytes h.reading h.reached h.failed).status

  pub usage : UsageCause asked.command e
  usage = (λ g. cause_of (Some Usage) g, λ t. h.fault ∙ usage_by asked.command (names_of asked.shelf) h.bytes h.reading h.reached h.failed t)

  pub read : ReadCause asked.command a c e
  read name g =
      let r = cause_of (Some (ReadFault name)) g in
      (r.0, r.1, (subst (λ o. Licensed o a c) r.2 h.licensed).0)

  pub write : WriteCause asked.command a c e
  write name g =
      let r = cause_of (Some (WriteFault name)) g in
      (r.taken, failed_sink r.target name a c r.name_is (subst (λ o. Licensed o a c) r.failed_is h.licensed))

  pub too_large : TooLargeCause asked.command a c e
  too_large = record {
    only = λ bytes name is g.
        let r = cause_of (Some (TooLarge name)) g in
        (r.0, r.1, subst (λ b. limit < length b) (told h.bytes bytes a.left is h.fed.told) r.2, not_read h.failed a c r.3 h.licensed);
    always = λ bytes g l z.
        let s = sym (told h.bytes bytes a.left g.told h.fed.told) in
        h.fault ∙ large_by asked.command (names_of asked.shelf) h.bytes h.reading h.reached h.failed g.taken.0 g.taken.1 (not_input h.failed a c h.licensed z) (subst (λ b. limit < length b) s l);
  }

  pub not_utf8 : NotUtf8Cause asked.command a c e
  not_utf8 = record {
    only = λ bytes name at is g.
        let r = cause_of (Some (NotUtf8 name at)) g in
        let s = told h.bytes bytes a.left is h.fed.told in
        (r.0, r.1, subst (λ b. length b ≤ limit) s r.2, subst (λ b. IsValidUpTo b at) s r.3, not_read h.failed a c r.4 h.licensed);
    always = λ bytes at g l v z.
        let s = sym (told h.bytes bytes a.left g.told h.fed.told) in
        h.fault ∙ wrong_by asked.command (names_of asked.shelf) h.bytes h.reading h.reached h.failed g.taken.0 at g.taken.1 (not_input h.failed a c h.licensed z) (subst (λ b. length b ≤ limit) s l) (subst (λ b. IsValidUpTo b at) s v);
  }

  pub syntax : SyntaxCause asked.command a c e
  syntax = record {
    only = λ bytes name d is g.
        let r = cause_of (Some (Syntax name d)) g in
        let s = told h.bytes bytes a.left is h.fed.told in
        (r.0, r.1, subst IsTextInput s r.2, subst (λ b. IsFaultOf d (chars b)) s (subst (IsReadingOf (chars h.bytes)) r.3 h.is_reading), not_read h.failed a c r.4 h.licensed);
    always = λ bytes t is x none z.
        let s = sym (told h.bytes bytes a.left is h.fed.told) in
        let d = faulty_reading (chars h.bytes) h.reading h.is_reading (subst (λ b. HasNoTree (chars b)) s none) in
        (d.0, subst (λ b. IsFaultOf d.0 (chars b)) (sym s) d.2, h.fault ∙ syntax_by asked.command (names_of asked.shelf) h.bytes h.reading h.reached h.failed t.0 d.0 t.1 (not_input h.failed a c h.licensed z) (subst IsTextInput s x) d.1);
  }

  -- what a run without a fault was
  pub unfaulty : e.fault ≡ None → Unfaulty asked.command h.bytes h.reading h.reached h.failed its_answer
  unfaulty g = cause_of None g

  pub unfailed : Unfailed a c e
  unfailed g = subst (λ o. Licensed o a c) (unfaulty g).none h.licensed
