-- Where there is no cause of a fault, there is no fault.
use Rattle.std.proofs.Common.{◌≡◌, ℕ, ◌<◌, ◌≤◌, List, [], ◌∷◌, ◌++◌, length, Option, Some, None, refl, sym, ◌∙◌, subst, inl, inr, Ok, Err, arith}
use Rattle.std.specs.Prelude.{◌⊎◌}
use Rattle.std.specs.Str.{chars}
use Rattle.io_edge.specs.Causes.{Rose}
use Rattle.css_tree.specs.declared.fault.SyntaxFault.{SyntaxFault}
use Rattle.css_tree.specs.Tree.{Tree}
use Rattle.css_tree.specs.Reads.{Reads}
use Rattle.plugin_api.specs.Shelf.{HookSeen, PluginSeen}
use Rattle.command_words.specs.Words.{Command}
use Rattle.css_job.specs.Reading.{Reading, IsReadingOf}
use Rattle.css_job.specs.Warnings.{warnings}
use Rattle.css_job.specs.Plan.{limit}
use Rattle.css_job.specs.Answer.{write_to}
use Rattle.css_job.specs.Stated as O
use Rattle.css_job.specs.Outside.{Snapshot, Licensed}
use Rattle.css_job.specs.Stated.{Asked, Ends}
use Rattle.css_job.specs.Causes.{IsTaken, IsTransform, Gets, IsTextInput}
use Rattle.css_job.specs.TransformPromises.{Grew, HasSaid}
use Rattle.css_job.specs.Promises.{IsCalm, Completes}
use Rattle.css_job.specs.declared.fault.Fault.{Fault}
use Rattle.css_job.specs.declared.fault.Fault.TheVariants.{Usage, ReadFault, WriteFault, TooLarge, NotUtf8, Syntax, PluginFailed, BudgetSpent, EditBudgetSpent}
use Rattle.css_job.specs.declared.run.Ended.{Ended}
use Rattle.css_job.specs.declared.target.Target.{Target}
use Rattle.css_job.specs.declared.target.Target.TheVariants.{StdOut, StdErr}
use Rattle.css_job.proofs.Readings.{one_reading}
use Rattle.css_job.proofs.Commands.{never_both}
use Rattle.css_job.proofs.Causes.{told, cause_of, unfaulty}
use Rattle.css_job.proofs.LintCauses.{same_status}
use Rattle.css_job.proofs.WalkCauses.{plugin_failed, budget_spent, edit_budget_spent}

some_rose : {A : Type 0} (t : Target) (m n : Snapshot) → Licensed (Some (write_to t)) m n → ¬ Rose m.outs n.outs → ¬ Rose m.errs n.errs → A
some_rose StdOut m n l o e = absurd (o l.1)
some_rose StdErr m n l o e = absurd (e l.2)

too_many : {A : Type 0} (n : ℕ) → n ≤ limit → limit < n → A
too_many n a b = absurd (omega arith)

not_taken : {A : Type 0} (command : Option Command) → IsTaken command → command ≡ None → A
not_taken command t e = let h = sym t.1 ∙ e in absurd (cc)

no_err : {A : Type 0} (v : Tree) (d : SyntaxFault) (reading : Reading) → reading ≡ Ok v → reading ≡ Err d → A
no_err v d reading r s = let e = sym r ∙ s in absurd (cc)

longer : (xs : List (List ℕ)) (x : List ℕ) → xs ++ x ∷ [] ≡ xs → ⊥
longer [] x e = cc
longer (y ∷ ys) x e = let t : ys ++ x ∷ [] ≡ ys = cc in longer ys x t

-- what grew was said
has_said : (text : List ℕ) (old new : Option HookSeen) → Grew text old new → HasSaid old new
has_said text None new g = g
has_said text (Some old) new g = (g.0, g.1, λ e. longer old.said text (sym g.2 ∙ e))

module _ (asked : Asked) (a c : Snapshot) (e : Ended) (h : Ends asked a c e) (after : List PluginSeen) (heard : O.Heard asked.shelf after e.log.items) where
  -- no fault has its cause here
  calm_by : (bytes : List ℕ) → Gets asked.command a bytes → IsTextInput bytes → (IsTransform asked.command → (t : Tree) × Reads (chars bytes) t) → IsCalm asked after (chars bytes) e → ¬ Rose a.reads c.reads → ¬ Rose a.outs c.outs → ¬ Rose a.errs c.errs → (f : Fault) → e.fault ≡ Some f → ⊥
  calm_by bytes g x tree calm p q r Usage i = not_taken asked.command g.taken (cause_of asked a c e h (Some Usage) i)
  calm_by bytes g x tree calm p q r (ReadFault name) i = p (subst (λ o. Licensed o a c) (cause_of asked a c e h (Some (ReadFault name)) i).2 h.licensed).0
  calm_by bytes g x tree calm p q r (WriteFault name) i =
      let u = cause_of asked a c e h (Some (WriteFault name)) i in
      some_rose u.target a c (subst (λ o. Licensed o a c) u.failed_is h.licensed) q r
  calm_by bytes g x tree calm p q r (TooLarge name) i =
      let s = told h.bytes bytes a.left g.told h.fed.told in
      too_many (length bytes) x.short (subst (λ b. limit < length b) s (cause_of asked a c e h (Some (TooLarge name)) i).2)
  calm_by bytes g x tree calm p q r (NotUtf8 name at) i =
      let s = told h.bytes bytes a.left g.told h.fed.told in
      never_both h.bytes at (cause_of asked a c e h (Some (NotUtf8 name at)) i).3 (subst IsTextInput (sym s) x).utf8
  calm_by bytes g x tree calm p q r (Syntax name d) i =
      let s = told h.bytes bytes a.left g.told h.fed.told in
      let u = cause_of asked a c e h (Some (Syntax name d)) i in
      let t = tree u.1 in
      let is : IsReadingOf (chars bytes) h.reading = subst (λ b. IsReadingOf (chars b) h.reading) s h.is_reading in
      no_err t.0 d h.reading (one_reading (chars bytes) h.reading (Ok t.0) is t.1) u.3
  calm_by bytes g x tree calm p q r (PluginFailed text m) i =
      let u = (plugin_failed asked a c e h after heard).only text m i in
      calm.unsaid u.0.plugin u.0.hook (has_said text _ _ u.1)
  calm_by bytes g x tree calm p q r (BudgetSpent calls m) i = calm.unasked calls m ((budget_spent asked a c e h).only bytes calls m g.told i)
  calm_by bytes g x tree calm p q r (EditBudgetSpent edits budget m) i = calm.unpassed edits budget m ((edit_budget_spent asked a c e h).only bytes edits budget m g.told i)

  no_fault : (o : Option Fault) → ((f : Fault) → o ≡ Some f → ⊥) → o ≡ None
  no_fault None n = refl
  no_fault (Some f) n = absurd (n f refl)

  calm_status : e.fault ≡ None → (e.status ≡ 0) ⊎ (e.status ≡ 2)
  calm_status n = elim (unfaulty asked a c e h n).by [ inl p ↦ inl (h.status ∙ p.status) | inr l ↦ same_status (warnings (chars h.bytes) h.reading) e.status (h.status ∙ l.status) ]

  pub complete : Completes asked after a c e
  complete bytes g x tree calm p q r =
      let n = no_fault e.fault (calm_by bytes g x tree calm p q r) in
      (n, calm_status n)
