-- What `lint` writes and answers without a fault, and the status of each run.
use Rattle.std.proofs.Common.{◌≡◌, ℕ, List, Bool, true, false, Some, None, Ok, refl, subst, sym, ◌∙◌, inl, inr, cond}
use Rattle.std.specs.Prelude.{◌⊎◌, ◌==◌, count_by}
use Rattle.std.specs.Str.{chars}
use Rattle.std.specs.Io.KnownBytes.{Appends}
use Rattle.command_words.specs.Words.{Lint}
use Rattle.css_job.specs.Reading.{IsReadingOf}
use Rattle.css_job.specs.Warnings.{Warning, warnings}
use Rattle.css_job.specs.Report.{is_error}
use Rattle.css_job.specs.LintPlan.{lint_status}
use Rattle.css_job.specs.Outside.{Snapshot}
use Rattle.css_job.specs.Stated.{Asked, Ends}
use Rattle.css_job.specs.Causes.{IsTransform, StatusCause}
use Rattle.css_job.specs.LintPromises.{Reports, SyntaxErrorCause, WarnedCause}
use Rattle.css_job.specs.declared.run.Ended.{Ended}
use Rattle.css_job.proofs.Readings.{one_reading, faulty_reading}
use Rattle.css_job.proofs.Causes.{told, not_lint, took_whole, unfaulty, status_of_fault}

status_by : (b : Bool) → (◌≡◌ {A = ℕ} (cond b 0 2) 0) ⊎ (◌≡◌ {A = ℕ} (cond b 0 2) 2)
status_by true = inl refl
status_by false = inr refl

status_known : (ws : List Warning) → (lint_status ws ≡ 0) ⊎ (lint_status ws ≡ 2)
status_known ws = status_by (count_by is_error ws == 0)

-- a status that is 0 or 2
pub same_status : (ws : List Warning) (n : ℕ) → n ≡ lint_status ws → (n ≡ 0) ⊎ (n ≡ 2)
same_status ws n e = subst (λ x. (x ≡ 0) ⊎ (x ≡ 2)) (sym e) (status_known ws)

module _ (asked : Asked) (a c : Snapshot) (e : Ended) (h : Ends asked a c e) where
  pub lint_reports : asked.command ≡ Some Lint → e.fault ≡ None → Reports (warnings (chars h.bytes) h.reading) a c e
  lint_reports t none =
      elim (unfaulty asked a c e h none).by [
        | inl p ↦ not_lint asked.command p.turned.options p.turned.is t
        | inr l ↦ record {
          status = h.status ∙ l.status;
          report = λ b. subst (Appends a.err c.err) l.err (took_whole _ a.err c.err a.errs c.errs h.err b);
        }
      ]

  pub warned : WarnedCause asked.command a c e
  warned bytes t k is r none =
      let s = told h.bytes bytes a.left is h.fed.told in
      let same : h.reading ≡ Ok t = one_reading (chars bytes) h.reading (Ok t) (subst (λ b. IsReadingOf (chars b) h.reading) s h.is_reading) r in
      let l = lint_reports k none in
      subst (λ b. Reports (warnings (chars b) (Ok t)) a c e) s (subst (λ x. Reports (warnings (chars h.bytes) x) a c e) same l)

  pub css_syntax_error : SyntaxErrorCause asked.command a c e
  css_syntax_error bytes k is nothing none =
      let s = told h.bytes bytes a.left is h.fed.told in
      let d = faulty_reading (chars bytes) h.reading (subst (λ b. IsReadingOf (chars b) h.reading) s h.is_reading) nothing in
      let l = subst (λ x. Reports (warnings (chars h.bytes) x) a c e) d.1 (lint_reports k none) in
      (l.status, (d.0, d.2, l))

  printed_status : IsTransform asked.command → e.fault ≡ None → e.status ≡ 0
  printed_status t none = elim (unfaulty asked a c e h none).by [ inl p ↦ h.status ∙ p.status | inr l ↦ not_lint asked.command t.0 t.1 l.is ]

  pub status : StatusCause asked.command e
  status = record {
    faulty = λ d g. status_of_fault asked a c e h d g;
    transformed = λ t g. printed_status t g;
    linted = λ t g. same_status (warnings (chars h.bytes) h.reading) e.status (lint_reports t g).status;
  }
