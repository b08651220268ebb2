use Rattle.std.proofs.Common.{◌≡◌, ◌∙◌, ap, map, string_bytes}
use Rattle.std.proofs.lemmas.Str.{IsUtf8-string_bytes}
use Rattle.css_job.specs.TransformPlan.{traced}
use Rattle.css_job.specs.ShelfSeen.{shelf_names}
use Rattle.css_job.specs.Stages.{piece_of}
use Rattle.css_job.proofs.Writes.{wrote_trace, wrote_none, wrote_printing, wrote_no_printing}
use Rattle.css_job.proofs.transform.walk_writes.Goals as goal
use Rattle.css_job.proofs.transform.walk_writes.Goals.{then-is_traced+in_ok-trace+in_ok-text+in_ok-push, else-is_traced, in-Done+in_ok-printed+in_ok-push-2, in_default}

pub returns : goal.returns
returns g c =
    let names = shelf_names c.args.shelf.now.items in
    let first : map piece_of c.if-is_traced.writes.items ≡ traced c.args.is_traced names c.args.log.now = elim c.if-is_traced.branch [
      | then-is_traced+in_ok-trace+in_ok-text+in_ok-push w ↦
          wrote_trace c.if-is_traced.writes.items c.new-writes.result.items w.in_ok-text.text (string_bytes w.in_ok-trace.field-0) c.args.is_traced names c.args.log.now
          (ap (λ v. v.items) w.writes-is ∙ w.in_ok-push.ensures.items) c.new-writes.ensures.items w.in_ok-text.ensures (IsUtf8-string_bytes w.in_ok-trace.field-0) w.in_ok-trace.ensures w.if-is_traced.true
      | else-is_traced w ↦ wrote_none c.if-is_traced.writes.items c.args.is_traced names c.args.log.now (ap (λ v. v.items) w.writes-is ∙ c.new-writes.ensures.items) w.if-is_traced.false
    ] in elim c.match-end.branch [
      | in-Done+in_ok-printed+in_ok-push-2 w ↦
          wrote_printing c.match-end.writes.items c.if-is_traced.writes.items w.in_ok-printed.printed c.args.end.now c.args.work.now (traced c.args.is_traced names c.args.log.now)
          (ap (λ v. v.items) w.writes-is ∙ w.in_ok-push-2.ensures.items) first w.in_ok-printed.ensures w.in-Done.is
      | in_default w ↦ wrote_no_printing c.match-end.writes.items c.if-is_traced.writes.items c.args.end.now c.args.work.now (traced c.args.is_traced names c.args.log.now) (ap (λ v. v.items) w.writes-is) first w.in_default.not-Done
    ]
