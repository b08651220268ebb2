use Rattle.std.proofs.Common.{rules, true, false, ◌≡◌, ◌∙◌, ap, length, refl, inl, [], Some}
use Rattle.std.specs.Prelude.{is_ok}
use Rattle.plugin_api.proofs.VisitLemmas.{recorded, counted, edited_nothing, owes_all, unkept}
use Rattle.plugin_api.proofs.recorder.RecorderVisitor.visit.Goals as goal

pub returns : goal.returns
returns g c =
    let ok : is_ok c.push.result ≡ true = search rules in
    rw (← c.self.view_is) (record {
      visited = recorded c.visit-answer.ensures.visited c.self.inside.calls.items _ _ _ (ap length c.log-at.ensures) (ap length c.log.ensures)
          (counted c.self.inside.calls.items c.push.new.self.items _ _ _ c.len-place.result ok c.push.ensures.items (c.len-place.ensures ∙ c.self.inside.calls.ok.0));
    })

pub returns-then-is_err : goal.returns-then-is_err
returns-then-is_err g c =
    let err : is_ok c.push.result ≡ false = search rules in
    rw (← c.self.view_is) (record {
      visited = record { edits = []; edited = edited_nothing c.args.work.now; tells = inl (ap Some (unkept c.self.inside.calls.items c.push.new.self.items _ _ err c.push.ensures.items)); says = refl; keeps = refl; does = owes_all _ c.args.work.now _ _; leaves = tt };
    })
