use Rattle.std.proofs.Common.{◌∷◌, [], replicate, ap, ◌∙◌}
use Rattle.std.proofs.lemmas.List.{replicate-append-replicate}
use Rattle.stringify.specs.Sheet.{put}
use Rattle.stringify.proofs.Puts.{put-put}
use Rattle.stringify.proofs.output.Output.push_new_line.Goals as goal

pub loop-i-preserved : goal.loop-i-preserved
loop-i-preserved c =
    let x = c.args.self.now in
    let i = c.loop-i._i in
    c.in_ok-push-2.ensures
    ∙ (ap (put (32 ∷ [])) c.loop-i.invariant
    ∙ (put-put (10 ∷ replicate i 32) (32 ∷ []) x ∙ ap (λ l. put (10 ∷ l) x) (replicate-append-replicate i 1 32)))
