use Rattle.std.proofs.Common.{sym, ◌∙◌, ap, arith}
use Rattle.std.proofs.lemmas.List.{get_or_read}
use Rattle.node_rows.specs.Shown.{no_row}
use Rattle.node_rows.proofs.Join.{start_within, walk_on, walk_stays}
use Rattle.node_rows.proofs.links.gap_onward.Goals as goal
use Rattle.node_rows.proofs.links.gap_onward.Goals.{in-Some, in_default}

pub index-requires : goal.index-requires
index-requires c =
    let h = start_within c.args.rows.now.items c.requires.sound c.args.p c.requires.given c.loop-i._i c.in-Some.child (sym c.in-Some.is ∙ (c.get.ensures ∙ c.loop-i.invariant.right)) in
    omega (arith, c.args.rows.now.ok.0)

pub loop-i-preserved : goal.loop-i-preserved
loop-i-preserved c =
    let rs = c.args.rows.now.items in
    elim c.match-get.branch [
      | in-Some w ↦
          let e = sym w.in-Some.is ∙ (c.get.ensures ∙ c.loop-i.invariant.right) in
          let b = start_within rs c.requires.sound c.args.p c.requires.given c.loop-i._i w.in-Some.child e in
          let t = walk_on rs c.requires.sound c.args.p c.requires.given c.loop-i._i w.in-Some.child e in
          let r = get_or_read rs w.in-Some.child w.index.result.now b w.index.ensures no_row in
          record { left = w.before-is ∙ (sym c.get.ensures ∙ (w.in-Some.is ∙ t.0)); right = w.after-is ∙ (ap (λ x. x.after) r ∙ t.1) }
      | in_default w ↦
          let t = walk_stays rs c.requires.sound c.args.p c.requires.given c.loop-i._i (sym w.in_default.is ∙ (c.get.ensures ∙ c.loop-i.invariant.right)) in
          record { left = w.before-is ∙ (c.loop-i.invariant.left ∙ t.0); right = w.after-is ∙ (sym c.get.ensures ∙ (w.in_default.is ∙ t.1)) }
    ]
