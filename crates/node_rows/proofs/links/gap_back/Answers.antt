use Rattle.std.proofs.Common.{◌≡◌, ◌-◌, ◌+◌, ◌≤◌, length, sym, ◌∙◌, ap, arith}
use Rattle.std.proofs.lemmas.List.{get_or_read}
use Rattle.node_rows.specs.Shown.{no_row}
use Rattle.node_rows.proofs.Join.{end_within, kids}
use Rattle.node_rows.proofs.Siblings.{step_back, end_none}
use Rattle.node_rows.proofs.links.gap_back.Goals as goal
use Rattle.node_rows.proofs.links.gap_back.Goals.{in-Some, in_default}

pub loop-i-init : goal.loop-i-init
loop-i-init c =
    let all : c.args.from - (c.args.at - c.args.at) ≡ c.args.from = omega arith in
    rw all (record { left = c.requires.before; right = c.requires.after })

pub index-requires : goal.index-requires
index-requires c =
    let rs = c.args.rows.now.items in
    let h = end_within rs c.requires.sound c.args.p c.requires.given (c.args.from - (c.loop-i._i - c.args.at)) c.in-Some.child (sym c.in-Some.is ∙ (c.get.ensures ∙ c.loop-i.invariant.left)) in
    omega (arith, c.args.rows.now.ok.0)

pub loop-i-preserved : goal.loop-i-preserved
loop-i-preserved c =
    let rs = c.args.rows.now.items in
    let xs = kids rs c.args.p in
    let j = c.args.from - (c.loop-i._i - c.args.at) in
    let short : j ≤ length xs = omega (arith, c.requires.inside) in
    elim c.match-get.branch [
      | in-Some w ↦
          let e = sym w.in-Some.is ∙ (c.get.ensures ∙ c.loop-i.invariant.left) in
          let b = end_within rs c.requires.sound c.args.p c.requires.given j w.in-Some.child e in
          let t = step_back rs c.requires.sound c.args.p c.requires.given j w.in-Some.child short e in
          let r = get_or_read rs w.in-Some.child w.index.result.now b w.index.ensures no_row in
          let further : c.args.from - (c.loop-i._i + 1 - c.args.at) ≡ j - 1 = omega arith in
          rw further (record { left = w.before-is ∙ (ap (λ x. x.before) r ∙ t.1); right = w.after-is ∙ (sym c.get.ensures ∙ (w.in-Some.is ∙ t.0)) })
      | in_default w ↦
          let z : j ≡ 0 = end_none xs j short (sym w.in_default.is ∙ (c.get.ensures ∙ c.loop-i.invariant.left)) in
          let stays : c.args.from - (c.loop-i._i + 1 - c.args.at) ≡ j = omega arith in
          rw stays (record { left = w.before-is ∙ c.loop-i.invariant.left; right = w.after-is ∙ c.loop-i.invariant.right })
    ]
