use Rattle.std.proofs.Common.{◌≡◌, take, ap, sym, ◌∙◌, arith}
use Rattle.css_tree.specs.Pieces.{is_blank}
use Rattle.css_tree.proofs.Split.{solid, solid_by}
use Rattle.css_parse.proofs.Trailing.{solid_none, solid_found, solid_before, solid_back}
use Rattle.css_parse.proofs.texts.solid_len.Goals as goal
use Rattle.css_parse.proofs.texts.solid_len.Goals.{Then-not-is_blank, After-loop-len}

found : (c : Then-not-is_blank) → take c.loop-len.len c.args.pieces.now ≡ solid c.args.pieces.now
found c =
    solid_found is_blank c.args.pieces.now c.loop-len.len c.index-pieces-len.result c.loop-len-test.true c.loop-len.invariant.within (ap is_blank (sym c.index-pieces-len.is) ∙ sym c.if-not-is_blank.ensures)
    ∙ sym c.loop-len.invariant.same

all : (c : After-loop-len) → take 0 c.args.pieces.now ≡ solid c.args.pieces.now
all c =
    let e : c.loop-len.len ≡ 0 = omega (arith, c.loop-len-test.false) in
    sym (c.loop-len.invariant.same ∙ (ap (λ k. solid_by is_blank (take k c.args.pieces.now)) e ∙ solid_none is_blank))

pub loop-len-preserved : goal.loop-len-preserved
loop-len-preserved c = record {
  same = c.loop-len.invariant.same
      ∙ solid_before is_blank c.args.pieces.now c.loop-len.len c.index-pieces-len.result c.loop-len-test.true c.loop-len.invariant.within (ap is_blank (sym c.index-pieces-len.is) ∙ sym c.if-not-is_blank.ensures);
  within = omega (arith, c.loop-len.invariant.within);
}

pub returns-then-not-is_blank-clause-front : goal.returns-then-not-is_blank-clause-front
returns-then-not-is_blank-clause-front c = found (goal.at.returns-then-not-is_blank-clause-front c).Then-not-is_blank

pub returns-then-not-is_blank-clause-back : goal.returns-then-not-is_blank-clause-back
returns-then-not-is_blank-clause-back c = solid_back is_blank c.loop-len.len c.args.pieces.now (found (goal.at.returns-then-not-is_blank-clause-back c).Then-not-is_blank)

pub returns-clause-front : goal.returns-clause-front
returns-clause-front c = all (goal.at.returns-clause-front c).After-loop-len

pub returns-clause-back : goal.returns-clause-back
returns-clause-back c = solid_back is_blank 0 c.args.pieces.now (all (goal.at.returns-clause-back c).After-loop-len)
