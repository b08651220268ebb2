use Rattle.std.proofs.Common.{sym, ◌∙◌, zero-le, arith}
use Rattle.std.proofs.lemmas.Grind.{common_steps}
use Rattle.css_text.specs.Characters.{is_space}
use Rattle.css_parse.proofs.Trailing.{solid_none, solid_step, solid_kept, solid_back}
use Rattle.css_parse.proofs.spaces.trimmed_len.Goals as goal
use Rattle.css_parse.proofs.spaces.trimmed_len.Goals.{then-not-is_space, else-not-is_space}

pub loop-i-init : goal.loop-i-init
loop-i-init c = record { front = sym (solid_none is_space); before = zero-le }

pub loop-i-preserved : goal.loop-i-preserved
loop-i-preserved c = elim c.if-not-is_space.branch [
  | then-not-is_space w ↦ record {
    front = rw w.len-is (solid_kept is_space _ _ _ c.loop-i-test.true (sym c.is_space.ensures ∙ w.if-not-is_space.true));
    before = omega arith;
  }
  | else-not-is_space w ↦ record {
    front = rw w.len-is (solid_step is_space _ _ _ _ c.loop-i-test.true c.loop-i.invariant.front (sym c.is_space.ensures ∙ w.if-not-is_space.false));
    before = omega arith;
  }
]

pub returns-clause-back : goal.returns-clause-back
returns-clause-back c = solid_back is_space _ _ (grind (arith, common_steps))
