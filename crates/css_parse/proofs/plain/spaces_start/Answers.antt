use Rattle.std.proofs.Common.{sym, ◌∙◌, arith}
use Rattle.css_text.specs.Characters.{is_space}
use Rattle.css_parse.proofs.PlainSlices.{still-behind, part-more, part-none}
use Rattle.css_parse.proofs.plain.spaces_start.Goals as goal

pub loop-i-init : goal.loop-i-init
loop-i-init c = record { behind = c.requires.order; before = omega arith; class = part-none is_space c.args.bytes.now c.args.end }

pub loop-i-preserved : goal.loop-i-preserved
loop-i-preserved c =
    let passes = sym c.is_space.ensures ∙ c.loop-i-test.true in
    record {
      behind = still-behind is_space c.args.bytes.now c.args.from c.loop-i.i c.loop-i.invariant.behind c.requires.solid passes;
      before = omega arith;
      class = part-more is_space c.args.bytes.now c.loop-i.i c.args.end (omega arith) c.loop-i.invariant.before c.requires.within passes c.loop-i.invariant.class;
    }
