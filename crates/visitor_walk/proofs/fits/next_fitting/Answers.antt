use Rattle.std.proofs.Common.{◌∙◌, sym, refl}
use Rattle.std.proofs.lemmas.Option.{slice_get_read}
use Rattle.visitor_machine.specs.Hooks.{fits}
use Rattle.visitor_machine.specs.Machine.{key_at}
use Rattle.visitor_walk.specs.Groups.{shown_hook, shown_hooks}
use Rattle.visitor_walk.proofs.Fitting.{shown_at, found_at, went_on}
use Rattle.visitor_walk.proofs.fits.next_fitting.Goals as goal

pub returns-then-fits : goal.returns-then-fits
returns-then-fits c =
    let at = slice_get_read c.args.hooks.now _ c.loop-at.at c.index-hooks-at.result refl c.loop-at-test.true c.index-hooks-at.is in
    record {
      hook = c.index-hooks-at.result;
      is = at;
      inside = c.loop-at-test.true;
      after = c.loop-at.auto.at;
      first = found_at (fits (key_at c.args.work.now.nodes c.args.node)) (shown_hooks c.args.hooks.now) c.args.from c.loop-at.at (shown_hook c.index-hooks-at.result) c.loop-at.auto.at (shown_at c.args.hooks.now c.loop-at.at c.index-hooks-at.result at) (sym c.fits.ensures ∙ c.if-fits.true) c.loop-at.invariant;
    }

pub loop-at-preserved : goal.loop-at-preserved
loop-at-preserved c =
    let at = slice_get_read c.args.hooks.now _ c.loop-at.at c.index-hooks-at.result refl c.loop-at-test.true c.index-hooks-at.is in
    went_on (fits (key_at c.args.work.now.nodes c.args.node)) (shown_hooks c.args.hooks.now) c.args.from c.loop-at.at (shown_hook c.index-hooks-at.result) c.loop-at.auto.at (shown_at c.args.hooks.now c.loop-at.at c.index-hooks-at.result at) (sym c.fits.ensures ∙ c.if-fits.false) c.loop-at.invariant
