use Rattle.std.proofs.Common.{◌≡◌, ◌+◌, ◌≤◌, length, reverse, ◌∙◌, sym, subst, refl, arith}
use Rattle.std.proofs.lemmas.List.{length-map, length-reverse}
use Rattle.css_tree.specs.Pieces.{end_of}
use Rattle.css_tree.specs.Turn.{turn, Turn}
use Rattle.css_tree.specs.Fault.{fits_by}
use Rattle.css_parse.specs.Steps.{opening_of, IsStep}
use Rattle.css_parse.specs.Machine.{Machine, opened}
use Rattle.css_parse.specs.Model.{model}
use Rattle.css_parse.proofs.MachineSteps.{step_answer, fault_answer, ready_next, next_small}
use Rattle.css_parse.proofs.StepFacts.{end_begun, comment_shape, comment_idle, skip_idle}
use Rattle.css_parse.proofs.parser.Parser.step.Goals as goal
use Rattle.css_parse.proofs.parser.Parser.step.Goals.{After-fits}

before : (c : After-fits) → Machine
before c = model c.args.self.now

turn_of : (c : After-fits) → Turn
turn_of c = turn (before c).run (before c).awaited c.args.piece

stepped : (c : After-fits) → IsStep c.turn-step.result (turn_of c) (before c).awaited c.args.piece
unfolding before turn_of
stepped c = rw c.deref.ensures.value at (c.turn-step.ensures c.args.piece (sym c.shape.ensures))

depth : (c : After-fits) → length (opened (before c)) ≡ c.len.result
unfolding before
depth c = omega (arith, length-map (reverse c.args.self.now.frames.items) opening_of, length-reverse c.args.self.now.frames.items, c.args.self.now.frames.ok.0, c.len.ensures)

fitted : (c : After-fits) → c.fits.result ≡ fits_by (opened (before c)) (before c).run c.args.piece (turn_of c)
unfolding before
fitted c = c.fits.ensures (opened (before c)) (before c).awaited (turn_of c) (depth c) (stepped c)

pub take-requires-clause-small : goal.take-requires-clause-small
take-requires-clause-small c = omega (arith, c.requires.small, c.requires.within)

pub take-requires-clause-begun : goal.take-requires-clause-begun
unfolding before turn_of
take-requires-clause-begun c = let f = (goal.at.take-requires-clause-begun c).After-fits in end_begun (before f) f.args.piece f.turn-step.result f.requires.ready (stepped f)

pub take-requires-clause-comment : goal.take-requires-clause-comment
unfolding before turn_of
take-requires-clause-comment c = let f = (goal.at.take-requires-clause-comment c).After-fits in comment_shape (before f) f.args.piece f.turn-step.result f.requires.ready (stepped f)

pub take-requires-clause-alone : goal.take-requires-clause-alone
unfolding before turn_of
take-requires-clause-alone c = let f = (goal.at.take-requires-clause-alone c).After-fits in comment_idle (before f) f.args.piece f.turn-step.result f.requires.ready (stepped f)

pub take-requires-clause-skipped : goal.take-requires-clause-skipped
unfolding before turn_of
take-requires-clause-skipped c = let f = (goal.at.take-requires-clause-skipped c).After-fits in skip_idle (before f) f.args.piece f.turn-step.result f.requires.ready (stepped f)

pub returns-in-Some-clause-stops : goal.returns-in-Some-clause-stops
unfolding before turn_of
returns-in-Some-clause-stops c = let f = (goal.at.returns-in-Some-clause-stops c).After-fits in
    λ ps lex. fault_answer (before f) f.args.piece ps lex (turn_of f) c.in-Some.fault refl (sym (fitted f) ∙ c.in-Some.is)

pub returns-in-Ok-clause-ready : goal.returns-in-Ok-clause-ready
unfolding before turn_of
returns-in-Ok-clause-ready c = let f = (goal.at.returns-in-Ok-clause-ready c).After-fits in
    rw (c.in-Ok.ensures.model (turn_of f) (stepped f)) (ready_next (before f) f.args.piece (turn_of f) f.requires.ready refl (sym (fitted f) ∙ c.in_default.is))

pub returns-in-Ok-clause-small : goal.returns-in-Ok-clause-small
unfolding before turn_of
returns-in-Ok-clause-small c = let f = (goal.at.returns-in-Ok-clause-small c).After-fits in
    let k = next_small (before f) f.args.piece (turn_of f) f.requires.ready.begun in
    subst (λ z. length z.nodes + length z.run ≤ 1 + end_of f.args.piece) (sym (c.in-Ok.ensures.model (turn_of f) (stepped f))) (omega (arith, k, f.requires.small, f.requires.longer))

pub returns-in-Ok-clause-goes_on : goal.returns-in-Ok-clause-goes_on
unfolding before turn_of
returns-in-Ok-clause-goes_on c = let f = (goal.at.returns-in-Ok-clause-goes_on c).After-fits in
    λ ps lex. rw (c.in-Ok.ensures.model (turn_of f) (stepped f)) (step_answer (before f) f.args.piece ps lex (turn_of f) f.requires.ready refl (sym (fitted f) ∙ c.in_default.is))
