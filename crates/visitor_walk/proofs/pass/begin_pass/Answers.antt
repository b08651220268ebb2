use Rattle.std.proofs.Common.{◌∙◌, arith}
use Rattle.visitor_walk.proofs.Passing as Passing
use Rattle.visitor_walk.proofs.Turning as Turning
use Rattle.visitor_walk.proofs.pass.begin_pass.Goals as goal

pub returns-in_err-note-clause-walked : goal.returns-in_err-note-clause-walked
returns-in_err-note-clause-walked c = λ hs most s p w d e q.
    (Passing.pass_fails hs most _ c.note.new.self s w c.in_err-note.ensures, Turning.no_ok _ _ c.from_residual.ensures.0)

pub returns-in_err-note-2-clause-walked : goal.returns-in_err-note-2-clause-walked
returns-in_err-note-2-clause-walked c = λ hs most s p w d e q.
    (Passing.passed_in hs most _ s p w d c.note-2.new.self (c.in_err-note-2.ensures ∙ c.in_ok-note.ensures), Turning.no_ok _ _ c.from_residual-in_err-note-2.ensures.0)

pub returns-in_err-push-clause-walked : goal.returns-in_err-push-clause-walked
returns-in_err-push-clause-walked c = λ hs most s p w d e q.
    (Passing.root_in hs most _ s p w d c.note.new.self c.note-2.new.self c.in_ok-note.ensures (rw c.new-root.ensures at c.in_ok-note-2.ensures), Turning.no_ok _ _ c.from_residual-in_err-push.ensures.0)

pub returns-clause-walked : goal.returns-clause-walked
returns-clause-walked c = λ hs most s p w d e q.
    Passing.root_began hs most _ s p w d c.note.new.self c.note-2.new.self c.args.stack.now.items c.push.new.self.items _ q c.facts.ensures.some e (rw c.new-root.ensures at c.in_ok-push.ensures.items) c.in_ok-note.ensures (rw c.new-root.ensures at c.in_ok-note-2.ensures)

pub returns-in_err-note-clause-grows : goal.returns-in_err-note-clause-grows
returns-in_err-note-clause-grows c = Passing.grows_not c.args.work.now c.note.new.self c.in_err-note.ensures

pub returns-in_err-note-2-clause-grows : goal.returns-in_err-note-2-clause-grows
returns-in_err-note-2-clause-grows c = let a = Passing.grows_noted c.args.work.now c.note.new.self _ c.in_ok-note.ensures in let b = Passing.grows_not c.note.new.self c.note-2.new.self c.in_err-note-2.ensures in omega arith

pub returns-in_err-push-clause-grows : goal.returns-in_err-push-clause-grows
returns-in_err-push-clause-grows c = let a = Passing.grows_noted c.args.work.now c.note.new.self _ c.in_ok-note.ensures in let b = Passing.grows_noted c.note.new.self c.note-2.new.self _ c.in_ok-note-2.ensures in omega arith

pub returns-clause-grows : goal.returns-clause-grows
returns-clause-grows c = let a = Passing.grows_noted c.args.work.now c.note.new.self _ c.in_ok-note.ensures in let b = Passing.grows_noted c.note.new.self c.note-2.new.self _ c.in_ok-note-2.ensures in omega arith
