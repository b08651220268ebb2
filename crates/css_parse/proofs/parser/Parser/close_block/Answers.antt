use Rattle.std.proofs.Common.{IfOk, Result, Ok, Err, ap, ◌∙◌, sym, subst}
use Rattle.css_text.specs.Shared.{IsPart}
use Rattle.css_parse.specs.Machine.{left, sealed}
use Rattle.css_parse.specs.Model.{model}
use Rattle.css_parse.specs.Standing.{sheet}
use Rattle.css_parse.proofs.Giving.{close-steps}
use Rattle.css_parse.proofs.parser.Parser.close_block.Goals as goal

-- what follows from what holds where there is no error
on_ok : {T E A B : Type 0} → (r : Result T E) → (A → B) → IfOk r (λ _. A) → IfOk r (λ _. B)
on_ok (Ok x) f h = f h
on_ok (Err e) f h = tt

pub give_back-requires-clause-behind : goal.give_back-requires-clause-behind
give_back-requires-clause-behind c = c.requires.next.up_to.behind

pub close_at-requires-clause-gap : goal.close_at-requires-clause-gap
close_at-requires-clause-gap c =
    let g = c.give_back.new.self.gap in
    subst (λ z. IsPart (sheet z) g.start g.end) (sym c.in_ok-give_back.ensures.texts) c.in_ok-give_back.ensures.behind.gap

pub returns-clause-model : goal.returns-clause-model
returns-clause-model c =
    let q = c.args.piece.now in
    on_ok c.close_at.result (λ k. k q (sym c.end.ensures.value) ∙ (ap (λ z. left (sealed z q)) c.in_ok-give_back.ensures.model ∙ close-steps (model c.args.self.now) q c.requires.ready.known)) c.close_at.ensures.model
