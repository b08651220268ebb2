use Rattle.std.proofs.Common.{◌≡◌, ap, ◌∙◌, sym, subst, List}
use Rattle.css_text.specs.Shared.{IsPart}
use Rattle.css_parse.specs.Standing.{sheet}
use Rattle.node_rows.specs.declared.node_list.NodeAt.{NodeAt}
use Rattle.css_parse.specs.Machine.{alter, seal_root, done, Machine}
use Rattle.css_parse.specs.Model.{model}
use Rattle.css_parse.proofs.MachineSteps.{end-fault_answer, end_answer, at_end}
use Rattle.css_parse.proofs.parser.Parser.finish.Goals as goal
use Rattle.css_parse.proofs.parser.Parser.finish.Goals.{After-fits_end}

fitted : (c : After-fits_end) → c.fits_end.result ≡ at_end (model c.args.self)
fitted c = rw (c.deref.ensures.value, c.deref-2.ensures.value) at c.fits_end.ensures

sealed_nodes : Machine → List NodeAt
sealed_nodes m = alter m.number (seal_root m.semicolon m.gap) m.nodes

pub seal_root-requires-clause-gap : goal.seal_root-requires-clause-gap
seal_root-requires-clause-gap c =
    let g = c.give_back.new.self.gap in
    subst (λ z. IsPart (sheet z) g.start g.end) (sym c.in_default-give_back.ensures.texts) c.in_default-give_back.ensures.behind.gap

pub returns-in-Some : goal.returns-in-Some
returns-in-Some c = let f = (goal.at.returns-in-Some c).After-fits_end in end-fault_answer (model f.args.self) c.in-Some.fault (sym (fitted f) ∙ c.in-Some.is)

pub returns : goal.returns
unfolding sealed_nodes
returns c = let f = (goal.at.returns c).After-fits_end in
    end_answer (model f.args.self) (sym (fitted f) ∙ c.in_default.is) c.requires.ready.known ∙ ap done (ap sealed_nodes (sym (c.in_default-give_back.ensures.model)) ∙ sym c.in_default-seal_root.ensures)
