use Rattle.std.proofs.Common.{◌≡◌, [], ◌∷◌, ◌++◌, ap, ◌∙◌, sym, subst, refl}
use Rattle.css_tree.specs.Pieces.{end_of}
use Rattle.css_parse.specs.Machine.{leaf_node}
use Rattle.css_parse.specs.Standing.{sheet, gap_text, IsBehind}
use Rattle.css_parse.proofs.Standing.{gap}
use Rattle.css_parse.proofs.ParserPlaces.{no-gap, machine-is, up-to-none}
use Rattle.css_parse.proofs.parser.Parser.add_leaf.Goals as goal

pub leaf_node-requires-clause-behind : goal.leaf_node-requires-clause-behind
leaf_node-requires-clause-behind c = subst (IsBehind (sheet c.args.self.now.texts) c.args.self.now.gap) (sym c.as_slice-run.ensures) c.requires.next.up_to.behind

pub returns-clause-model : goal.returns-clause-model
returns-clause-model c =
    let s = c.args.self.now in
    let none : gap_text (sheet s.texts) c.at-self.result ≡ [] = no-gap (sheet s.texts) (end_of c.args.piece.now) c.at-self.result (c.at-self.ensures ∙ ap (λ e. gap e e) c.end.ensures.value) in
    machine-is _ _ _ _ _ _ _ _ _ _ _ _ _ _
    (c.in_ok-push.ensures ∙ ap (λ x. s.nodes ++ x ∷ []) (c.in_ok-node.ensures ∙ ap (leaf_node s.number (gap_text (sheet s.texts) s.gap)) c.as_slice-run.ensures)) refl refl refl none c.clear.ensures refl

pub returns-clause-up_to : goal.returns-clause-up_to
returns-clause-up_to c =
    up-to-none (sheet c.args.self.now.texts) c.args.self.now _ c.args.piece.now c.requires.next refl (c.at-self.ensures ∙ ap (λ e. gap e e) c.end.ensures.value) c.clear.ensures
