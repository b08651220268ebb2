use Rattle.std.proofs.Common.{◌≡◌, [], ◌∷◌, ◌++◌, ap, ◌∙◌, refl}
use Rattle.css_tree.specs.Pieces.{end_of}
use Rattle.css_parse.specs.Standing.{sheet, gap_text}
use Rattle.css_parse.proofs.Standing.{gap}
use Rattle.css_parse.proofs.ParserPlaces.{next-idle, no-gap, machine-is, up-to-none}
use Rattle.css_parse.proofs.parser.Parser.add_comment.Goals as goal

pub comment_node-requires-clause-behind : goal.comment_node-requires-clause-behind
comment_node-requires-clause-behind c = next-idle (sheet c.args.self.now.texts) c.args.self.now c.args.piece.now c.requires.next c.requires.idle

pub returns-clause-model : goal.returns-clause-model
returns-clause-model c =
    let s = c.args.self.now in
    let none : gap_text (sheet s.texts) c.at-self.result ≡ [] = no-gap (sheet s.texts) (end_of c.args.piece.now) c.at-self.result (c.at-self.ensures ∙ ap (λ e. gap e e) c.end.ensures.value) in
    machine-is _ _ _ _ _ _ _ _ _ _ _ _ _ _ (c.in_ok-push.ensures ∙ ap (λ x. s.nodes ++ x ∷ []) c.in_ok-node.ensures) refl refl refl none refl refl

pub returns-clause-up_to : goal.returns-clause-up_to
returns-clause-up_to c =
    up-to-none (sheet c.args.self.now.texts) c.args.self.now _ c.args.piece.now c.requires.next refl (c.at-self.ensures ∙ ap (λ e. gap e e) c.end.ensures.value) c.requires.idle
