use Rattle.std.proofs.Common.{◌≡◌, ◌<◌, ◌+◌, length, [], ◌∷◌, ◌++◌, refl, ap, ◌∙◌, sym, subst}
use Rattle.css_parse.specs.PlainSteps.{brace}
use Rattle.css_parse.specs.Standing.{sheet, gap_text}
use Rattle.css_parse.proofs.ParserPlaces.{no-gap, machine-is, up-to-here, framed}
use Rattle.css_parse.proofs.parser.Parser.add_plain_head.Goals as goal

pub push-requires-clause-earlier : goal.push-requires-clause-earlier
push-requires-clause-earlier c = subst (λ n. n < length c.args.self.now.nodes) (sym c.in_ok-node.ensures.parent) c.requires.known

pub returns-clause-model : goal.returns-clause-model
returns-clause-model c run h =
    let s = c.args.self.now in
    let none : gap_text (sheet s.texts) c.at-self.result ≡ [] = no-gap (sheet s.texts) (c.args.plain.now.brace + 1) c.at-self.result c.at-self.ensures in
    machine-is _ _ _ _ _ _ _ _ _ _ _ _ _ _ (c.in_ok-push.ensures ∙ ap (λ x. s.nodes ++ x ∷ []) (c.in_ok-node.ensures.node run h (brace c.args.plain.now.brace) refl c.requires.ending)) c.len-number.ensures refl
    (framed s.frames.items c.push-2.new.self.items s.number c.args.opening (brace c.args.plain.now.brace) c.in_ok-push-2.ensures.items c.requires.opening) none c.requires.idle refl

pub returns-clause-up_to : goal.returns-clause-up_to
returns-clause-up_to c =
    let s = c.args.self.now in
    up-to-here (sheet s.texts) s s.gap.end _ (c.args.plain.now.brace + 1) c.requires.up_to c.requires.behind refl c.at-self.ensures c.requires.idle
