use Rattle.std.proofs.Common.{ap, ◌∙◌, sym, map, reverse, Some}
use Rattle.css_tree.specs.declared.fault.SyntaxKind.TheVariants as K
use Rattle.css_tree.specs.Fault.{first_of_two, unknown, unclosed_opened}
use Rattle.css_parse.specs.Steps.{opening_of}
use Rattle.css_parse.proofs.Turns.{unclosed_reverse}
use Rattle.css_parse.proofs.turn.fits_end.Goals as goal

pub returns-in-len1-up : goal.returns-in-len1-up
returns-in-len1-up c =
    ap Some (c.new.ensures ∙ ap (λ z. record { kind = K.UnclosedBracket; at = z }) (c.start.ensures.value ∙ ap (λ p. p.at) c.first-item.is))
    ∙ ap (λ z. first_of_two z (first_of_two (unknown c.args.run.now) (unclosed_opened (map opening_of (reverse c.args.frames.now))))) (sym (unclosed_reverse c.args.awaited.now c.first-item.result c.in-len1-up.len_at_least))
