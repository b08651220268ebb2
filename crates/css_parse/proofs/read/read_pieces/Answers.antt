use Rattle.std.proofs.Common.{if◌then◌else◌, length, ap, ◌∙◌, sym, subst}
use Rattle.std.specs.Str.{chars}
use Rattle.css_text.specs.Ahead.{begins_bom}
use Rattle.css_parse.specs.Machine.{start}
use Rattle.css_parse.specs.Going.{Going}
use Rattle.css_parse.specs.Standing.{sheet}
use Rattle.css_parse.proofs.Ascii.{text-length}
use Rattle.css_parse.proofs.Loop.{going}
use Rattle.css_parse.proofs.read.read_pieces.Goals as goal

pub statements-init : goal.statements-init
statements-init c =
    subst (λ z. Going (chars c.args.src.now) c.args.src.now z c.in-Ok.parser) (sym c.bom_len-at.ensures) (going c.args.src.now c.in-Ok.parser c.utf8.src c.requires.short
    (c.in-Ok.ensures.model ∙ (ap (λ z. start z (length c.args.src.now)) c.requires.bom ∙ ap (start (begins_bom (chars c.args.src.now))) (text-length c.args.src.now c.utf8.src)))
    (ap sheet c.in-Ok.ensures.texts ∙ c.requires.sheet) (c.in-Ok.ensures.end ∙ ap (λ b. if b then 3 else 0) c.requires.bom) c.in-Ok.ensures.start c.in-Ok.ensures.run)
