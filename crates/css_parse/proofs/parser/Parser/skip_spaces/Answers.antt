use Rattle.std.proofs.Common.{◌+◌, ◌≤◌, length, drop, ap, ◌∙◌, sym, subst}
use Rattle.css_text.specs.Forms.{space_len}
use Rattle.css_parse.proofs.PlainSpaces.{spaces-going, not-gapped}
use Rattle.css_parse.proofs.parser.Parser.skip_spaces.Goals as goal

pub spaces_end-end-requires : goal.spaces_end-end-requires
spaces_end-end-requires c = subst (λ z. c.args.at ≤ length z) (sym c.as_bytes.ensures.value) c.requires.going.reading.is_at.here.fits

pub returns-clause-going : goal.returns-clause-going
returns-clause-going c =
    spaces-going c.args.src.now c.args.at c.spaces_end-end.result c.args.self.now c.utf8.src c.requires.going c.requires.idle
    (c.spaces_end-end.ensures.value ∙ ap (λ z. c.args.at + space_len (drop c.args.at z)) c.as_bytes.ensures.value)

pub returns-clause-still : goal.returns-clause-still
returns-clause-still c e = not-gapped c.args.src.now c.args.at c.spaces_end-end.result c.args.self.now c.requires.going.up_to c.requires.idle e
