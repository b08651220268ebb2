use Rattle.std.proofs.Common.{sym, ◌∙◌, arith}
use Rattle.std.specs.Prelude.{slice_index}
use Rattle.std.proofs.lemmas.Bool.{ne_eqb}
use Rattle.css_parse.proofs.PlainBrackets.{some-within}
use Rattle.css_parse.proofs.PlainScan.{head-found}
use Rattle.css_parse.proofs.plain.head_at.Goals as goal

pub returns : goal.returns
returns c =
    let e = c.spaces_start-end.ensures in
    head-found c.args.bytes.now c.args.at c.args.colon c.spaces_start-end.result c.args.brace (some-within c.args.bytes.now c.args.brace (omega (arith, c.requires.brace))) c.requires.scanned c.requires.brace (sym c.is_space.ensures ∙ c.if-is_space.false)
    (ne_eqb (slice_index c.args.bytes.now c.args.at) 45 c.if-bytes-at-eq45.false) e.behind e.before e.class e.last
