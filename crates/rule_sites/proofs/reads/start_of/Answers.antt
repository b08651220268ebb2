use Rattle.std.proofs.Common.{◌∙◌, sym, ap, subst}
use Rattle.std.specs.Prelude.{encode_utf8_all}
use Rattle.std.specs.Str.{IsCharBoundary}
use Rattle.node_rows.specs.Nodes.{text_of, span_of}
use Rattle.rule_sites.specs.Blocks.{span_start}
use Rattle.rule_sites.proofs.Places.{start_boundary}
use Rattle.rule_sites.proofs.reads.start_of.Goals as goal

pub returns-clause-boundary : goal.returns-clause-boundary
returns-clause-boundary c =
    let ns = c.args.work.now.nodes in
    subst (IsCharBoundary (encode_utf8_all c.args.work.now.text)) (ap span_start (sym c.span_of.ensures ∙ c.in-Some.is)) (start_boundary c.args.work.now.text (text_of ns c.args.n) (span_of ns c.args.n) c.stands.ensures)
