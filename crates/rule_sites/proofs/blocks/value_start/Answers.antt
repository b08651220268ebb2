use Rattle.std.proofs.Common.{◌∙◌, ◌+◌, sym, ap, arith, subst}
use Rattle.std.specs.Prelude.{encode_utf8_all}
use Rattle.std.specs.Str.{IsCharBoundary}
use Rattle.css_text.specs.Ahead.{byte_len}
use Rattle.node_rows.specs.Nodes.{text_of, span_of}
use Rattle.rule_sites.specs.Blocks.{before_value, span_start}
use Rattle.rule_sites.proofs.Fronts.{value_front}
use Rattle.rule_sites.proofs.Places.{place_within, place_few}
use Rattle.rule_sites.proofs.blocks.value_start.Goals as goal

pub before_value_len-requires : goal.before_value_len-requires
before_value_len-requires c =
    let ns = c.args.work.now.nodes in
    let text = text_of ns c.args.n in
    let k = value_front text in
    omega (arith, c.is_short.ensures, ap (λ t. byte_len (before_value t)) c.text_of.ensures, place_few c.args.work.now.text text (span_of ns c.args.n) c.stands.ensures (before_value text) k.rest k.is)

pub overflow_cast-result : goal.overflow_cast-result
overflow_cast-result c =
    let ns = c.args.work.now.nodes in
    let text = text_of ns c.args.n in
    let k = value_front text in
    omega (arith, c.is_short.ensures, c.start_of-start.ensures.value, c.before_value_len.ensures, ap (λ t. byte_len (before_value t)) c.text_of.ensures, place_few c.args.work.now.text text (span_of ns c.args.n) c.stands.ensures (before_value text) k.rest k.is)

pub returns-clause-boundary : goal.returns-clause-boundary
returns-clause-boundary c =
    let ns = c.args.work.now.nodes in
    let text = text_of ns c.args.n in
    let k = value_front text in
    let size = c.before_value_len.ensures ∙ ap (λ t. byte_len (before_value t)) c.text_of.ensures in
    subst (IsCharBoundary (encode_utf8_all c.args.work.now.text))
    (sym (ap (λ z. z + c.before_value_len.result) c.start_of-start.ensures.value ∙ ap (λ z. span_start (span_of ns c.args.n) + z) size))
    (place_within c.args.work.now.text text (span_of ns c.args.n) c.stands.ensures (before_value text) k.rest k.is)
