use Rattle.std.proofs.Common.{◌∙◌, ◌+◌, sym, ap, arith, subst}
use Rattle.std.specs.Prelude.{encode_utf8_all}
use Rattle.std.specs.Str.{IsCharBoundary}
use Rattle.css_text.specs.Ahead.{byte_len}
use Rattle.node_rows.specs.Nodes.{text_of, span_of}
use Rattle.rule_sites.specs.Blocks.{span_start}
use Rattle.rules_tree.specs.Important.{before_mark}
use Rattle.rules_tree.proofs.MarkFront.{mark_front}
use Rattle.rule_sites.proofs.Places.{place_within, place_few}
use Rattle.rules_tree.proofs.important.mark_of.Goals as goal

pub before_mark_len-requires : goal.before_mark_len-requires
before_mark_len-requires c =
    let ns = c.args.work.now.nodes in
    let text = text_of ns c.args.n in
    let k = mark_front text c.requires.marked in
    omega (arith, c.is_short.ensures, ap (λ t. byte_len (before_mark t)) c.text_of.ensures, place_few c.args.work.now.text text (span_of ns c.args.n) c.stands.ensures (before_mark text) k.rest k.is)

pub overflow_cast-result : goal.overflow_cast-result
overflow_cast-result c =
    let ns = c.args.work.now.nodes in
    let text = text_of ns c.args.n in
    let k = mark_front text c.requires.marked in
    omega (arith, c.is_short.ensures, c.start_of-start.ensures.value, c.before_mark_len.ensures, ap (λ t. byte_len (before_mark t)) c.text_of.ensures, place_few c.args.work.now.text text (span_of ns c.args.n) c.stands.ensures (before_mark text) k.rest k.is)

pub returns-clause-boundary : goal.returns-clause-boundary
returns-clause-boundary c =
    let ns = c.args.work.now.nodes in
    let text = text_of ns c.args.n in
    let k = mark_front text c.requires.marked in
    let size = c.before_mark_len.ensures ∙ ap (λ t. byte_len (before_mark t)) c.text_of.ensures in
    subst (IsCharBoundary (encode_utf8_all c.args.work.now.text))
    (sym (ap (λ z. z + c.before_mark_len.result) c.start_of-start.ensures.value ∙ ap (λ z. span_start (span_of ns c.args.n) + z) size))
    (place_within c.args.work.now.text text (span_of ns c.args.n) c.stands.ensures (before_mark text) k.rest k.is)

pub overflow_add-result : goal.overflow_add-result
overflow_add-result c =
    let ns = c.args.work.now.nodes in
    let text = text_of ns c.args.n in
    let k = mark_front text c.requires.marked in
    omega (arith, c.is_short.ensures, c.start_of-start.ensures.value, c.before_mark_len.ensures, ap (λ t. byte_len (before_mark t)) c.text_of.ensures, place_few c.args.work.now.text text (span_of ns c.args.n) c.stands.ensures (before_mark text) k.rest k.is)
