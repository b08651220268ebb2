use Rattle.std.proofs.Common.{◌≡◌, ◌+◌, ◌-◌, ◌≤◌, Some, None, ◌∙◌, sym, ap, subst, arith, length, take, drop}
use Rattle.std.specs.Prelude.{encode_utf8_all}
use Rattle.std.specs.Str.{IsCharBoundary, chars}
use Rattle.css_text.specs.Ahead.{byte_len}
use Rattle.css_text.proofs.Slices.{slice_chars}
use Rattle.css_text.proofs.Transport.{length-bytes}
use Rattle.node_rows.specs.Nodes.{text_of, span_of}
use Rattle.rule_sites.specs.Blocks.{span_start}
use Rattle.rules_tree.specs.CommentWhitespaceInside.{inner_of}
use Rattle.rules_tree.proofs.Inner.{inner_few, inner_end, slice_at}
use Rattle.rules_tree.proofs.comment_whitespace_inside.inner_of.Goals as goal

pub inner_len-requires : goal.inner_len-requires
inner_len-requires c = λ s e.
    let w = c.args.work.now in
    omega (arith, c.is_short.ensures, inner_few w.text (text_of w.nodes c.args.n) (span_of w.nodes c.args.n) c.stands.ensures s (sym (ap inner_of c.text_of.ensures) ∙ e))

pub overflow_add-end : goal.overflow_add-end
overflow_add-end c =
    let w = c.args.work.now in
    let k = c.in-Some.ensures in
    omega (arith, c.is_short.ensures, k.2, c.start_of.ensures.value, inner_few w.text (text_of w.nodes c.args.n) (span_of w.nodes c.args.n) c.stands.ensures k.0 (sym (ap inner_of c.text_of.ensures) ∙ k.1))

pub range-inner-requires-clause-start_boundary : goal.range-inner-requires-clause-start_boundary
range-inner-requires-clause-start_boundary c = λ p.
    let w = c.args.work.now in
    let k = c.in-Some.ensures in
    (slice_at w.text (text_of w.nodes c.args.n) (span_of w.nodes c.args.n) c.stands.ensures k.0 (sym (ap inner_of c.text_of.ensures) ∙ k.1)
    c.as_str.result.now c.as_str.utf8 (c.as_str.ensures.characters ∙ c.text.ensures) (c.start_of.result + 2) c.in-Some.size (ap (λ m. m + 2) c.start_of.ensures.value) k.2).low

pub range-inner-requires-clause-end_boundary : goal.range-inner-requires-clause-end_boundary
range-inner-requires-clause-end_boundary c =
    let w = c.args.work.now in
    let k = c.in-Some.ensures in
    (slice_at w.text (text_of w.nodes c.args.n) (span_of w.nodes c.args.n) c.stands.ensures k.0 (sym (ap inner_of c.text_of.ensures) ∙ k.1)
    c.as_str.result.now c.as_str.utf8 (c.as_str.ensures.characters ∙ c.text.ensures) (c.start_of.result + 2) c.in-Some.size (ap (λ m. m + 2) c.start_of.ensures.value) k.2).high

pub returns-in-None : goal.returns-in-None
returns-in-None c = record { value = sym (ap inner_of c.text_of.ensures) ∙ c.in-None.ensures; end = tt; boundary = tt }

pub returns-in-Some : goal.returns-in-Some
returns-in-Some c =
    let w = c.args.work.now in
    let k = c.in-Some.ensures in
    let t = text_of w.nodes c.args.n in
    let sp = span_of w.nodes c.args.n in
    let h = sym (ap inner_of c.text_of.ensures) ∙ k.1 in
    let bs = c.as_str.result.now in
    let a = c.start_of.result + 2 in
    let sl = slice_at w.text t sp c.stands.ensures k.0 h bs c.as_str.utf8 (c.as_str.ensures.characters ∙ c.text.ensures) a c.in-Some.size (ap (λ m. m + 2) c.start_of.ensures.value) k.2 in
    let size : length c.range-inner.result.now ≡ byte_len k.0 = ap length c.range-inner.ensures.value ∙ (ap length sl.bytes ∙ length-bytes k.0) in
    record {
      value = h ∙ ap Some (sym (ap chars c.range-inner.ensures.value ∙ slice_chars bs a (a + c.in-Some.size) k.0 c.as_str.utf8 sl));
      end = subst (λ m. span_start sp + 2 + m ≤ byte_len w.text) (sym size) (inner_few w.text t sp c.stands.ensures k.0 h);
      boundary = subst (λ m. IsCharBoundary (encode_utf8_all w.text) (span_start sp + 2 + m)) (sym size) (inner_end w.text t sp c.stands.ensures k.0 h);
    }
