use Rattle.std.proofs.Common.{◌∙◌, ◌+◌, sym, ap, arith, subst}
use Rattle.std.specs.Prelude.{encode_utf8_all}
use Rattle.std.specs.Str.{IsCharBoundary}
use Rattle.css_text.specs.Ahead.{byte_len}
use Rattle.node_rows.specs.Nodes.{text_of, span_of}
use Rattle.node_rows.specs.NumberTrees.{plain, below}
use Rattle.css_job.specs.Warnings.{before_brace}
use Rattle.css_job.proofs.Brace.{brace_few, brace_boundary, start_is}
use Rattle.css_job.proofs.lint.empty_blocks.brace_of.Goals as goal

pub before_brace_len-requires : goal.before_brace_len-requires
before_brace_len-requires c = omega (arith, c.requires.few, ap (λ t. byte_len (before_brace t)) c.text_of.ensures, brace_few c.args.work.now.text (text_of c.args.work.now.nodes c.args.n) (span_of c.args.work.now.nodes c.args.n) (plain c.args.work.now.nodes (below c.args.work.now.nodes c.args.n)) c.requires.stands c.requires.empty)

pub overflow_add-result : goal.overflow_add-result
overflow_add-result c = omega (arith, c.requires.few, c.before_brace_len.ensures, ap (λ t. byte_len (before_brace t)) c.text_of.ensures, start_is (span_of c.args.work.now.nodes c.args.n) c.in-Some.span (byte_len c.requires.stands.front) (sym c.span_of.ensures ∙ c.in-Some.is) c.requires.stands.start, brace_few c.args.work.now.text (text_of c.args.work.now.nodes c.args.n) (span_of c.args.work.now.nodes c.args.n) (plain c.args.work.now.nodes (below c.args.work.now.nodes c.args.n)) c.requires.stands c.requires.empty)

pub overflow_cast-result : goal.overflow_cast-result
overflow_cast-result c = omega (arith, c.requires.few, c.before_brace_len.ensures, ap (λ t. byte_len (before_brace t)) c.text_of.ensures, start_is (span_of c.args.work.now.nodes c.args.n) c.in-Some.span (byte_len c.requires.stands.front) (sym c.span_of.ensures ∙ c.in-Some.is) c.requires.stands.start, brace_few c.args.work.now.text (text_of c.args.work.now.nodes c.args.n) (span_of c.args.work.now.nodes c.args.n) (plain c.args.work.now.nodes (below c.args.work.now.nodes c.args.n)) c.requires.stands c.requires.empty)

pub returns-clause-boundary : goal.returns-clause-boundary
returns-clause-boundary c =
    let start = start_is (span_of c.args.work.now.nodes c.args.n) c.in-Some.span (byte_len c.requires.stands.front) (sym c.span_of.ensures ∙ c.in-Some.is) c.requires.stands.start in
    let size = c.before_brace_len.ensures ∙ ap (λ t. byte_len (before_brace t)) c.text_of.ensures in
    subst (IsCharBoundary (encode_utf8_all c.args.work.now.text)) (sym (ap (λ k. k + c.before_brace_len.result) start ∙ ap (λ k. byte_len c.requires.stands.front + k) size)) (brace_boundary c.args.work.now.text (text_of c.args.work.now.nodes c.args.n) (span_of c.args.work.now.nodes c.args.n) (plain c.args.work.now.nodes (below c.args.work.now.nodes c.args.n)) c.requires.stands c.requires.empty)
