use Rattle.std.proofs.Common.{◌≡◌, ◌<◌, length, None, ap, sym, ◌∙◌, true, false, subst, arith}
use Rattle.css_tree.specs.Print.{is_comment}
use Rattle.node_rows.specs.Nodes.{IsGiven, from_number, text_of}
use Rattle.node_rows.specs.NumberTrees.{number_trees}
use Rattle.node_rows.proofs.Behind.{next-given}
use Rattle.stringify.specs.Sheet.{size}
use Rattle.stringify.proofs.Comments.{all_from, comment-first, other-first, fewer, all-none}
use Rattle.stringify.proofs.reads.are_comments.Goals as goal

pub loop-at-smaller : goal.loop-at-smaller
loop-at-smaller c =
    let ns = c.args.work.now.nodes in
    let b : c.in-Some.n < length ns = subst (IsGiven ns) c.in-Some.is c.loop-at.invariant.given in
    omega (arith, fewer ns c.facts.ensures.sound c.in-Some.n c.next_sibling-at.result b (sym c.next_sibling-at.ensures), ap (λ o. size (number_trees ns (from_number ns o))) c.in-Some.is)

pub loop-at-preserved : goal.loop-at-preserved
loop-at-preserved c =
    let ns = c.args.work.now.nodes in
    let s = c.facts.ensures.sound in
    let b : c.in-Some.n < length ns = subst (IsGiven ns) c.in-Some.is c.loop-at.invariant.given in
    let h : is_comment (text_of ns c.in-Some.n) ≡ true = ap is_comment (sym c.text_of.ensures) ∙ (sym c.is_comment.ensures ∙ c.if-not-is_comment.false) in
    record {
      given = subst (IsGiven ns) (sym c.next_sibling-at.ensures) (next-given ns s c.in-Some.n);
      same = comment-first ns s c.in-Some.n c.next_sibling-at.result b (sym c.next_sibling-at.ensures) h ∙ (ap (all_from ns s) (sym c.in-Some.is) ∙ c.loop-at.invariant.same);
    }

pub returns-then-not-is_comment : goal.returns-then-not-is_comment
returns-then-not-is_comment c =
    let ns = c.args.work.now.nodes in
    let s = c.facts.ensures.sound in
    let b : c.in-Some.n < length ns = subst (IsGiven ns) c.in-Some.is c.loop-at.invariant.given in
    let h : is_comment (text_of ns c.in-Some.n) ≡ false = ap is_comment (sym c.text_of.ensures) ∙ (sym c.is_comment.ensures ∙ c.if-not-is_comment.true) in
    sym (sym c.loop-at.invariant.same ∙ (ap (all_from ns s) c.in-Some.is ∙ other-first ns s c.in-Some.n b h))

pub returns : goal.returns
returns c =
    let ns = c.args.work.now.nodes in
    let s = c.facts.ensures.sound in
    let e : c.loop-at.at ≡ None = c.in_default.is in
    sym (sym c.loop-at.invariant.same ∙ (ap (all_from ns s) e ∙ all-none ns s))
