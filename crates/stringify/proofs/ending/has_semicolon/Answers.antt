use Rattle.std.proofs.Common.{◌≡◌, ap, sym, ◌∙◌, subst, true}
use Rattle.css_tree.specs.Parts.{block_of, semicolon_text}
use Rattle.css_tree.specs.Print.{is_ended, takes_semicolon}
use Rattle.node_rows.specs.Nodes.{IsGiven, text_of}
use Rattle.node_rows.proofs.Behind.{next-given}
use Rattle.stringify.specs.Sheet.{container_at}
use Rattle.stringify.proofs.Comments.{semicolon-open, semicolon-last}
use Rattle.stringify.proofs.ending.has_semicolon.Goals as goal

pub are_comments-requires : goal.are_comments-requires
are_comments-requires c = let ns = c.args.work.now.nodes in subst (IsGiven ns) (sym c.next_sibling.ensures) (next-given ns c.facts.ensures.sound c.args.n)

pub returns-then-not-are_comments : goal.returns-then-not-are_comments
returns-then-not-are_comments c =
    let ns = c.args.work.now.nodes in
    let t : takes_semicolon (text_of ns c.args.n) ≡ true = ap takes_semicolon (sym c.text_of.ensures) ∙ (sym c.takes_semicolon.ensures ∙ c.if-not-takes_semicolon.false) in
    sym (semicolon-open ns c.facts.ensures.sound (container_at ns c.args.parent) c.args.n c.next_sibling.result (sym c.next_sibling.ensures) t (sym c.are_comments.ensures ∙ c.if-not-are_comments.true))

pub returns-in-Some : goal.returns-in-Some
returns-in-Some c =
    let ns = c.args.work.now.nodes in
    let t : takes_semicolon (text_of ns c.args.n) ≡ true = ap takes_semicolon (sym c.text_of.ensures) ∙ (sym c.takes_semicolon.ensures ∙ c.if-not-takes_semicolon.false) in
    sym (semicolon-last ns c.facts.ensures.sound (container_at ns c.args.parent) c.args.n c.next_sibling.result (sym c.next_sibling.ensures) t (sym c.are_comments.ensures ∙ c.if-not-are_comments.false)
    ∙ ap (λ o. semicolon_text (is_ended o)) (ap block_of (sym c.text_of-2.ensures) ∙ c.in-Some.ensures))

pub returns-in-None : goal.returns-in-None
returns-in-None c =
    let ns = c.args.work.now.nodes in
    let t : takes_semicolon (text_of ns c.args.n) ≡ true = ap takes_semicolon (sym c.text_of.ensures) ∙ (sym c.takes_semicolon.ensures ∙ c.if-not-takes_semicolon.false) in
    sym (semicolon-last ns c.facts.ensures.sound (container_at ns c.args.parent) c.args.n c.next_sibling.result (sym c.next_sibling.ensures) t (sym c.are_comments.ensures ∙ c.if-not-are_comments.false)
    ∙ ap (λ o. semicolon_text (is_ended o)) (ap block_of (sym c.text_of-2.ensures) ∙ c.in-None.ensures))
