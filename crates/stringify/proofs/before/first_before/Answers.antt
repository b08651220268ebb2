use Rattle.std.proofs.Common.{◌≡◌, ap, sym, ◌∙◌, subst, MatchOption, Some, None}
use Rattle.std.specs.Str.{chars}
use Rattle.css_tree.specs.Parts.{before_of}
use Rattle.css_tree.specs.Print.{before_first}
use Rattle.node_rows.specs.NumberTrees.{plain}
use Rattle.stringify.proofs.Children.{first-inside, below-some, below-none}
use Rattle.stringify.proofs.before.first_before.Goals as goal

pub text_of-requires : goal.text_of-requires
text_of-requires c = first-inside c.args.work.now.nodes c.facts.ensures.sound c.args.parent c.in-Some.child (sym c.first_child.ensures ∙ c.in-Some.is)

pub returns-in-Some : goal.returns-in-Some
returns-in-Some c =
    let ns = c.args.work.now.nodes in
    let e = ap (λ t. before_first (plain ns t)) (below-some ns c.facts.ensures.sound c.args.parent c.in-Some.child (sym c.first_child.ensures ∙ c.in-Some.is)) ∙ ap before_of (sym c.text_of.ensures) in
    subst (λ o. MatchOption c.before-in-Some.result (o ≡ None) (λ s. o ≡ Some (chars s.now))) (sym e) c.before-in-Some.ensures

pub returns-in-None : goal.returns-in-None
returns-in-None c =
    let ns = c.args.work.now.nodes in
    ap (λ t. before_first (plain ns t)) (below-none ns c.facts.ensures.sound c.args.parent (sym c.first_child.ensures ∙ c.in-None.is))
