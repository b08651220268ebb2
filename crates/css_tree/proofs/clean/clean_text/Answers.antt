use Rattle.std.proofs.Common.{◌∙◌, ap, sym, subst, ◌≡◌, false, IfOk}
use Rattle.css_tree.specs.Clean.{clean_of}
use Rattle.css_tree.proofs.Plain.{has_star, clean-bytes}
use Rattle.css_tree.proofs.clean.clean_text.Goals as goal

pub returns : goal.returns
returns c = subst (λ x. IfOk c.clean.result (λ t. t ≡ x)) (ap clean_of c.as_str-2.ensures.characters) c.clean.ensures

pub returns-then-not-contains : goal.returns-then-not-contains
returns-then-not-contains c =
    let text = c.as_str.result.now in
    let none : has_star text ≡ false = ap has_star (sym c.as_bytes.ensures.value) ∙ sym c.contains.ensures.value ∙ c.if-not-contains.true in
    let same : c.args.source.now ≡ clean_of c.args.source.now = sym (ap clean_of (sym c.as_str.ensures.characters) ∙ clean-bytes text c.as_str.utf8 none ∙ c.as_str.ensures.characters) in
    subst (λ x. IfOk c.share.result (λ t. t ≡ x)) same c.share.ensures
