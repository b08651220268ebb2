-- What stands before a mark's `!` is the front of a declaration's body.
use Rattle.std.proofs.Common.{◌≡◌, ℕ, ◌+◌, List, [], ◌∷◌, ◌++◌, true, false, refl, sym, ap, ◌∙◌, append_assoc, arith}
use Rattle.css_text.specs.Ahead.{byte_len}
use Rattle.css_text.proofs.Slices.{byte_len-append}
use Rattle.css_tree.specs.declared.node.NodeText.{NodeText}
use Rattle.css_tree.specs.declared.node.NodeText.TheVariants as N
use Rattle.css_tree.specs.Print.{opening}
use Rattle.rule_sites.proofs.Fronts.{IsFront}
use Rattle.rules_tree.specs.Important.{is_marked, before_mark, blanks_of}
use Rattle.rules_tree.proofs.Blanks.{blanks_front}

pub mark_front : (text : NodeText) → is_marked text ≡ true → IsFront (before_mark text) (opening text)
mark_front (N.Declaration before prop between value true raw tail) e =
    let w = blanks_front raw in
    record { rest = w.0 ++ tail; is = ap (λ z. prop ++ (between ++ (value.source ++ (z ++ tail)))) w.1 ∙ simp append_assoc }
mark_front (N.Declaration before prop between value false raw tail) e = cc
mark_front (N.AtRule before name after_name params between block) e = cc
mark_front (N.Rule before selector between block) e = cc
mark_front (N.Root bom block) e = cc
mark_front (N.Comment before left text right) e = cc

pub mark_len : (p b v w : List ℕ) → byte_len (p ++ (b ++ (v ++ w))) ≡ byte_len p + byte_len b + byte_len v + byte_len w
mark_len p b v w = omega (arith, byte_len-append p (b ++ (v ++ w)), byte_len-append b (v ++ w), byte_len-append v w)
