use Rattle.std.proofs.Common.{◌+◌, ap, ◌∙◌, sym, subst, arith}
use Rattle.std.proofs.lemmas.Grind.{common_steps}
use lib.Utf8.{encodes}
use Rattle.std.specs.Str.{chars}
use Rattle.std.specs.String.{string_bytes}
use Rattle.std.specs.Rc.{rc_value}
use Rattle.std.proofs.lemmas.Str.{IsUtf8-string_bytes}
use Rattle.css_text.specs.Shared.{part, IsPart}
use Rattle.css_text.proofs.Shared.{part_end, part_within, part_of_part}
use Rattle.css_text.proofs.txt.Txt.part.Goals as goal
use Rattle.css_text.proofs.txt.Txt.part.Goals.{After-self}

own : (c : After-self) → IsPart (encodes (chars (part (string_bytes (rc_value c.self.inside.whole)) c.self.inside.start c.self.inside.end))) c.args.start c.args.end
own c = subst (λ z. IsPart (encodes z) c.args.start c.args.end) (sym c.self.view_is) c.requires

pub overflow_add-result : goal.overflow_add-result
overflow_add-result c =
    let f = (goal.at.overflow_add-result c).After-self in
    let h = part_end (string_bytes (rc_value c.self.inside.whole)) c.self.inside.start c.self.inside.end c.args.start c.args.end (IsUtf8-string_bytes (rc_value c.self.inside.whole)) c.self.invariant (own f) in
    let o = c.requires.order in
    grind (arith, common_steps)

pub overflow_add-result-2 : goal.overflow_add-result-2
overflow_add-result-2 c =
    let f = (goal.at.overflow_add-result-2 c).After-self in
    let h = part_end (string_bytes (rc_value c.self.inside.whole)) c.self.inside.start c.self.inside.end c.args.start c.args.end (IsUtf8-string_bytes (rc_value c.self.inside.whole)) c.self.invariant (own f) in
    grind (arith, common_steps)

pub invariant_of-result : goal.invariant_of-result
invariant_of-result c =
    let f = (goal.at.invariant_of-result c).After-self in
    subst (λ x. IsPart (string_bytes x) (c.self.inside.start + c.args.start) (c.self.inside.start + c.args.end)) (sym c.in_ok-clone.ensures.cases)
    (part_within (string_bytes (rc_value c.self.inside.whole)) c.self.inside.start c.self.inside.end c.args.start c.args.end (IsUtf8-string_bytes (rc_value c.self.inside.whole)) c.self.invariant (own f))

pub returns : goal.returns
returns c =
    let f = (goal.at.returns c).After-self in
    ap (λ x. chars (part (string_bytes x) (c.self.inside.start + c.args.start) (c.self.inside.start + c.args.end))) c.in_ok-clone.ensures.cases
    ∙ (ap chars (part_of_part (string_bytes (rc_value c.self.inside.whole)) c.self.inside.start c.self.inside.end c.args.start c.args.end (IsUtf8-string_bytes (rc_value c.self.inside.whole)) c.self.invariant (own f))
    ∙ ap (λ z. chars (part (encodes z) c.args.start c.args.end)) c.self.view_is)
