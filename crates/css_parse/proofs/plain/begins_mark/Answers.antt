use Rattle.std.proofs.Common.{[], ◌∷◌, ◌++◌, drop, ap, ◌∙◌}
use Rattle.std.specs.List.{starts_with}
use Rattle.std.specs.Prelude.{◌==◌}
use Rattle.std.proofs.lemmas.List.{drop-drop}
use Rattle.std.proofs.lemmas.Slice.Eq.{starts_is}
use Rattle.std.proofs.lemmas.Bool.Decides.{Decides-eqb}
use Rattle.css_parse.specs.Plain.{mark_text}
use Rattle.css_parse.proofs.PlainSlices.{rest-from}
use Rattle.css_parse.proofs.plain.begins_mark.Goals as goal

pub returns : goal.returns
returns c t =
    let rest = drop c.args.at c.args.bytes.now in
    let e = c.starts_with.ensures.value ∙ ap (λ z. starts_with (λ x y. x == y) z (mark_text ++ 59 ∷ [])) (rest-from c.args.at c.args.bytes.now) in
    (starts_is Decides-eqb rest (mark_text ++ 59 ∷ []) c.starts_with.result e).0 t ∙ ap (λ z. mark_text ++ 59 ∷ z) (drop-drop 11 c.args.at c.args.bytes.now)
