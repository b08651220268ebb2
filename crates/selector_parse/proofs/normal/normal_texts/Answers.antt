use Rattle.std.proofs.Common.{◌≡◌, ◌+◌, ◌∷◌, [], ◌++◌, drop, map, ap, sym, ◌∙◌, arith}
use Rattle.std.specs.Str.{chars}
use Rattle.std.specs.String.{string_bytes}
use Rattle.std.proofs.lemmas.List.{drop_more, append_assoc}
use Rattle.std.proofs.lemmas.Str.{chars-nil}
use Rattle.selector_parse.specs.declared.part.Args.TheViews.{out-Complex}
use Rattle.selector_parse.specs.Normal.{all_of, normal_of_part, normal_bytes}
use Rattle.selector_parse.proofs.Printed.{bytes_by, map-append}
use Rattle.selector_parse.proofs.Trees.{normal_complex}
use Rattle.selector_parse.proofs.normal.normal_texts.Goals as goal

pub loop-complex-preserved : goal.loop-complex-preserved
loop-complex-preserved c =
    let l = c.loop-complex in
    let xs = c.args.list.now in
    let x = c.complex-item.result in
    let ts = l.texts.items in
    let rest = map normal_bytes (drop (l.complex-index + 1) xs) in
    let here : drop l.complex-index xs ≡ x ∷ drop (l.complex-index + 1) xs = drop_more xs l.complex-index x (omega arith) ∙ ap (λ y. y ∷ drop (l.complex-index + 1) xs) (sym c.complex-item.is) in
    let whole = c.in_ok-write_parts.ensures ∙ ap (λ ps. chars (string_bytes c.new-text.result) ++ all_of (map normal_of_part ps)) c.deref.ensures.value ∙ ap (λ z. z ++ all_of (map normal_of_part (out-Complex x).parts.items)) (ap chars c.new-text.ensures.bytes ∙ chars-nil) ∙ sym (normal_complex x) in
    let bytes : string_bytes c.write_parts.new.text ≡ normal_bytes x = bytes_by c.write_parts.new.text _ whole in
    ap (λ ys. map string_bytes ys ++ rest) c.in_ok-push.ensures.items ∙ ap (λ z. z ++ rest) (map-append string_bytes ts (c.write_parts.new.text ∷ [])) ∙ ap (λ b. (map string_bytes ts ++ b ∷ []) ++ rest) bytes
    ∙ append_assoc (map string_bytes ts) (normal_bytes x ∷ []) rest ∙ ap (λ ys. map string_bytes ts ++ map normal_bytes ys) (sym here) ∙ l.invariant
