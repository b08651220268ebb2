use Rattle.std.proofs.Common.{◌≡◌, ◌+◌, false, ◌∷◌, ◌++◌, drop, map, ap, sym, ◌∙◌, arith, append-nil}
use Rattle.std.specs.String.{string_bytes}
use Rattle.std.proofs.lemmas.List.{drop_more, drop_all, append_assoc}
use Rattle.selector_parse.specs.Row.{comma_unless, rest_joined}
use Rattle.selector_parse.proofs.Printed.{comma_bytes, joined_cons, joined_nil}
use Rattle.selector_parse.proofs.normal.join.Goals as goal

pub loop-text-preserved : goal.loop-text-preserved
loop-text-preserved c =
    let l = c.loop-text in
    let xs = c.args.texts.now in
    let x = c.text-item.result in
    let s = string_bytes l.joint in
    let t = string_bytes x in
    let rest = rest_joined false (map string_bytes (drop (l.text-index + 1) xs)) in
    let here : drop l.text-index xs ≡ x ∷ drop (l.text-index + 1) xs = drop_more xs l.text-index x (omega arith) ∙ ap (λ y. y ∷ drop (l.text-index + 1) xs) (sym c.text-item.is) in
    let put = c.in_ok-push_str.ensures.bytes ∙ ap (λ z. string_bytes c.write_comma.new.text ++ z) c.as_str.ensures.value ∙ ap (λ z. z ++ t) (comma_bytes l.joint c.write_comma.new.text l.is_first c.in_ok-write_comma.ensures) in
    ap (λ z. z ++ rest) put ∙ append_assoc (s ++ comma_unless l.is_first) t rest ∙ append_assoc s (comma_unless l.is_first) (t ++ rest)
    ∙ ap (λ z. s ++ z) (sym (ap (λ ys. rest_joined l.is_first (map string_bytes ys)) here ∙ joined_cons l.is_first t (map string_bytes (drop (l.text-index + 1) xs)))) ∙ l.invariant

pub returns : goal.returns
returns c =
    let l = c.loop-text in
    let xs = c.args.texts.now in
    sym (append-nil (string_bytes l.joint)) ∙ ap (λ z. string_bytes l.joint ++ z) (sym (ap (λ ys. rest_joined l.is_first (map string_bytes ys)) (drop_all l.text-index xs (omega arith)) ∙ joined_nil l.is_first)) ∙ l.invariant
