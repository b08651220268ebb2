use Rattle.std.proofs.Common.{◌≡◌, ◌+◌, false, [], ◌∷◌, ◌++◌, drop, map, ap, sym, ◌∙◌, arith, append-nil}
use Rattle.std.specs.Str.{chars}
use Rattle.std.specs.String.{string_bytes}
use Rattle.std.proofs.lemmas.List.{drop_more, drop_all, append_assoc}
use Rattle.selector_parse.specs.declared.part.Args.TheViews.{out-Part}
use Rattle.selector_parse.specs.Row.{comma_unless, rest_joined}
use Rattle.selector_parse.specs.Reading.{read_sign}
use Rattle.selector_parse.specs.Normal.{normal_part, all_of, joined, normal_of_args, normal_of_part, normal_of_complex}
use Rattle.selector_parse.proofs.Printed.{normal_other, joined_cons, joined_nil, push_chars, push_open, push_close, enclose}
use Rattle.selector_parse.proofs.Signs.{sign-bytes}
use Rattle.selector_parse.proofs.SignForms.{signs_is}
use Rattle.selector_parse.proofs.Trees.{normal_out, normal_complex, normal_plain, normal_list}
use Rattle.selector_parse.proofs.normal.+normal.Goals as goal

pub write_args-returns-in_ok-push-in-Plain-2 : goal.write_args-returns-in_ok-push-in-Plain-2
write_args-returns-in_ok-push-in-Plain-2 t c =
    let s = chars (string_bytes c.args.text.now) in
    enclose s _ _ _ _ (push_open c.args.text.now _ c.in_ok-push-in-Plain.ensures.bytes) (push_chars c.push.new.self _ _ _ c.as_str.ensures.characters c.in_ok-push_str-in-Plain.ensures.bytes) (push_close c.push_str.new.self _ c.in_ok-push-in-Plain-2.ensures.bytes)
    ∙ ap (λ a. s ++ a) (sym (ap normal_of_args c.in-Plain.is ∙ normal_plain _))

pub write_args-returns-in_ok-push-in-List-2 : goal.write_args-returns-in_ok-push-in-List-2
write_args-returns-in_ok-push-in-List-2 t c =
    let s = chars (string_bytes c.args.text.now) in
    enclose s _ _ _ _ (push_open c.args.text.now _ c.in_ok-push-in-List.ensures.bytes) (c.in_ok-write_list-in-List.ensures ∙ ap (λ xs. chars (string_bytes c.push-in-List.new.self) ++ joined (map normal_of_complex xs)) c.deref.ensures.value)
    (push_close c.write_list.new.text _ c.in_ok-push-in-List-2.ensures.bytes)
    ∙ ap (λ a. s ++ a) (sym (ap normal_of_args c.in-List.is ∙ normal_list c.in-List.inner))

pub write_part-returns-in_ok-write_sign-in-Combinator : goal.write_part-returns-in_ok-write_sign-in-Combinator
write_part-returns-in_ok-write_sign-in-Combinator t c =
    let p = c.args.part.now in
    let s = chars (string_bytes c.args.text.now) in
    c.in_ok-write_sign-in-Combinator.ensures ∙ ap (λ x. s ++ x ∷ []) (c.sign.ensures.value ∙ ap read_sign (c.as_bytes.ensures.value ∙ c.as_str.ensures.bytes) ∙ sign-bytes (out-Part p).text ∙ signs_is (out-Part p).text)
    ∙ ap (λ x. s ++ x) (sym (normal_out p ∙ ap (λ k. normal_part k (out-Part p).text (normal_of_args (out-Part p).args)) c.in-Combinator.is))

pub write_part-returns-in_ok-write_args-in_default : goal.write_part-returns-in_ok-write_args-in_default
write_part-returns-in_ok-write_args-in_default t c =
    let p = c.args.part.now in
    let s = chars (string_bytes c.args.text.now) in
    c.in_ok-write_args-in_default.ensures ∙ ap (λ z. z ++ normal_of_args (out-Part p).args) (push_chars c.args.text.now (out-Part p).text _ _ c.as_str-in_default.ensures.characters c.in_ok-push_str-in_default.ensures.bytes)
    ∙ append_assoc s (out-Part p).text (normal_of_args (out-Part p).args)
    ∙ ap (λ z. s ++ z) (sym (normal_out p ∙ normal_other (out-Part p).kind (out-Part p).text (normal_of_args (out-Part p).args) c.in_default.not-Blank c.in_default.not-Comment c.in_default.not-Combinator))

pub write_parts-loop-part-preserved : goal.write_parts-loop-part-preserved
write_parts-loop-part-preserved t c =
    let l = c.loop-part in
    let xs = c.args.parts.now in
    let x = c.part-item.result in
    let rest = all_of (map normal_of_part (drop (l.part-index + 1) xs)) in
    let here : drop l.part-index xs ≡ x ∷ drop (l.part-index + 1) xs = drop_more xs l.part-index x (omega arith) ∙ ap (λ y. y ∷ drop (l.part-index + 1) xs) (sym c.part-item.is) in
    ap (λ z. z ++ rest) c.in_ok-write_part.ensures ∙ append_assoc (chars (string_bytes l.text)) _ rest ∙ ap (λ z. chars (string_bytes l.text) ++ z) (sym (ap (λ ys. all_of (map normal_of_part ys)) here)) ∙ l.invariant

pub write_parts-returns : goal.write_parts-returns
write_parts-returns t c =
    let l = c.loop-part in
    let xs = c.args.parts.now in
    sym (append-nil (chars (string_bytes l.text))) ∙ ap (λ ys. chars (string_bytes l.text) ++ all_of (map normal_of_part ys)) (sym (drop_all l.part-index xs (omega arith))) ∙ l.invariant

pub write_list-loop-complex-preserved : goal.write_list-loop-complex-preserved
write_list-loop-complex-preserved t c =
    let l = c.loop-complex in
    let xs = c.args.list.now in
    let x = c.complex-item.result in
    let s = chars (string_bytes l.text) in
    let parts = normal_of_complex x in
    let rest = rest_joined false (map normal_of_complex (drop (l.complex-index + 1) xs)) in
    let here : drop l.complex-index xs ≡ x ∷ drop (l.complex-index + 1) xs = drop_more xs l.complex-index x (omega arith) ∙ ap (λ y. y ∷ drop (l.complex-index + 1) xs) (sym c.complex-item.is) in
    let put = c.in_ok-write_parts.ensures ∙ ap (λ ps. chars (string_bytes c.write_comma.new.text) ++ all_of (map normal_of_part ps)) c.deref.ensures.value ∙ ap (λ z. chars (string_bytes c.write_comma.new.text) ++ z) (sym (normal_complex x)) ∙ ap (λ z. z ++ parts) c.in_ok-write_comma.ensures in
    ap (λ z. z ++ rest) put ∙ append_assoc (s ++ comma_unless l.is_first) parts rest ∙ append_assoc s (comma_unless l.is_first) (parts ++ rest)
    ∙ ap (λ z. s ++ z) (sym (ap (λ ys. rest_joined l.is_first (map normal_of_complex ys)) here ∙ joined_cons l.is_first parts (map normal_of_complex (drop (l.complex-index + 1) xs)))) ∙ l.invariant

pub write_list-returns : goal.write_list-returns
write_list-returns t c =
    let l = c.loop-complex in
    let xs = c.args.list.now in
    sym (append-nil (chars (string_bytes l.text))) ∙ ap (λ z. chars (string_bytes l.text) ++ z) (sym (ap (λ ys. rest_joined l.is_first (map normal_of_complex ys)) (drop_all l.complex-index xs (omega arith)) ∙ joined_nil l.is_first)) ∙ l.invariant
