use Rattle.std.proofs.Common.{◌≡◌, ◌+◌, false, ◌∷◌, ◌++◌, drop, ap, sym, ◌∙◌, arith, append-nil}
use Rattle.std.specs.Str.{chars}
use Rattle.std.specs.String.{string_bytes}
use Rattle.std.proofs.lemmas.List.{drop_more, drop_all, append_assoc}
use Rattle.selector_parse.specs.Tree.{list, written, args_of}
use Rattle.selector_parse.specs.Row.{complex_parts, list_parts, rest_list, comma_unless, enclosed}
use Rattle.selector_parse.specs.declared.part.Args.TheViews.{out-Part, out-Complex}
use Rattle.selector_parse.proofs.Printed.{part_written, parts_cons, list_cons, nothing_left, push_chars, push_open, push_close, enclose}
use Rattle.selector_parse.proofs.Trees.{args_plain, args_list, selectors_out}
use Rattle.selector_parse.proofs.print.+write.Goals as goal

pub write_args-returns-in_ok-push-in-Plain-2 : goal.write_args-returns-in_ok-push-in-Plain-2
write_args-returns-in_ok-push-in-Plain-2 t c =
    let s = chars (string_bytes c.args.text.now) in
    enclose s _ _ _ _ (push_open c.args.text.now _ c.in_ok-push-in-Plain.ensures.bytes) (push_chars c.push.new.self _ _ _ c.as_str.ensures.characters c.in_ok-push_str-in-Plain.ensures.bytes) (push_close c.push_str.new.self _ c.in_ok-push-in-Plain-2.ensures.bytes)
    ∙ ap (λ a. s ++ enclosed a) (sym (ap args_of c.in-Plain.is ∙ args_plain _))

pub write_args-returns-in_ok-push-in-List-2 : goal.write_args-returns-in_ok-push-in-List-2
write_args-returns-in_ok-push-in-List-2 t c =
    let s = chars (string_bytes c.args.text.now) in
    enclose s _ _ _ _ (push_open c.args.text.now _ c.in_ok-push-in-List.ensures.bytes) (c.in_ok-write_list-in-List.ensures ∙ ap (λ xs. chars (string_bytes c.push-in-List.new.self) ++ written (list_parts xs)) c.deref.ensures.value)
    (push_close c.write_list.new.text _ c.in_ok-push-in-List-2.ensures.bytes)
    ∙ ap (λ a. s ++ enclosed a) (sym (ap args_of c.in-List.is ∙ args_list c.in-List.inner ∙ ap list (selectors_out c.in-List.inner)))

pub write_part-returns : goal.write_part-returns
write_part-returns t c =
    let p = c.args.part.now in
    let s = chars (string_bytes c.args.text.now) in
    c.in_ok-write_args.ensures ∙ ap (λ z. z ++ enclosed (args_of (out-Part p).args)) (push_chars c.args.text.now (out-Part p).text _ _ c.as_str.ensures.characters c.in_ok-push_str.ensures.bytes)
    ∙ append_assoc s (out-Part p).text (enclosed (args_of (out-Part p).args)) ∙ ap (λ z. s ++ z) (sym (part_written p))

pub write_parts-loop-part-preserved : goal.write_parts-loop-part-preserved
write_parts-loop-part-preserved t c =
    let l = c.loop-part in
    let xs = c.args.parts.now in
    let x = c.part-item.result in
    let rest = written (complex_parts (drop (l.part-index + 1) xs)) in
    let here : drop l.part-index xs ≡ x ∷ drop (l.part-index + 1) xs = drop_more xs l.part-index x (omega arith) ∙ ap (λ y. y ∷ drop (l.part-index + 1) xs) (sym c.part-item.is) in
    ap (λ z. z ++ rest) c.in_ok-write_part.ensures ∙ append_assoc (chars (string_bytes l.text)) _ rest ∙ ap (λ z. chars (string_bytes l.text) ++ z) (sym (ap (λ ys. written (complex_parts ys)) here ∙ parts_cons x (drop (l.part-index + 1) xs)))
    ∙ l.invariant

pub write_parts-returns : goal.write_parts-returns
write_parts-returns t c =
    let l = c.loop-part in
    let xs = c.args.parts.now in
    sym (append-nil (chars (string_bytes l.text))) ∙ ap (λ ys. chars (string_bytes l.text) ++ written (complex_parts ys)) (sym (drop_all l.part-index xs (omega arith))) ∙ l.invariant

pub write_list-loop-complex-preserved : goal.write_list-loop-complex-preserved
write_list-loop-complex-preserved t c =
    let l = c.loop-complex in
    let xs = c.args.list.now in
    let x = c.complex-item.result in
    let s = chars (string_bytes l.text) in
    let parts = written (complex_parts (out-Complex x).parts.items) in
    let rest = written (rest_list false (drop (l.complex-index + 1) xs)) in
    let here : drop l.complex-index xs ≡ x ∷ drop (l.complex-index + 1) xs = drop_more xs l.complex-index x (omega arith) ∙ ap (λ y. y ∷ drop (l.complex-index + 1) xs) (sym c.complex-item.is) in
    let put = c.in_ok-write_parts.ensures ∙ ap (λ ps. chars (string_bytes c.write_comma.new.text) ++ written (complex_parts ps)) c.deref.ensures.value ∙ ap (λ z. z ++ parts) c.in_ok-write_comma.ensures in
    ap (λ z. z ++ rest) put ∙ append_assoc (s ++ comma_unless l.is_first) parts rest ∙ append_assoc s (comma_unless l.is_first) (parts ++ rest)
    ∙ ap (λ z. s ++ z) (sym (ap (λ ys. written (rest_list l.is_first ys)) here ∙ list_cons l.is_first x (drop (l.complex-index + 1) xs))) ∙ l.invariant

pub write_list-returns : goal.write_list-returns
write_list-returns t c =
    let l = c.loop-complex in
    let xs = c.args.list.now in
    sym (append-nil (chars (string_bytes l.text))) ∙ ap (λ z. chars (string_bytes l.text) ++ z) (sym (ap (λ ys. written (rest_list l.is_first ys)) (drop_all l.complex-index xs (omega arith)) ∙ nothing_left l.is_first)) ∙ l.invariant
