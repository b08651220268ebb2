use Rattle.std.proofs.Common.{◌≡◌, ◌+◌, ◌∷◌, ◌++◌, drop, ap, sym, ◌∙◌, arith, append-nil}
use Rattle.std.specs.Str.{chars}
use Rattle.std.specs.String.{string_bytes}
use Rattle.std.proofs.lemmas.List.{drop_more, drop_all, append_assoc}
use Rattle.css_text.specs.ValueParts.{written, ending}
use Rattle.value_parse.specs.Tree.{form_of, parts_of}
use Rattle.value_parse.specs.declared.part.ValuePart.TheViews.{out-ValuePart}
use Rattle.value_parse.proofs.Trees.{push_open, push_close}
use Rattle.plugin_api.specs.Effect.{shortened}
use Rattle.transforms.specs.Hex.{short_own}
use Rattle.transforms.proofs.Shorts.{plain-short, function-done, short-cons}
use Rattle.transforms.proofs.short_hex.+write.Goals as goal

pub write_part-returns-then-not-is_function : goal.write_part-returns-then-not-is_function
write_part-returns-then-not-is_function t c =
    let p = c.args.part.now in
    let s = chars (string_bytes c.args.text.now) in
    c.in_ok-write_own.ensures ∙ ap (λ x. s ++ short_own (form_of (out-ValuePart p).kind) x) c.as_str.ensures.characters
    ∙ ap (λ x. s ++ x) (sym (plain-short p (sym c.is_function.ensures ∙ c.if-not-is_function.true)))

pub write_part-returns-then-not-part : goal.write_part-returns-then-not-part
write_part-returns-then-not-part t c =
    let p = c.args.part.now in
    let s = chars (string_bytes c.args.text.now) in
    function-done p s (chars (string_bytes c.write_own.new.text)) (chars (string_bytes c.push.new.self)) (chars (string_bytes c.write_parts.new.text)) (chars (string_bytes c.write_parts.new.text))
    (sym c.is_function.ensures ∙ c.if-not-is_function.false)
    (c.in_ok-write_own.ensures ∙ ap (λ x. s ++ short_own (form_of (out-ValuePart p).kind) x) c.as_str.ensures.characters)
    (push_open c.write_own.new.text (string_bytes c.push.new.self) c.in_ok-push.ensures.bytes)
    (c.in_ok-write_parts.ensures ∙ ap (λ xs. chars (string_bytes c.push.new.self) ++ written (shortened (parts_of xs))) c.deref.ensures.value)
    (sym (append-nil (chars (string_bytes c.write_parts.new.text))) ∙ ap (λ b. chars (string_bytes c.write_parts.new.text) ++ ending b) (sym c.if-not-part.true))

pub write_part-returns : goal.write_part-returns
write_part-returns t c =
    let p = c.args.part.now in
    let s = chars (string_bytes c.args.text.now) in
    function-done p s (chars (string_bytes c.write_own.new.text)) (chars (string_bytes c.push.new.self)) (chars (string_bytes c.write_parts.new.text)) _
    (sym c.is_function.ensures ∙ c.if-not-is_function.false)
    (c.in_ok-write_own.ensures ∙ ap (λ x. s ++ short_own (form_of (out-ValuePart p).kind) x) c.as_str.ensures.characters)
    (push_open c.write_own.new.text (string_bytes c.push.new.self) c.in_ok-push.ensures.bytes)
    (c.in_ok-write_parts.ensures ∙ ap (λ xs. chars (string_bytes c.push.new.self) ++ written (shortened (parts_of xs))) c.deref.ensures.value)
    (push_close c.write_parts.new.text _ c.in_ok-push-2.ensures.bytes ∙ ap (λ b. chars (string_bytes c.write_parts.new.text) ++ ending b) (sym c.if-not-part.false))

pub write_parts-loop-part-preserved : goal.write_parts-loop-part-preserved
write_parts-loop-part-preserved t c =
    let l = c.loop-part in
    let xs = c.args.parts.now in
    let x = c.part-item.result in
    let rest = written (shortened (parts_of (drop (l.part-index + 1) xs))) in
    let here : drop l.part-index xs ≡ x ∷ drop (l.part-index + 1) xs = drop_more xs l.part-index x (omega arith) ∙ ap (λ y. y ∷ drop (l.part-index + 1) xs) (sym c.part-item.is) in
    ap (λ z. z ++ rest) c.in_ok-write_part.ensures ∙ append_assoc (chars (string_bytes l.text)) _ rest ∙ ap (λ z. chars (string_bytes l.text) ++ z) (sym (ap (λ ys. written (shortened (parts_of ys))) here ∙ short-cons x (drop (l.part-index + 1) xs)))
    ∙ l.invariant

pub write_parts-returns : goal.write_parts-returns
write_parts-returns t c =
    let l = c.loop-part in
    let xs = c.args.parts.now in
    sym (append-nil (chars (string_bytes l.text))) ∙ ap (λ ys. chars (string_bytes l.text) ++ written (shortened (parts_of ys))) (sym (drop_all l.part-index xs (omega arith))) ∙ l.invariant
