use Rattle.std.proofs.Common.{false, ap, ◌∙◌, sym, refl, take, drop}
use Rattle.css_text.specs.Ahead.{byte_len}
use Rattle.css_tree.specs.Mark.{mark_at, is_text, important_letters}
use Rattle.css_parse.proofs.Marks.{important-low, text-chars}
use Rattle.css_parse.proofs.MarkPieces.{mark_single, mark_two, mark_letters, snoc-of}
use Rattle.css_parse.proofs.mark.find_mark.Goals as goal

pub returns-in-Some : goal.returns-in-Some
returns-in-Some c =
    let h = c.in-Some.ensures in
    mark_single _ c.args.body.now _ c.last-item.result h.0 (snoc-of c.args.body.now c.last-item.result c.in-len1-up.len_at_least c.last-item.is) (sym c.if-not-is_word.ensures)
    (ap (λ z. mark_at false important_letters z) (sym c.text.ensures) ∙ h.1) refl (h.2 ∙ ap (λ z. take h.0 z) c.text.ensures) (h.3 ∙ ap (λ z. drop h.0 z) c.text.ensures) (h.4 ∙ ap (λ z. byte_len (take h.0 z)) c.text.ensures)

pub returns-then-is_text : goal.returns-then-is_text
returns-then-is_text c =
    mark_two c.find_bang.result c.args.body.now _ c.last-item.result (snoc-of c.args.body.now c.last-item.result c.in-len1-up.len_at_least c.last-item.is) (sym c.if-not-is_word.ensures)
    (ap (λ z. mark_at false important_letters z) (sym c.text.ensures) ∙ c.in_default.ensures)
    (ap (λ z. is_text important_letters z) (sym c.text-in-len1-up.ensures) ∙ (sym (text-chars important_letters c.text-in-len1-up.result.now important-low c.text-in-len1-up.utf8) ∙ (ap (λ z. is_text important_letters z) (sym c.as_bytes.ensures.value) ∙ sym c.if-is_text.ensures)))
    c.find_bang.ensures

pub returns-else-is_text : goal.returns-else-is_text
returns-else-is_text c =
    mark_letters c.args.body.now _ c.last-item.result (snoc-of c.args.body.now c.last-item.result c.in-len1-up.len_at_least c.last-item.is) (sym c.if-not-is_word.ensures)
    (ap (λ z. mark_at false important_letters z) (sym c.text.ensures) ∙ c.in_default.ensures)
    (ap (λ z. is_text important_letters z) (sym c.text-in-len1-up.ensures) ∙ (sym (text-chars important_letters c.text-in-len1-up.result.now important-low c.text-in-len1-up.utf8) ∙ (ap (λ z. is_text important_letters z) (sym c.as_bytes.ensures.value) ∙ sym c.if-is_text.ensures)))
