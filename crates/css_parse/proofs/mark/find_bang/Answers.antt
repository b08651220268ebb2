use Rattle.std.proofs.Common.{[], false, ap, ◌∙◌, sym, refl, take, drop}
use Rattle.css_text.specs.Ahead.{byte_len}
use Rattle.css_tree.specs.Mark.{mark_at}
use Rattle.css_parse.proofs.MarkPieces.{bang_empty, bang_other, bang_none, bang_some, snoc-of, nil-of}
use Rattle.css_parse.proofs.mark.find_bang.Goals as goal

pub returns-in-empty : goal.returns-in-empty
returns-in-empty c = bang_empty c.args.pieces.now (sym c.solid_len.ensures.front ∙ nil-of _ c.in-empty.len_below)

pub returns-then-not-is_word : goal.returns-then-not-is_word
returns-then-not-is_word c = bang_other c.args.pieces.now _ c.word-item.result (sym c.solid_len.ensures.front ∙ snoc-of _ c.word-item.result c.in-len1-up.len_at_least c.word-item.is) (sym c.if-not-is_word.ensures)

pub returns-in-None : goal.returns-in-None
returns-in-None c =
    bang_none c.args.pieces.now _ c.word-item.result (sym c.solid_len.ensures.front ∙ snoc-of _ c.word-item.result c.in-len1-up.len_at_least c.word-item.is) (ap (λ z. mark_at false [] z) (sym c.text.ensures) ∙ c.in-None.ensures)

pub returns-in-Some : goal.returns-in-Some
returns-in-Some c =
    let h = c.in-Some.ensures in
    bang_some _ c.args.pieces.now _ c.word-item.result h.0 (sym c.solid_len.ensures.front ∙ snoc-of _ c.word-item.result c.in-len1-up.len_at_least c.word-item.is) (sym c.if-not-is_word.ensures)
    (ap (λ z. mark_at false [] z) (sym c.text.ensures) ∙ h.1) refl (h.2 ∙ ap (λ z. take h.0 z) c.text.ensures) (h.3 ∙ ap (λ z. drop h.0 z) c.text.ensures) (h.4 ∙ ap (λ z. byte_len (take h.0 z)) c.text.ensures)
