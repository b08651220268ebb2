use Rattle.std.proofs.Common.{◌≡◌, true, false, ◌||◌, ◌&&◌, sym, ◌∙◌, ap}
use Rattle.std.specs.Str.{chars}
use Rattle.css_tree.specs.Clean.{clean_of}
use Rattle.css_tree.specs.Changes.{same_text}
use Rattle.node_rows.proofs.SameText.{same_equal}
use Rattle.node_rows.proofs.texts.is_source.Goals as goal

pub returns : goal.returns
returns c =
    let s = chars c.args.s.now in
    let source = c.args.source.now.source in
    let clean = c.args.source.now.clean in
    let other : same_text s clean ≡ false = sym c.is_same.ensures ∙ c.if-is_same.false in
    let same : same_text s source ≡ true = sym c.is_same-2.ensures ∙ c.if-not-is_same.false in
    let text : chars c.as_str.result.now ≡ clean_of s = c.as_str.ensures.characters ∙ c.in_ok-text.ensures ∙ ap clean_of (sym (same_equal s source same)) in
    c.is_same-3.ensures ∙ ap (λ t. same_text t clean) text
    ∙ sym (ap (λ x. x || (same_text s source && same_text (clean_of s) clean)) other ∙ ap (λ x. x && same_text (clean_of s) clean) same)
