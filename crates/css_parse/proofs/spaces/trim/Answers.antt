use Rattle.std.proofs.Common.{◌≡◌, ℕ, List, ◌+◌, ap, ◌∙◌, sym, length, take, drop, arith}
use Rattle.std.specs.Str.{chars, IsUtf8}
use Rattle.css_text.specs.Ahead.{byte_len}
use Rattle.css_text.specs.Characters.{is_space}
use Rattle.css_text.specs.Forms.{space_len}
use Rattle.css_tree.proofs.Split.{solid_by, tail_by, lead_by, unlead_by}
use Rattle.css_parse.proofs.Ascii.{IsCut, cut-size}
use Rattle.css_parse.proofs.Trimming.{lead-cut, trail-cut}
use Rattle.css_parse.proofs.spaces.trim.Goals as goal
use Rattle.css_parse.proofs.spaces.trim.Goals.{After-spaces_end-left}

lead_in : (text bytes : List ℕ) (n : ℕ) → IsUtf8 text → bytes ≡ text → n ≡ 0 + space_len (drop 0 bytes) → IsCut text n (lead_by is_space (chars text)) (unlead_by is_space (chars text))
lead_in text bytes n u e h = lead-cut text n u (h ∙ ap (λ z. 0 + space_len (drop 0 z)) e)

lead : (c : After-spaces_end-left) → IsCut c.args.text.now c.spaces_end-left.result (lead_by is_space (chars c.args.text.now)) (unlead_by is_space (chars c.args.text.now))
lead c = lead_in c.args.text.now c.as_bytes.result.now c.spaces_end-left.result c.utf8.text c.as_bytes.ensures.value c.spaces_end-left.ensures.value

pub range_from-rest-requires : goal.range_from-rest-requires
range_from-rest-requires c = λ _. (lead (goal.at.range_from-rest-requires c).After-spaces_end-left).boundary

pub returns-clause-left : goal.returns-clause-left
returns-clause-left c = cut-size c.args.text.now _ _ c.spaces_end-left.result c.utf8.text (lead (goal.at.returns-clause-left c).After-spaces_end-left)

pub returns-clause-text : goal.returns-clause-text
returns-clause-text c =
    let rest = c.range_from-rest.result.now in
    let is : chars rest ≡ unlead_by is_space (chars c.args.text.now) = ap chars c.range_from-rest.ensures.value ∙ (lead (goal.at.returns-clause-text c).After-spaces_end-left).back in
    let trail : IsCut rest c.trimmed_len.result (solid_by is_space (chars rest)) (tail_by is_space (chars rest)) =
    trail-cut rest c.trimmed_len.result c.range_from-rest.utf8 (ap (λ z. take c.trimmed_len.result z) (sym c.as_bytes-2.ensures.value) ∙ (c.trimmed_len.ensures.front ∙ ap (solid_by is_space) c.as_bytes-2.ensures.value))
    (omega (arith, c.trimmed_len.ensures.within, ap length c.as_bytes-2.ensures.value)) in
    cut-size rest _ _ c.trimmed_len.result c.range_from-rest.utf8 trail ∙ ap (λ z. byte_len (solid_by is_space z)) is
