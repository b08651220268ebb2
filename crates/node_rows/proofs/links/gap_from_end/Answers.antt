use Rattle.std.proofs.Common.{◌≡◌, None, sym, ◌∙◌, ap, take}
use Rattle.std.proofs.Math.Seq.{take-length}
use Rattle.std.proofs.lemmas.List.{get_or_read}
use Rattle.node_rows.specs.Segments.{end_of}
use Rattle.node_rows.specs.Shown.{no_row, row_at, next, prev}
use Rattle.node_rows.proofs.Join.{segment-end, kids}
use Rattle.node_rows.proofs.links.gap_from_end.Goals as goal

pub gap_back-requires-clause-before : goal.gap_back-requires-clause-before
gap_back-requires-clause-before c =
    let rs = c.args.rows.now.items in
    let p = c.args.p in
    let xs = kids rs p in
    let j = c.requires.sound.joined p c.requires.given in
    let r = get_or_read rs p c.index-row.result.now c.requires.given c.index-row.ensures no_row in
    let counts = c.count-count.ensures ∙ (ap (λ x. x.tally.count) r ∙ j.1) in
    let all : take c.count-count.result xs ≡ xs = ap (λ n. take n xs) counts ∙ take-length xs in
    ap (λ x. x.last) r ∙ (segment-end (next rs) (prev rs) None (row_at rs p).first xs (row_at rs p).last None j.0 ∙ ap (end_of None) (sym all))
