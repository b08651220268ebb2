use Rattle.std.proofs.Common.{◌+◌, ◌<◌, ◌≤◌, eqb, length, get_or, drop, ap, sym, ◌∙◌, subst, arith}
use Rattle.std.specs.Prelude.{◌&&◌, nat_lt}
use Rattle.std.specs.Str.{IsCharBoundary}
use Rattle.css_text.specs.ValueParts.{none}
use Rattle.value_parse.specs.Tree.{form_of, before, parts_of}
use Rattle.value_parse.specs.Found.{first_at}
use Rattle.value_parse.specs.Row.{IsRow, name_end}
use Rattle.value_parse.proofs.Trees.{parts_of-push}
use Rattle.value_parse.proofs.Rows.{ending_byte, Named, plain_here, plain_row, named_here, function_row, empty_row, row_append, row_boundary, name_boundary, whole_at_end, whole_at_close}
use Rattle.value_parse.proofs.parse.+parts.Goals as goal

pub part_from-plain_part-requires-clause-high : goal.part_from-plain_part-requires-clause-high
part_from-plain_part-requires-clause-high t c =
    let form = form_of c.part_at-kind.result.0 in
    let end = c.part_at-kind.result.1 in
    let h = plain_here c.args.src.now c.args.at form end c.requires.1.1.0 c.requires.1.1.1.0 c.requires.1.1.1.1.0
    (c.part_at-kind.ensures.value ∙ ap (λ s. first_at c.args.at (drop c.args.at s)) c.as_bytes-bytes.ensures.value) in
    h.slice.high

pub part_from-returns-then-not-opens-clause-row : goal.part_from-returns-then-not-opens-clause-row
part_from-returns-then-not-opens-clause-row t c =
    let bs = c.args.src.now in
    let form = form_of c.part_at-kind.result.0 in
    let end = c.part_at-kind.result.1 in
    let h = plain_here bs c.args.at form end c.requires.1.1.0 c.requires.1.1.1.0 c.requires.1.1.1.1.0
    (c.part_at-kind.ensures.value ∙ ap (λ s. first_at c.args.at (drop c.args.at s)) c.as_bytes-bytes.ensures.value) in
    let test = ap (λ n. nat_lt c.args.depth 100 && eqb (get_or bs n 0) 40) (sym c.name_end-name.ensures)
    ∙ ap (λ s. nat_lt c.args.depth 100 && eqb (get_or s c.name_end-name.result 0) 40) (sym c.as_bytes-bytes.ensures.value) ∙ sym c.opens.ensures ∙ c.if-not-opens.true in
    plain_row bs c.args.at c.args.depth end form (before c.in_ok-part.part none) h c.requires.1.1.0 c.requires.1.1.1.1.1.0 test c.requires.1.1.1.1.1.1 c.in_ok-part.ensures

pub part_from-parts_from-requires : goal.part_from-parts_from-requires
part_from-parts_from-requires t c =
    let bs = c.args.src.now in
    let form = form_of c.part_at-kind.result.0 in
    let end = c.part_at-kind.result.1 in
    let h = plain_here bs c.args.at form end c.requires.1.1.0 c.requires.1.1.1.0 c.requires.1.1.1.1.0
    (c.part_at-kind.ensures.value ∙ ap (λ s. first_at c.args.at (drop c.args.at s)) c.as_bytes-bytes.ensures.value) in
    let test = ap (λ n. nat_lt c.args.depth 100 && eqb (get_or bs n 0) 40) (sym c.name_end-name.ensures)
    ∙ ap (λ s. nat_lt c.args.depth 100 && eqb (get_or s c.name_end-name.result 0) 40) (sym c.as_bytes-bytes.ensures.value) ∙ sym c.opens.ensures ∙ c.if-not-opens.false in
    let n = named_here bs c.args.at end c.args.depth form h test in
    let below : c.args.depth < 100 = n.1 in
    let place : IsCharBoundary bs (c.name_end-name.result + 1) = subst (λ m. IsCharBoundary bs (m + 1)) (sym c.name_end-name.ensures) (name_boundary bs c.args.at (name_end form c.args.at end) n.0) in
    (omega arith, (c.requires.1.1.0, (place, omega arith)))

pub part_from-returns-clause-row : goal.part_from-returns-clause-row
part_from-returns-clause-row t c =
    let bs = c.args.src.now in
    let form = form_of c.part_at-kind.result.0 in
    let end = c.part_at-kind.result.1 in
    let h = plain_here bs c.args.at form end c.requires.1.1.0 c.requires.1.1.1.0 c.requires.1.1.1.1.0
    (c.part_at-kind.ensures.value ∙ ap (λ s. first_at c.args.at (drop c.args.at s)) c.as_bytes-bytes.ensures.value) in
    let test = ap (λ n. nat_lt c.args.depth 100 && eqb (get_or bs n 0) 40) (sym c.name_end-name.ensures)
    ∙ ap (λ s. nat_lt c.args.depth 100 && eqb (get_or s c.name_end-name.result 0) 40) (sym c.as_bytes-bytes.ensures.value) ∙ sym c.opens.ensures ∙ c.if-not-opens.false in
    let n = named_here bs c.args.at end c.args.depth form h test in
    let named : Named bs c.args.at c.name_end-name.result = subst (λ m. Named bs c.args.at m) (sym c.name_end-name.ensures) n.0 in
    function_row bs c.args.at c.args.depth c.name_end-name.result c.in_ok-inside.inside.end (c.in_ok-inside.inside.end + c.from.result) (parts_of c.in_ok-inside.inside.parts.items) (before c.in_ok-part-2.part none)
    (nat_lt c.in_ok-inside.inside.end (length c.as_bytes-bytes.result.now)) named c.in_ok-inside.ensures n.1 c.requires.1.1.0
    (ap (λ s. nat_lt c.in_ok-inside.inside.end (length s)) (sym c.as_bytes-bytes.ensures.value)) (ap (λ n. c.in_ok-inside.inside.end + n) (c.from.ensures ∙ ending_byte (nat_lt c.in_ok-inside.inside.end (length c.as_bytes-bytes.result.now)))) c.in_ok-part-2.ensures

pub parts_from-loop-end-init : goal.parts_from-loop-end-init
parts_from-loop-end-init t c = subst (λ xs. IsRow c.args.src.now c.args.start c.args.depth (parts_of xs) c.args.start) (sym c.new-parts.ensures.items)
    (empty_row c.args.src.now c.args.start c.args.depth c.requires.1.1.0 c.requires.1.1.1.0)

pub parts_from-returns-then-closes : goal.parts_from-returns-then-closes
parts_from-returns-then-closes t c =
    let test = ap (λ s. nat_lt 0 c.args.depth && eqb (get_or s c.loop-end.end 0) 41) (sym c.as_bytes-bytes.ensures.value) ∙ sym c.closes.ensures ∙ c.if-closes.true in
    whole_at_close c.args.src.now c.args.start c.args.depth c.loop-end.end (parts_of c.loop-end.parts.items) c.loop-end.invariant test

pub parts_from-part_from-requires : goal.parts_from-part_from-requires
parts_from-part_from-requires t c =
    let test = ap (λ s. nat_lt 0 c.args.depth && eqb (get_or s c.loop-end.end 0) 41) (sym c.as_bytes-bytes.ensures.value) ∙ sym c.closes.ensures ∙ c.if-closes.false in
    let place = row_boundary c.args.src.now c.args.start c.args.depth c.loop-end.end (parts_of c.loop-end.parts.items) c.loop-end.invariant in
    let within : c.loop-end.end < length c.args.src.now = subst (λ s. c.loop-end.end < length s) c.as_bytes-bytes.ensures.value c.loop-end-test.true in
    (omega arith, (c.requires.1.1.0, (place, (within, (c.requires.1.1.1.1, test)))))

pub parts_from-loop-end-preserved : goal.parts_from-loop-end-preserved
parts_from-loop-end-preserved t c =
    let bs = c.args.src.now in
    let ps = c.loop-end.parts.items in
    let x = c.in_ok-next.next.part in
    subst (λ p. IsRow bs c.args.start c.args.depth p c.in_ok-next.next.end) (sym (parts_of-push ps x) ∙ ap (λ xs. parts_of xs) (sym (c.in_ok-push.ensures.items)))
    (row_append bs c.args.start c.loop-end.end c.in_ok-next.next.end c.args.depth (parts_of ps) (before x none) c.loop-end.invariant c.in_ok-next.ensures.row)

pub parts_from-returns : goal.parts_from-returns
parts_from-returns t c =
    whole_at_end c.args.src.now c.args.start c.args.depth c.loop-end.end (parts_of c.loop-end.parts.items) c.loop-end.invariant (subst (λ s. length s ≤ c.loop-end.end) c.as_bytes-bytes.ensures.value c.loop-end-test.false)
