use Rattle.std.proofs.Common.{map, rules, ◌≤◌, inl, inr, ◌++◌, ◌≡◌, ◌<◌, ℕ, ◌+◌, ◌-◌, true, false, eqb, get_or, take, drop, ap, sym, ◌∙◌, subst, add-one, arith}
use Rattle.std.specs.Prelude.{◌&&◌}
use Rattle.std.specs.Str.{chars}
use Rattle.css_text.proofs.Slices.{slice_chars}
use Rattle.selector_parse.specs.declared.phase.Phase.TheVariants.{Fresh, Inside}
use Rattle.selector_parse.specs.declared.reading.Within.TheVariants.{Parentheses}
use Rattle.selector_parse.specs.declared.reading.Reading.TheVariants.{Text, Blank}
use Rattle.selector_parse.specs.declared.reading.Gap.TheVariants.{Comments}
use Rattle.selector_parse.specs.Reading.{scan_len, scan_last}
use Rattle.selector_parse.specs.Tree.{none, comma, written, made, list, args_of, part_before}
use Rattle.selector_parse.specs.Names.{takes_list}
use Rattle.selector_parse.specs.Grammar.{most_depth}
use Rattle.selector_parse.specs.Phases.{kind_of, may_end}
use Rattle.selector_parse.specs.Machine.{blank_list}
use Rattle.std.proofs.lemmas.Bool.{and_parts, false≢true}
use Rattle.std.proofs.lemmas.Str.{encodes_same}
use Rattle.selector_parse.specs.declared.part.Args.TheViews.{roll-Complex}
use Rattle.selector_parse.specs.Row.{IsRow, IsClosedText, IsListText, IsArguments, IsEnded, complex_parts, list_parts, stops, reads_blanks, is_blank_list, followed}
use Rattle.selector_parse.proofs.Scanned.{ahead_of, scanned_by}
use Rattle.selector_parse.proofs.Rows.{stops_text, empty_row, row_append, row_boundary, no_arguments, simple_row, if_ok_map}
use Rattle.selector_parse.proofs.Trees.{deepest-push, deepest-nil, complex_deep, args_absent, args_list, parts-push, tree_roll, complex_roll}
use Rattle.selector_parse.proofs.Arguments.{text_arguments, list_arguments, blanks_listed, nested_list}
use Rattle.selector_parse.proofs.ArgumentBytes.{name_slice, list_test, args_test, opened}
use Rattle.selector_parse.proofs.KindBytes.{kind-bytes}
use Rattle.selector_parse.proofs.Lists.{ended_append, comma_boundary, list-push_ended, blank_test, simple_longer}
use Rattle.selector_parse.proofs.parse.+parse.Goals.{complex_from-then-not-may_end, complex_from-else-not-may_end+then-not-stops}
use Rattle.selector_parse.specs.Worth.{deepest, depth_of_part, depth_of_complex}
use Rattle.selector_parse.specs.Row.{Halts, NameHalts, ListHalts, TextHalts}
use Rattle.selector_parse.proofs.ArgumentHalts.{if_err_map, depth_halt, blank_halts, list_halts_name, text_halts_name, inner_halts, open_list_halt}
use Rattle.selector_parse.proofs.Halts.{row_halts, comma_halts, simple_halt, name_halts, trailing_halt, stuck_by, no_begins}
use Rattle.selector_parse.proofs.GapRows.{some_inner}
use Rattle.std.proofs.lemmas.Bool.{ne_eqb, cases_lt}
use Rattle.std.specs.Prelude.{IfErr}
use Rattle.selector_parse.proofs.GapHalts.{gap_halt}
use Rattle.selector_parse.proofs.parse.+parse.Goals as goal

further : (a b : ℕ) → a ≤ b → (b ≡ a → ⊥) → a < b
further a b l n = elim (cases_lt a b) [ inl k ↦ k | inr k ↦ absurd (n (omega arith)) ]

pub arguments_from-returns-then-not-has_arguments-clause-row : goal.arguments_from-returns-then-not-has_arguments-clause-row
arguments_from-returns-then-not-has_arguments-clause-row t c =
    let bs = c.args.src.now in
    let n = name_slice bs c.args.at c.args.end c.requires.1.1.0 c.requires.1.1.1.1.0 c.requires.1.1.1.1.1.0 c.requires.1.1.1.1.1.1.0 in
    let f = ahead_of bs c.args.end c.requires.1.1.0 c.requires.1.1.1.1.1.1.0 in
    let e = ap (λ s. eqb (get_or s c.args.at 0) 58 && eqb (get_or s c.args.end 0) 40) (sym c.as_bytes-bytes.ensures.value) ∙ sym c.has_arguments.ensures ∙ c.if-not-has_arguments.true in
    subst (λ x. IsArguments bs c.args.end c.args.depth (chars (take (c.args.end - c.args.at) (drop c.args.at bs))) x c.args.end) (sym args_absent) (no_arguments bs c.args.end c.args.depth (chars (take (c.args.end - c.args.at) (drop c.args.at bs))) f.0 f.1 (args_test bs c.args.at c.args.end _ f.0 c.requires.1.1.1.1.0 n f.1 ∙ e))

pub arguments_from-list_arguments-requires : goal.arguments_from-list_arguments-requires
arguments_from-list_arguments-requires t c =
    let bs = c.args.src.now in
    let n = name_slice bs c.args.at c.args.end c.requires.1.1.0 c.requires.1.1.1.1.0 c.requires.1.1.1.1.1.0 c.requires.1.1.1.1.1.1.0 in
    let e = ap (λ s. eqb (get_or s c.args.at 0) 58 && eqb (get_or s c.args.end 0) 40) (sym c.as_bytes-bytes.ensures.value) ∙ sym c.has_arguments.ensures ∙ c.if-not-has_arguments.false in
    let o = opened bs c.args.at c.args.end _ c.requires.1.1.0 c.requires.1.1.1.1.0 n e in
    (omega arith, (c.requires.1.1.0, (c.requires.1.1.1.0, (o.high, (omega arith, omega arith)))))

pub arguments_from-returns-then-takes_list-clause-row : goal.arguments_from-returns-then-takes_list-clause-row
arguments_from-returns-then-takes_list-clause-row t c =
    let bs = c.args.src.now in
    let name = chars (take (c.args.end - c.args.at) (drop c.args.at bs)) in
    let n = name_slice bs c.args.at c.args.end c.requires.1.1.0 c.requires.1.1.1.1.0 c.requires.1.1.1.1.1.0 c.requires.1.1.1.1.1.1.0 in
    let e = ap (λ s. eqb (get_or s c.args.at 0) 58 && eqb (get_or s c.args.end 0) 40) (sym c.as_bytes-bytes.ensures.value) ∙ sym c.has_arguments.ensures ∙ c.if-not-has_arguments.false in
    let o = opened bs c.args.at c.args.end _ c.requires.1.1.0 c.requires.1.1.1.1.0 n e in
    let below : c.args.depth < most_depth = omega arith in
    let lists : takes_list name ≡ true = sym (list_test bs c.args.at c.args.end c.requires.1.1.0 c.requires.1.1.1.1.0 c.requires.1.1.1.1.1.0 c.requires.1.1.1.1.1.1.0)
    ∙ ap (λ s. takes_list (take (c.args.end - c.args.at) (drop c.args.at s))) (sym c.as_bytes-bytes.ensures.value) ∙ sym c.takes_list.ensures ∙ c.if-takes_list.true in
    if_ok_map c.list_arguments.result _ _ (λ a k. list_arguments bs c.args.end c.args.depth a.end name o.rest o.here below (args_of a.args) (subst (λ d. IsListText bs (c.args.end + 1) d (args_of a.args) a.end) (add-one c.args.depth) k) lists) c.list_arguments.ensures.row

pub arguments_from-plain_arguments-requires-clause-boundary : goal.arguments_from-plain_arguments-requires-clause-boundary
arguments_from-plain_arguments-requires-clause-boundary t c =
    let bs = c.args.src.now in
    let n = name_slice bs c.args.at c.args.end c.requires.1.1.0 c.requires.1.1.1.1.0 c.requires.1.1.1.1.1.0 c.requires.1.1.1.1.1.1.0 in
    let e = ap (λ s. eqb (get_or s c.args.at 0) 58 && eqb (get_or s c.args.end 0) 40) (sym c.as_bytes-bytes.ensures.value) ∙ sym c.has_arguments.ensures ∙ c.if-not-has_arguments.false in
    (opened bs c.args.at c.args.end _ c.requires.1.1.0 c.requires.1.1.1.1.0 n e).high

pub arguments_from-returns-clause-row : goal.arguments_from-returns-clause-row
arguments_from-returns-clause-row t c =
    let bs = c.args.src.now in
    let name = chars (take (c.args.end - c.args.at) (drop c.args.at bs)) in
    let n = name_slice bs c.args.at c.args.end c.requires.1.1.0 c.requires.1.1.1.1.0 c.requires.1.1.1.1.1.0 c.requires.1.1.1.1.1.1.0 in
    let e = ap (λ s. eqb (get_or s c.args.at 0) 58 && eqb (get_or s c.args.end 0) 40) (sym c.as_bytes-bytes.ensures.value) ∙ sym c.has_arguments.ensures ∙ c.if-not-has_arguments.false in
    let o = opened bs c.args.at c.args.end _ c.requires.1.1.0 c.requires.1.1.1.1.0 n e in
    let below : c.args.depth < most_depth = omega arith in
    let lists : takes_list name ≡ false = sym (list_test bs c.args.at c.args.end c.requires.1.1.0 c.requires.1.1.1.1.0 c.requires.1.1.1.1.1.0 c.requires.1.1.1.1.1.1.0)
    ∙ ap (λ s. takes_list (take (c.args.end - c.args.at) (drop c.args.at s))) (sym c.as_bytes-bytes.ensures.value) ∙ sym c.takes_list.ensures ∙ c.if-takes_list.false in
    if_ok_map c.plain_arguments.result _ _ (λ a k. text_arguments bs c.args.end c.args.depth a.end name o.rest o.here below (args_of a.args)
    (subst (λ d. IsClosedText bs (c.args.end + 1) (Text (Parentheses 0 (most_depth - d))) (args_of a.args) a.end) (add-one c.args.depth) k) o.args lists) c.plain_arguments.ensures.row

pub complex_from-parts-init : goal.complex_from-parts-init
complex_from-parts-init t c = (subst (λ xs. IsRow c.args.src.now c.args.start c.args.depth Fresh (complex_parts xs) Fresh c.args.start) (sym c.new-parts.ensures.items) (empty_row c.args.src.now c.args.start c.args.depth Fresh c.requires.1.1.0 c.requires.1.1.1.1.0), let e = deepest-nil depth_of_part c.new-parts.result.items c.new-parts.ensures.items in omega arith)

pub complex_from-part_from-requires : goal.complex_from-part_from-requires
complex_from-part_from-requires t c =
    let going : may_end c.parts.phase ≡ true → stops c.args.src.now c.parts.end c.args.depth ≡ false = λ m. elim c.if-not-may_end.branch [
      | complex_from-then-not-may_end w ↦ absurd (false≢true (sym w.if-not-may_end.true ∙ c.may_end.ensures ∙ m))
      | complex_from-else-not-may_end+then-not-stops w ↦ ap (λ s. stops s c.parts.end c.args.depth) (sym w.as_bytes.ensures.value) ∙ sym w.stops.ensures ∙ w.if-not-stops.true
    ] in
    let b = row_boundary c.args.src.now c.args.start c.args.depth c.parts.end Fresh c.parts.phase (complex_parts c.parts.parts.items) c.parts.invariant.0 in
    (omega arith, (c.requires.1.1.0, (c.requires.1.1.1.0, (b, (c.requires.1.1.1.1.1, going)))))

pub complex_from-parts-preserved : goal.complex_from-parts-preserved
complex_from-parts-preserved t c =
    let bs = c.args.src.now in
    let ps = c.parts.parts.items in
    let x = c.in_ok-next.next.part in
    let e = deepest-push depth_of_part ps x in
    let g = ap (λ xs. deepest (map depth_of_part xs)) c.in_ok-push.ensures in
    let o = c.parts.invariant.1 in
    let w = c.in_ok-next.ensures.shallow in (
      subst (λ y. IsRow bs c.args.start c.args.depth Fresh y c.in_ok-next.next.phase c.in_ok-next.next.end) (sym (parts-push ps x) ∙ ap (λ xs. complex_parts xs) (sym c.in_ok-push.ensures))
          (row_append bs c.args.start c.parts.end c.in_ok-next.next.end c.args.depth Fresh c.parts.phase c.in_ok-next.next.phase (complex_parts ps) (part_before x none) c.parts.invariant.0 c.in_ok-next.ensures.row),
      omega arith,
    )

pub list_arguments-returns-then-is_blank_list-clause-row : goal.list_arguments-returns-then-is_blank_list-clause-row
list_arguments-returns-then-is_blank_list-clause-row t c =
    let bs = c.args.src.now in
    let e = sym c.is_blank_list.ensures ∙ c.if-is_blank_list.true in
    let b = ap (λ s. is_blank_list s c.args.from) (sym c.as_bytes-bytes.ensures.value) ∙ e in
    let r = (and_parts (reads_blanks (scan_last (Blank Comments) (drop c.args.from bs))) (eqb (get_or bs (c.args.from + scan_len (Blank Comments) (drop c.args.from bs)) 0) 41) b).0 in
    if_ok_map c.plain_arguments.result _ _ (λ a k. blanks_listed bs c.args.from c.args.depth a.end (args_of a.args) k (ap reads_blanks k.last_is ∙ r)) c.plain_arguments.ensures.row

pub list_arguments-returns-clause-row : goal.list_arguments-returns-clause-row
list_arguments-returns-clause-row t c =
    let bs = c.args.src.now in
    let h = c.in_ok-inside.ensures.row in
    let f = ahead_of bs c.args.from c.requires.1.1.0 c.requires.1.1.1.1.0 in
    let same = encodes_same (written (list_parts c.in_ok-inside.inside.list.items) ++ h.row.ahead) f.0 (sym h.row.text ∙ f.1.text) in
    let e = sym (blank_test bs c.args.from f.0 c.requires.1.1.0 f.1) ∙ ap (λ s. is_blank_list s c.args.from) (sym c.as_bytes-bytes.ensures.value) ∙ sym c.is_blank_list.ensures ∙ c.if-is_blank_list.false in
    let byte = ap (λ s. get_or s c.in_ok-inside.inside.end 0) (sym c.as_bytes-bytes.ensures.value) ∙ sym c.byte_at.ensures ∙ c.if-byte_at-ne41.false in
    subst (λ x. IsListText bs c.args.from c.args.depth x (c.in_ok-inside.inside.end + 1)) (sym (args_list _ ∙ ap list (tree_roll c.in_ok-inside.inside.list)))
    (nested_list bs c.args.from c.args.depth c.in_ok-inside.inside.end (list_parts c.in_ok-inside.inside.list.items) h byte (ap blank_list same ∙ e))

pub list_from-complex_from-requires-in-list : goal.list_from-complex_from-requires-in-list
list_from-complex_from-requires-in-list t c =
    let byte = ap (λ s. get_or s c.list.end 0) (sym c.as_bytes-bytes.ensures.value) ∙ sym c.byte_at.ensures ∙ c.list-test.true in
    (omega arith, (c.requires.1.1.0, (c.requires.1.1.1.0, (comma_boundary c.args.src.now c.args.start c.list.end c.args.depth (list_parts c.list.list.items) c.list.invariant.0 byte, c.requires.1.1.1.1.1))))

pub list_from-list-preserved : goal.list_from-list-preserved
list_from-list-preserved t c =
    let bs = c.args.src.now in
    let cs = c.list.list.items in
    let byte = ap (λ s. get_or s c.list.end 0) (sym c.as_bytes-bytes.ensures.value) ∙ sym c.byte_at.ensures ∙ c.list-test.true in
    let r = ended_append bs c.args.start c.list.end c.in_ok-next.next.end c.args.depth (list_parts cs) (complex_parts c.in_ok-next.next.parts.items) c.list.invariant.0 byte c.in_ok-next.ensures.row in
    let e = list-push_ended bs c.args.start c.args.depth c.list.end cs (roll-Complex (record { parts = c.in_ok-next.next.parts })) c.list.invariant.0 in
    let k = deepest-push depth_of_complex cs (roll-Complex (record { parts = c.in_ok-next.next.parts })) in
    let v = ap (λ xs. deepest (map depth_of_complex xs)) c.in_ok-push-2.ensures in
    let m = complex_deep c.in_ok-next.next.parts in
    let o = c.list.invariant.2 in
    let w = c.in_ok-next.ensures.shallow in
    (subst (λ x. IsEnded bs c.args.start c.args.depth x c.in_ok-next.next.end) (sym (ap (λ xs. list_parts xs) c.in_ok-push-2.ensures ∙ e ∙ ap (λ y. followed (list_parts cs) (comma y)) (complex_roll c.in_ok-next.next.parts))) r, c.in_ok-next.ensures.last, omega arith)

pub simple_from-arguments_from-requires : goal.simple_from-arguments_from-requires
simple_from-arguments_from-requires t c =
    let h = scanned_by c.args.src.now c.as_bytes-bytes.result.now c.args.at c.in-Some.start c.scan-end.result.0 c.scan-end.result.1 c.as_bytes-bytes.ensures.value c.requires.1.1.0 c.requires.1.1.1.1.0 c.scan-end.ensures.end c.scan-end.ensures.last in
    let l = simple_longer c.args.src.now c.args.at c.scan-end.result.0 c.args.phase c.in-Some.start c.scan-end.result.1 h (sym c.starts.ensures ∙ c.in-Some.is) (sym c.is_final.ensures ∙ c.if-not-is_final.false) in
    (omega arith, (c.requires.1.1.0, (c.requires.1.1.1.0, (l, (c.requires.1.1.1.1.0, (h.slice.high, c.requires.1.1.1.1.1.0))))))

pub simple_from-make_part-requires-clause-high : goal.simple_from-make_part-requires-clause-high
simple_from-make_part-requires-clause-high t c =
    (scanned_by c.args.src.now c.as_bytes-bytes.result.now c.args.at c.in-Some.start c.scan-end.result.0 c.scan-end.result.1 c.as_bytes-bytes.ensures.value c.requires.1.1.0 c.requires.1.1.1.1.0 c.scan-end.ensures.end c.scan-end.ensures.last).slice.high

pub simple_from-returns-clause-row : goal.simple_from-returns-clause-row
simple_from-returns-clause-row t c =
    let bs = c.args.src.now in
    let h = scanned_by bs c.as_bytes-bytes.result.now c.args.at c.in-Some.start c.scan-end.result.0 c.scan-end.result.1 c.as_bytes-bytes.ensures.value c.requires.1.1.0 c.requires.1.1.1.1.0 c.scan-end.ensures.end c.scan-end.ensures.last in
    let name = slice_chars bs c.args.at c.scan-end.result.0 h.inner c.requires.1.1.0 h.slice in
    let kind = c.kind_of-kind.ensures ∙ ap (λ s. kind_of (take (c.scan-end.result.0 - c.args.at) (drop c.args.at s))) c.as_bytes-bytes.ensures.value ∙ ap kind_of h.slice.bytes ∙ kind-bytes h.inner in
    let a = subst (λ x. IsArguments bs c.scan-end.result.0 c.args.depth x (args_of c.in_ok-arguments.arguments.args) c.in_ok-arguments.arguments.end) name c.in_ok-arguments.ensures.row in
    let r = simple_row bs c.args.at c.args.depth c.scan-end.result.0 c.in_ok-arguments.arguments.end c.args.phase c.in-Some.start c.scan-end.result.1 h (sym c.starts.ensures ∙ c.in-Some.is) (sym c.is_final.ensures ∙ c.if-not-is_final.false)
    (args_of c.in_ok-arguments.arguments.args) a in
    subst (λ x. IsRow bs c.args.at c.args.depth c.args.phase x Inside c.in_ok-arguments.arguments.end)
    (sym (c.in_ok-part.ensures.part ∙ ap (λ x. made c.kind_of-kind.result c.args.at x (args_of c.in_ok-arguments.arguments.args) none) name ∙ ap (λ k. made k c.args.at h.inner (args_of c.in_ok-arguments.arguments.args) none) kind)) r

pub simple_from-returns-clause-longer : goal.simple_from-returns-clause-longer
simple_from-returns-clause-longer t c =
    let h = scanned_by c.args.src.now c.as_bytes-bytes.result.now c.args.at c.in-Some.start c.scan-end.result.0 c.scan-end.result.1 c.as_bytes-bytes.ensures.value c.requires.1.1.0 c.requires.1.1.1.1.0 c.scan-end.ensures.end c.scan-end.ensures.last in
    let l = simple_longer c.args.src.now c.args.at c.scan-end.result.0 c.args.phase c.in-Some.start c.scan-end.result.1 h (sym c.starts.ensures ∙ c.in-Some.is) (sym c.is_final.ensures ∙ c.if-not-is_final.false) in
    let s = c.in_ok-arguments.ensures.row.size in
    omega arith

pub arguments_from-returns-then-depth-ge-MOST_DEPTH-clause-halt : goal.arguments_from-returns-then-depth-ge-MOST_DEPTH-clause-halt
arguments_from-returns-then-depth-ge-MOST_DEPTH-clause-halt t c =
    let bs = c.args.src.now in
    let n = name_slice bs c.args.at c.args.end c.requires.1.1.0 c.requires.1.1.1.1.0 c.requires.1.1.1.1.1.0 c.requires.1.1.1.1.1.1.0 in
    let e = ap (λ s. eqb (get_or s c.args.at 0) 58 && eqb (get_or s c.args.end 0) 40) (sym c.as_bytes-bytes.ensures.value) ∙ sym c.has_arguments.ensures ∙ c.if-not-has_arguments.false in
    let o = opened bs c.args.at c.args.end _ c.requires.1.1.0 c.requires.1.1.1.1.0 n e in
    depth_halt bs c.args.end c.args.depth (chars (take (c.args.end - c.args.at) (drop c.args.at bs))) o.rest o.here (omega arith)

pub arguments_from-returns-then-takes_list-clause-halt : goal.arguments_from-returns-then-takes_list-clause-halt
arguments_from-returns-then-takes_list-clause-halt t c =
    let bs = c.args.src.now in
    let name = chars (take (c.args.end - c.args.at) (drop c.args.at bs)) in
    let n = name_slice bs c.args.at c.args.end c.requires.1.1.0 c.requires.1.1.1.1.0 c.requires.1.1.1.1.1.0 c.requires.1.1.1.1.1.1.0 in
    let e = ap (λ s. eqb (get_or s c.args.at 0) 58 && eqb (get_or s c.args.end 0) 40) (sym c.as_bytes-bytes.ensures.value) ∙ sym c.has_arguments.ensures ∙ c.if-not-has_arguments.false in
    let o = opened bs c.args.at c.args.end _ c.requires.1.1.0 c.requires.1.1.1.1.0 n e in
    let below : c.args.depth < most_depth = omega arith in
    let lists : takes_list name ≡ true = sym (list_test bs c.args.at c.args.end c.requires.1.1.0 c.requires.1.1.1.1.0 c.requires.1.1.1.1.1.0 c.requires.1.1.1.1.1.1.0)
    ∙ ap (λ s. takes_list (take (c.args.end - c.args.at) (drop c.args.at s))) (sym c.as_bytes-bytes.ensures.value) ∙ sym c.takes_list.ensures ∙ c.if-takes_list.true in
    if_err_map c.list_arguments.result _ _ (λ f k. list_halts_name bs c.args.end c.args.depth name o.rest o.here below lists f (subst (λ d. ListHalts bs (c.args.end + 1) d f) (add-one c.args.depth) k)) c.list_arguments.ensures.halt

pub arguments_from-returns-clause-halt : goal.arguments_from-returns-clause-halt
arguments_from-returns-clause-halt t c =
    let bs = c.args.src.now in
    let name = chars (take (c.args.end - c.args.at) (drop c.args.at bs)) in
    let n = name_slice bs c.args.at c.args.end c.requires.1.1.0 c.requires.1.1.1.1.0 c.requires.1.1.1.1.1.0 c.requires.1.1.1.1.1.1.0 in
    let e = ap (λ s. eqb (get_or s c.args.at 0) 58 && eqb (get_or s c.args.end 0) 40) (sym c.as_bytes-bytes.ensures.value) ∙ sym c.has_arguments.ensures ∙ c.if-not-has_arguments.false in
    let o = opened bs c.args.at c.args.end _ c.requires.1.1.0 c.requires.1.1.1.1.0 n e in
    let below : c.args.depth < most_depth = omega arith in
    let lists : takes_list name ≡ false = sym (list_test bs c.args.at c.args.end c.requires.1.1.0 c.requires.1.1.1.1.0 c.requires.1.1.1.1.1.0 c.requires.1.1.1.1.1.1.0)
    ∙ ap (λ s. takes_list (take (c.args.end - c.args.at) (drop c.args.at s))) (sym c.as_bytes-bytes.ensures.value) ∙ sym c.takes_list.ensures ∙ c.if-takes_list.false in
    if_err_map c.plain_arguments.result _ _ (λ f k. text_halts_name bs c.args.end c.args.depth name o.rest o.here below o.args lists f (subst (λ d. TextHalts bs (c.args.end + 1) (Text (Parentheses 0 (most_depth - d))) f) (add-one c.args.depth) k)) c.plain_arguments.ensures.halt

pub complex_from-returns-in_err-next-clause-halt : goal.complex_from-returns-in_err-next-clause-halt
complex_from-returns-in_err-next-clause-halt t c =
    let bs = c.args.src.now in
    let l = c.requires.1.1.1.1.0.0 in
    let z : IfErr c.part_from.result (λ e. Halts bs c.args.start c.args.depth Fresh e) = if_err_map c.part_from.result _ _ (λ f k. row_halts bs c.args.start c.parts.end c.args.depth Fresh c.parts.phase (complex_parts c.parts.parts.items) c.parts.invariant.0 l f k) c.part_from.ensures.halt in
    search rules

pub gap_or_simple-returns-in_default : goal.gap_or_simple-returns-in_default
gap_or_simple-returns-in_default t c =
    let bs = c.args.src.now in
    let h = scanned_by bs c.as_bytes.result.now c.args.at (Blank Comments) c.scan-end.result.0 c.scan-end.result.1 c.as_bytes.ensures.value c.requires.1.1.0 c.requires.1.1.1.1.0 c.scan-end.ensures.end c.scan-end.ensures.last in
    let l : c.args.at < c.scan-end.result.0 = further c.args.at c.scan-end.result.0 c.scan-end.ensures.within.0 c.if-end-at.false in
    record { row = tt; longer = tt; shallow = tt; halt = gap_halt bs c.args.at c.args.depth c.scan-end.result.0 c.args.phase c.scan-end.result.1 h c.requires.1.1.1.1.1.1.0 (some_inner bs c.args.at c.scan-end.result.0 (Blank Comments) c.scan-end.result.1 h l) c.in_default.not-Blank }

pub list_arguments-returns-then-is_blank_list-clause-halt : goal.list_arguments-returns-then-is_blank_list-clause-halt
list_arguments-returns-then-is_blank_list-clause-halt t c =
    let e = ap (λ s. is_blank_list s c.args.from) (sym c.as_bytes-bytes.ensures.value) ∙ sym c.is_blank_list.ensures ∙ c.if-is_blank_list.true in
    if_err_map c.plain_arguments.result _ _ (λ f k. blank_halts c.args.src.now c.args.from c.args.depth f e k) c.plain_arguments.ensures.halt

pub list_arguments-returns-in_err-inside-clause-halt : goal.list_arguments-returns-in_err-inside-clause-halt
list_arguments-returns-in_err-inside-clause-halt t c =
    let bs = c.args.src.now in
    let f = ahead_of bs c.args.from c.requires.1.1.0 c.requires.1.1.1.1.0 in
    let b = sym (blank_test bs c.args.from f.0 c.requires.1.1.0 f.1) ∙ ap (λ s. is_blank_list s c.args.from) (sym c.as_bytes-bytes.ensures.value) ∙ sym c.is_blank_list.ensures ∙ c.if-is_blank_list.false in
    let z : IfErr c.list_from.result (λ e. ListHalts bs c.args.from c.args.depth e) = if_err_map c.list_from.result _ _ (λ e k. inner_halts bs c.args.from c.args.depth f.0 f.1 b e k) c.list_from.ensures.halt in
    search rules

pub list_arguments-returns-then-byte_at-ne41-clause-halt : goal.list_arguments-returns-then-byte_at-ne41-clause-halt
list_arguments-returns-then-byte_at-ne41-clause-halt t c =
    let bs = c.args.src.now in
    let h = c.in_ok-inside.ensures.row in
    let f = ahead_of bs c.args.from c.requires.1.1.0 c.requires.1.1.1.1.0 in
    let same = encodes_same (written (list_parts c.in_ok-inside.inside.list.items) ++ h.row.ahead) f.0 (sym h.row.text ∙ f.1.text) in
    let e = sym (blank_test bs c.args.from f.0 c.requires.1.1.0 f.1) ∙ ap (λ s. is_blank_list s c.args.from) (sym c.as_bytes-bytes.ensures.value) ∙ sym c.is_blank_list.ensures ∙ c.if-is_blank_list.false in
    let byte : eqb (get_or bs c.in_ok-inside.inside.end 0) 41 ≡ false = ne_eqb (get_or bs c.in_ok-inside.inside.end 0) 41 (λ z. c.if-byte_at-ne41.true (c.byte_at.ensures ∙ ap (λ s. get_or s c.in_ok-inside.inside.end 0) c.as_bytes-bytes.ensures.value ∙ z)) in
    open_list_halt bs c.args.from c.args.depth c.in_ok-inside.inside.end (list_parts c.in_ok-inside.inside.list.items) h f.1.fits c.in_ok-inside.ensures.last byte c.requires.1.1.1.1.1.1 (ap blank_list same ∙ e)

pub list_from-returns-in_err-next-clause-halt : goal.list_from-returns-in_err-next-clause-halt
list_from-returns-in_err-next-clause-halt t c =
    let bs = c.args.src.now in
    let byte = ap (λ s. get_or s c.list.end 0) (sym c.as_bytes-bytes.ensures.value) ∙ sym c.byte_at.ensures ∙ c.list-test.true in
    let z : IfErr c.complex_from-in-list.result (λ e. Halts bs c.args.start c.args.depth Fresh e) = if_err_map c.complex_from-in-list.result _ _ (λ f k. comma_halts bs c.args.start c.list.end c.args.depth (list_parts c.list.list.items) c.list.invariant.0 byte c.requires.1.1.1.1.0.0 f k) c.complex_from-in-list.ensures.halt in
    search rules

pub simple_from-returns-in_default-clause-halt : goal.simple_from-returns-in_default-clause-halt
simple_from-returns-in_default-clause-halt t c =
    let bs = c.args.src.now in
    let f = ahead_of bs c.args.at c.requires.1.1.0 c.requires.1.1.1.1.0 in
    trailing_halt bs c.args.at c.args.depth c.args.phase f.0 f.1 (sym c.starts.ensures ∙ c.in_default.is) (λ e. stops_text bs c.args.at c.args.depth f.0 f.1 (c.requires.1.1.1.1.1.1.0 e))

pub simple_from-returns-then-not-is_final-clause-halt : goal.simple_from-returns-then-not-is_final-clause-halt
simple_from-returns-then-not-is_final-clause-halt t c =
    let bs = c.args.src.now in
    let h = scanned_by bs c.as_bytes-bytes.result.now c.args.at c.in-Some.start c.scan-end.result.0 c.scan-end.result.1 c.as_bytes-bytes.ensures.value c.requires.1.1.0 c.requires.1.1.1.1.0 c.scan-end.ensures.end c.scan-end.ensures.last in
    simple_halt bs c.args.at c.args.depth c.scan-end.result.0 c.args.phase c.in-Some.start c.scan-end.result.1 h (sym c.starts.ensures ∙ c.in-Some.is) (sym c.is_final.ensures ∙ c.if-not-is_final.true)
    (λ g. stuck_by (Blank Comments) bs c.args.at (h.inner ++ h.ahead) h.front (c.requires.1.1.1.1.1.1.1.0 g))
    (λ e. stops_text bs c.args.at c.args.depth (h.inner ++ h.ahead) h.front (c.requires.1.1.1.1.1.1.0 e))
    (λ p. no_begins bs c.args.at (h.inner ++ h.ahead) h.front (c.requires.1.1.1.1.1.1.1.1 p))

pub simple_from-returns-in_err-arguments-clause-halt : goal.simple_from-returns-in_err-arguments-clause-halt
simple_from-returns-in_err-arguments-clause-halt t c =
    let bs = c.args.src.now in
    let h = scanned_by bs c.as_bytes-bytes.result.now c.args.at c.in-Some.start c.scan-end.result.0 c.scan-end.result.1 c.as_bytes-bytes.ensures.value c.requires.1.1.0 c.requires.1.1.1.1.0 c.scan-end.ensures.end c.scan-end.ensures.last in
    let name = slice_chars bs c.args.at c.scan-end.result.0 h.inner c.requires.1.1.0 h.slice in
    let z : IfErr c.arguments_from.result (λ e. Halts bs c.args.at c.args.depth c.args.phase e) =
    if_err_map c.arguments_from.result _ _ (λ f k. name_halts bs c.args.at c.args.depth c.scan-end.result.0 c.args.phase c.in-Some.start c.scan-end.result.1 h (sym c.starts.ensures ∙ c.in-Some.is) (sym c.is_final.ensures ∙ c.if-not-is_final.false) f
    (subst (λ n. NameHalts bs c.scan-end.result.0 c.args.depth n f) name k)) c.arguments_from.ensures.halt in
    search rules
