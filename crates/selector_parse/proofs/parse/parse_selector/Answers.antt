use Rattle.std.proofs.Common.{◌≤◌, length, sym, subst, arith}
use Rattle.std.specs.Str.{chars}
use Rattle.css_text.proofs.Slices.{from_whole, from_boundary}
use Rattle.selector_parse.specs.declared.phase.Phase.TheVariants.{Fresh}
use Rattle.selector_parse.specs.Grammar.{Selects}
use Rattle.selector_parse.specs.Row.{Halts, IsHalt, list_parts}
use Rattle.selector_parse.proofs.Follows.{halt_fault, halt_within, ended_selects}
use Rattle.selector_parse.proofs.Trees.{tree_roll}
use Rattle.selector_parse.proofs.parse.parse_selector.Goals as goal

pub list_from-requires-clause-boundary : goal.list_from-requires-clause-boundary
list_from-requires-clause-boundary c = from_boundary c.args.src.now 0 (chars c.args.src.now) (from_whole c.args.src.now c.utf8.src)

pub overflow_cast-result : goal.overflow_cast-result
overflow_cast-result c =
    let h : IsHalt c.args.src.now 0 0 Fresh c.in-Err-At.at = subst (Halts c.args.src.now 0 0 Fresh) c.in-Err-At.field-0-is c.in-Err-At.ensures.halt in
    let l : c.in-Err-At.at ≤ length c.args.src.now = halt_within c.args.src.now c.in-Err-At.at h in
    omega arith

pub returns-in-Ok-clause-parts : goal.returns-in-Ok-clause-parts
returns-in-Ok-clause-parts c = subst (Selects (chars c.args.src.now)) (sym (tree_roll c.in-Ok.row.list)) (ended_selects c.args.src.now c.in-Ok.row.end (list_parts c.in-Ok.row.list.items) c.utf8.src c.in-Ok.ensures.row c.in-Ok.ensures.last)

pub returns-in-Ok-clause-source : goal.returns-in-Ok-clause-source
returns-in-Ok-clause-source c =
    let s = subst (Selects (chars c.args.src.now)) (sym (tree_roll c.in-Ok.row.list)) (ended_selects c.args.src.now c.in-Ok.row.end (list_parts c.in-Ok.row.list.items) c.utf8.src c.in-Ok.ensures.row c.in-Ok.ensures.last) in
    s.text

pub returns-in-Err-At-clause-stops : goal.returns-in-Err-At-clause-stops
returns-in-Err-At-clause-stops c =
    let h : IsHalt c.args.src.now 0 0 Fresh c.in-Err-At.at = subst (Halts c.args.src.now 0 0 Fresh) c.in-Err-At.field-0-is c.in-Err-At.ensures.halt in
    halt_fault c.args.src.now c.in-Err-At.at c.utf8.src h
