use Rattle.std.proofs.Common.{◌≡◌, ℕ, List, sym, subst}
use Rattle.css_text.specs.ValueParts.{IsValue}
use Rattle.value_parse.specs.declared.part.ValuePart.{ValuePart}
use Rattle.value_parse.specs.Tree.{parts_of}
use Rattle.value_parse.specs.Row.{IsWholeRow}
use Rattle.std.specs.Str.{chars, IsUtf8}
use Rattle.css_text.proofs.Slices.{from_whole, from_boundary}
use Rattle.value_parse.proofs.Rows.{row_value}
use Rattle.value_parse.proofs.parse.parse_value.Goals as goal

pub parts_from-requires-clause-boundary : goal.parts_from-requires-clause-boundary
parts_from-requires-clause-boundary c = from_boundary c.args.src.now 0 (chars c.args.src.now) (from_whole c.args.src.now c.utf8.src)

parts_are : (bs : List ℕ) (xs ys : List ValuePart) (end : ℕ) → IsUtf8 bs → IsWholeRow bs 0 0 (parts_of ys) end → xs ≡ ys → IsValue (chars bs) (parts_of xs)
parts_are bs xs ys end u r e = subst (λ zs. IsValue (chars bs) (parts_of zs)) (sym e) (row_value bs (parts_of ys) end u r)

pub returns : goal.returns
returns c =
    let v = parts_are c.args.src.now c.into_parts.result.items c.in_ok-row.row.parts.items c.in_ok-row.row.end c.utf8.src c.in_ok-row.ensures c.into_parts.ensures in
    record { parts = v; source = v.text }
