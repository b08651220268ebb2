-- More rows without links keep the rows linked.
use Rattle.std.proofs.Common.{◌≡◌, ◌+◌, ◌≤◌, List, [], ◌∷◌, ◌++◌, length, map, ap, sym, ◌∙◌, subst, arith, append-nil, append_assoc, length-append}
use Rattle.node_rows.specs.declared.growth.NewNode.{NewNode}
use Rattle.node_rows.specs.declared.rows.Row.{Row}
use Rattle.node_rows.specs.Shown.{shown_rows, IsLinked}
use Rattle.node_rows.specs.Growth.{made, row_of}
use Rattle.node_rows.proofs.Pushed.{shown-pushed, IsLinked-pushed}

pub rows-grown : (xs : List NewNode) (rs : List Row) → IsLinked rs → length rs + length xs ≤ 67108865 → IsLinked (rs ++ map row_of xs) × (shown_rows (rs ++ map row_of xs) ≡ shown_rows rs ++ map made xs)
rows-grown [] rs k few = (subst IsLinked (sym (append-nil rs)) k, ap shown_rows (append-nil rs) ∙ sym (append-nil (shown_rows rs)))
rows-grown (x ∷ xs) rs k few =
    let one : List Row = rs ++ row_of x ∷ [] in
    let e : one ++ map row_of xs ≡ rs ++ map row_of (x ∷ xs) = append_assoc rs (row_of x ∷ []) (map row_of xs) in
    let r = rows-grown xs one (IsLinked-pushed rs k x.text x.span (omega arith)) (let l : length one ≡ length rs + 1 = length-append rs (row_of x ∷ []) in omega arith) in (
      subst IsLinked e r.0,
      ap shown_rows (sym e) ∙ (r.1 ∙ (ap (λ l. l ++ map made xs) (shown-pushed rs k x.text x.span) ∙ append_assoc (shown_rows rs) (made x ∷ []) (map made xs))),
    )
