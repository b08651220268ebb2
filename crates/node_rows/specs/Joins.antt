-- What the writes of a join and of a cut make of the rows.
use Rattle.std.specs.Prelude.{ℕ, ◌<◌, List, Option, Some, None, slice_set, length}
use Rattle.node_rows.specs.declared.rows.Row.{Row}
use Rattle.node_rows.specs.Shown.{row_at}
use Rattle.node_rows.specs.Tally.{one_more, one_less}

-- n stands below p, between `before` and `after`
abbrev pub placed : List Row → ℕ → ℕ → Option ℕ → Option ℕ → List Row
placed rs n p before after = slice_set rs n (record (row_at rs n) { parent = Some p; before = before; after = after })

-- a follows b, or comes first in p
abbrev pub with_after : List Row → Option ℕ → ℕ → Option ℕ → List Row
with_after rs None p a = slice_set rs p (record (row_at rs p) { first = a })
with_after rs (Some b) p a = slice_set rs b (record (row_at rs b) { after = a })

-- b stands before a, or comes last in p
abbrev pub with_before : List Row → Option ℕ → ℕ → Option ℕ → List Row
with_before rs None p b = slice_set rs p (record (row_at rs p) { last = b })
with_before rs (Some a) p b = slice_set rs a (record (row_at rs a) { before = b })

abbrev pub counted : List Row → ℕ → List Row
counted rs p = slice_set rs p (record (row_at rs p) { tally = one_more (row_at rs p).tally })

abbrev pub joined_in : List Row → ℕ → ℕ → Option ℕ → Option ℕ → List Row
joined_in rs p n b a = counted (with_before (with_after (placed rs n p b a) b p (Some n)) a p (Some n)) p

-- n is loose
abbrev pub freed : List Row → ℕ → List Row
freed rs n = slice_set rs n (record (row_at rs n) { parent = None; before = None; after = None })

abbrev pub discounted : List Row → ℕ → List Row
discounted rs p = slice_set rs p (record (row_at rs p) { tally = one_less (row_at rs p).tally })

-- n is taken out of p, where it stands between b and a
abbrev pub cut_from : List Row → ℕ → ℕ → Option ℕ → Option ℕ → List Row
cut_from rs p n b a = discounted (with_before (with_after (freed rs n) b p a) a p b) p

abbrev pub IsWithin : List Row → Option ℕ → Type 0
IsWithin rs None = Unit {0}
IsWithin rs (Some x) = x < length rs
