-- One turn of the loops that mark nodes.
use Rattle.std.proofs.Common.{◌≡◌, ℕ, ◌<◌, List, true, length, Option, Some, None, ap, sym, ◌∙◌, subst, arith, MatchOption}
use Rattle.node_rows.specs.Nodes.{Node, parent_of, path}
use Rattle.node_rows.specs.Sound.{IsSound}
use Rattle.node_rows.specs.Marks.{with_mark, all_dirty}
use Rattle.node_rows.specs.Beyond.{behind, IsNext}
use Rattle.node_rows.proofs.Climb.{path-top, path-step}
use Rattle.node_rows.proofs.SameLinks.{SameLinks, SameLinks-marked, IsNext-same}

pub marks_on : (ns ms all : List Node) (m : ℕ) (o : Option ℕ) → IsSound ns → m < length ns → all_dirty ms (path ns m) ≡ all → parent_of ns m ≡ o → MatchOption o (with_mark ms m true ≡ all) (λ p. (p < length ns) × (all_dirty (with_mark ms m true) (path ns p) ≡ all))
marks_on ns ms all m None s b e h = ap (all_dirty ms) (sym (path-top ns s m b h)) ∙ e
marks_on ns ms all m (Some p) s b e h = (s.below m p h, ap (all_dirty ms) (sym (path-step ns s m p b h)) ∙ e)

abbrev pub left : List Node → Option ℕ → ℕ
left ns o = elim o [ None ↦ 0 | Some p ↦ length (path ns p) ]

pub left_falls : (ns : List Node) (m : ℕ) (o : Option ℕ) → IsSound ns → m < length ns → parent_of ns m ≡ o → left ns o < length (path ns m)
left_falls ns m None s b h = omega (arith, ap length (path-top ns s m b h))
left_falls ns m (Some p) s b h = omega (arith, ap length (path-step ns s m p b h))

pub next_after : (ns ms ss : List Node) (top m : ℕ) (o : Option ℕ) → SameLinks ns ms → ss ≡ with_mark ms m true → IsNext ss top (behind ss top m) o → IsNext ns top (behind ns top m) o
next_after ns ms ss top m o h e n =
    IsNext-same ns ss (subst (SameLinks ns) (sym e) (SameLinks-marked ns ms m true h)) top m o n
