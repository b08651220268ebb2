use Rattle.std.proofs.Common.{◌≡◌, drop, map}
use Rattle.std.specs.List.{find}
use Rattle.std.specs.Str.{chars}
use Rattle.css_tree.specs.Mark.{is_text}
use Rattle.rules_tree.specs.ShorthandRows.{shorthand_of}
use Rattle.rules_tree.specs.Shorthands.{longhands_in}
use Rattle.rules_tree.proofs.shorthands.longhands_in.Given as goal

abbrev pub invariant-loop-row : goal.invariant-loop-row
invariant-loop-row l =
    longhands_in (find (λ s. is_text s.name (chars l.prop)) (map shorthand_of l.table)) ≡ longhands_in (find (λ s. is_text s.name (chars l.prop)) (map shorthand_of (drop l.row-index l.table)))
