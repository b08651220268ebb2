use Rattle.std.proofs.Common.{length}
use Rattle.std.specs.Str.{chars}
use Rattle.std.specs.String.{string_bytes}
use Rattle.css_tree.proofs.Cleaning.{At}
use Rattle.css_tree.proofs.clean.cleaned.Given as goal

abbrev pub invariant-pieces : goal.invariant-pieces
invariant-pieces l = At (chars l.src) l.src l.done (string_bytes l.out) l.lexer

abbrev pub decreases-pieces : goal.decreases-pieces
decreases-pieces l = length l.lexer.pieces
