-- A lexical fault as a fault of a text.
use Rattle.css_text.specs.declared.lexer.LexFault.{LexFault}
use Rattle.css_text.specs.declared.lexer.LexFault.TheVariants.{UnclosedString, UnclosedComment, UnclosedUrl}
use Rattle.css_tree.specs.declared.fault.SyntaxKind.TheVariants as K
use Rattle.css_tree.specs.Fault.{Fault}

abbrev pub found_of : LexFault → Fault
found_of (UnclosedString at) = record { kind = K.UnclosedString; at = at }
found_of (UnclosedComment at) = record { kind = K.UnclosedComment; at = at }
found_of (UnclosedUrl at) = record { kind = K.UnclosedUrl; at = at }
