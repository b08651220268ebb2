-- Where the important mark of a declaration stands.
use Rattle.std.specs.Prelude.{ℕ, ◌+◌, List, [], ◌++◌, Bool, true, false, ◌&&◌, codes, take}
use Rattle.std.specs.List.{prefix_len}
use Rattle.css_text.specs.Ahead.{byte_len}
use Rattle.css_text.specs.Pieces.{Token, cut, joined}
use Rattle.css_text.specs.declared.lexer.PieceKind.{PieceKind}
use Rattle.css_text.specs.declared.lexer.PieceKind.TheVariants as K
use Rattle.css_tree.specs.Tree.{Tree}
use Rattle.css_tree.specs.declared.node.NodeText.{NodeText}
use Rattle.css_tree.specs.declared.node.NodeText.TheVariants as N
use Rattle.rule_sites.specs.Blocks.{start_byte}
use Rattle.rule_sites.specs.Finding.{Finding, unmended}

abbrev pub is_marked : NodeText → Bool
is_marked (N.Declaration before prop between value important important_raw tail) = important
is_marked _ = false

abbrev pub is_blank : PieceKind → Bool
is_blank K.Space = true
is_blank K.Comment = true
is_blank _ = false

-- the white space and comments at the start of a text
abbrev pub blanks_of : List ℕ → List ℕ
blanks_of s = let ts = (cut s).tokens in joined (take (prefix_len (λ t. is_blank t.kind) ts) ts)

-- what stands before the mark's `!` in the body of a declaration
abbrev pub before_mark : NodeText → List ℕ
before_mark (N.Declaration before prop between value important important_raw tail) = prop ++ (between ++ (value.source ++ blanks_of important_raw))
before_mark _ = []

-- where the mark's `!` stands
abbrev pub mark_byte : Tree → ℕ
mark_byte t = start_byte t + byte_len (before_mark t.text)

abbrev pub mark_finding : Tree → Finding
mark_finding t = unmended (mark_byte t) (codes "Unexpected !important")
