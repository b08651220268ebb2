-- What the definitions give on small texts.
use Rattle.std.specs.Prelude.{◌≡◌, ℕ, List, [], ◌∷◌, ◌++◌, Bool, true, false, Some, None, codes, replicate}
use Rattle.std.specs.List.{flat_map}
use Rattle.css_tree.specs.declared.fault.SyntaxKind.TheVariants as K
use Rattle.css_tree.specs.declared.node.Block.{Block}
use Rattle.css_tree.specs.declared.node.Source.{Source}
use Rattle.css_tree.specs.declared.node.NodeText.{NodeText}
use Rattle.css_tree.specs.declared.node.NodeText.TheVariants.{Root, AtRule, Rule, Declaration, Comment}
use Rattle.css_tree.specs.Tree.{Trees, none, node, Tree}
use Rattle.css_tree.specs.Print.{print}
use Rattle.css_tree.specs.Fault.{fault, fault_at, stop}
use Rattle.css_tree.specs.Clean.{clean_of}
use Rattle.css_tree.specs.Reads.{Reads}

-- a field without comments
abbrev pub plain : List ℕ → Source
plain t = record { source = t; clean = t }

abbrev pub ending : Bool → List ℕ → Block
ending semicolon after = record { semicolon = semicolon; after = Some after }

abbrev pub open_ending : Bool → Block
open_ending semicolon = record { semicolon = semicolon; after = None }

-- a node from one byte to another, with its children and what follows it
abbrev pub at : ℕ → ℕ → NodeText → Trees → Trees → Trees
at start end text children rest = node text (Some (record { start = start; end = end })) children rest

-- a node that no text was read as
abbrev pub fresh : NodeText → Trees → Trees → Trees
fresh text children rest = node text None children rest

-- a text of so many bytes, with or without a mark
abbrev pub sheet : Bool → ℕ → Block → Trees → Tree
sheet bom size block children = record { text = Root bom block; span = Some (record { start = 0; end = size }); children = children }

-- a sheet of one rule `a` with these children
abbrev pub in_rule : ℕ → Block → Trees → Tree
in_rule size block children =
    sheet false size (ending false []) (at 0 size (Rule (Some []) (plain (codes "a")) [] block) children none)

-- a declaration without a mark and a tail
abbrev pub declared : List ℕ → List ℕ → List ℕ → NodeText
declared before prop value = Declaration (Some before) prop (codes ":") (plain value) false [] []

-- a `;` more, and a comment, at a block's end
abbrev pub SecondSemicolon : Type 0
SecondSemicolon = Reads (codes "a{color:red;;/*x*/}") (in_rule 19 (ending true [])
    (at 2 11 (declared [] (codes "color") (codes "red")) none (at 13 18 (Comment (Some (codes ";")) [] (codes "x") []) none none)))

-- a hack, blanks around the colon, and a mark of two words
abbrev pub HackAndMark : Type 0
HackAndMark = Reads (codes "a { *zoom : 1 ! Important }") (sheet false 27 (ending false [])
    (at 0 27 (Rule (Some []) (plain (codes "a")) (codes " ") (ending false (codes " ")))
    (at 5 25 (Declaration (Some (codes " *")) (codes "zoom") (codes " : ") (plain (codes "1")) true (codes " ! Important") []) none none) none))

abbrev pub MarkAlone : Type 0
MarkAlone = Reads (codes "a{b: !important;}") (in_rule 17 (ending true [])
    (at 2 15 (Declaration (Some []) (codes "b") (codes ": ") (plain []) true (codes "!important") []) none none))

-- a comment inside a mark, and a backslash that hides the `!`
abbrev pub MarkAndComment : Type 0
MarkAndComment = Reads (codes "a{b:c!/*x*/important}") (in_rule 21 (ending false [])
    (at 2 20 (Declaration (Some []) (codes "b") (codes ":") (plain (codes "c")) true (codes "!/*x*/important") []) none none))

abbrev pub HiddenMark : Type 0
HiddenMark = Reads (codes "a{b:c\\!important}") (in_rule 17 (ending false [])
    (at 2 16 (declared [] (codes "b") (codes "c\\!important")) none none))

-- a custom property with braces, and one that is none before its colon
abbrev pub CustomProperty : Type 0
CustomProperty = Reads (codes ":root{--x:{a:b};}") (sheet false 17 (ending false [])
    (at 0 17 (Rule (Some []) (plain (codes ":root")) [] (ending true [])) (at 6 15 (declared [] (codes "--x") (codes "{a:b}")) none none) none))

abbrev pub CustomRule : Type 0
CustomRule = Reads (codes "--x {}") (sheet false 6 (ending false []) (at 0 6 (Rule (Some []) (plain (codes "--x")) (codes " ") (ending false [])) none none))

abbrev pub UrlValue : Type 0
UrlValue = Reads (codes "a{b:url(x;y{)}") (in_rule 14 (ending false []) (at 2 13 (declared [] (codes "b") (codes "url(x;y{)")) none none))

-- `;` and `}` within brackets, and a closing bracket that none awaits
abbrev pub Brackets : Type 0
Brackets = Reads (codes "a{b:(;});c:d]}") (in_rule 14 (ending false [])
    (at 2 8 (declared [] (codes "b") (codes "(;})")) none (at 9 13 (declared [] (codes "c") (codes "d]")) none none)))

-- a block whose last node that isn't a comment is a rule, with a `;` more at its end
abbrev pub RuleLast : Type 0
RuleLast = Reads (codes "@m x{a:b;c{}/**/;}") (sheet false 18 (ending false [])
    (at 0 18 (AtRule (Some []) (codes "m") (codes " ") (plain (codes "x")) [] (Some (ending false (codes ";"))))
    (at 5 8 (declared [] (codes "a") (codes "b")) none
    (at 9 12 (Rule (Some []) (plain (codes "c")) [] (ending false [])) none
    (at 12 16 (Comment (Some []) [] [] []) none none))) none))

-- an at-rule without a block gives its blanks back, a comment among them
abbrev pub BlanksBack : Type 0
BlanksBack = Reads (codes "a{@b c /*x*/ }") (in_rule 14 (ending false (codes " "))
    (at 2 6 (AtRule (Some []) (codes "b") (codes " ") (plain (codes "c")) [] None) none
    (at 7 12 (Comment (Some (codes " ")) [] (codes "x") []) none none)))

-- with a `;` they stay, and a comment in a field stands in its source alone
abbrev pub CommentsInFields : Type 0
CommentsInFields = Reads (codes "@b c/**/d /**/;") (sheet false 15 (ending true [])
    (at 0 14 (AtRule (Some []) (codes "b") (codes " ") (record { source = codes "c/**/d"; clean = codes "cd" }) (codes " /**/") None) none none))

-- no parameters: all blanks are `between`
abbrev pub EmptyParams : Type 0
EmptyParams = Reads (codes "@a /**/{}") (sheet false 9 (ending false [])
    (at 0 9 (AtRule (Some []) (codes "a") [] (plain []) (codes " /**/") (Some (ending false []))) none none))

-- the other hack, one that is the whole property, and an empty selector
abbrev pub OtherHacks : Type 0
OtherHacks = Reads (codes "{_a:b;*:c}") (sheet false 10 (ending false [])
    (at 0 10 (Rule (Some []) (plain []) [] (ending false [])) (at 2 5 (declared (codes "_") (codes "a") (codes "b")) none
    (at 6 9 (declared [] (codes "*") (codes "c")) none none)) none))

-- a comment of white space alone
abbrev pub WhiteComment : Type 0
WhiteComment = Reads (codes "/* \n*/") (sheet false 6 (ending false []) (at 0 6 (Comment (Some []) (codes " \n") [] []) none none))

-- a byte order mark, a line end of two characters, and a character of four bytes
abbrev pub MarkOfOrder : Type 0
MarkOfOrder = Reads (0xfeff ∷ (codes "a{}\r\n/*" ++ 0x1f600 ∷ codes "*/b{}")) (sheet true 19 (ending false [])
    (at 3 6 (Rule (Some []) (plain (codes "a")) [] (ending false [])) none
    (at 8 16 (Comment (Some (codes "\r\n")) [] (0x1f600 ∷ []) []) none
    (at 16 19 (Rule (Some []) (plain (codes "b")) [] (ending false [])) none none))))

abbrev pub EmptyText : Type 0
EmptyText = Reads [] (sheet false 0 (ending false []) none)

-- each fault
abbrev pub Faults : Type 0
Faults =
    (fault (codes "a{b:\"x") ≡ fault_at K.UnclosedString 4) × (fault (codes "/*") ≡ fault_at K.UnclosedComment 0) × (fault (codes "a{b:url(x") ≡ fault_at K.UnclosedUrl 4)
    × (fault (codes "@{}") ≡ fault_at K.AtRuleWithoutName 0) × (fault (codes "a{b:(c}") ≡ fault_at K.UnclosedBracket 4) × (fault (codes "a{b") ≡ fault_at K.UnknownWord 2)
    × (fault (codes "}") ≡ fault_at K.UnexpectedClose 0) × (fault (codes "a{") ≡ fault_at K.UnclosedBlock 1)

-- several at one place, the outermost of two brackets, and a fault behind a mark
abbrev pub FirstFaults : Type 0
FirstFaults =
    (fault (codes "b}") ≡ fault_at K.UnknownWord 0) × (fault (codes "b:c}") ≡ fault_at K.UnexpectedClose 3) × (fault (codes "a{b:([c") ≡ fault_at K.UnclosedBracket 4)
    × (stop (codes "b}") ≡ Some 1) × (fault (0xfeff ∷ codes "a{") ≡ fault_at K.UnclosedBlock 4)

-- so many times
abbrev pub repeated : ℕ → List ℕ → List ℕ
repeated n text = flat_map (λ t. t) (replicate n text)

-- 200 blocks inside one another, and 201
abbrev pub Depth : Type 0
Depth = (fault (repeated 200 (codes "a{") ++ repeated 200 (codes "}")) ≡ None) × (fault (repeated 201 (codes "a{")) ≡ fault_at K.TooDeep 401)

abbrev pub Cleaned : Type 0
Cleaned = (clean_of (codes "a/*x*/b") ≡ codes "ab") × (clean_of (codes "a/*") ≡ codes "a/*") × (clean_of (0xfeff ∷ codes "/**/\"/*\"") ≡ 0xfeff ∷ codes "\"/*\"")

-- a new rule with a new declaration, alone in a sheet
abbrev pub NewNodes : Type 0
NewNodes = print (sheet false 0 (ending false [])
    (fresh (Rule None (plain (codes "a")) (codes " ") (open_ending true)) (fresh (Declaration None (codes "b") (codes ": ") (plain (codes "c")) false [] []) none none) none))
    ≡ codes "a {\n    b: c;\n}"

-- new nodes among others
abbrev pub NewAndOld : Type 0
NewAndOld = print (sheet false 6 (ending false [])
    (fresh (AtRule None (codes "media") (codes " ") (plain (codes "print")) (codes " ") (Some (open_ending true))) (fresh (Comment None (codes " ") (codes "z") (codes " ")) none none)
    (at 0 6 (Rule (Some (codes "\n")) (plain (codes "d")) [] (ending false []))
    (fresh (Declaration None (codes "r") (codes ": ") (plain (codes "s")) true (codes " !important") []) none none) none)))
    ≡ codes "@media print {\n    /* z */\n}\nd{\n    r: s !important}"
