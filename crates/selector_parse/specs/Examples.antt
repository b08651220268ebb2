-- Small lists of selectors and their parts.
use Rattle.std.specs.Prelude.{◌≡◌, ◌+◌, ◌^◌, true, false, [], ◌∷◌, codes}
use Rattle.selector_parse.specs.declared.part.PartKind.TheVariants.{Blank as BlankPart, Combinator, Element, Id, Class, Attribute, PseudoClass, PseudoElement, Nesting}
use Rattle.selector_parse.specs.declared.part.Args.TheOpen.{Plain, List as Listed}
use Rattle.selector_parse.specs.Tree.{none, comma, gap, simple, plain, nested, blank, comment, combinator}
use Rattle.selector_parse.specs.Forms.{is_name, is_element, is_simple, is_one, comment_form, are_blanks, is_combinator, has_sign, is_balanced}
use Rattle.selector_parse.specs.Grammar.{is_plain, Selects}
use Rattle.selector_parse.specs.Fault.{IsFault}
use Rattle.selector_parse.specs.Normal.{sign, normal_part, all_of, joined}
use Rattle.selector_parse.specs.Wide.{value}
use Rattle.selector_parse.specs.Worth.{counts, nothing, sum_from, greatest_from, no_args, no_list, list_of, worth, names_all, cut, deepest, args_depth}

-- names: `a\:b`; none; a backslash at the end or before a line break; a space
abbrev pub Names : Type 0
Names = (is_name (codes "a-1") ≡ true) × (is_name (97 ∷ 92 ∷ 58 ∷ 98 ∷ []) ≡ true) × (is_name [] ≡ false) × (is_name (97 ∷ 92 ∷ []) ≡ false) × (is_name (92 ∷ 10 ∷ []) ≡ false) × (is_name (codes "a b") ≡ false)

-- an optional namespace, which may be empty or *
abbrev pub Elements : Type 0
Elements = (is_element (codes "*") ≡ true) × (is_element (codes "a|b") ≡ true) × (is_element (codes "*|*") ≡ true) × (is_element (codes "|b") ≡ true) × (is_element (codes "a|") ≡ false) × (is_element (codes "a||b") ≡ false) × (is_element (codes "a*") ≡ false)

-- each kind of simple selector, and what is none of it
abbrev pub Kinds : Type 0
Kinds = (is_simple Id (codes "#a") ≡ true) × (is_simple Class (codes ".") ≡ false) × (is_simple Attribute (codes "[a=']']") ≡ true) × (is_simple Attribute (codes "[a]]") ≡ false) × (is_simple Attribute (codes "[a='") ≡ false)
    × (is_simple Nesting (codes "&") ≡ true) × (is_simple PseudoClass (codes ":hover") ≡ true) × (is_simple PseudoClass (codes ":AFTER") ≡ false) × (is_simple PseudoElement (codes ":AFTER") ≡ true)
    × (is_simple PseudoElement (codes "::x") ≡ true) × (is_simple PseudoElement (codes ":x") ≡ false)

-- comments, blanks and combinators
abbrev pub Gaps : Type 0
Gaps = (is_one comment_form (codes "/*/*/") ≡ true) × (is_one comment_form (codes "/**//**/") ≡ false) × (is_one comment_form (codes "/*/") ≡ false)
    × (are_blanks (codes " /*>*/ ") ≡ true) × (are_blanks (codes " /*") ≡ false)
    × (is_combinator (codes " /**/") ≡ true) × (is_combinator (codes "/**/") ≡ false) × (is_combinator (codes "/**/>") ≡ true) × (is_combinator (codes "> >") ≡ false) × (has_sign (codes "  ") ≡ false)

-- parentheses in strings and after backslashes don't count; two of them are open at once, where one may be
abbrev pub Balanced : Type 0
Balanced = (is_plain false 1 (codes "(a)'('") ≡ true) × (is_plain false 1 (92 ∷ 41 ∷ []) ≡ true) × (is_plain false 1 (codes "(") ≡ false) × (is_plain false 1 (codes ")(") ≡ false) × (is_balanced 1 0 0 (codes "(())") ≡ false) × (is_plain true 1 (codes " n") ≡ false)

-- a leading blank, a trailing one, and a combinator with its blanks
abbrev pub Blanks : Type 0
Blanks = Selects (codes " b ,a > c") (gap blank 0 (codes " ") (simple Element 1 (codes "b") (gap blank 2 (codes " ") (comma (simple Element 4 (codes "a") (gap combinator 5 (codes " > ") (simple Element 8 (codes "c") none)))))))

-- comments inside a compound, and after it
abbrev pub Notes : Type 0
Notes = Selects (codes "a/**/.b/**/") (simple Element 0 (codes "a") (gap comment 1 (codes "/**/") (simple Class 5 (codes ".b") (gap blank 7 (codes "/**/") none))))

-- a list of arguments, blanks in its place, and other arguments
abbrev pub Lists : Type 0
Lists = Selects (codes ":is(#a)") (nested PseudoClass 0 (codes ":is") (simple Id 4 (codes "#a") none) none) × Selects (codes ":not()") (plain PseudoClass 0 (codes ":not") [] none) × Selects (codes "::x(()')')") (plain PseudoElement 0 (codes "::x") (codes "()')'") none)

-- `:before` in any case, namespaces, and a `]` in a string
abbrev pub Simple : Type 0
Simple = Selects (codes "&:BEFORE") (simple Nesting 0 (codes "&") (simple PseudoElement 1 (codes ":BEFORE") none)) × Selects (codes "*|a[b=']']") (simple Element 0 (codes "*|a") (simple Attribute 3 (codes "[b=']']") none))

-- the longest fronts of `a >,b` and of no text
abbrev pub Faults : Type 0
Faults = IsFault (codes "a >,b") 3 × IsFault [] 0

-- `#a .b:is(c,#d)::before` counts 2, 1, 1; `:where(#a)` nothing, and neither does `:not()`; the greatest counts above 65,535
abbrev pub Specific : Type 0
Specific = (sum_from nothing (worth Id (codes "#a") no_args ∷ worth Combinator (codes " ") no_args ∷ worth Class (codes ".b") no_args ∷ worth PseudoClass (codes ":is") (list_of (greatest_from nothing (counts 0 0 1 ∷ counts 1 0 0 ∷ []))) ∷ worth PseudoElement (codes "::before") no_args ∷ []) ≡ counts 2 1 1)
    × (worth PseudoClass (codes ":where") (list_of (counts 1 0 0)) ≡ nothing) × (worth PseudoClass (codes ":not") no_list ≡ nothing) × (worth PseudoClass (codes ":nth-child") no_list ≡ counts 0 1 0)
    × (names_all (codes "a|*") ≡ true) × (names_all (92 ∷ 42 ∷ []) ≡ false)
    × (cut (greatest_from nothing (counts 65535 70000 0 ∷ counts 65536 0 1 ∷ [])) ≡ record { a = 65535; b = 0; c = 1 })

-- of ` b ,a  >  c`: each complex selector's normal form, and both after they are sorted
abbrev pub Normals : Type 0
Normals = (all_of (normal_part BlankPart (codes " ") [] ∷ normal_part Element (codes "b") [] ∷ normal_part BlankPart (codes " ") [] ∷ []) ≡ codes "b")
    × (all_of (normal_part Element (codes "a") [] ∷ normal_part Combinator (codes "  >  ") [] ∷ normal_part Element (codes "c") [] ∷ []) ≡ codes "a>c") × (joined (codes "a>c" ∷ codes "b" ∷ []) ≡ codes "a>c,b")

-- the sign of a combinator stands in no comment
abbrev pub Signs : Type 0
Signs = (sign (codes "/*>*/ + ") ≡ 43) × (sign (codes " /*>*/") ≡ 32)

-- how deep lists stand: in parts side by side, and in arguments
abbrev pub Depths : Type 0
Depths = (deepest (0 ∷ 2 ∷ 1 ∷ []) ≡ 2) × (args_depth (Listed 2) ≡ 3) × (args_depth (Plain (codes "n")) ≡ 0)

-- the words of a large number
abbrev pub Words : Type 0
Words = value (7 ∷ 1 ∷ []) 2 ≡ 2 ^ 64 + 7
