-- The proof's own: the grammar of specs/Grammar as the code goes through parts, with what stands before each of them.
use Rattle.std.specs.Prelude.{◌≡◌, ◌<◌, ℕ, suc, ◌+◌, ◌-◌, Bool, true, false, ◌==◌, ◌&&◌, ◌||◌, if◌then◌else◌, List, [], ◌∷◌, Option, Some, None}
use Rattle.css_text.specs.Ahead.{byte_len}
use Rattle.css_text.specs.Forms.{begins}
use Rattle.selector_parse.specs.declared.part.PartKind.{PartKind}
use Rattle.selector_parse.specs.declared.part.PartKind.TheVariants.{Element, Id, Class, Attribute, PseudoClass, PseudoElement, Nesting}
use Rattle.selector_parse.specs.declared.phase.Phase.{Phase}
use Rattle.selector_parse.specs.declared.phase.Phase.TheVariants.{Fresh, Open, Inside, Commented, Trailing}
use Rattle.selector_parse.specs.declared.reading.Gap.{Gap}
use Rattle.selector_parse.specs.declared.reading.Gap.TheVariants.{One, Comments, Spaced, Symbol}
use Rattle.selector_parse.specs.declared.reading.Within.TheVariants.{Parentheses}
use Rattle.selector_parse.specs.declared.reading.Reading.{Reading}
use Rattle.selector_parse.specs.declared.reading.Reading.TheVariants.{First, Next, Done, Text, Blank}
use Rattle.selector_parse.specs.Reading.{is_final, read}
use Rattle.selector_parse.specs.Tree.{GapKind, blank, comment, combinator, Tree, none, comma, gap, simple, plain, nested, written}
use Rattle.selector_parse.specs.Names.{is_legacy, takes_args, takes_list}
use Rattle.selector_parse.specs.Grammar.{most_depth}

-- what begins with one colon, by what stands after it
abbrev pub pseudo_kind : List ℕ → PartKind
pseudo_kind name = if begins 58 name || is_legacy name then PseudoElement else PseudoClass

-- the kind of a simple selector, by its text
abbrev pub kind_of : List ℕ → PartKind
kind_of [] = Element
kind_of (c ∷ cs) = if c == 35 then Id else if c == 46 then Class else if c == 91 then Attribute else if c == 38 then Nesting else if c == 58 then pseudo_kind cs else Element

-- what has been read is a whole part
abbrev pub is_whole : Option Reading → Bool
is_whole None = false
is_whole (Some q) = is_final q

-- what a run of blanks holds
abbrev pub gap_read : Option Reading → Option Gap
gap_read (Some (Blank g)) = Some g
gap_read o = None

abbrev pub gap_of : List ℕ → Option Gap
gap_of t = gap_read (read (Blank Comments) t)

-- white space and comments
abbrev pub is_blanks : Option Gap → Bool
is_blanks (Some Comments) = true
is_blanks (Some Spaced) = true
is_blanks g = false

-- one comment
abbrev pub is_done : Option Reading → Bool
is_done (Some Done) = true
is_done o = false

abbrev pub is_comment : List ℕ → Bool
is_comment t = is_done (read (Blank One) t)

-- what follows blanks, a comment and a combinator, where they may stand
abbrev pub blank_next : Phase → Option Phase
blank_next Fresh = Some Open
blank_next Inside = Some Trailing
blank_next p = None

abbrev pub comment_next : Phase → Option Phase
comment_next Inside = Some Commented
comment_next Commented = Some Commented
comment_next p = None

-- A combinator at the start has a sign.
abbrev pub combinator_next : Phase → Option Gap → Option Phase
combinator_next Fresh (Some Symbol) = Some Open
combinator_next Inside (Some Symbol) = Some Open
combinator_next Inside (Some Spaced) = Some Open
combinator_next p g = None

abbrev pub if_so : Bool → Option Phase → Option Phase
if_so true o = o
if_so false o = None

abbrev pub is_some_text : List ℕ → Bool
is_some_text [] = false
is_some_text (c ∷ cs) = true

abbrev pub gap_next : Phase → GapKind → List ℕ → Option Phase
gap_next p blank t = if_so (is_some_text t && is_blanks (gap_of t)) (blank_next p)
gap_next p comment t = if_so (is_comment t) (comment_next p)
gap_next p combinator t = combinator_next p (gap_of t)

-- what a simple selector begins with
abbrev pub starts : Phase → Option Reading
starts Fresh = Some First
starts Open = Some First
starts Inside = Some Next
starts Commented = Some Next
starts Trailing = None

abbrev pub simple_read : Option Reading → List ℕ → Bool
simple_read None t = false
simple_read (Some q) t = is_whole (read q t)

-- the text is a simple selector, which is no Element but where a compound begins
abbrev pub is_simple : Phase → List ℕ → Bool
is_simple p t = simple_read (starts p) t

-- Arguments that are no list, inside so many parentheses with their own: blanks alone where they would be a list, and else
-- strings, escapes, balanced parentheses and other characters.
abbrev pub is_plain : Bool → ℕ → List ℕ → Bool
is_plain true depth args = is_blanks (gap_of args)
is_plain false depth args = is_whole (read (Text (Parentheses 0 (most_depth - depth))) args)

-- a complex selector may end here
abbrev pub may_end : Phase → Bool
may_end Inside = true
may_end Trailing = true
may_end p = false

-- The parts stand inside so many parentheses, from this phase to that, and the first of them at this byte.
abbrev pub Are : ℕ → Phase → ℕ → Tree → Phase → Type 0
Are depth p at none end = p ≡ end
Are depth p at (comma rest) end = (may_end p ≡ true) × Are depth Fresh (at + 1) rest end
Are depth p at (gap k a t rest) end = (a ≡ at) × ((q : Phase) × ((gap_next p k t ≡ Some q) × Are depth q (at + byte_len t) rest end))
Are depth p at (simple k a t rest) end = (a ≡ at) × (k ≡ kind_of t) × (is_simple p t ≡ true) × Are depth Inside (at + byte_len t) rest end
Are depth p at (plain k a t args rest) end =
    (a ≡ at) × (k ≡ kind_of t) × (is_simple p t ≡ true) × (takes_args t ≡ true) × (depth < most_depth) × (is_plain (takes_list t) (suc depth) args ≡ true)
    × Are depth Inside (at + byte_len t + 1 + byte_len args + 1) rest end
Are depth p at (nested k a t inner rest) end =
    (a ≡ at) × (k ≡ kind_of t) × (is_simple p t ≡ true) × (takes_list t ≡ true) × (depth < most_depth)
    × ((q : Phase) × ((may_end q ≡ true) × Are (suc depth) Fresh (at + byte_len t + 1) inner q))
    × Are depth Inside (at + byte_len t + 1 + byte_len (written inner) + 1) rest end

-- the parts are a text's
pub record Passes (s : List ℕ) (parts : Tree) : Type 0 where
  pub text : written parts ≡ s
  pub last : Phase
  pub ends : may_end last ≡ true
  pub are : Are 0 Fresh 0 parts last
