-- The grammar of selectors: each part is of its form, and what comes after it may follow it.
use Rattle.std.specs.Prelude.{◌≡◌, ◌<◌, ℕ, suc, ◌+◌, ◌-◌, Bool, true, false, not, ◌||◌, List}
use Rattle.css_text.specs.Ahead.{byte_len}
use Rattle.selector_parse.specs.declared.part.PartKind.{PartKind}
use Rattle.selector_parse.specs.declared.part.PartKind.TheVariants.{Element}
use Rattle.selector_parse.specs.Tree.{Tree, none, comma, gap, simple, plain, nested, blank, comment, combinator, written}
use Rattle.selector_parse.specs.Names.{takes_args, takes_list}
use Rattle.selector_parse.specs.Forms.{is_empty, is_one, comment_form, is_simple, is_balanced, are_blanks, has_sign, is_combinator}

-- at most so many parentheses are open at once
abbrev pub most_depth : ℕ
most_depth = 100

-- a complex selector ends where its parts do, and before a comma
abbrev pub ends : Tree → Bool
ends none = true
ends (comma rest) = true
ends parts = false

-- a compound begins with any simple selector
abbrev pub begins_compound : Tree → Bool
begins_compound (simple k at t rest) = true
begins_compound (plain k at t args rest) = true
begins_compound (nested k at t inner rest) = true
begins_compound parts = false

-- a complex selector begins with blanks and a compound, with a combinator that has a sign, or with a compound
abbrev pub begins_complex : Tree → Bool
begins_complex (gap blank at t rest) = begins_compound rest
begins_complex (gap combinator at t rest) = has_sign t
begins_complex parts = begins_compound parts

abbrev pub is_element_kind : PartKind → Bool
is_element_kind Element = true
is_element_kind k = false

-- a compound goes on with comments and with simple selectors that are no Element
abbrev pub continues : Tree → Bool
continues (gap comment at t rest) = true
continues (simple k at t rest) = not (is_element_kind k)
continues (plain k at t args rest) = not (is_element_kind k)
continues (nested k at t inner rest) = not (is_element_kind k)
continues parts = false

-- after a simple selector its compound goes on, a combinator follows, or the complex selector ends, with blanks or without
abbrev pub follows_simple : Tree → Bool
follows_simple (gap blank at t rest) = ends rest
follows_simple (gap combinator at t rest) = true
follows_simple parts = continues parts || ends parts

-- Arguments that are no list, inside so many parentheses with their own: blanks alone where they would be a list.
abbrev pub is_plain : Bool → ℕ → List ℕ → Bool
is_plain true depth args = are_blanks args
is_plain false depth args = is_balanced (most_depth - depth) 0 0 args

-- Each part is of its form, and what comes after it may follow it, where all stand inside so many parentheses.
abbrev pub AreParts : ℕ → Tree → Type 0
AreParts depth none = Unit {0}
AreParts depth (comma rest) = (begins_complex rest ≡ true) × AreParts depth rest
AreParts depth (gap blank at t rest) = (is_empty t ≡ false) × (are_blanks t ≡ true) × AreParts depth rest
AreParts depth (gap comment at t rest) = (is_one comment_form t ≡ true) × (continues rest ≡ true) × AreParts depth rest
AreParts depth (gap combinator at t rest) = (is_combinator t ≡ true) × (begins_compound rest ≡ true) × AreParts depth rest
AreParts depth (simple k at t rest) = (is_simple k t ≡ true) × (follows_simple rest ≡ true) × AreParts depth rest
AreParts depth (plain k at t args rest) =
    (is_simple k t ≡ true) × (takes_args t ≡ true) × (depth < most_depth) × (is_plain (takes_list t) (suc depth) args ≡ true)
    × (follows_simple rest ≡ true) × AreParts depth rest
AreParts depth (nested k at t inner rest) =
    (is_simple k t ≡ true) × (takes_list t ≡ true) × (depth < most_depth) × (begins_complex inner ≡ true) × AreParts (suc depth) inner
    × (follows_simple rest ≡ true) × AreParts depth rest

-- Each part's first byte, where the first part stands at the byte `at`.
abbrev pub StandAt : ℕ → Tree → Type 0
StandAt at none = Unit {0}
StandAt at (comma rest) = StandAt (at + 1) rest
StandAt at (gap k a t rest) = (a ≡ at) × StandAt (at + byte_len t) rest
StandAt at (simple k a t rest) = (a ≡ at) × StandAt (at + byte_len t) rest
StandAt at (plain k a t args rest) = (a ≡ at) × StandAt (at + byte_len t + 1 + byte_len args + 1) rest
StandAt at (nested k a t inner rest) =
    (a ≡ at) × StandAt (at + byte_len t + 1) inner × StandAt (at + byte_len t + 1 + byte_len (written inner) + 1) rest

-- The parts are a text's. There are at most one such parts for each text.
pub record Selects (s : List ℕ) (parts : Tree) : Type 0 where
  pub text : written parts ≡ s
  pub begins : begins_complex parts ≡ true
  pub are : AreParts 0 parts
  pub places : StandAt 0 parts
