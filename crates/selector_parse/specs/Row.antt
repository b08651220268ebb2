-- The proof's own: what has been read of selectors, by the bytes at which it stands.
use Rattle.std.specs.Prelude.{◌≡◌, ◌≤◌, ◌<◌, ℕ, suc, ◌+◌, List, [], ◌∷◌, ◌++◌, length, drop, map, encode_utf8_all, Bool, true, false, ◌==◌, ◌||◌, ◌&&◌, nat_lt, nat_le, slice_index, Option, Some, None}
use Rattle.css_text.specs.Ahead.{byte_len}
use Rattle.selector_parse.specs.declared.part.PartKind.{PartKind}
use Rattle.selector_parse.specs.declared.part.PartKind.TheVariants.{Blank as BlankPart, Combinator}
use Rattle.selector_parse.specs.declared.part.Part.{Part}
use Rattle.selector_parse.specs.declared.part.Complex.{Complex}
use Rattle.selector_parse.specs.declared.phase.Phase.{Phase}
use Rattle.selector_parse.specs.declared.phase.Phase.TheVariants.{Fresh, Open, Inside, Trailing}
use Rattle.selector_parse.specs.declared.reading.Gap.{Gap}
use Rattle.selector_parse.specs.declared.reading.Gap.TheVariants.{Comments, Spaced, Symbol}
use Rattle.selector_parse.specs.declared.reading.Reading.{Reading}
use Rattle.selector_parse.specs.declared.reading.Reading.TheVariants.{Blank, Done}
use Rattle.selector_parse.specs.declared.placed.Failure.{Failure}
use Rattle.selector_parse.specs.declared.placed.Failure.TheVariants.{At, Memory}
use Rattle.selector_parse.specs.Reading.{step, is_final, read, scan_len, scan_last}
use Rattle.selector_parse.specs.Machine.{Place, at_start, in_simple, Stand, follow, Blocked, Stuck, Matches, Calm, Moves}
use Rattle.selector_parse.specs.Tree.{Tree, none, comma, gap, simple, plain, nested, written, Arguments, absent, text, list, part_before, complex_before, in_turn, after_commas, with_commas}
use Rattle.selector_parse.specs.Names.{takes_args, takes_list}
use Rattle.selector_parse.specs.Normal.{joined, after_commas as texts_after}
use Rattle.selector_parse.specs.Grammar.{most_depth}
use Rattle.selector_parse.specs.Phases.{Are, may_end, is_plain}

-- parts before others
abbrev pub followed : Tree → Tree → Tree
followed none q = q
followed (comma rest) q = comma (followed rest q)
followed (gap k at t rest) q = gap k at t (followed rest q)
followed (simple k at t rest) q = simple k at t (followed rest q)
followed (plain k at t args rest) q = plain k at t args (followed rest q)
followed (nested k at t inner rest) q = nested k at t inner (followed rest q)

-- arguments with their parentheses
abbrev pub enclosed : Arguments → List ℕ
enclosed absent = []
enclosed (text t) = 40 ∷ (t ++ 41 ∷ [])
enclosed (list inner) = 40 ∷ (written inner ++ 41 ∷ [])

-- texts that are left, the first of all among them or not
abbrev pub rest_joined : Bool → List (List ℕ) → List ℕ
rest_joined true xs = joined xs
rest_joined false xs = texts_after xs

-- The parts stand from the byte `start` up to the byte `end`, from the phase p to the phase q.
pub record IsRow (bs : List ℕ) (start depth : ℕ) (p : Phase) (parts : Tree) (q : Phase) (end : ℕ) : Type 0 where
  pub ahead : List ℕ
  pub fits : end ≤ length bs
  pub here : drop end bs ≡ encode_utf8_all ahead
  pub text : drop start bs ≡ encode_utf8_all (written parts ++ ahead)
  pub size : end ≡ start + byte_len (written parts)
  pub are : Are depth p start parts q
  pub moves : Moves depth p q (written parts) ahead

-- The parts stand there from the start of a complex selector to where one may end.
pub record IsEnded (bs : List ℕ) (start depth : ℕ) (parts : Tree) (end : ℕ) : Type 0 where
  pub last : Phase
  pub row : IsRow bs start depth Fresh parts last end
  pub ends : may_end last ≡ true

-- the parts of a complex selector and of a list
abbrev pub complex_parts : List Part → Tree
complex_parts ps = in_turn (map part_before ps) none

abbrev pub after_list : List Complex → Tree
after_list cs = after_commas (map complex_before cs)

-- complex selectors that are left, the first of all among them or not
abbrev pub rest_list : Bool → List Complex → Tree
rest_list true cs = with_commas (map complex_before cs)
rest_list false cs = after_commas (map complex_before cs)

abbrev pub comma_unless : Bool → List ℕ
comma_unless true = []
comma_unless false = 44 ∷ []

abbrev pub list_parts : List Complex → Tree
list_parts cs = with_commas (map complex_before cs)

-- Text that has been read as a whole stands there, up to a `)` directly before the byte `end`.
pub record IsClosedText (bs : List ℕ) (from : ℕ) (start : Reading) (args : Arguments) (end : ℕ) : Type 0 where
  pub inner : List ℕ
  pub is : args ≡ text inner
  pub ahead : List ℕ
  pub fits : end ≤ length bs
  pub here : drop end bs ≡ encode_utf8_all ahead
  pub front : drop from bs ≡ encode_utf8_all (inner ++ 41 ∷ ahead)
  pub size : end ≡ from + byte_len inner + 1
  pub last : Reading
  pub last_is : last ≡ scan_last start (drop from bs)
  pub reads : read start inner ≡ Some last
  pub final : is_final last ≡ true
  pub stuck : step last 41 ≡ None

-- a text's end after its `(`
abbrev pub closed : Arguments → List ℕ
closed absent = []
closed (text t) = t ++ 41 ∷ []
closed (list inner) = written inner ++ 41 ∷ []

-- The arguments are right where they would be a list, inside so many parentheses with their own.
abbrev pub FitList : ℕ → ℕ → Arguments → Type 0
FitList depth at absent = ⊥
FitList depth at (text t) = is_plain true depth t ≡ true
FitList depth at (list inner) = (q : Phase) × ((may_end q ≡ true) × Are depth Fresh at inner q)

-- The arguments are right after this name, inside so many parentheses.
abbrev pub Fit : ℕ → List ℕ → ℕ → Arguments → Type 0
Fit depth name at absent = Unit {0}
Fit depth name at (text t) = (takes_args name ≡ true) × (depth < most_depth) × (is_plain (takes_list name) (suc depth) t ≡ true)
Fit depth name at (list inner) = (takes_list name ≡ true) × (depth < most_depth) × ((q : Phase) × ((may_end q ≡ true) × Are (suc depth) Fresh (at + 1) inner q))

abbrev pub reads_blanks : Reading → Bool
reads_blanks (Blank Comments) = true
reads_blanks (Blank Spaced) = true
reads_blanks q = false

-- blanks alone stand there, up to a `)`
abbrev pub is_blank_list : List ℕ → ℕ → Bool
is_blank_list bs from = reads_blanks (scan_last (Blank Comments) (drop from bs)) && slice_index bs (from + scan_len (Blank Comments) (drop from bs)) == 41

-- Reading halts at the byte e: so much of the text is the front of parts that may end, and no more of it is.
pub record IsHalt (bs : List ℕ) (at depth : ℕ) (p : Phase) (e : ℕ) : Type 0 where
  pub front : List ℕ
  pub back : List ℕ
  pub fits : at ≤ length bs
  pub text : drop at bs ≡ encode_utf8_all (front ++ back)
  pub size : e ≡ at + byte_len front
  pub parts : Tree
  pub more : List ℕ
  pub last : Phase
  pub ends : may_end last ≡ true
  pub are : Are depth p at parts last
  pub goes : written parts ≡ front ++ more
  pub blocked : (m : Place) → Matches p m → Calm depth p m (front ++ back) → (s : Stand) × ((follow depth m front ≡ Some s) × Blocked s.0 s.1 back)

-- want of memory
abbrev pub OnlyMemory : Failure → Type 0
OnlyMemory (At e) = ⊥
OnlyMemory (Memory e) = Unit {0}

abbrev pub Halts : List ℕ → ℕ → ℕ → Phase → Failure → Type 0
Halts bs at depth p (At e) = IsHalt bs at depth p e
Halts bs at depth p (Memory e) = Unit {0}

-- The same for arguments, after the name of a simple selector.
pub record IsNameHalt (bs : List ℕ) (from depth : ℕ) (name : List ℕ) (e : ℕ) : Type 0 where
  pub front : List ℕ
  pub back : List ℕ
  pub fits : from ≤ length bs
  pub text : drop from bs ≡ encode_utf8_all (front ++ back)
  pub size : e ≡ from + byte_len front
  pub args : Arguments
  pub more : List ℕ
  pub fit : Fit depth name from args
  pub goes : enclosed args ≡ front ++ more
  pub blocked : (q : Reading) → is_final q ≡ true → Stuck q (front ++ back) → (s : Stand) × ((follow depth (in_simple q name) front ≡ Some s) × Blocked s.0 s.1 back)

abbrev pub NameHalts : List ℕ → ℕ → ℕ → List ℕ → Failure → Type 0
NameHalts bs from depth name (At e) = IsNameHalt bs from depth name e
NameHalts bs from depth name (Memory e) = Unit {0}

-- The same for a list of arguments.
pub record IsListHalt (bs : List ℕ) (from depth : ℕ) (e : ℕ) : Type 0 where
  pub front : List ℕ
  pub back : List ℕ
  pub fits : from ≤ length bs
  pub text : drop from bs ≡ encode_utf8_all (front ++ back)
  pub size : e ≡ from + byte_len front
  pub args : Arguments
  pub more : List ℕ
  pub fit : FitList depth from args
  pub goes : closed args ≡ front ++ more
  pub blocked : (s : Stand) × ((follow depth (at_start true) front ≡ Some s) × Blocked s.0 s.1 back)

abbrev pub ListHalts : List ℕ → ℕ → ℕ → Failure → Type 0
ListHalts bs from depth (At e) = IsListHalt bs from depth e
ListHalts bs from depth (Memory e) = Unit {0}

-- The same for text up to a `)`.
pub record IsTextHalt (bs : List ℕ) (from : ℕ) (start : Reading) (e : ℕ) : Type 0 where
  pub front : List ℕ
  pub back : List ℕ
  pub fits : from ≤ length bs
  pub text : drop from bs ≡ encode_utf8_all (front ++ back)
  pub size : e ≡ from + byte_len front
  pub end_is : e ≡ from + scan_len start (drop from bs)
  pub last : Reading
  pub last_is : last ≡ scan_last start (drop from bs)
  pub reads : read start front ≡ Some last
  pub stuck : Stuck last back
  pub open_text : (is_final last && slice_index bs e == 41) ≡ false

abbrev pub TextHalts : List ℕ → ℕ → Reading → Failure → Type 0
TextHalts bs from q (At e) = IsTextHalt bs from q e
TextHalts bs from q (Memory e) = Unit {0}

pub record IsListText (bs : List ℕ) (from depth : ℕ) (args : Arguments) (end : ℕ) : Type 0 where
  pub ahead : List ℕ
  pub fits : end ≤ length bs
  pub here : drop end bs ≡ encode_utf8_all ahead
  pub front : drop from bs ≡ encode_utf8_all (closed args ++ ahead)
  pub size : end ≡ from + byte_len (closed args)
  pub fit : FitList depth from args
  pub moves : (d : ℕ) → depth ≡ suc d → follow depth (at_start true) (closed args) ≡ Some (d, in_simple Done [])

pub record IsArguments (bs : List ℕ) (from depth : ℕ) (name : List ℕ) (args : Arguments) (end : ℕ) : Type 0 where
  pub ahead : List ℕ
  pub fits : end ≤ length bs
  pub here : drop end bs ≡ encode_utf8_all ahead
  pub front : drop from bs ≡ encode_utf8_all (enclosed args ++ ahead)
  pub size : end ≡ from + byte_len (enclosed args)
  pub fit : Fit depth name from args
  pub moves : (q : Reading) → is_final q ≡ true → Stuck q (enclosed args ++ ahead) → (n : Place) × ((follow depth (in_simple q name) (enclosed args) ≡ Some (depth, n)) × Matches Inside n × Calm depth Inside n ahead)

-- which part a gap is, and what may follow, by whether the complex selector ends after it; none for comments in a compound
abbrev pub gap_choice : Phase → Gap → Bool → Option (PartKind × Phase)
gap_choice p Symbol ends = Some (Combinator, Open)
gap_choice Fresh g ends = Some (BlankPart, Open)
gap_choice p g true = Some (BlankPart, Trailing)
gap_choice p Spaced false = Some (Combinator, Open)
gap_choice p g false = None

abbrev pub takes_gap : Phase → Bool
takes_gap Fresh = true
takes_gap Inside = true
takes_gap p = false

-- at the byte stands a `)` that closes one of so many parentheses
abbrev pub closes : List ℕ → ℕ → ℕ → Bool
closes bs at depth = nat_lt 0 depth && slice_index bs at == 41

-- the text ends at the byte, or parentheses do
abbrev pub list_stops : List ℕ → ℕ → ℕ → Bool
list_stops bs at depth = nat_le (length bs) at || closes bs at depth

-- or a complex selector does
abbrev pub stops : List ℕ → ℕ → ℕ → Bool
stops bs at depth = slice_index bs at == 44 || list_stops bs at depth

-- comments alone stand there, and no complex selector ends after them
pub record IsInsideRun (bs : List ℕ) (at depth : ℕ) : Type 0 where
  pub last : scan_last (Blank Comments) (drop at bs) ≡ Blank Comments
  pub goes_on : stops bs (at + scan_len (Blank Comments) (drop at bs)) depth ≡ false
