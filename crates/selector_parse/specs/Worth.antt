-- How specific selectors are.
use Rattle.std.specs.Prelude.{ℕ, suc, ◌+◌, Bool, false, ◌==◌, ◌&&◌, ◌||◌, nat_lt, if◌then◌else◌, List, [], ◌∷◌, codes, min, max}
use Rattle.std.specs.List.{ends_with}
use Rattle.selector_parse.specs.declared.part.PartKind.{PartKind}
use Rattle.selector_parse.specs.declared.part.PartKind.TheVariants.{Element, Id, Class, Attribute, PseudoClass, PseudoElement}
use Rattle.selector_parse.specs.declared.part.Part.{Part}
use Rattle.selector_parse.specs.declared.part.Complex.{Complex}
use Rattle.selector_parse.specs.declared.part.Selectors.{Selectors}
use Rattle.selector_parse.specs.declared.part.Args.{Args}
use Rattle.selector_parse.specs.declared.part.Specificity.{Specificity}
use Rattle.selector_parse.specs.declared.part.Args.TheOpen.{Args-F, Part-F, Complex-F, Selectors-F, Absent, Plain, List as Listed}
use Rattle.selector_parse.specs.declared.part.Args.TheFolds.{fold-Args, fold-Part, fold-Complex, fold-Selectors}
use Rattle.selector_parse.specs.declared.tally.Counts.{Counts}
use Rattle.selector_parse.specs.Forms.{is_star}
use Rattle.selector_parse.specs.Names.{spelled, takes_list}

abbrev pub counts : ℕ → ℕ → ℕ → Counts
counts a b c = record { a = a; b = b; c = c }

abbrev pub nothing : Counts
nothing = counts 0 0 0

abbrev pub plus : Counts → Counts → Counts
plus x y = counts (x.a + y.a) (x.b + y.b) (x.c + y.c)

-- by the first numbers, then the second, then the third
abbrev pub is_less : Counts → Counts → Bool
is_less x y = nat_lt x.a y.a || (x.a == y.a && (nat_lt x.b y.b || (x.b == y.b && nat_lt x.c y.c)))

abbrev pub greater : Counts → Counts → Counts
greater x y = if is_less x y then y else x

abbrev pub sum_from : Counts → List Counts → Counts
sum_from x [] = x
sum_from x (y ∷ ys) = sum_from (plus x y) ys

abbrev pub greatest_from : Counts → List Counts → Counts
greatest_from x [] = x
greatest_from x (y ∷ ys) = greatest_from (greater x y) ys

-- an Element's name is *: the text is * or ends with |*
unfoldable pub names_all : List ℕ → Bool
names_all t = is_star t || ends_with ◌==◌ t (codes "|*")

unfoldable pub is_where : List ℕ → Bool
is_where [] = false
is_where (c ∷ cs) = c == 58 && spelled (codes "where") cs

-- what a simple selector counts without arguments
abbrev pub own : PartKind → List ℕ → Counts
own Id t = counts 1 0 0
own Class t = counts 0 1 0
own Attribute t = counts 0 1 0
own PseudoClass t = if is_where t then nothing else counts 0 1 0
own PseudoElement t = counts 0 0 1
own Element t = if names_all t then nothing else counts 0 0 1
own k t = nothing

-- arguments: none, no list, or a list whose greatest counts are these
pub data ArgsWorth : Type 0 where
  no_args : ArgsWorth
  no_list : ArgsWorth
  list_of : Counts → ArgsWorth

-- :is, :not, :has and :where
abbrev pub is_group : PartKind → List ℕ → Bool
is_group PseudoClass t = takes_list t
is_group k t = false

abbrev pub worth : PartKind → List ℕ → ArgsWorth → Counts
worth k t no_args = own k t
worth k t no_list = if is_group k t then nothing else own k t
worth k t (list_of x) = if is_group k t then (if is_where t then nothing else x) else own k t

-- one layer of each type, the layers below given
abbrev pub args_worth : Args-F ArgsWorth Counts Counts Counts → ArgsWorth
args_worth Absent = no_args
args_worth (Plain t) = no_list
args_worth (Listed x) = list_of x

abbrev pub complex_worth : Complex-F ArgsWorth Counts Counts Counts → Counts
complex_worth c = sum_from nothing c.parts.items

abbrev pub part_worth : Part-F ArgsWorth Counts Counts Counts → Counts
part_worth p = worth p.kind p.text p.args

abbrev pub selectors_worth : Selectors-F ArgsWorth Counts Counts Counts → Counts
selectors_worth s = greatest_from nothing s.list.items

-- What arguments, a part, a complex selector and a list count, in plain numbers.
abbrev pub worth_of_args : Args → ArgsWorth
worth_of_args = fold-Args ArgsWorth Counts Counts Counts args_worth complex_worth part_worth selectors_worth

abbrev pub worth_of_part : Part → Counts
worth_of_part = fold-Part ArgsWorth Counts Counts Counts args_worth complex_worth part_worth selectors_worth

abbrev pub worth_of_complex : Complex → Counts
worth_of_complex = fold-Complex ArgsWorth Counts Counts Counts args_worth complex_worth part_worth selectors_worth

abbrev pub worth_of_list : Selectors → Counts
worth_of_list = fold-Selectors ArgsWorth Counts Counts Counts args_worth complex_worth part_worth selectors_worth

-- each number cut to 65,535
abbrev pub cut : Counts → Specificity
cut x = record { a = min x.a 65535; b = min x.b 65535; c = min x.c 65535 }

abbrev pub deepest : List ℕ → ℕ
deepest [] = 0
deepest (n ∷ ns) = max n (deepest ns)

-- how many lists of arguments stand inside one another
abbrev pub args_depth : Args-F ℕ ℕ ℕ ℕ → ℕ
args_depth Absent = 0
args_depth (Plain t) = 0
args_depth (Listed n) = suc n

abbrev pub complex_depth : Complex-F ℕ ℕ ℕ ℕ → ℕ
complex_depth c = deepest c.parts.items

abbrev pub part_depth : Part-F ℕ ℕ ℕ ℕ → ℕ
part_depth p = p.args

abbrev pub selectors_depth : Selectors-F ℕ ℕ ℕ ℕ → ℕ
selectors_depth s = deepest s.list.items

abbrev pub depth_of_args : Args → ℕ
depth_of_args = fold-Args ℕ ℕ ℕ ℕ args_depth complex_depth part_depth selectors_depth

abbrev pub depth_of_part : Part → ℕ
depth_of_part = fold-Part ℕ ℕ ℕ ℕ args_depth complex_depth part_depth selectors_depth

abbrev pub depth_of_complex : Complex → ℕ
depth_of_complex = fold-Complex ℕ ℕ ℕ ℕ args_depth complex_depth part_depth selectors_depth

abbrev pub depth_of_list : Selectors → ℕ
depth_of_list = fold-Selectors ℕ ℕ ℕ ℕ args_depth complex_depth part_depth selectors_depth

-- the proof's own: all that is counted
abbrev pub size : Counts → ℕ
size x = x.a + x.b + x.c
