-- Selectors as the grammar sees them: parts side by side, with commas between complex selectors.
use Rattle.std.specs.Prelude.{ℕ, List, [], ◌∷◌, ◌++◌}
use Rattle.selector_parse.specs.declared.part.PartKind.{PartKind}
use Rattle.selector_parse.specs.declared.part.PartKind.TheVariants.{Blank, Comment, Combinator}
use Rattle.selector_parse.specs.declared.part.Args.TheOpen.{Args-F, Part-F, Complex-F, Selectors-F, Absent, Plain, List as Listed}
use Rattle.selector_parse.specs.declared.part.Args.TheFolds.{fold-Args, fold-Part, fold-Complex, fold-Selectors}
use Rattle.selector_parse.specs.declared.part.Args.{Args}
use Rattle.selector_parse.specs.declared.part.Part.{Part}
use Rattle.selector_parse.specs.declared.part.Complex.{Complex}
use Rattle.selector_parse.specs.declared.part.Selectors.{Selectors}

-- a run of blanks and signs
pub data GapKind : Type 0 where
  blank : GapKind
  comment : GapKind
  combinator : GapKind

-- Parts side by side, each before the parts after it: a gap; a simple selector without arguments, with the text of its
-- arguments, or with the list of them. Each has its first byte and its text.
pub data Tree : Type 0 where
  none : Tree
  comma : Tree → Tree
  gap : GapKind → ℕ → List ℕ → Tree → Tree
  simple : PartKind → ℕ → List ℕ → Tree → Tree
  plain : PartKind → ℕ → List ℕ → List ℕ → Tree → Tree
  nested : PartKind → ℕ → List ℕ → Tree → Tree → Tree

-- The text that parts make.
abbrev pub written : Tree → List ℕ
written none = []
written (comma rest) = 44 ∷ written rest
written (gap k at t rest) = t ++ written rest
written (simple k at t rest) = t ++ written rest
written (plain k at t args rest) = t ++ 40 ∷ (args ++ 41 ∷ written rest)
written (nested k at t inner rest) = t ++ 40 ∷ (written inner ++ 41 ∷ written rest)

-- the arguments of a part
pub data Arguments : Type 0 where
  absent : Arguments
  text : List ℕ → Arguments
  list : Tree → Arguments

-- a part without arguments before others
abbrev pub bare : PartKind → ℕ → List ℕ → Tree → Tree
bare Blank at t rest = gap blank at t rest
bare Comment at t rest = gap comment at t rest
bare Combinator at t rest = gap combinator at t rest
bare k at t rest = simple k at t rest

-- a part before others
abbrev pub made : PartKind → ℕ → List ℕ → Arguments → Tree → Tree
made k at t absent rest = bare k at t rest
made k at t (text args) rest = plain k at t args rest
made k at t (list inner) rest = nested k at t inner rest

-- what each of these puts before the parts after it, one after another
abbrev pub in_turn : List (Tree → Tree) → Tree → Tree
in_turn [] rest = rest
in_turn (f ∷ fs) rest = f (in_turn fs rest)

-- the same with commas between them
abbrev pub after_commas : List (Tree → Tree) → Tree
after_commas [] = none
after_commas (f ∷ fs) = comma (f (after_commas fs))

abbrev pub with_commas : List (Tree → Tree) → Tree
with_commas [] = none
with_commas (f ∷ fs) = f (after_commas fs)

-- one layer of each type, the layers below given
abbrev pub args_step : Args-F Arguments (Tree → Tree) (Tree → Tree) Tree → Arguments
args_step Absent = absent
args_step (Plain t) = text t
args_step (Listed inner) = list inner

abbrev pub complex_step : Complex-F Arguments (Tree → Tree) (Tree → Tree) Tree → Tree → Tree
complex_step c rest = in_turn c.parts.items rest

abbrev pub part_step : Part-F Arguments (Tree → Tree) (Tree → Tree) Tree → Tree → Tree
part_step p rest = made p.kind p.at p.text p.args rest

abbrev pub selectors_step : Selectors-F Arguments (Tree → Tree) (Tree → Tree) Tree → Tree
selectors_step s = with_commas s.list.items

-- The arguments of a part, a part and a complex selector before other parts, and a list.
abbrev pub args_of : Args → Arguments
args_of = fold-Args Arguments (Tree → Tree) (Tree → Tree) Tree args_step complex_step part_step selectors_step

abbrev pub part_before : Part → Tree → Tree
part_before = fold-Part Arguments (Tree → Tree) (Tree → Tree) Tree args_step complex_step part_step selectors_step

abbrev pub complex_before : Complex → Tree → Tree
complex_before = fold-Complex Arguments (Tree → Tree) (Tree → Tree) Tree args_step complex_step part_step selectors_step

abbrev pub tree_of : Selectors → Tree
tree_of = fold-Selectors Arguments (Tree → Tree) (Tree → Tree) Tree args_step complex_step part_step selectors_step
