-- The normal form of selectors.
use Rattle.std.specs.Prelude.{◌≡◌, ℕ, if◌then◌else◌, List, [], ◌∷◌, ◌++◌, map, encode_utf8_all}
use Rattle.std.specs.List.Sorted.{IsPermutation, IsSorted}
use Rattle.std.specs.Cmp.Lexicographic.{slice_cmp}
use Rattle.std.specs.Ordering.{nat_cmp}
use Rattle.selector_parse.specs.declared.part.PartKind.{PartKind}
use Rattle.selector_parse.specs.declared.part.PartKind.TheVariants.{Blank as BlankPart, Comment, Combinator}
use Rattle.selector_parse.specs.declared.part.Part.{Part}
use Rattle.selector_parse.specs.declared.part.Complex.{Complex}
use Rattle.selector_parse.specs.declared.part.Selectors.{Selectors}
use Rattle.selector_parse.specs.declared.part.Args.{Args}
use Rattle.selector_parse.specs.declared.part.Args.TheOpen.{Args-F, Part-F, Complex-F, Selectors-F, Absent, Plain, List as Listed}
use Rattle.selector_parse.specs.declared.part.Args.TheFolds.{fold-Args, fold-Part, fold-Complex}
use Rattle.selector_parse.specs.declared.part.Args.TheViews.{out-Selectors}
use Rattle.selector_parse.specs.Forms.{is_symbol, after_all, blank_unit}

-- what begins with a sign, as that sign; else as a space
abbrev pub sign_at : List ℕ → ℕ
sign_at [] = 32
sign_at (c ∷ cs) = if is_symbol c then c else 32

-- the sign of a combinator, which stands after blanks; else a space
abbrev pub sign : List ℕ → ℕ
sign t = sign_at (after_all blank_unit 0 t)

abbrev pub normal_part : PartKind → List ℕ → List ℕ → List ℕ
normal_part BlankPart t args = []
normal_part Comment t args = []
normal_part Combinator t args = sign t ∷ []
normal_part k t args = t ++ args

abbrev pub all_of : List (List ℕ) → List ℕ
all_of [] = []
all_of (x ∷ xs) = x ++ all_of xs

-- texts with commas between them
abbrev pub after_commas : List (List ℕ) → List ℕ
after_commas [] = []
after_commas (x ∷ xs) = 44 ∷ (x ++ after_commas xs)

abbrev pub joined : List (List ℕ) → List ℕ
joined [] = []
joined (x ∷ xs) = x ++ after_commas xs

-- one layer of each type, the layers below given
abbrev pub args_normal : Args-F (List ℕ) (List ℕ) (List ℕ) (List ℕ) → List ℕ
args_normal Absent = []
args_normal (Plain t) = 40 ∷ (t ++ 41 ∷ [])
args_normal (Listed t) = 40 ∷ (t ++ 41 ∷ [])

abbrev pub complex_normal : Complex-F (List ℕ) (List ℕ) (List ℕ) (List ℕ) → List ℕ
complex_normal c = all_of c.parts.items

abbrev pub part_normal : Part-F (List ℕ) (List ℕ) (List ℕ) (List ℕ) → List ℕ
part_normal p = normal_part p.kind p.text p.args

abbrev pub selectors_normal : Selectors-F (List ℕ) (List ℕ) (List ℕ) (List ℕ) → List ℕ
selectors_normal s = joined s.list.items

-- Arguments, a part, a complex selector and a list in normal form, the list in its own order.
abbrev pub normal_of_args : Args → List ℕ
normal_of_args = fold-Args (List ℕ) (List ℕ) (List ℕ) (List ℕ) args_normal complex_normal part_normal selectors_normal

abbrev pub normal_of_part : Part → List ℕ
normal_of_part = fold-Part (List ℕ) (List ℕ) (List ℕ) (List ℕ) args_normal complex_normal part_normal selectors_normal

abbrev pub normal_of_complex : Complex → List ℕ
normal_of_complex = fold-Complex (List ℕ) (List ℕ) (List ℕ) (List ℕ) args_normal complex_normal part_normal selectors_normal

-- the bytes of a complex selector's normal form
abbrev pub normal_bytes : Complex → List ℕ
normal_bytes c = encode_utf8_all (normal_of_complex c)

-- The text is that of the list's complex selectors in normal form, sorted by their bytes.
pub record IsNormal (s : Selectors) (text : List ℕ) : Type 0 where
  pub texts : List (List ℕ)
  pub permutation : IsPermutation (map normal_bytes (out-Selectors s).list.items) texts
  pub sorted : IsSorted (slice_cmp nat_cmp) texts
  pub is : encode_utf8_all text ≡ joined texts
