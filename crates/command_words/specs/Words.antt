-- What a command's words ask for. A word is the list of its characters.
use Rattle.std.specs.Prelude.{ℕ, suc, ◌==◌, ◌&&◌, not, nat_eq, nat_le, List, [], ◌∷◌, ◌++◌, length, count_by, Bool, true, false, Option, Some, None, is_some, codes, string_bytes, if◌then◌else◌}
use Rattle.std.specs.declared.string.String.{String}
use Rattle.std.specs.declared.alloc.Global.{Global}
use Rattle.std.specs.Str.{chars}
use Rattle.std.specs.List.{list_any, list_all}
use Rattle.std.specs.Char.{is_ascii_digit}
use Rattle.std.specs.Str.Parse.{digits_value}
use Rattle.std.specs.Option.{option_map}
use Rattle.css_tree.specs.Changes.{same_text}
use Rattle.command_words.specs.declared.options.OptionName.{OptionName}
use Rattle.command_words.specs.declared.options.OptionName.TheVariants.{Use, Budget, EditBudget, Trace}

abbrev pub word : String Global → List ℕ
word w = chars (string_bytes w)

-- how an option is written
abbrev pub written : OptionName → List ℕ
written Use = codes "--use"
written Budget = codes "--budget"
written EditBudget = codes "--edit-budget"
written Trace = codes "--trace"

-- all others are flags
abbrev pub takes_value : OptionName → Bool
takes_value Trace = false
takes_value _ = true

-- the options of `transform`, and how many plain words it takes
abbrev pub transform_options : List OptionName
transform_options = Use ∷ Budget ∷ EditBudget ∷ Trace ∷ []

abbrev pub transform_plain : ℕ
transform_plain = 0

-- those of `lint`
abbrev pub lint_options : List OptionName
lint_options = []

abbrev pub lint_plain : ℕ
lint_plain = 0

-- of these options the one that is written so
abbrev pub option_in : List OptionName → List ℕ → Option OptionName
option_in [] w = None
option_in (name ∷ names) w = if same_text w (written name) then Some name else option_in names w

-- a value, and a plain word, isn't empty and doesn't begin with `-`
abbrev pub is_value : List ℕ → Bool
is_value [] = false
is_value (c ∷ cs) = not (c == 45)

-- `--`, which ends the options
abbrev pub is_end : List ℕ → Bool
is_end w = same_text w (codes "--")

-- An option as it is given. A flag has the empty value.
pub record Given : Type 0 where
  pub name : OptionName
  pub value : List ℕ

-- the options and the plain words that words give, each in their order
pub record Taken : Type 0 where
  pub options : List Given
  pub plain : List (List ℕ)

-- one of them
pub data Item : Type 0 where
  Optional : Given → Item
  Plain : List ℕ → Item

abbrev pub and_then : Item → Taken → Taken
and_then (Optional g) t = record { options = g ∷ t.options; plain = t.plain }
and_then (Plain w) t = record { options = t.options; plain = w ∷ t.plain }

abbrev pub and_item : Option Item → Option Taken → Option Taken
and_item None t = None
and_item (Some i) t = option_map (and_then i) t

-- what stands before a text's first `=`, and what stands after it
abbrev pub cut : List ℕ → Option (List ℕ × List ℕ)
cut [] = None
cut (c ∷ cs) = if c == 61 then Some ([], cs) else option_map (λ x. (c ∷ x.0, x.1)) (cut cs)

abbrev pub valued : Option OptionName → List ℕ → Option Item
valued None value = None
valued (Some name) value = if takes_value name && is_value value then Some (Optional (record { name = name; value = value })) else None

abbrev pub flagged : OptionName → Option Item
flagged name = if takes_value name then None else Some (Optional (record { name = name; value = [] }))

abbrev pub joined : List OptionName → Option (List ℕ × List ℕ) → Option Item
joined known None = None
joined known (Some x) = valued (option_in known x.0) x.1

abbrev pub flag_or_joined : List OptionName → Option OptionName → List ℕ → Option Item
flag_or_joined known None w = joined known (cut w)
flag_or_joined known (Some name) w = flagged name

-- a word that is whole by itself: a plain one, a flag, or an option with its value after `=`
abbrev pub alone : List OptionName → List ℕ → Option Item
alone known w = if is_value w then Some (Plain w) else flag_or_joined known (option_in known w) w

-- the word is an option whose value is the next word
abbrev pub awaits_value : Option OptionName → Bool
awaits_value None = false
awaits_value (Some name) = takes_value name

-- what words give behind others, where they give anything
abbrev pub behind : Taken → Option Taken → Option Taken
behind s more = option_map (λ t. record { options = s.options ++ t.options; plain = s.plain ++ t.plain }) more

-- words behind `--`: all of them are plain
abbrev pub all_plain : List (List ℕ) → Option Taken
all_plain ws = if list_all is_value ws then Some (record { options = []; plain = ws }) else None

-- What the words give to a command with these options; none where a word is none of its options, has no value that it should have, or is
-- no plain word.
abbrev pub taken : List OptionName → List (List ℕ) → Option Taken
taken known [] = all_plain []
taken known (w ∷ []) = if is_end w then all_plain [] else and_item (alone known w) (all_plain [])
taken known (w ∷ v ∷ ws) =
    if is_end w then all_plain (v ∷ ws)
    else if awaits_value (option_in known w) then and_item (valued (option_in known w) v) (taken known ws)
    else and_item (alone known w) (taken known (v ∷ ws))

abbrev pub option_number : OptionName → ℕ
option_number Use = 0
option_number Budget = 1
option_number EditBudget = 2
option_number Trace = 3

abbrev pub is_of : OptionName → Given → Bool
is_of name g = nat_eq (option_number name) (option_number g.name)

-- the value of an option, where it is given
abbrev pub value_of : OptionName → List Given → Option (List ℕ)
value_of name [] = None
value_of name (g ∷ gs) = if is_of name g then Some g.value else value_of name gs

-- the option stands at most once
abbrev pub is_once : List Given → OptionName → Bool
is_once gs name = nat_le (count_by (is_of name) gs) 1

-- each of a command's options stands at most once, and it has no more plain words than it takes
abbrev pub fits : List OptionName → ℕ → Taken → Bool
fits known most t = list_all (is_once t.options) known && nat_le (length t.plain) most

-- the number of at most `most` that one to ten digits write
abbrev pub number : ℕ → List ℕ → Option ℕ
number most t =
    if list_all is_ascii_digit t && (nat_le 1 (length t) && (nat_le (length t) 10 && nat_le (digits_value 10 t) most)) then Some (digits_value 10 t)
    else None

-- the most of a budget
abbrev pub most_budget : ℕ
most_budget = 20000000

abbrev pub with_first : ℕ → List (List ℕ) → List (List ℕ)
with_first c [] = (c ∷ []) ∷ []
with_first c (t ∷ ts) = (c ∷ t) ∷ ts

-- the texts between commas
abbrev pub between_commas : List ℕ → List (List ℕ)
between_commas [] = [] ∷ []
between_commas (c ∷ cs) = if c == 44 then [] ∷ between_commas cs else with_first c (between_commas cs)

-- the place of the first of the names that is this one
abbrev pub place_of_name : List (List ℕ) → List ℕ → Option ℕ
place_of_name [] t = None
place_of_name (n ∷ ns) t = if same_text n t then Some 0 else option_map suc (place_of_name ns t)

abbrev pub are_different : List (List ℕ) → Bool
are_different [] = true
are_different (t ∷ ts) = not (list_any (same_text t) ts) && are_different ts

abbrev pub and_places : Option ℕ → Option (List ℕ) → Option (List ℕ)
and_places None is = None
and_places (Some i) is = option_map (λ js. i ∷ js) is

-- the places of these names, each of which is there and isn't empty
abbrev pub places_of : List (List ℕ) → List (List ℕ) → Option (List ℕ)
places_of names [] = Some []
places_of names ([] ∷ ts) = None
places_of names ((c ∷ cs) ∷ ts) = and_places (place_of_name names (c ∷ cs)) (places_of names ts)

-- the places of the plugins that are named, with commas between the names, no name twice
abbrev pub picked_by : List (List ℕ) → List ℕ → Option (List ℕ)
picked_by names t = if are_different (between_commas t) then places_of names (between_commas t) else None

-- what the options of `transform` ask for: the places of the picked plugins among all names, the budgets that are given, and the trace
pub record Options : Type 0 where
  pub picked : List ℕ
  pub budget : Option ℕ
  pub edit_budget : Option ℕ
  pub trace : Bool

-- an option's value, where it is given, as it is read
abbrev pub if_given : {A : Type 0} → (List ℕ → Option A) → Option (List ℕ) → Option (Option A)
if_given read None = Some None
if_given read (Some t) = option_map (λ x. Some x) (read t)

abbrev pub or_none : Option (List ℕ) → List ℕ
or_none None = []
or_none (Some is) = is

abbrev pub options_from : Option (Option (List ℕ)) → Option (Option ℕ) → Option (Option ℕ) → Bool → Option Options
options_from (Some picked) (Some budget) (Some edit_budget) trace = Some (record { picked = or_none picked; budget = budget; edit_budget = edit_budget; trace = trace })
options_from _ _ _ trace = None

abbrev pub options_of : List (List ℕ) → List Given → Option Options
options_of names gs =
    options_from (if_given (picked_by names) (value_of Use gs)) (if_given (number most_budget) (value_of Budget gs)) (if_given (number most_budget) (value_of EditBudget gs)) (is_some (value_of Trace gs))

-- what the program can be asked to do
pub data Command : Type 0 where
  Transform : Options → Command
  Lint : Command

abbrev pub transform_of : List (List ℕ) → Option Taken → Option Command
transform_of names None = None
transform_of names (Some t) = if fits transform_options transform_plain t then option_map Transform (options_of names t.options) else None

abbrev pub lint_of : Option Taken → Option Command
lint_of None = None
lint_of (Some t) = if fits lint_options lint_plain t then Some Lint else None

-- the command of that name with those words
abbrev pub command_with : List (List ℕ) → List ℕ → List (List ℕ) → Option Command
command_with names name words =
    if same_text name (codes "transform") then transform_of names (taken transform_options words)
    else if same_text name (codes "lint") then lint_of (taken lint_options words)
    else None

-- The command that the words ask for, where the plugins have these names: the first word names the command.
unfoldable pub command_of : List (List ℕ) → List (List ℕ) → Option Command
command_of names [] = None
command_of names (w ∷ ws) = command_with names w ws
