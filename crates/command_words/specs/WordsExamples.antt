-- What words ask for, where the plugins are `a`, `b`, another `a`, and `c=d`.
use Rattle.std.specs.Prelude.{◌≡◌, ℕ, List, [], ◌∷◌, true, false, Option, Some, None, codes}
use Rattle.command_words.specs.declared.options.OptionName.TheVariants.{Use, Trace}
use Rattle.command_words.specs.Words.{Command, Transform, Lint, command_of, taken}

abbrev plugins : List (List ℕ)
plugins = codes "a" ∷ codes "b" ∷ codes "a" ∷ codes "c=d" ∷ []

abbrev asks : List (List ℕ) → Option Command
asks words = command_of plugins words

abbrev transforms : List (List ℕ) → Option Command
transforms words = asks (codes "transform" ∷ words)

abbrev options : List ℕ → Option ℕ → Option ℕ → Option Command
options picked budget edit_budget = Some (Transform (record { picked = picked; budget = budget; edit_budget = edit_budget; trace = false }))

abbrev pub Commands : Type 0
Commands = (asks (codes "lint" ∷ []) ≡ Some Lint)
    × (transforms [] ≡ options [] None None)
    × (asks [] ≡ None)
    × (asks (codes "lin" ∷ []) ≡ None)
    × (asks (codes "lint" ∷ codes "--trace" ∷ []) ≡ None)
    × (asks (codes "--trace" ∷ codes "transform" ∷ []) ≡ None)

abbrev pub GivenOptions : Type 0
GivenOptions = (transforms (codes "--trace" ∷ []) ≡ Some (Transform (record { picked = []; budget = None; edit_budget = None; trace = true })))
    × (transforms (codes "--edit-budget" ∷ codes "7" ∷ codes "--budget=0" ∷ []) ≡ options [] (Some 0) (Some 7))
    × (transforms (codes "--trace=" ∷ []) ≡ None)
    × (transforms (codes "--budget" ∷ []) ≡ None)
    × (transforms (codes "--budget" ∷ codes "-7" ∷ []) ≡ None)
    × (transforms (codes "--use" ∷ codes "--trace" ∷ []) ≡ None)
    × (transforms (codes "--trace" ∷ codes "--" ∷ []) ≡ Some (Transform (record { picked = []; budget = None; edit_budget = None; trace = true })))
    × (transforms (codes "--" ∷ codes "--trace" ∷ []) ≡ None)
    × (transforms (codes "--budget" ∷ codes "--" ∷ []) ≡ None)
    × (transforms (codes "a.css" ∷ []) ≡ None)
    × (transforms (codes "--budget=1" ∷ codes "--budget=1" ∷ []) ≡ None)

-- plain words and options in any order, and only plain words behind `--`
abbrev pub Mixed : Type 0
Mixed = (taken (Use ∷ Trace ∷ []) (codes "a.css" ∷ codes "--use=b" ∷ codes "c.css" ∷ codes "--trace" ∷ codes "--" ∷ codes "d.css" ∷ [])
    ≡ Some (record { options = record { name = Use; value = codes "b" } ∷ record { name = Trace; value = [] } ∷ []; plain = codes "a.css" ∷ codes "c.css" ∷ codes "d.css" ∷ [] }))
    × (taken (Use ∷ []) (codes "--use" ∷ codes "b=c=d" ∷ []) ≡ Some (record { options = record { name = Use; value = codes "b=c=d" } ∷ []; plain = [] }))
    × (taken (Use ∷ []) (codes "--use=b=c" ∷ []) ≡ Some (record { options = record { name = Use; value = codes "b=c" } ∷ []; plain = [] }))
    × (taken (Use ∷ []) (codes "--trace" ∷ []) ≡ None)
    × (taken (Use ∷ []) (codes "a.css" ∷ codes "--" ∷ codes "-b.css" ∷ []) ≡ None)
    × (taken (Use ∷ []) (codes "--" ∷ codes "--" ∷ []) ≡ None)
    × (taken (Use ∷ []) (codes "-" ∷ []) ≡ None)
    × (taken (Use ∷ []) ([] ∷ []) ≡ None)

abbrev pub Numbers : Type 0
Numbers = (transforms (codes "--budget=20000000" ∷ []) ≡ options [] (Some 20000000) None)
    × (transforms (codes "--budget=0000000001" ∷ []) ≡ options [] (Some 1) None)
    × (transforms (codes "--budget=20000001" ∷ []) ≡ None)
    × (transforms (codes "--budget=00000000001" ∷ []) ≡ None)
    × (transforms (codes "--budget=+1" ∷ []) ≡ None)

abbrev pub Names : Type 0
Names = (transforms (codes "--use=b,a" ∷ []) ≡ options (1 ∷ 0 ∷ []) None None)
    × (transforms (codes "--use" ∷ codes "a" ∷ []) ≡ options (0 ∷ []) None None)
    × (transforms (codes "--use=a,a" ∷ []) ≡ None)
    × (transforms (codes "--use=a," ∷ []) ≡ None)
    × (transforms (codes "--use=c=d" ∷ []) ≡ options (3 ∷ []) None None)
    × (transforms (codes "--use=e" ∷ []) ≡ None)
