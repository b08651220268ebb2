-- Where a text stops being the front of a list of selectors.
use Rattle.std.specs.Prelude.{◌≡◌, ℕ, List, [], ◌∷◌, ◌++◌}
use Rattle.css_text.specs.Ahead.{byte_len}
use Rattle.css_text.specs.declared.stop.Stop.{Stop}
use Rattle.css_text.specs.declared.stop.Stop.TheVariants.{Fault, Memory}
use Rattle.selector_parse.specs.declared.part.SelectorFault.{SelectorFault}
use Rattle.selector_parse.specs.Tree.{Tree}
use Rattle.selector_parse.specs.Grammar.{Selects}

-- some list of selectors begins with the text
abbrev pub Begins : List ℕ → Type 0
Begins s = (more : List ℕ) × ((parts : Tree) × Selects (s ++ more) parts)

-- The first so many bytes of the text are its longest front with which a list of selectors begins.
pub record IsLongestFront (s : List ℕ) (bytes : ℕ) : Type 0 where
  pub front : List ℕ
  pub back : List ℕ
  pub text : s ≡ front ++ back
  pub size : bytes ≡ byte_len front
  pub begins : Begins front
  pub no_more : (c : ℕ) (rest : List ℕ) → back ≡ c ∷ rest → Begins (front ++ c ∷ []) → ⊥

-- The text is no list of selectors, and the fault tells how much of it could be one.
pub record IsFault (s : List ℕ) (bytes : ℕ) : Type 0 where
  pub none : (parts : Tree) → Selects s parts → ⊥
  pub longest : IsLongestFront s bytes

-- why there is no list: the text's fault, or want of memory
abbrev pub Stops : List ℕ → Stop SelectorFault → Type 0
Stops s (Fault f) = IsFault s f.at
Stops s (Memory e) = Unit {0}
