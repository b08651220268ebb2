-- The table of shorthand properties: the properties that each of them sets. Property names compare in lower ASCII case.
use Rattle.std.specs.Prelude.{ℕ, List, [], ◌∷◌, Bool, codes, Option, Some, None}
use Rattle.std.specs.List.{find, list_any}
use Rattle.css_tree.specs.Mark.{is_text}

-- the name of a shorthand, and those of its longhands
pub record Shorthand : Type 0 where
  pub name : List ℕ
  pub longhands : List (List ℕ)

abbrev pub shorthands : List Shorthand
shorthands =
    record { name = codes "margin"; longhands = codes "margin-top" ∷ codes "margin-right" ∷ codes "margin-bottom" ∷ codes "margin-left" ∷ [] }
    ∷ record { name = codes "padding"; longhands = codes "padding-top" ∷ codes "padding-right" ∷ codes "padding-bottom" ∷ codes "padding-left" ∷ [] }
    ∷ record { name = codes "border"; longhands = codes "border-width" ∷ codes "border-style" ∷ codes "border-color" ∷ [] }
    ∷ record { name = codes "border-width"; longhands = codes "border-top-width" ∷ codes "border-right-width" ∷ codes "border-bottom-width" ∷ codes "border-left-width" ∷ [] }
    ∷ record { name = codes "border-style"; longhands = codes "border-top-style" ∷ codes "border-right-style" ∷ codes "border-bottom-style" ∷ codes "border-left-style" ∷ [] }
    ∷ record { name = codes "border-color"; longhands = codes "border-top-color" ∷ codes "border-right-color" ∷ codes "border-bottom-color" ∷ codes "border-left-color" ∷ [] }
    ∷ record { name = codes "border-radius"; longhands = codes "border-top-left-radius" ∷ codes "border-top-right-radius" ∷ codes "border-bottom-right-radius" ∷ codes "border-bottom-left-radius" ∷ [] }
    ∷ record { name = codes "background"; longhands = codes "background-image" ∷ codes "background-size" ∷ codes "background-position" ∷ codes "background-repeat" ∷ codes "background-origin" ∷ codes "background-clip" ∷ codes "background-attachment" ∷ codes "background-color" ∷ [] }
    ∷ record { name = codes "font"; longhands = codes "font-style" ∷ codes "font-variant" ∷ codes "font-weight" ∷ codes "font-stretch" ∷ codes "font-size" ∷ codes "font-family" ∷ codes "line-height" ∷ [] }
    ∷ record { name = codes "list-style"; longhands = codes "list-style-type" ∷ codes "list-style-position" ∷ codes "list-style-image" ∷ [] }
    ∷ record { name = codes "outline"; longhands = codes "outline-color" ∷ codes "outline-style" ∷ codes "outline-width" ∷ [] }
    ∷ record { name = codes "transition"; longhands = codes "transition-property" ∷ codes "transition-duration" ∷ codes "transition-timing-function" ∷ codes "transition-delay" ∷ [] }
    ∷ record { name = codes "animation"; longhands = codes "animation-name" ∷ codes "animation-duration" ∷ codes "animation-timing-function" ∷ codes "animation-delay" ∷ codes "animation-iteration-count" ∷ codes "animation-direction" ∷ codes "animation-fill-mode" ∷ codes "animation-play-state" ∷ [] }
    ∷ record { name = codes "flex"; longhands = codes "flex-grow" ∷ codes "flex-shrink" ∷ codes "flex-basis" ∷ [] }
    ∷ record { name = codes "flex-flow"; longhands = codes "flex-direction" ∷ codes "flex-wrap" ∷ [] }
    ∷ record { name = codes "overflow"; longhands = codes "overflow-x" ∷ codes "overflow-y" ∷ [] }
    ∷ record { name = codes "gap"; longhands = codes "row-gap" ∷ codes "column-gap" ∷ [] }
    ∷ []

abbrev pub longhands_in : Option Shorthand → List (List ℕ)
longhands_in None = []
longhands_in (Some shorthand) = shorthand.longhands

-- the longhands of a property; none where it is no shorthand
abbrev pub longhands_of : List ℕ → List (List ℕ)
longhands_of prop = longhands_in (find (λ s. is_text s.name prop) shorthands)

abbrev pub is_longhand_of : List ℕ → List ℕ → Bool
is_longhand_of prop q = list_any (λ name. is_text name q) (longhands_of prop)
