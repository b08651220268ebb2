-- What the definitions of a text's reading and of its warnings say.
use Rattle.std.specs.Prelude.{◌≡◌, ◌<◌, ℕ, List, [], ◌∷◌, ◌++◌, true}
use Rattle.css_tree.specs.declared.node.NodeText.{NodeText}
use Rattle.css_tree.specs.Print.{opening}
use Rattle.css_tree.specs.Reads.{Reads}
use Rattle.css_tree.specs.Tree.{Trees, Tree}
use Rattle.css_job.specs.Reading.{Reading, IsReadingOf}
use Rattle.css_job.specs.Warnings.{is_empty_block, before_brace, empty_blocks}

-- each text is read as something
abbrev pub SomeReading : Type 0
SomeReading = (s : List ℕ) → (reading : Reading) × IsReadingOf s reading

-- and as nothing else
abbrev pub OneReading : Type 0
OneReading = (s : List ℕ) (a b : Reading) → IsReadingOf s a → IsReadingOf s b → a ≡ b

-- the body of an empty block begins with what stands before the `{`, and the `{`
abbrev pub BraceFollows : Type 0
BraceFollows = (text : NodeText) (children : Trees) → is_empty_block text children ≡ true → opening text ≡ before_brace text ++ 123 ∷ []

-- each number is smaller than the next
abbrev pub Rising : List ℕ → Type 0
Rising [] = Unit {0}
Rising (x ∷ []) = Unit {0}
Rising (x ∷ y ∷ zs) = (x < y) × Rising (y ∷ zs)

-- the warnings on empty blocks are in the order of their bytes
abbrev pub InOrder : Type 0
InOrder = (s : List ℕ) (t : Tree) → Reads s t → Rising (empty_blocks t.children)
