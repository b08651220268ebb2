-- What each node of a reading has: its span, all its raws, the clean text of each field that has a source, and a flag that says whether its
-- mark's text is empty.
use Rattle.std.specs.Prelude.{◌≡◌, ℕ, List, [], ◌∷◌, Bool, true, false, Option, Some, None, IsSome}
use Rattle.css_tree.specs.declared.node.Block.{Block}
use Rattle.css_tree.specs.declared.node.Source.{Source}
use Rattle.css_tree.specs.declared.node.NodeText.{NodeText}
use Rattle.css_tree.specs.declared.node.NodeText.TheVariants.{Root, AtRule, Rule, Declaration, Comment}
use Rattle.css_tree.specs.Tree.{Trees, none, node, Tree}
use Rattle.css_tree.specs.Clean.{clean_of}
use Rattle.css_tree.specs.Reads.{Reads}

abbrev pub has_text : List ℕ → Bool
has_text [] = false
has_text (c ∷ cs) = true

abbrev pub IsClean : Source → Type 0
IsClean field = field.clean ≡ clean_of field.source

-- a container's end has its raw, where there is a container
abbrev pub HasEnd : Option Block → Type 0
HasEnd None = Unit {0}
HasEnd (Some block) = IsSome block.after

abbrev pub IsWholeText : NodeText → Type 0
IsWholeText (Root bom block) = IsSome block.after
IsWholeText (AtRule before name after_name params between block) = IsSome before × HasEnd block × IsClean params
IsWholeText (Rule before selector between block) = IsSome before × IsSome block.after × IsClean selector
IsWholeText (Declaration before prop between value important important_raw tail) = IsSome before × IsClean value × (important ≡ has_text important_raw)
IsWholeText (Comment before left text right) = IsSome before

abbrev pub AreWhole : Trees → Type 0
AreWhole none = Unit {0}
AreWhole (node text span children rest) = IsSome span × IsWholeText text × AreWhole children × AreWhole rest

-- each node of a reading is whole
abbrev pub WholeNodes : Type 0
WholeNodes = (s : List ℕ) (t : Tree) → Reads s t → IsSome t.span × IsWholeText t.text × AreWhole t.children
