-- Texts that are to be written into a field.
use Rattle.std.specs.Prelude.{◌≡◌, ℕ, List, Bool, true, false, Option, Some, None}
use Rattle.css_tree.specs.declared.node.Field.{Field}
use Rattle.css_tree.specs.declared.node.Field.TheVariants as F
use Rattle.css_tree.specs.Changes.{same_text}
use Rattle.css_tree.specs.Clean.{clean_of}
use Rattle.node_rows.specs.declared.texts.Written.{Written}
use Rattle.node_rows.specs.declared.texts.Written.TheVariants.{Plain, Commented}

-- the text as it is written
abbrev pub text_in : Written → List ℕ
text_in (Plain t) = t
text_in (Commented s) = s.source

-- the text without its comments, where it is kept
abbrev pub clean_in : Written → Option (List ℕ)
clean_in (Plain t) = None
clean_in (Commented s) = Some s.clean

-- the fields that are kept without their comments too
abbrev pub keeps_clean : Field → Bool
keeps_clean F.Value = true
keeps_clean F.Selector = true
keeps_clean F.Params = true
keeps_clean _ = false

-- it has what the field keeps
abbrev pub IsFor : Field → Written → Type 0
IsFor field w = keeps_clean field ≡ true → clean_in w ≡ Some (clean_of (text_in w))

-- a text that may be absent is there, with the characters t
abbrev pub has_text : List ℕ → Option (List ℕ) → Bool
has_text t None = false
has_text t (Some s) = same_text t s
