-- What a change of a field or raw makes of a node's text, and which changes make nothing of it.
use Rattle.std.specs.Prelude.{ℕ, List, [], ◌∷◌, Bool, true, false, not, ◌&&◌, ◌||◌, nat_eq, Option, Some, None, is_some}
use Rattle.css_tree.specs.declared.node.Field.{Field}
use Rattle.css_tree.specs.declared.node.Field.TheVariants as F
use Rattle.css_tree.specs.declared.node.Raw.{Raw}
use Rattle.css_tree.specs.declared.node.Raw.TheVariants as R
use Rattle.css_tree.specs.declared.node.Source.{Source}
use Rattle.css_tree.specs.declared.node.Block.{Block}
use Rattle.css_tree.specs.declared.node.NodeText.{NodeText}
use Rattle.css_tree.specs.declared.node.NodeText.TheVariants.{Root, AtRule, Rule, Declaration, Comment}
use Rattle.css_tree.specs.Clean.{clean_of}
use Rattle.css_tree.specs.Parts.{field_of, raw_of}

abbrev pub same_text : List ℕ → List ℕ → Bool
same_text [] [] = true
same_text [] (y ∷ ys) = false
same_text (x ∷ xs) [] = false
same_text (x ∷ xs) (y ∷ ys) = nat_eq x y && same_text xs ys

abbrev pub is_empty_text : List ℕ → Bool
is_empty_text [] = true
is_empty_text (x ∷ xs) = false

abbrev pub same_flag : Bool → Bool → Bool
same_flag true b = b
same_flag false b = not b

-- a text as it is written, with itself without comments
abbrev pub written : List ℕ → Source
written t = record { source = t; clean = clean_of t }

-- The node text with another field. Value, selector and params take the text as it is written. A declaration is
-- marked important where the mark isn't empty.
abbrev pub with_field : Field → List ℕ → NodeText → NodeText
with_field F.Prop t (Declaration before prop between value important important_raw tail) = Declaration before t between value important important_raw tail
with_field F.Value t (Declaration before prop between value important important_raw tail) = Declaration before prop between (written t) important important_raw tail
with_field F.Important t (Declaration before prop between value important important_raw tail) = Declaration before prop between value (not (is_empty_text t)) t tail
with_field F.Selector t (Rule before selector between block) = Rule before (written t) between block
with_field F.Name t (AtRule before name after_name params between block) = AtRule before t after_name params between block
with_field F.Params t (AtRule before name after_name params between block) = AtRule before name after_name (written t) between block
with_field F.Text t (Comment before left text right) = Comment before left t right
with_field _ t x = x

abbrev pub is_written : List ℕ → Source → Bool
is_written t s = same_text t s.clean || (same_text t s.source && same_text (clean_of t) s.clean)

-- The field has that text already: the node text would stay, or the text is the clean one.
abbrev pub has_field : Field → List ℕ → NodeText → Bool
has_field F.Prop t (Declaration before prop between value important important_raw tail) = same_text t prop
has_field F.Value t (Declaration before prop between value important important_raw tail) = is_written t value
has_field F.Important t (Declaration before prop between value important important_raw tail) = same_text t important_raw && same_flag (not (is_empty_text t)) important
has_field F.Selector t (Rule before selector between block) = is_written t selector
has_field F.Name t (AtRule before name after_name params between block) = same_text t name
has_field F.Params t (AtRule before name after_name params between block) = is_written t params
has_field F.Text t (Comment before left text right) = same_text t text
has_field _ t x = true

abbrev pub with_before : List ℕ → NodeText → NodeText
with_before t (Root bom block) = Root bom block
with_before t (AtRule before name after_name params between block) = AtRule (Some t) name after_name params between block
with_before t (Rule before selector between block) = Rule (Some t) selector between block
with_before t (Declaration before prop between value important important_raw tail) = Declaration (Some t) prop between value important important_raw tail
with_before t (Comment before left text right) = Comment (Some t) left text right

-- A container's end with another raw. Its semicolon is there where the text isn't empty.
abbrev pub block_with : Raw → List ℕ → Block → Block
block_with R.After t block = record block { after = Some t }
block_with R.Semicolon t block = record block { semicolon = not (is_empty_text t) }
block_with _ t block = block

abbrev pub some_block_with : Raw → List ℕ → Option Block → Option Block
some_block_with raw t None = None
some_block_with raw t (Some block) = Some (block_with raw t block)

-- the node text with another raw
abbrev pub with_raw : Raw → List ℕ → NodeText → NodeText
with_raw R.Before t x = with_before t x
with_raw R.Between t (AtRule before name after_name params between block) = AtRule before name after_name params t block
with_raw R.Between t (Rule before selector between block) = Rule before selector t block
with_raw R.Between t (Declaration before prop between value important important_raw tail) = Declaration before prop t value important important_raw tail
with_raw R.AfterName t (AtRule before name after_name params between block) = AtRule before name t params between block
with_raw R.Left t (Comment before left text right) = Comment before t text right
with_raw R.Right t (Comment before left text right) = Comment before left text t
with_raw R.Important t (Declaration before prop between value important important_raw tail) = Declaration before prop between value important t tail
with_raw R.Tail t (Declaration before prop between value important important_raw tail) = Declaration before prop between value important important_raw t
with_raw raw t (Root bom block) = Root bom (block_with raw t block)
with_raw raw t (AtRule before name after_name params between block) = AtRule before name after_name params between (some_block_with raw t block)
with_raw raw t (Rule before selector between block) = Rule before selector between (block_with raw t block)
with_raw raw t (Declaration before prop between value important important_raw tail) = Declaration before prop between value important important_raw tail
with_raw raw t (Comment before left text right) = Comment before left text right

-- the flag of a semicolon is told by a text that is empty or not
abbrev pub is_raw_text : Raw → List ℕ → List ℕ → Bool
is_raw_text R.Semicolon t s = same_flag (is_empty_text t) (is_empty_text s)
is_raw_text _ t s = same_text t s

abbrev pub is_raw : Raw → List ℕ → Option (Option (List ℕ)) → Bool
is_raw raw t None = true
is_raw raw t (Some None) = false
is_raw raw t (Some (Some s)) = is_raw_text raw t s

-- the raw is there with that text already, or the kind has none
abbrev pub has_raw : Raw → List ℕ → NodeText → Bool
has_raw raw t x = is_raw raw t (raw_of raw x)

-- the kind has the field
abbrev pub takes_field : Field → NodeText → Bool
takes_field field x = is_some (field_of field x)

-- the kind has the raw
abbrev pub takes_raw : Raw → NodeText → Bool
takes_raw raw x = is_some (raw_of raw x)
