-- The fields and raws of each kind of node, and what a node's text holds under them.
use Rattle.std.specs.Prelude.{ℕ, List, [], ◌∷◌, Bool, Option, Some, None, if◌then◌else◌}
use Rattle.css_tree.specs.declared.node.Kind.{Kind}
use Rattle.css_tree.specs.declared.node.Kind.TheVariants as K
use Rattle.css_tree.specs.declared.node.Field.{Field}
use Rattle.css_tree.specs.declared.node.Field.TheVariants as F
use Rattle.css_tree.specs.declared.node.Raw.{Raw}
use Rattle.css_tree.specs.declared.node.Raw.TheVariants as R
use Rattle.css_tree.specs.declared.node.Block.{Block}
use Rattle.css_tree.specs.declared.node.NodeText.{NodeText}
use Rattle.css_tree.specs.declared.node.NodeText.TheVariants.{Root, AtRule, Rule, Declaration, Comment}

abbrev pub kind_of : NodeText → Kind
kind_of (Root bom block) = K.Root
kind_of (AtRule before name after_name params between block) = K.AtRule
kind_of (Rule before selector between block) = K.Rule
kind_of (Declaration before prop between value important important_raw tail) = K.Declaration
kind_of (Comment before left text right) = K.Comment

-- the end of a container; none for a node without a block
abbrev pub block_of : NodeText → Option Block
block_of (Root bom block) = Some block
block_of (AtRule before name after_name params between block) = block
block_of (Rule before selector between block) = Some block
block_of (Declaration before prop between value important important_raw tail) = None
block_of (Comment before left text right) = None

abbrev pub before_of : NodeText → Option (List ℕ)
before_of (Root bom block) = None
before_of (AtRule before name after_name params between block) = before
before_of (Rule before selector between block) = before
before_of (Declaration before prop between value important important_raw tail) = before
before_of (Comment before left text right) = before

-- the text of a field, the clean one where it has a source; none where the kind has no such field
abbrev pub field_of : Field → NodeText → Option (List ℕ)
field_of F.Prop (Declaration before prop between value important important_raw tail) = Some prop
field_of F.Value (Declaration before prop between value important important_raw tail) = Some value.clean
field_of F.Important (Declaration before prop between value important important_raw tail) = Some important_raw
field_of F.Selector (Rule before selector between block) = Some selector.clean
field_of F.Name (AtRule before name after_name params between block) = Some name
field_of F.Params (AtRule before name after_name params between block) = Some params.clean
field_of F.Text (Comment before left text right) = Some text
field_of _ _ = None

-- the field as it was written
abbrev pub source_of : Field → NodeText → Option (List ℕ)
source_of F.Value (Declaration before prop between value important important_raw tail) = Some value.source
source_of F.Selector (Rule before selector between block) = Some selector.source
source_of F.Params (AtRule before name after_name params between block) = Some params.source
source_of field text = field_of field text

-- whether a declaration is marked important; none for another kind
abbrev pub important_of : NodeText → Option Bool
important_of (Declaration before prop between value important important_raw tail) = Some important
important_of _ = None

-- the flag of a container as a text: `;` or nothing
abbrev pub semicolon_text : Bool → List ℕ
semicolon_text semicolon = if semicolon then 59 ∷ [] else []

-- the raws that a container has, of a node that may be none
abbrev pub block_raw : Raw → Option Block → Option (Option (List ℕ))
block_raw R.After (Some block) = Some block.after
block_raw R.Semicolon (Some block) = Some (Some (semicolon_text block.semicolon))
block_raw _ _ = None

-- a raw, which may be absent; none where the kind has no such raw
abbrev pub raw_of : Raw → NodeText → Option (Option (List ℕ))
raw_of R.Before (Root bom block) = None
raw_of R.Before text = Some (before_of text)
raw_of R.Between (AtRule before name after_name params between block) = Some (Some between)
raw_of R.Between (Rule before selector between block) = Some (Some between)
raw_of R.Between (Declaration before prop between value important important_raw tail) = Some (Some between)
raw_of R.AfterName (AtRule before name after_name params between block) = Some (Some after_name)
raw_of R.Left (Comment before left text right) = Some (Some left)
raw_of R.Right (Comment before left text right) = Some (Some right)
raw_of R.Important (Declaration before prop between value important important_raw tail) = Some (Some important_raw)
raw_of R.Tail (Declaration before prop between value important important_raw tail) = Some (Some tail)
raw_of raw text = block_raw raw (block_of text)
