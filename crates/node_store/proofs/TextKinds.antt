-- Another field or raw leaves a node's kind, and its block where it has one.
use Rattle.std.proofs.Common.{◌≡◌, ℕ, List, Some, IsSome, refl}
use Rattle.css_tree.specs.declared.node.Field.{Field}
use Rattle.css_tree.specs.declared.node.Field.TheVariants as F
use Rattle.css_tree.specs.declared.node.Raw.{Raw}
use Rattle.css_tree.specs.declared.node.Raw.TheVariants as R
use Rattle.css_tree.specs.declared.node.NodeText.{NodeText}
use Rattle.css_tree.specs.declared.node.NodeText.TheVariants.{Root, AtRule, Rule, Declaration, Comment}
use Rattle.css_tree.specs.Parts.{kind_of, block_of}
use Rattle.css_tree.specs.Changes.{with_field, with_raw}

pub with_field-kind : (field : Field) (t : List ℕ) (x : NodeText) → kind_of (with_field field t x) ≡ kind_of x
with_field-kind F.Prop t (Declaration before prop between value important important_raw tail) = refl
with_field-kind F.Value t (Declaration before prop between value important important_raw tail) = refl
with_field-kind F.Important t (Declaration before prop between value important important_raw tail) = refl
with_field-kind F.Selector t (Rule before selector between block) = refl
with_field-kind F.Name t (AtRule before name after_name params between block) = refl
with_field-kind F.Params t (AtRule before name after_name params between block) = refl
with_field-kind F.Text t (Comment before left text right) = refl
with_field-kind _ t x = refl

pub with_field-block : (field : Field) (t : List ℕ) (x : NodeText) → block_of (with_field field t x) ≡ block_of x
with_field-block F.Prop t (Declaration before prop between value important important_raw tail) = refl
with_field-block F.Value t (Declaration before prop between value important important_raw tail) = refl
with_field-block F.Important t (Declaration before prop between value important important_raw tail) = refl
with_field-block F.Selector t (Rule before selector between block) = refl
with_field-block F.Name t (AtRule before name after_name params between block) = refl
with_field-block F.Params t (AtRule before name after_name params between block) = refl
with_field-block F.Text t (Comment before left text right) = refl
with_field-block _ t x = refl

pub with_raw-kind : (raw : Raw) (t : List ℕ) (x : NodeText) → kind_of (with_raw raw t x) ≡ kind_of x
with_raw-kind R.Before t (Root bom block) = refl
with_raw-kind R.After t (Root bom block) = refl
with_raw-kind R.Between t (Root bom block) = refl
with_raw-kind R.AfterName t (Root bom block) = refl
with_raw-kind R.Left t (Root bom block) = refl
with_raw-kind R.Right t (Root bom block) = refl
with_raw-kind R.Important t (Root bom block) = refl
with_raw-kind R.Tail t (Root bom block) = refl
with_raw-kind R.Semicolon t (Root bom block) = refl
with_raw-kind _ t x = refl

pub with_raw-block : (raw : Raw) (t : List ℕ) (x : NodeText) → IsSome (block_of x) → IsSome (block_of (with_raw raw t x))
with_raw-block R.Before t (AtRule before name after_name params between (Some block)) h = h
with_raw-block R.After t (AtRule before name after_name params between (Some block)) h = h
with_raw-block R.Between t (AtRule before name after_name params between (Some block)) h = h
with_raw-block R.AfterName t (AtRule before name after_name params between (Some block)) h = h
with_raw-block R.Left t (AtRule before name after_name params between (Some block)) h = h
with_raw-block R.Right t (AtRule before name after_name params between (Some block)) h = h
with_raw-block R.Important t (AtRule before name after_name params between (Some block)) h = h
with_raw-block R.Tail t (AtRule before name after_name params between (Some block)) h = h
with_raw-block R.Semicolon t (AtRule before name after_name params between (Some block)) h = h
with_raw-block _ t x h = h
