-- What the condition of an edit says, part by part.
use Rattle.std.proofs.Common.{◌≡◌, ◌≢◌, ℕ, ◌<◌, ◌≤◌, List, Bool, true, false, length, Option, Some, None, IsSome, refl, sym, arith, eqb, leb}
use Rattle.std.specs.Prelude.{not}
use Rattle.std.proofs.lemmas.Bool.{and_parts, ltb-true, eqb-false, false≢true}
use Rattle.std.proofs.lemmas.Bool.Decides.{nat_tests}
use Rattle.css_text.specs.declared.lexer.Span.{Span}
use Rattle.css_tree.specs.declared.node.Field.{Field}
use Rattle.css_tree.specs.declared.node.Raw.{Raw}
use Rattle.css_tree.specs.declared.node.Kind.{Kind}
use Rattle.css_tree.specs.declared.node.Kind.TheVariants as K
use Rattle.css_tree.specs.declared.node.NodeText.{NodeText}
use Rattle.css_tree.specs.Parts.{kind_of, block_of}
use Rattle.css_tree.specs.Changes.{takes_field, takes_raw}
use Rattle.node_rows.specs.Nodes.{Node, text_of, parent_of, children_of, holds}
use Rattle.node_store.specs.declared.item.Edit.TheVariants.{Set, SetRaw, New, Insert, Remove}
use Rattle.node_store.specs.Edits.{is_allowed, is_loose, is_root_kind}

pub not-true : (b : Bool) → not b ≡ true → b ≡ false
not-true true h = absurd (false≢true h)
not-true false h = refl

pub is-loose : (o : Option ℕ) → is_loose o ≡ true → o ≡ None
is-loose None h = refl
is-loose (Some p) h = absurd (false≢true h)

pub is-held : (o : Option ℕ) → not (is_loose o) ≡ true → (p : ℕ) × (o ≡ Some p)
is-held None h = absurd (false≢true h)
is-held (Some p) h = (p, refl)

at_most : (a b : ℕ) → leb a b ≡ true → a ≤ b
at_most a b h = grind (arith, nat_tests)

other_number : (a b : ℕ) → eqb a b ≡ false → a ≢ b
other_number a b h = eqb-false a b h

not_root : (k : Kind) → is_root_kind k ≡ false → k ≢ K.Root
not_root K.Root h = absurd (false≢true (sym h))
not_root K.AtRule h = λ e. absurd cc
not_root K.Rule h = λ e. absurd cc
not_root K.Declaration h = λ e. absurd cc
not_root K.Comment h = λ e. absurd cc

-- what an insertion needs
pub record Insertable (ns : List Node) (n p at : ℕ) : Type 0 where
  pub node_in : n < length ns
  pub parent_in : p < length ns
  pub not_first : n ≢ 0
  pub loose : parent_of ns n ≡ None
  pub apart : holds ns n p ≡ false
  pub block : IsSome (block_of (text_of ns p))
  pub place : at ≤ length (children_of ns p)

pub insertable : (ns : List Node) (n p at : ℕ) → is_allowed ns (Insert n p at) ≡ true → Insertable ns n p at
insertable ns n p at h =
    let a = and_parts _ _ h in
    let b = and_parts _ _ a.1 in
    let c = and_parts _ _ b.1 in
    let d = and_parts _ _ c.1 in
    let e = and_parts _ _ d.1 in
    let f = and_parts _ _ e.1 in
    record {
      node_in = ltb-true _ _ a.0;
      parent_in = ltb-true _ _ b.0;
      not_first = other_number _ _ (not-true _ c.0);
      loose = is-loose _ d.0;
      apart = not-true _ e.0;
      block = f.0;
      place = at_most _ _ f.1;
    }

pub removable : (ns : List Node) (n : ℕ) → is_allowed ns (Remove n) ≡ true → (p : ℕ) × (parent_of ns n ≡ Some p)
removable ns n h = is-held (parent_of ns n) h

pub settable : (ns : List Node) (n : ℕ) (field : Field) (text : List ℕ) → is_allowed ns (Set field n text) ≡ true → (n < length ns) × (takes_field field (text_of ns n) ≡ true)
settable ns n field text h = let a = and_parts _ _ h in (ltb-true _ _ a.0, a.1)

pub shapeable : (ns : List Node) (n : ℕ) (raw : Raw) (text : List ℕ) → is_allowed ns (SetRaw raw n text) ≡ true → (n < length ns) × (takes_raw raw (text_of ns n) ≡ true)
shapeable ns n raw text h = let a = and_parts _ _ h in (ltb-true _ _ a.0, a.1)

pub makeable : (ns : List Node) (n : ℕ) (text : NodeText) (span : Option Span) → is_allowed ns (New n text span) ≡ true → (n < 5000000) × (kind_of text ≢ K.Root)
makeable ns n text span h =
    let a = and_parts _ _ h in
    let b = and_parts _ _ a.1 in
    (ltb-true _ _ b.0, not_root (kind_of text) (not-true _ b.1))
