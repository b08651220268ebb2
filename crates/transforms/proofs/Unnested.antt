-- The children of a rule that go out of it, one after another.
use Rattle.std.proofs.Common.{◌≡◌, ℕ, List, [], Bool, length, drop, Option, Some, None, Result, Ok, Err, refl, ap, sym, ◌∙◌, slice_get, inl, inr}
use Rattle.std.proofs.lemmas.Bool.{cases_lt, lt-ltb}
use Rattle.std.proofs.lemmas.List.{get_or_past}
use Rattle.node_store.specs.declared.fault.TreeFault.{TreeFault}
use Rattle.node_store.specs.declared.fault.TreeFault.TheVariants.{NoSuchNode}
use Rattle.node_store.specs.Forest.{Forest, read}
use Rattle.std.specs.Prelude.{if◌then◌else◌}
use Rattle.css_tree.specs.declared.node.NodeText.{NodeText}
use Rattle.css_tree.specs.declared.node.NodeText.TheVariants.{Root, AtRule, Rule, Declaration, Comment}
use Rattle.node_rows.specs.Nodes.{Node, no_node, text_of, children_of, IsGiven}
use Rattle.node_rows.specs.Sound.{IsSound}
use Rattle.node_rows.proofs.Behind.{child_parent}
use Rattle.node_rows.proofs.Edits.{parent-inside}
use Rattle.node_rows.proofs.Short.{child-inside}
use Rattle.plugin_api.specs.Effect.{own_selector}
use Rattle.transforms.specs.Reads.{selector_of}

pub own-is : (t : NodeText) → own_selector t ≡ drop 1 (selector_of t)
own-is (Root bom block) = refl
own-is (AtRule before name after_name params between block) = refl
own-is (Rule before selector between block) = refl
own-is (Declaration before prop between value important important_raw tail) = refl
own-is (Comment before left text right) = refl

-- a first child was given out
pub first-given : (ns : List Node) → IsSound ns → (p : ℕ) (o : Option ℕ) → slice_get (children_of ns p) 0 ≡ o → IsGiven ns o
first-given ns s p None e = tt
first-given ns s p (Some n) e = parent-inside ns n p (child_parent ns (slice_get (children_of ns p) 0) p n (child-inside ns p 0 s) e)

-- a number that was never given out has no selector
pub unread-empty : (f : Forest) (n : ℕ) (e : TreeFault) → read f n (λ x. x.text) ≡ Err e → selector_of (text_of f.nodes n) ≡ []
unread-empty f n e h = elim (cases_lt n (length f.nodes)) [
  | inl b ↦
      let r : Bool → Result NodeText TreeFault = λ t. if t then Ok (text_of f.nodes n) else Err NoSuchNode in
      absurd (let j : Ok (text_of f.nodes n) ≡ Err e = sym (ap r (lt-ltb n (length f.nodes) b)) ∙ h in cc)
  | inr g ↦ ap (λ x. selector_of x.text) (get_or_past f.nodes n no_node g)
]
