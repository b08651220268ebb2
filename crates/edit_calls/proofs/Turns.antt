-- Edits that follow one another.
use Rattle.std.proofs.Common.{◌≡◌, List, [], ◌∷◌, ◌++◌, Bool, true, ◌&&◌, refl, ap, sym, ◌∙◌, subst}
use Rattle.std.proofs.lemmas.Bool.{and_parts}
use Rattle.node_rows.specs.Nodes.{Node}
use Rattle.node_store.specs.declared.item.Edit.{Edit}
use Rattle.node_store.specs.Forest.{Forest, unreserved}
use Rattle.node_store.specs.Edits.{can, all_can, apply, apply_all, edited, edited_all}
use Rattle.edit_calls.specs.Answers.{Makes}

pub both : (a b : Bool) → a ≡ true → b ≡ true → (a && b) ≡ true
both a b g h = ap (λ x. x && b) g ∙ h

all_can-append : (ns : List Node) (es fs : List Edit) → all_can ns es ≡ true → all_can (apply_all ns es) fs ≡ true → all_can ns (es ++ fs) ≡ true
all_can-append ns [] fs g h = h
all_can-append ns (e ∷ es) fs g h =
    let parts = and_parts (can ns e) (all_can (apply ns e) es) g in
    both (can ns e) (all_can (apply ns e) (es ++ fs)) parts.0 (all_can-append (apply ns e) es fs parts.1 h)

pub apply_all-append : (ns : List Node) (es fs : List Edit) → apply_all ns (es ++ fs) ≡ apply_all (apply_all ns es) fs
apply_all-append ns [] fs = refl
apply_all-append ns (e ∷ es) fs = apply_all-append (apply ns e) es fs

edited_all-append : (f : Forest) (es fs : List Edit) → edited_all f (es ++ fs) ≡ edited_all (edited_all f es) fs
edited_all-append f [] fs = refl
edited_all-append f (e ∷ es) fs = edited_all-append (edited f e) es fs

edited_all-nodes : (f : Forest) (es : List Edit) → (edited_all f es).nodes ≡ apply_all f.nodes es
edited_all-nodes f [] = refl
edited_all-nodes f (e ∷ es) = edited_all-nodes (edited f e) es

-- the nodes that edits leave
pub made-nodes : (a b : Forest) (es : List Edit) → Makes a b es → b.nodes ≡ apply_all a.nodes es
made-nodes a b es h = ap (λ f. f.nodes) h.made ∙ edited_all-nodes (unreserved a) es

pub Makes-then : (a b c : Forest) (es fs : List Edit) → Makes a b es → Makes b c fs → Makes a c (es ++ fs)
Makes-then a b c es fs h g = record {
  met = all_can-append a.nodes es fs h.met (subst (λ ns. all_can ns fs ≡ true) (made-nodes a b es h) g.met);
  made = g.made ∙ (ap (λ f. edited_all f fs) h.made ∙ sym (edited_all-append (unreserved a) es fs));
}

-- edits of a forest that only has other reserves
pub Makes-from : (a b c : Forest) (es : List Edit) → unreserved b ≡ unreserved a → Makes b c es → Makes a c es
Makes-from a b c es e h = record {
  met = subst (λ ns. all_can ns es ≡ true) (ap (λ f. f.nodes) e) h.met;
  made = h.made ∙ ap (λ f. edited_all f es) e;
}
