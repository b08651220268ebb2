-- The edits of edit calls in turn, as one call of a visitor makes them.
use Rattle.std.proofs.Common.{◌≡◌, ℕ, List, [], ◌∷◌, ◌++◌, Bool, true, ◌&&◌, map, Option, Some, None, refl, ap, sym, ◌∙◌, subst, append-nil, append_assoc}
use Rattle.std.specs.Option.{option_map}
use Rattle.std.proofs.Math.ListN.{get_or-map}
use Rattle.std.proofs.lemmas.Bool.{and_parts}
use Rattle.node_rows.specs.Nodes.{Node}
use Rattle.node_store.specs.declared.item.Edit.{Edit}
use Rattle.node_store.specs.declared.item.Item.TheVariants as I
use Rattle.node_store.specs.Forest.{Forest, Place, cursor_at, unreserved}
use Rattle.node_store.specs.Edits.{can, all_can, apply, apply_all, moved_place, moved_all, edited, edited_all}
use Rattle.plugin_api.specs.Edited.{Edited}

edited_all-text : (f : Forest) (es : List Edit) → (edited_all f es).text ≡ f.text
edited_all-text f [] = refl
edited_all-text f (e ∷ es) = edited_all-text (edited f e) es

edited_all-nodes : (f : Forest) (es : List Edit) → (edited_all f es).nodes ≡ apply_all f.nodes es
edited_all-nodes f [] = refl
edited_all-nodes f (e ∷ es) = edited_all-nodes (edited f e) es

edited_all-log : (f : Forest) (es : List Edit) → (edited_all f es).log ≡ f.log ++ map (λ e. I.Edit e) es
edited_all-log f [] = sym (append-nil f.log)
edited_all-log f (e ∷ es) = edited_all-log (edited f e) es ∙ append_assoc f.log (I.Edit e ∷ []) (map (λ x. I.Edit x) es)

edited_all-cursor : (f : Forest) (es : List Edit) (serial : ℕ) → cursor_at (edited_all f es).cursors serial ≡ moved_all f.nodes es (cursor_at f.cursors serial)
edited_all-cursor f [] serial = refl
edited_all-cursor f (e ∷ es) serial =
    edited_all-cursor (edited f e) es serial ∙ ap (moved_all (apply f.nodes e) es) (get_or-map (option_map (moved_place f.nodes e)) f.cursors serial None)

-- what an edit call made
pub edited_by : (before after : Forest) (es : List Edit) → all_can before.nodes es ≡ true → unreserved after ≡ edited_all (unreserved before) es → Edited before after es
edited_by before after es met made = record {
  met = met;
  text = ap (λ f. f.text) made ∙ edited_all-text (unreserved before) es;
  nodes = ap (λ f. f.nodes) made ∙ edited_all-nodes (unreserved before) es;
  log = ap (λ f. f.log) made ∙ edited_all-log (unreserved before) es;
  cursors = λ serial c e. ap (λ f. cursor_at f.cursors serial) made ∙ (edited_all-cursor (unreserved before) es serial ∙ ap (moved_all before.nodes es) e);
}

-- a call that was refused, or wanted memory
pub edited_unmade : (before after : Forest) → unreserved after ≡ unreserved before → Edited before after []
edited_unmade before after e = edited_by before after [] refl e

both : (a b : Bool) → a ≡ true → b ≡ true → (a && b) ≡ true
both a b g h = ap (λ x. x && b) g ∙ h

all_can-append : (ns : List Node) (es fs : List Edit) → all_can ns es ≡ true → all_can (apply_all ns es) fs ≡ true → all_can ns (es ++ fs) ≡ true
all_can-append ns [] fs g h = h
all_can-append ns (e ∷ es) fs g h =
    let parts = and_parts (can ns e) (all_can (apply ns e) es) g in
    both (can ns e) (all_can (apply ns e) (es ++ fs)) parts.0 (all_can-append (apply ns e) es fs parts.1 h)

pub apply_all-append : (ns : List Node) (es fs : List Edit) → apply_all ns (es ++ fs) ≡ apply_all (apply_all ns es) fs
apply_all-append ns [] fs = refl
apply_all-append ns (e ∷ es) fs = apply_all-append (apply ns e) es fs

items-append : (es fs : List Edit) → map (λ e. I.Edit e) (es ++ fs) ≡ map (λ e. I.Edit e) es ++ map (λ e. I.Edit e) fs
items-append [] fs = refl
items-append (e ∷ es) fs = ap (λ l. I.Edit e ∷ l) (items-append es fs)

moved_all-append : (ns : List Node) (es fs : List Edit) (c : Option Place) → moved_all ns (es ++ fs) c ≡ moved_all (apply_all ns es) fs (moved_all ns es c)
moved_all-append ns [] fs c = refl
moved_all-append ns (e ∷ es) fs c = moved_all-append (apply ns e) es fs (option_map (moved_place ns e) c)

-- an open cursor stays open
moved_all-open : (ns : List Node) (es : List Edit) (c : Place) → (d : Place) × (moved_all ns es (Some c) ≡ Some d)
moved_all-open ns [] c = (c, refl)
moved_all-open ns (e ∷ es) c = moved_all-open (apply ns e) es (moved_place ns e c)

-- the edits of one call after those of another
pub Edited-then : (a b c : Forest) (es fs : List Edit) → Edited a b es → Edited b c fs → Edited a c (es ++ fs)
Edited-then a b c es fs h g = record {
  met = all_can-append a.nodes es fs h.met (subst (λ ns. all_can ns fs ≡ true) h.nodes g.met);
  text = g.text ∙ h.text;
  nodes = g.nodes ∙ (ap (λ ns. apply_all ns fs) h.nodes ∙ sym (apply_all-append a.nodes es fs));
  log = g.log ∙ (ap (λ l. l ++ map (λ e. I.Edit e) fs) h.log ∙ (append_assoc a.log (map (λ e. I.Edit e) es) (map (λ e. I.Edit e) fs) ∙ ap (λ l. a.log ++ l) (sym (items-append es fs))));
  cursors = λ serial p e.
      let d = moved_all-open a.nodes es p in
      g.cursors serial d.0 (h.cursors serial p e ∙ d.1)
      ∙ (ap (λ ns. moved_all ns fs (Some d.0)) h.nodes ∙ (ap (moved_all (apply_all a.nodes es) fs) (sym d.1) ∙ sym (moved_all-append a.nodes es fs (Some p))));
}
