-- Visits that stay known to be in the tree over a call.
use Rattle.std.proofs.Common.{◌≡◌, inl, inr, ℕ, ◌+◌, ◌<◌, ◌≤◌, List, [], ◌∷◌, ◌++◌, Bool, true, false, length, Option, Some, None, refl, ap, sym, ◌∙◌, subst, map, arith, cond, count_by, drop, length-append}
use Rattle.std.specs.Prelude.{IfNone, nat_eq}
use Rattle.std.proofs.lemmas.Bool.{and_parts}
use Rattle.std.proofs.lemmas.List.Sums.{sum_by-cons, sum_by-append}
use Rattle.std.proofs.Math.Seq.{drop-append_seam}
use Rattle.node_rows.specs.Nodes.{parent_of, children_of}
use Rattle.node_rows.specs.Sound.{IsSound}
use Rattle.node_rows.proofs.Climb.{same_from_eqb, or_cases}
use Rattle.node_store.specs.declared.item.Item.{Item}
use Rattle.node_store.specs.declared.item.Item.TheVariants as I
use Rattle.node_store.specs.Forest.{Forest, Place}
use Rattle.node_store.specs.Edits.{all_can, apply_all}
use Rattle.plugin_api.specs.Open.{open_total}
use Rattle.plugin_api.specs.Shelf.{PluginSeen, left_total}
use Rattle.visitor_machine.specs.Hooks.{PickedHook}
use Rattle.visitor_machine.specs.Machine.{Frame}
use Rattle.visitor_machine.specs.Settled.{IsInTree}
use Rattle.visitor_walk.specs.declared.turn.Open.{Open}
use Rattle.visitor_walk.specs.declared.turn.Due.{Due}
use Rattle.visitor_walk.specs.declared.spent.Spent.{Spent}
use Rattle.visitor_walk.specs.declared.known.Before.{Before}
use Rattle.visitor_walk.specs.Called.{CameBack}
use Rattle.visitor_walk.specs.Known.{puts_into, takes_out, counted, parent_or, before_call, lost_its_own, stays_known, kept, kept_two, CallEdits}
use Rattle.visitor_walk.specs.Turns.{AllApart, AllShown, held, IsSure, AllSure, IsPass}
use Rattle.visitor_walk.specs.Ran.{Stands}
use Rattle.visitor_walk.proofs.Staying.{stays_there}
use Rattle.visitor_walk.proofs.Knowing.{sure_as, shown_known, below_known}

-- a call that came back made edits
pub edits_of : {f g : Forest} {old new : List PluginSeen} {due : Due} {fault : Option (List ℕ)} → CameBack f g old new due fault → CallEdits f g
edits_of {f} {g} {due = due} {fault = fault} c =
    let v = c.visits in
    let e = v.visited.visited.visited.visited.edited in
    let es = v.visited.visited.visited.visited.edits in
    let at : v.at.nodes ≡ f.nodes = ap (λ (y : Forest). y.nodes) v.logged in
    let call : Item = I.Call due.plugin due.hook due.moment in
    let one : g.log ≡ c.end.log ++ I.Back fault ∷ [] = ap (λ (y : Forest). y.log) c.logged in
    let two : c.end.log ≡ v.at.log ++ map (λ e. I.Edit e) es = e.log in
    let three : v.at.log ≡ f.log ++ call ∷ [] = ap (λ (y : Forest). y.log) v.logged in
    record {
      plugin = due.plugin;
      hook = due.hook;
      moment = due.moment;
      edits = es;
      fault = fault;
      met = subst (λ ns. all_can ns es ≡ true) at e.met;
      nodes = ap (λ (y : Forest). y.nodes) c.logged ∙ (e.nodes ∙ ap (λ ns. apply_all ns es) at);
      log = one ∙ (ap (λ l. l ++ I.Back fault ∷ []) (two ∙ ap (λ l. l ++ map (λ e. I.Edit e) es) three) ∙ together f.log call (map (λ e. I.Edit e) es) (I.Back fault));
    }
  where
    together : (xs : List Item) (i : Item) (ys : List Item) (j : Item) → ((xs ++ i ∷ []) ++ ys) ++ j ∷ [] ≡ xs ++ i ∷ (ys ++ j ∷ [])
    together [] i ys j = refl
    together (x ∷ xs) i ys j = ap (λ l. x ∷ l) (together xs i ys j)

pub where_none : {A : Type 0} (P : Type 0) (o : Option A) → P → IfNone o P
where_none P None p = p
where_none P (Some x) p = tt

-- only the edits of a call count
counted_edits : (p : Item → Bool) (call back : Item) (xs : List Item) → p call ≡ false → p back ≡ false → count_by p (call ∷ (xs ++ back ∷ [])) ≡ count_by p xs
counted_edits p call back xs c b =
    let f : Item → ℕ = λ x. cond (p x) 1 0 in
    let i = sum_by-cons f call (xs ++ back ∷ []) in
    let j = sum_by-append f xs (back ∷ []) in
    let k = sum_by-cons f back [] in
    let l : f call ≡ 0 = ap (λ d. cond {A = ℕ} d 1 0) c in
    let m : f back ≡ 0 = ap (λ d. cond {A = ℕ} d 1 0) b in
    omega arith

module _ (f g : Forest) (sound : IsSound f.nodes) (some : 0 < length f.nodes) (ce : CallEdits f g) where
  abbrev call : Item
  call = I.Call ce.plugin ce.hook ce.moment

  abbrev back : Item
  back = I.Back ce.fault

  count_behind : (p : Item → Bool) → p call ≡ false → p back ≡ false → count_by p (drop (length f.log) g.log) ≡ count_by p (map (λ e. I.Edit e) ce.edits)
  count_behind p c b = ap (count_by p) (ap (drop (length f.log)) ce.log ∙ drop-append_seam f.log (call ∷ (map (λ e. I.Edit e) ce.edits ++ back ∷ []))) ∙ counted_edits p call back (map (λ e. I.Edit e) ce.edits) c b

  lost : (m n : ℕ) → lost_its_own g (length f.log) (counted f.nodes m) n ≡ true → IsInTree f.nodes n → IsInTree g.nodes n
  lost m n h t =
      let a = and_parts (nat_eq m n) _ h in
      let e : m ≡ n = same_from_eqb m n a.0 in
      let i : length (children_of g.nodes n) + count_by takes_out (drop (length f.log) g.log) ≡ length (children_of f.nodes m) + count_by (puts_into n) (drop (length f.log) g.log) = same_from_eqb _ _ a.1 in
      let j = count_behind takes_out refl refl in
      let k = count_behind (puts_into n) refl refl in
      let l : length (children_of f.nodes m) ≡ length (children_of f.nodes n) = ap (λ x. length (children_of f.nodes x)) e in
      let o : length (children_of g.nodes n) ≡ length (children_of (apply_all f.nodes ce.edits) n) = ap (λ ns. length (children_of ns n)) ce.nodes in
      subst (λ ns. IsInTree ns n) (sym ce.nodes) (stays_there f.nodes ce.edits n sound some ce.met (omega arith) t)

  -- the visits after a call with node n, of which so many edits were made before and so many by its end
  module _ (n k x j : ℕ) (same : x ≡ j) where
    stays : (o : Open) → IsSure f.nodes k o → stays_known g (before_call f n k) o ≡ true → IsInTree g.nodes o.node
    stays o h e =
        let a = and_parts (nat_eq o.sure k) _ e in
        let t = h.there (same_from_eqb o.sure k a.0) in
        elim (or_cases (lost_its_own g (length f.log) (counted f.nodes n) o.node) (lost_its_own g (length f.log) (counted f.nodes (parent_or n (parent_of f.nodes n))) o.node) a.1) [
          | inl u ↦ lost n o.node u t
          | inr u ↦ lost (parent_or n (parent_of f.nodes n)) o.node u t
        ]

    one_sure : (o : Open) → IsSure f.nodes k o → IsSure g.nodes j o → IsSure g.nodes j (kept g (before_call f n k) x o)
    one_sure o h i = sure_as g.nodes j x o (stays_known g (before_call f n k) o) (λ e. (same, stays o h e)) i

    pub kept_sure : (os : List Open) → AllSure f.nodes k os → AllSure g.nodes j os → AllSure g.nodes j (kept_two g (before_call f n k) x os)
    kept_sure [] h i = tt
    kept_sure (o ∷ []) h i = (one_sure o h.0 i.0, tt)
    kept_sure (o ∷ p ∷ os) h i = (one_sure o h.0 i.0, (one_sure p h.1.0 i.1.0, i.1.1))

module _ (g : Forest) (b : Before) (x : ℕ) where
  pub kept_shown : (cs : List (Option Place)) (os : List Open) (fs : List Frame) → AllShown cs os fs → AllShown cs (kept_two g b x os) fs
  kept_shown cs [] fs h = h
  kept_shown cs (o ∷ []) fs h = shown_known cs o [] fs _ h
  kept_shown cs (o ∷ p ∷ os) fs h = shown_known cs o (kept g b x p ∷ os) fs _ (below_known cs o p os fs _ h)

  pub apart_kept : (os : List Open) (serial : ℕ) → AllApart os serial → AllApart (kept_two g b x os) serial
  apart_kept [] serial h = h
  apart_kept (o ∷ []) serial h = h
  apart_kept (o ∷ p ∷ os) serial h = h

  pub held_kept : (os : List Open) → held (kept_two g b x os) ≡ held os
  held_kept [] = refl
  held_kept (o ∷ []) = refl
  held_kept (o ∷ p ∷ os) = refl

-- the walk stands after a call as it did, and knows more
abbrev pub stands_kept : {hs : List PickedHook} {most : ℕ} {begin f g : Forest} {old new : List PluginSeen} {spent : Spent} {os : List Open} (n k : ℕ) → IsSound f.nodes → 0 < length f.nodes → CallEdits f g → AllSure f.nodes k os → Stands hs most begin old g new spent os → Stands hs most begin old g new spent (kept_two g (before_call f n k) spent.edits os)
stands_kept {begin = begin} {f = f} {g = g} {new = new} {spent = spent} {os = os} n k sound some ce h t = record {
  ran = t.ran;
  shows = record {
    nodes = t.shows.nodes;
    free = t.shows.free;
    frames = kept_shown g (before_call f n k) spent.edits g.cursors os t.ran.state.frames t.shows.frames;
    sure = kept_sure f g sound some ce n k spent.edits t.ran.state.edits (sym t.edits) os h t.shows.sure;
  };
  free = λ serial c e. apart_kept g (before_call f n k) spent.edits os serial (t.free serial c e);
  count = t.count ∙ ap (λ n. open_total begin.cursors + left_total new + n) (sym (held_kept g (before_call f n k) spent.edits os));
  calls = t.calls;
  edits = t.edits;
}

pub kept_on : {hs : List PickedHook} {most : ℕ} {begin f g : Forest} {old new : List PluginSeen} {spent : Spent} (os us : List Open) (b : Before) (n k : ℕ) → b ≡ before_call f n k → us ≡ kept_two g b spent.edits os → IsSound f.nodes → 0 < length f.nodes → CallEdits f g → AllSure f.nodes k os → (t : Stands hs most begin old g new spent os) → IsPass hs t.ran.state.stage → (u : Stands hs most begin old g new spent us) × IsPass hs u.ran.state.stage
kept_on {hs} {most} {begin} {f} {g} {old} {new} {spent} os us b n k e i sound some ce h t p =
    let same : us ≡ kept_two g (before_call f n k) spent.edits os = i ∙ ap (λ x. kept_two g x spent.edits os) e in
    subst (λ l. (u : Stands hs most begin old g new spent l) × IsPass hs u.ran.state.stage) (sym same) (stands_kept n k sound some ce h t, p)

-- a call logs items
pub longer : {f g : Forest} → CallEdits f g → length f.log ≤ length g.log
longer {f} {g} ce =
    let tail = I.Call ce.plugin ce.hook ce.moment ∷ (map (λ e. I.Edit e) ce.edits ++ I.Back ce.fault ∷ []) in
    let i : length g.log ≡ length (f.log ++ tail) = ap length ce.log in
    let j : length (f.log ++ tail) ≡ length f.log + length tail = length-append f.log tail in
    omega arith
