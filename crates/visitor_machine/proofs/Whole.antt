-- A whole run leaves a settled tree when its passes end.
use Rattle.std.proofs.Common.{inl, inr, ◌≡◌, ℕ, suc, List, [], ◌∷◌, false, refl, ap, sym, ◌∙◌, arith, subst, ◌<◌, length}
use Rattle.std.specs.Prelude.{Contains}
use Rattle.std.proofs.lemmas.Bool.{false≢true, cases_Bool}
use Rattle.node_rows.specs.Nodes.{Node, is_dirty}
use Rattle.node_rows.specs.Sound.{IsSound}
use Rattle.visitor_machine.specs.Machine.{kind_at, key_at}
use Rattle.node_store.specs.declared.item.Event.TheVariants as E
use Rattle.visitor_machine.specs.Hooks.{PickedHook, is_at}
use Rattle.node_store.specs.declared.item.Item.{Item}
use Rattle.visitor_machine.specs.Machine.{Frame, Visit, State}
use Rattle.visitor_machine.specs.Follow.{start, passes}
use Rattle.visitor_machine.specs.Settled.{IsWholeVisit, IsSettled, IsAllDirty, IsWholeRun, SettlesAt}
use Rattle.visitor_machine.proofs.Above.{Above, here, below, above_from_holds}
use Rattle.visitor_machine.proofs.Good.{Pending, HasOpen, HasLeft, Good}
use Rattle.visitor_machine.proofs.Runs.{good_follow, good_start}
use Rattle.visitor_machine.proofs.Positions.{told}
use Rattle.visitor_machine.proofs.Ends.{AtRest, rests, each_filter, IsAt, at_event}

no_pending : (ns : List Node) (fs : List Frame) (q c : ℕ) → fs ≡ [] → Pending ns fs q c → ⊥
no_pending ns fs q c e p = subst (λ l. Pending ns l q c) e p

-- with no frame open and the root clean, nothing in the tree is dirty
all_clean : (hs : List PickedHook) (s : State) → Good hs s → AtRest s → {n : ℕ} → Above s.nodes 0 n → is_dirty s.nodes n ≡ false
all_clean hs s h r (here e) = ap (λ k. is_dirty s.nodes k) e ∙ r.root_clean
all_clean hs s h r (below {c} {p} e a) = elim (cases_Bool (is_dirty s.nodes c)) [
  | inr f ↦ f
  | inl d ↦ elim (h.covered c p e (below e a) d) [
    | inl i ↦ absurd (false≢true (sym (all_clean hs s h r a) ∙ i))
    | inr p ↦ absurd (no_pending s.nodes s.frames _ c r.no_frames p)
  ]
]

left_visit : (hs : List PickedHook) (s : State) (n : ℕ) (vs : List Visit) → HasLeft hs (kind_at s.nodes n) (key_at s.nodes n) n (s.touched n) vs → (v : Visit) × Contains vs v × IsWholeVisit hs s n v
left_visit hs s n [] h = absurd h
left_visit hs s n (v ∷ vs) (inl i) = (v, (0, omega arith, refl), record { of_node = i.of_node; since = i.since; in_whole = i.all_calls })
left_visit hs s n (v ∷ vs) (inr j) = let r = left_visit hs s n vs j in (r.0, (suc r.1.0, omega (arith, r.1.1), r.1.2), r.2)

no_open : (hs : List PickedHook) (s : State) (n : ℕ) (fs : List Frame) → fs ≡ [] → HasOpen hs (kind_at s.nodes n) (key_at s.nodes n) n (s.touched n) fs → ⊥
no_open hs s n fs e p = subst (λ l. HasOpen hs (kind_at s.nodes n) (key_at s.nodes n) n (s.touched n) l) e p

pub settled : (hs : List PickedHook) (s : State) → Good hs s → AtRest s → IsSettled hs s
settled hs s h r = record {
  clean = λ n a. all_clean hs s h r (above_from_holds s.nodes 0 n a.1);
  visited = λ n a.
      let b : Above s.nodes 0 n = above_from_holds s.nodes 0 n a.1 in
      elim (h.visited n b (all_clean hs s h r b)) [
        | inl o ↦ absurd (no_open hs s n s.frames r.no_frames o)
        | inr l ↦ left_visit hs s n s.visits l
      ];
}

pub settles : (hs : List PickedHook) (most : ℕ) (ns : List Node) (log : List Item) (t : State) → IsSound ns → 0 < length ns → IsAllDirty ns → IsWholeRun hs most ns log t → SettlesAt hs most ns log
settles hs most ns log t s z d w =
    let r = rests hs most (start hs ns) t log (each_filter (IsAt E.Once) (is_at E.Once) hs (at_event E.Once)) w.0 w.1 in
    record {
      state = r.state;
      reached = r.reached;
      told = told hs most ns (passes log) r.state r.reached;
      settled = settled hs r.state (good_follow hs most (start hs ns) r.state (passes log) (good_start hs ns s z d) r.reached) r.rest;
    }
