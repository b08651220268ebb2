-- Cursors of visits.
use Rattle.std.proofs.Common.{◌≡◌, ◌≢◌, ℕ, zero, suc, ◌<◌, List, [], ◌∷◌, Bool, true, false, length, Option, Some, None, IsSome, IfSome, Result, Ok, Err, refl, ap, sym, ◌∙◌, subst, drop, slice_get, slice_set, ◌+◌, arith}
use Rattle.std.specs.Prelude.{nat_lt, is_some, if◌then◌else◌}
use Rattle.std.proofs.lemmas.Bool.{lt-ltb, false≢true}
use Rattle.css_tree.specs.declared.node.Block.{Block}
use Rattle.css_tree.specs.Parts.{block_of}
use Rattle.node_rows.proofs.Behind.{first-some}
use Rattle.node_rows.specs.Nodes.{Node, children_of, text_of, is_dirty}
use Rattle.node_store.specs.declared.fault.TreeFault.{TreeFault}
use Rattle.node_store.specs.declared.fault.TreeFault.TheVariants.{NoSuchNode, WrongKind}
use Rattle.node_store.specs.Forest.{Forest, Place, IsForest, cursor_at}
use Rattle.node_store.specs.Cursors.{with_cursor, IsOpened, through, first_of, ahead, passed_on, after_next_dirty, after_of, next_dirty_of, answer_of}
use Rattle.node_store.specs.Answers.{open_refusal, IsCloseAnswer}
use Rattle.plugin_api.specs.Open.{open_total}
use Rattle.visitor_machine.proofs.Through.{passes_it}
use Rattle.visitor_machine.proofs.Marks.{dirty-inside}
use Rattle.visitor_walk.specs.Turns.{held_by, IsSeated, Opened, IsEmptyWhere, NextDirty, Closes, Reseats, due_child, passed_with}

pub with_same : (cs : List (Option Place)) (serial : ℕ) (c : Option Place) → cursor_at (with_cursor cs serial c) serial ≡ c
with_same [] zero c = refl
with_same [] (suc serial) c = with_same [] serial c
with_same (x ∷ xs) zero c = refl
with_same (x ∷ xs) (suc serial) c = with_same xs serial c

none_in : (n : ℕ) → cursor_at [] n ≡ None
none_in zero = refl
none_in (suc n) = refl

pub with_other : (cs : List (Option Place)) (serial : ℕ) (c : Option Place) (t : ℕ) → serial ≢ t → cursor_at (with_cursor cs serial c) t ≡ cursor_at cs t
with_other [] zero c zero n = absurd (n refl)
with_other [] zero c (suc t) n = none_in t
with_other [] (suc serial) c zero n = refl
with_other [] (suc serial) c (suc t) n = with_other [] serial c t (λ e. n (ap suc e)) ∙ none_in t
with_other (x ∷ xs) zero c zero n = absurd (n refl)
with_other (x ∷ xs) zero c (suc t) n = refl
with_other (x ∷ xs) (suc serial) c zero n = refl
with_other (x ∷ xs) (suc serial) c (suc t) n = with_other xs serial c t (λ e. n (ap suc e))

pub set_same : (cs : List (Option Place)) (serial : ℕ) (c : Place) (d : Option Place) → cursor_at cs serial ≡ Some c → cursor_at (slice_set cs serial d) serial ≡ d
set_same [] zero c d e = absurd cc
set_same [] (suc serial) c d e = absurd cc
set_same (x ∷ xs) zero c d e = refl
set_same (x ∷ xs) (suc serial) c d e = set_same xs serial c d e

pub set_other : (cs : List (Option Place)) (serial : ℕ) (d : Option Place) (t : ℕ) → serial ≢ t → cursor_at (slice_set cs serial d) t ≡ cursor_at cs t
set_other [] serial d t n = refl
set_other (x ∷ xs) zero d zero n = absurd (n refl)
set_other (x ∷ xs) zero d (suc t) n = refl
set_other (x ∷ xs) (suc serial) d zero n = refl
set_other (x ∷ xs) (suc serial) d (suc t) n = set_other xs serial d t (λ e. n (ap suc e))

-- an open cursor that is set leaves as many open
set_total : (cs : List (Option Place)) (serial : ℕ) (c d : Place) → cursor_at cs serial ≡ Some c → open_total (slice_set cs serial (Some d)) ≡ open_total cs
set_total [] serial c d h = let i : None ≡ Some c = sym (none_in serial) ∙ h in absurd cc
set_total (None ∷ xs) zero c d h = absurd cc
set_total (Some x ∷ xs) zero c d h = refl
set_total (None ∷ xs) (suc serial) c d h = set_total xs serial c d h
set_total (Some x ∷ xs) (suc serial) c d h = ap suc (set_total xs serial c d h)

-- one that is opened makes one more
opened_total : (cs : List (Option Place)) (serial : ℕ) (d : Place) → cursor_at cs serial ≡ None → open_total (with_cursor cs serial (Some d)) ≡ suc (open_total cs)
opened_total [] zero d h = refl
opened_total [] (suc serial) d h = opened_total [] serial d (none_in serial)
opened_total (None ∷ xs) zero d h = refl
opened_total (Some x ∷ xs) zero d h = absurd cc
opened_total (None ∷ xs) (suc serial) d h = opened_total xs serial d h
opened_total (Some x ∷ xs) (suc serial) d h = ap suc (opened_total xs serial d h)

-- one that is closed makes one less
closed_total : (cs : List (Option Place)) (serial : ℕ) (c : Place) → cursor_at cs serial ≡ Some c → suc (open_total (with_cursor cs serial None)) ≡ open_total cs
closed_total [] serial c h = let i : None ≡ Some c = sym (none_in serial) ∙ h in absurd cc
closed_total (None ∷ xs) zero c h = absurd cc
closed_total (Some x ∷ xs) zero c h = refl
closed_total (None ∷ xs) (suc serial) c h = closed_total xs serial c h
closed_total (Some x ∷ xs) (suc serial) c h = ap suc (closed_total xs serial c h)

-- lists that have the same cursors have as many
none_total : (ds : List (Option Place)) → ((t : ℕ) → cursor_at ds t ≡ None) → open_total ds ≡ 0
none_total [] k = refl
none_total (None ∷ ds) k = none_total ds (λ t. k (suc t))
none_total (Some x ∷ ds) k = let i : Some x ≡ None = k 0 in absurd cc

same_total : (cs ds : List (Option Place)) → ((t : ℕ) → cursor_at cs t ≡ cursor_at ds t) → open_total cs ≡ open_total ds
same_total [] ds k = sym (none_total ds (λ t. sym (k t) ∙ none_in t))
same_total (c ∷ cs) [] k = none_total (c ∷ cs) (λ t. k t ∙ none_in t)
same_total (None ∷ cs) (None ∷ ds) k = same_total cs ds (λ t. k (suc t))
same_total (None ∷ cs) (Some d ∷ ds) k = let i : None ≡ Some d = k 0 in absurd cc
same_total (Some c ∷ cs) (None ∷ ds) k = let i : Some c ≡ None = k 0 in absurd cc
same_total (Some c ∷ cs) (Some d ∷ ds) k = ap suc (same_total cs ds (λ t. k (suc t)))

pub opened_at : (f g : Forest) (n serial : ℕ) → IsOpened f g n serial → Opened f g n None (Ok (Some serial))
opened_at f g n serial h =
    let cs : g.cursors ≡ with_cursor f.cursors serial (Some (record { container = n; passed = 0 })) = ap (λ (x : Forest). x.cursors) h.opened in
    record {
      same = record { text = ap (λ (x : Forest). x.text) h.opened; nodes = ap (λ (x : Forest). x.nodes) h.opened; log = ap (λ (x : Forest). x.log) h.opened };
      kept = λ t c e a.
          let apart : serial ≢ t = λ i. let j : cursor_at f.cursors t ≡ None = ap (cursor_at f.cursors) (sym i) ∙ h.free in absurd cc in
          (ap (λ x. cursor_at x t) cs ∙ (with_other f.cursors serial _ t apart ∙ e), apart);
      count = let i : open_total g.cursors ≡ open_total (with_cursor f.cursors serial (Some (record { container = n; passed = 0 }))) = ap open_total cs in let j = opened_total f.cursors serial (record { container = n; passed = 0 }) h.free in let k : open_total g.cursors + 0 ≡ open_total f.cursors + 1 = omega arith in k;
      seat = λ passed e. (ap (λ x. cursor_at x serial) cs ∙ (with_same f.cursors serial _ ∙ ap (λ k. Some (record { container = n; passed = k })) (sym e)), tt);
    }

no_children : (f : Forest) (n : ℕ) → IsForest f → block_of (text_of f.nodes n) ≡ None → (cs : List ℕ) → children_of f.nodes n ≡ cs → cs ≡ []
no_children f n h b [] e = refl
no_children f n h b (c ∷ cs) e =
    let s : slice_get (children_of f.nodes n) 0 ≡ Some c = ap (λ xs. slice_get xs 0) e in
    let k : IsSome (block_of (text_of f.nodes n)) = h.containers c n (first-some f.nodes h.sound n c s).0 in
    absurd (false≢true (subst IsSome b k))

blockless : (f : Forest) (n : ℕ) (e : TreeFault) (o : Option Block) (b : Bool) → block_of (text_of f.nodes n) ≡ o → b ≡ true → (if b then (if is_some o then None else Some WrongKind) else Some NoSuchNode) ≡ Some e → block_of (text_of f.nodes n) ≡ None
blockless f n e None b h i r = h
blockless f n e (Some x) true h i r = absurd cc
blockless f n e (Some x) false h i r = absurd cc

pub opened_none : (f g : Forest) (n : ℕ) (e : TreeFault) → IsForest f → n < length f.nodes → open_refusal f n ≡ Some e → g ≡ f → Opened f g n None (Ok None)
opened_none f g n e h l r i = record {
  same = record { text = ap (λ (x : Forest). x.text) i; nodes = ap (λ (x : Forest). x.nodes) i; log = ap (λ (x : Forest). x.log) i };
  kept = λ t c j a. (ap (λ (x : Forest). cursor_at x.cursors t) i ∙ j, tt);
  count = ap (λ (x : Forest). open_total x.cursors + 0) i;
  seat = λ passed j. (j, no_children f n h (blockless f n e (block_of (text_of f.nodes n)) (nat_lt n (length f.nodes)) refl (lt-ltb n (length f.nodes) l) r) (children_of f.nodes n) refl);
}

first_given : (ns : List Node) (xs : List ℕ) (o : Option (ℕ × ℕ)) → through (is_dirty ns) xs ≡ o → IfSome (first_of o) (λ m. m < length ns)
first_given ns xs None e = tt
first_given ns xs (Some x) e = dirty-inside ns x.0 (passes_it (is_dirty ns) xs x.0 x.1 e)

first_dirty : (ns : List Node) (xs : List ℕ) (o : Option (ℕ × ℕ)) → through (is_dirty ns) xs ≡ o → IfSome (first_of o) (λ m. is_dirty ns m ≡ true)
first_dirty ns xs None e = tt
first_dirty ns xs (Some x) e = passes_it (is_dirty ns) xs x.0 x.1 e

passed_place : (c : Place) (n passed : ℕ) (o : Option (ℕ × ℕ)) → Some c ≡ Some (record { container = n; passed = passed }) → Some (passed_on c o) ≡ Some (record { container = n; passed = passed_with passed o })
passed_place c n passed None e = e
passed_place c n passed (Some x) e = let i : c.passed ≡ passed = cc in let j : c.container ≡ n = cc in cc

next_at : (f g : Forest) (serial : ℕ) (r : Option ℕ) (o : Option Place) → cursor_at f.cursors serial ≡ o → Ok r ≡ answer_of f (is_dirty f.nodes) o → g ≡ after_of f (is_dirty f.nodes) serial o → NextDirty f g (Some serial) r
next_at f g serial r None h e i = absurd cc
next_at f g serial r (Some c) h e i =
    let x = ahead f (is_dirty f.nodes) c in
    let j : r ≡ first_of x = cc in
    let cs : g.cursors ≡ slice_set f.cursors serial (Some (passed_on c x)) = ap (λ (y : Forest). y.cursors) i in
    record {
      same = record { text = ap (λ (y : Forest). y.text) i; nodes = ap (λ (y : Forest). y.nodes) i; log = ap (λ (y : Forest). y.log) i };
      given = subst (λ q. IfSome q (λ m. m < length f.nodes)) (sym j) (first_given f.nodes (drop c.passed (children_of f.nodes c.container)) x refl);
      dirty = subst (λ q. IfSome q (λ m. is_dirty f.nodes m ≡ true)) (sym j) (first_dirty f.nodes (drop c.passed (children_of f.nodes c.container)) x refl);
      kept = λ t d k a. ap (λ y. cursor_at y t) cs ∙ (set_other f.cursors serial (Some (passed_on c x)) t a ∙ k);
      count = ap open_total cs ∙ set_total f.cursors serial c (passed_on c x) h;
      child = λ n passed k u.
          let s : Some c ≡ Some (record { container = n; passed = passed }) = sym h ∙ k in
          let a : c.passed ≡ passed = cc in
          let b : c.container ≡ n = cc in
          let due : x ≡ due_child f.nodes n passed = ap (λ y. through (is_dirty f.nodes) (drop y (children_of f.nodes c.container))) a ∙ ap (λ y. due_child f.nodes y passed) b in
          (j ∙ ap first_of due, ap (λ y. cursor_at y serial) cs ∙ (set_same f.cursors serial c (Some (passed_on c x)) h ∙ (passed_place c n passed x s ∙ ap (λ y. Some (record { container = n; passed = passed_with passed y })) due)));
    }

pub next_passed : (f g : Forest) (serial : ℕ) (r : Option ℕ) → Ok r ≡ next_dirty_of f serial → g ≡ after_next_dirty f serial → NextDirty f g (Some serial) r
next_passed f g serial r e i = next_at f g serial r (cursor_at f.cursors serial) refl e i

refused_at : (f g : Forest) (serial : ℕ) (x : TreeFault) (o : Option Place) → cursor_at f.cursors serial ≡ o → Err x ≡ answer_of f (is_dirty f.nodes) o → g ≡ after_of f (is_dirty f.nodes) serial o → NextDirty f g (Some serial) None
refused_at f g serial x None h e i = record {
  same = record { text = ap (λ (y : Forest). y.text) i; nodes = ap (λ (y : Forest). y.nodes) i; log = ap (λ (y : Forest). y.log) i };
  given = tt;
  dirty = tt;
  kept = λ t d k a. ap (λ (y : Forest). cursor_at y.cursors t) i ∙ k;
  count = ap (λ (y : Forest). open_total y.cursors) i;
  child = λ n passed k u. (let z : None ≡ Some (record { container = n; passed = passed }) = sym h ∙ k in absurd cc);
}
refused_at f g serial x (Some c) h e i = absurd cc

-- a cursor that isn't open passes no child
pub next_refused : (f g : Forest) (serial : ℕ) (x : TreeFault) → Err x ≡ next_dirty_of f serial → g ≡ after_next_dirty f serial → NextDirty f g (Some serial) None
next_refused f g serial x e i = refused_at f g serial x (cursor_at f.cursors serial) refl e i

pub closed_by : (h g : Forest) (serial : ℕ) (r : Result (Unit {0}) TreeFault) → IsCloseAnswer h g serial r → Closes h g (Some serial)
closed_by h g serial (Ok u) k =
    let rest = k.1.rest in
    record {
      same = record { text = ap (λ (x : Forest). x.text) rest; nodes = ap (λ (x : Forest). x.nodes) rest; log = ap (λ (x : Forest). x.log) rest };
      count = λ n passed s.
          let i = same_total g.cursors (with_cursor h.cursors serial None) k.1.cursors in
          let j = closed_total h.cursors serial (record { container = n; passed = passed }) s in
          let l : open_total g.cursors + 1 ≡ open_total h.cursors + 0 = omega arith in
          l;
      kept = λ t a. k.1.cursors t ∙ with_other h.cursors serial None t a;
    }
closed_by h g serial (Err x) k =
    let i : g ≡ h = k.2 in
    record {
      same = record { text = ap (λ (x : Forest). x.text) i; nodes = ap (λ (x : Forest). x.nodes) i; log = ap (λ (x : Forest). x.log) i };
      count = λ n passed s. (let z : None ≡ Some (record { container = n; passed = passed }) = sym k.0 ∙ s in absurd cc);
      kept = λ t a. ap (λ (x : Forest). cursor_at x.cursors t) i;
    }

-- a visit is opened where it is needed, and passes its next dirty child
pub reseated : (f h g : Forest) (n : ℕ) (old new r : Option ℕ) (passed : ℕ) → Opened f h n old (Ok new) → NextDirty h g new r → IsSeated f.cursors old n passed → (r ≡ first_of (due_child f.nodes n passed)) × Reseats f g old new n (passed_with passed (due_child f.nodes n passed))
reseated f h g n old new r passed a b s =
    let t = a.seat passed s in
    let empty : IsEmptyWhere h n new = empty_too new t.1 in
    let due : due_child h.nodes n passed ≡ due_child f.nodes n passed = ap (λ ns. due_child ns n passed) a.same.nodes in
    let c = b.child n passed t.0 empty in (
      c.0 ∙ ap first_of due,
      record {
        same = record { text = b.same.text ∙ a.same.text; nodes = b.same.nodes ∙ a.same.nodes; log = b.same.log ∙ a.same.log };
        count = let i : open_total h.cursors + held_by old ≡ open_total f.cursors + held_by new = a.count in let j : open_total g.cursors ≡ open_total h.cursors = b.count in let k : open_total g.cursors + held_by old ≡ open_total f.cursors + held_by new = omega arith in k;
        kept = λ serial d e u. let k = a.kept serial d e u in (b.kept serial d k.0 k.1, k.1);
        seat = subst (λ x. IsSeated g.cursors new n (passed_with passed x)) due c.1;
      },
    )
  where
    empty_too : (o : Option ℕ) → IsEmptyWhere f n o → IsEmptyWhere h n o
    empty_too None e = ap (λ ns. children_of ns n) a.same.nodes ∙ e
    empty_too (Some t) e = tt
