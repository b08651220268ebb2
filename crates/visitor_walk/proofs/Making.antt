-- What a call that is due makes of the walk.
use Rattle.std.proofs.Common.{◌≡◌, ◌≢◌, inl, inr, ℕ, suc, ◌+◌, ◌-◌, ◌<◌, ◌≤◌, List, [], ◌∷◌, ◌++◌, Bool, true, false, length, Option, Some, None, Result, Ok, Err, IsErr, IsSome, refl, ap, sym, ◌∙◌, subst, map, arith, length-append}
use Rattle.std.specs.Prelude.{nat_lt, if◌then◌else◌}
use Rattle.std.specs.declared.alloc.AllocError.{AllocError}
use Rattle.std.proofs.lemmas.Bool.{false≢true}
use borrow.Author.Tests.{ltb-true}
use Rattle.node_store.specs.declared.item.Edit.{Edit}
use Rattle.node_store.specs.declared.item.Item.{Item}
use Rattle.node_store.specs.declared.item.Item.TheVariants as I
use Rattle.node_store.specs.Forest.{Forest, cursor_at, unreserved}
use Rattle.node_store.specs.Edits.{apply_all, moved_all}
use Rattle.plugin_api.specs.Open.{open_total}
use Rattle.plugin_api.specs.Shelf.{PluginSeen, left_total, hook_at}
use Rattle.plugin_api.proofs.ShelfLemmas.{place_kept}
use Rattle.visitor_machine.specs.Hooks.{PickedHook}
use Rattle.visitor_machine.specs.Machine.{Stage, Stopped, turn, done}
use Rattle.visitor_machine.specs.Calls.{calls_in}
use Rattle.visitor_machine.proofs.Turns.{edited_all}
use Rattle.visitor_walk.specs.declared.turn.Open.{Open}
use Rattle.visitor_walk.specs.declared.turn.Due.{Due}
use Rattle.visitor_walk.specs.declared.spent.Spent.{Spent}
use Rattle.visitor_walk.specs.declared.spent.Limits.{Limits}
use Rattle.visitor_walk.specs.declared.walk_end.WalkEnd.{WalkEnd}
use Rattle.visitor_walk.specs.declared.walk_end.WalkEnd.TheVariants.{Done, Failed, BudgetSpent, EditBudgetSpent}
use Rattle.visitor_walk.specs.Called.{CameBack, Called}
use Rattle.visitor_walk.specs.Heard.{Heard}
use Rattle.visitor_walk.specs.Walk.{EndsCalled}
use Rattle.visitor_walk.specs.Turns.{held, AllShown, AllSure}
use Rattle.visitor_walk.specs.Ran.{AreCounted, Ran, IsReady, Finishes, Breaks, Made, end_of}
use Rattle.visitor_walk.proofs.Chunks as Chunks
use Rattle.visitor_walk.proofs.Turning.{done_edits}
use Rattle.visitor_walk.proofs.Sure.{sure_edited}
use Rattle.visitor_walk.proofs.Calling.{left_back, left_now, edited_count, edited_stage, edited_frames, shown_moved, back_edits, moved_frames}
use Rattle.visitor_walk.proofs.Hearing.{ok_of, err_of, heard_less, call_chunk}
use Rattle.visitor_walk.proofs.Returning.{back_ran, back_state, open_ran, es, called_state, visit}

pub as_end : {A : Type 0} (x y : A) (i j at : ℕ) (xs : List Item) (o n : Option _) → Heard (ok_of x) i j at xs o n → Heard (ok_of y) i j at xs o n
as_end x y i j at xs None n k = k
as_end x y i j at xs (Some o) n k = (k.0, k.1, record { event = k.2.event; filter = k.2.filter; duty = k.2.duty; tells = k.2.tells; says = k.2.says; left = k.2.left })

-- the same run, with another end
abbrev pub ran_as : {A : Type 0} (x y : A) {hs : List PickedHook} {most : ℕ} {begin f : Forest} {old new : List PluginSeen} → Ran (ok_of x) hs most begin old f new → Ran (ok_of y) hs most begin old f new
ran_as x y {old = old} {new = new} a = record { items = a.items; state = a.state; text = a.text; log = a.log; run = a.run; nodes = a.nodes; through = a.through; cursors = a.cursors; hears = record { names = a.hears.names; hooks = λ i j. as_end x y i j _ a.items (hook_at old i j) (hook_at new i j) (a.hears.hooks i j) }; duties = a.duties }

-- the same run, after want of memory
abbrev pub ran_broken : {A : Type 0} (x : A) (e : AllocError) {hs : List PickedHook} {most : ℕ} {begin f g : Forest} {old new : List PluginSeen} → unreserved g ≡ unreserved f → Ran (ok_of x) hs most begin old f new → Ran (err_of {A = A} e) hs most begin old g new
ran_broken x e {old = old} {new = new} i a = record {
  items = a.items;
  state = a.state;
  text = ap (λ (y : Forest). y.text) i ∙ a.text;
  log = ap (λ (y : Forest). y.log) i ∙ a.log;
  run = a.run;
  nodes = ap (λ (y : Forest). y.nodes) i ∙ a.nodes;
  through = a.through;
  cursors = λ serial c j. ap (λ (y : Forest). cursor_at y.cursors serial) i ∙ a.cursors serial c j;
  hears = record { names = a.hears.names; hooks = λ i j. heard_less x e i j _ a.items (hook_at old i j) (hook_at new i j) (a.hears.hooks i j) };
  duties = a.duties;
}

chunk_calls : (xs : List Item) (p h : ℕ) (m : _) (es : List Edit) (tail : List Item) → calls_in tail ≡ 0 → calls_in (xs ++ call_chunk p h m es tail) ≡ calls_in xs + 1
chunk_calls xs p h m es tail z =
    let a = Chunks.calls-append xs (call_chunk p h m es tail) in
    let b = Chunks.edits_calls es tail in
    omega arith

edit_length : (es : List Edit) → length (map (λ e. I.Edit e) es) ≡ length es
edit_length [] = refl
edit_length (e ∷ es) = ap suc (edit_length es)

module _ {hs : List PickedHook} (limits : Limits) {begin f : Forest} {old new1 : List PluginSeen} {spent : Spent} {os : List Open} {due : Due} (r : IsReady hs limits.edits begin old f new1 spent os due) where
  pub all_spent : spent.calls ≡ limits.calls → Finishes hs limits begin old f new1 os (BudgetSpent spent.calls due.moment)
  all_spent e = record {
    ran = ran_as Done (BudgetSpent spent.calls due.moment) r.ran;
    ends = (e, r.calls ∙ e, record { plugin = due.plugin; hook = due.hook; is = rw r.is.free r.is.item });
    shown = (_, r.is.frames);
    count = r.count;
    paid = let i = r.calls in omega arith;
  }

  breaks : (g : Forest) (new2 : List PluginSeen) (e e' : AllocError) → spent.calls ≤ limits.calls → spent.calls ≢ limits.calls → Called f g new1 new2 due (Err e') → Breaks hs limits begin old g new2 e
  breaks g new2 e e' l n (inl q) = subst (λ s. Breaks hs limits begin old g s e) (sym q.1) (record { ran = ran_broken Done e q.0 r.ran; paid = let i = r.calls in omega arith })
  breaks g new2 e e' l n (inr q) = record {
    ran = open_ran Done e r.ran r.is q.visits g q.same;
    paid = let i = r.calls in let j : calls_in (r.ran.items ++ call_chunk due.plugin due.hook due.moment (es Done e r.ran r.is q.visits) []) ≡ calls_in r.ran.items + 1 = chunk_calls r.ran.items due.plugin due.hook due.moment (es Done e r.ran r.is q.visits) [] refl in omega arith;
  }

  pub made_broken : (g : Forest) (new2 : List PluginSeen) (spent' : Spent) (stage : Stage) (e : AllocError) (a : Result (Option WalkEnd) AllocError) → IsErr a → spent.calls ≤ limits.calls → spent.calls ≢ limits.calls → Called f g new1 new2 due (Err e) → Made hs limits begin old g new2 spent' os stage a
  made_broken g new2 spent' stage e (Ok None) h l n c = absurd (false≢true h)
  made_broken g new2 spent' stage e (Ok (Some x)) h l n c = absurd (false≢true h)
  made_broken g new2 spent' stage e (Err x) h l n c = breaks g new2 x e l n c

  module _ (g : Forest) (new2 : List PluginSeen) (spent' : Spent) (l : spent.calls ≤ limits.calls) (n : spent.calls ≢ limits.calls) (sc : spent'.calls ≡ spent.calls + 1) (se : spent'.edits ≡ spent.edits + (length g.log - length f.log - 2)) where
    err : AllocError
    err = record {}

    back_calls : (fault : Option (List ℕ)) (c : CameBack f g new1 new2 due fault) → calls_in (r.ran.items ++ call_chunk due.plugin due.hook due.moment (es Done err r.ran r.is c.visits) (I.Back fault ∷ [])) ≡ calls_in r.ran.items + 1
    back_calls fault c = chunk_calls r.ran.items due.plugin due.hook due.moment (es Done err r.ran r.is c.visits) (I.Back fault ∷ []) refl

    back_count : (fault : Option (List ℕ)) (c : CameBack f g new1 new2 due fault) → (back_state Done err r.ran r.is c.visits fault).edits ≡ spent'.edits
    back_count fault c =
        let v = c.visits in
        let q = es Done err r.ran r.is v in
        let t = called_state Done err r.ran r.is v in
        let a : (back_state Done err r.ran r.is v fault).edits ≡ t.edits + length q = back_edits limits.edits (edited_all t q) fault ∙ edited_count t q in
        let b : t.edits ≡ spent.edits = done_edits hs r.ran.state (turn hs r.ran.state) ∙ r.edits in
        let one : length g.log ≡ length (c.end.log ++ I.Back fault ∷ []) = ap (λ (y : Forest). length y.log) c.logged in
        let two : length (c.end.log ++ I.Back fault ∷ []) ≡ length c.end.log + 1 = length-append c.end.log (I.Back fault ∷ []) in
        let three : length c.end.log ≡ length (v.at.log ++ map (λ e. I.Edit e) q) = ap length (visit Done err r.ran r.is v).edited.log in
        let four : length (v.at.log ++ map (λ e. I.Edit e) q) ≡ length v.at.log + length (map (λ e. I.Edit e) q) = length-append v.at.log (map (λ e. I.Edit e) q) in
        let five : length (map (λ e. I.Edit e) q) ≡ length q = edit_length q in
        let six : length v.at.log ≡ length (f.log ++ I.Call due.plugin due.hook due.moment ∷ []) = ap (λ (y : Forest). length y.log) v.logged in
        let seven : length (f.log ++ I.Call due.plugin due.hook due.moment ∷ []) ≡ length f.log + 1 = length-append f.log (I.Call due.plugin due.hook due.moment ∷ []) in
        omega arith

    -- the visits' cursors stay open over the call
    still_shown : (fault : Option (List ℕ)) (c : CameBack f g new1 new2 due fault) → AllShown g.cursors os (moved_frames (called_state Done err r.ran r.is c.visits).nodes (es Done err r.ran r.is c.visits) (called_state Done err r.ran r.is c.visits).frames)
    still_shown fault c =
        let v = c.visits in
        let q = es Done err r.ran r.is v in
        let t = called_state Done err r.ran r.is v in
        shown_moved f.cursors g.cursors t.nodes q (λ serial d i. ap (λ (y : Forest). cursor_at y.cursors serial) c.logged ∙ ((visit Done err r.ran r.is v).edited.cursors serial d (ap (λ (y : Forest). cursor_at y.cursors serial) v.logged ∙ i) ∙ ap (λ ns. moved_all ns q (Some d)) (ap (λ (y : Forest). y.nodes) v.logged ∙ sym r.is.nodes))) os t.frames r.is.frames

    still_counted : (fault : Option (List ℕ)) (c : CameBack f g new1 new2 due fault) → AreCounted begin old g new2 os
    still_counted fault c =
        let v = c.visits in
        let hook = v.visited.visited in
        let one : open_total f.cursors + left_total old ≡ open_total begin.cursors + left_total new1 + held os = r.count in
        let two = left_back c.answer fault hook.was.left hook.is.left v.at c.end c.back (visit Done err r.ran r.is v).leaves in
        let three = left_now v.visited in
        let four : open_total v.at.cursors ≡ open_total f.cursors = ap (λ (y : Forest). open_total y.cursors) v.logged in
        let five : open_total g.cursors ≡ open_total c.end.cursors = ap (λ (y : Forest). open_total y.cursors) c.logged in
        let six : open_total g.cursors + left_total old ≡ open_total begin.cursors + left_total new2 + held os = omega arith in
        six

    ends_called : (fault : Option (List ℕ)) (c : CameBack f g new1 new2 due fault) → EndsCalled (r.ran.items ++ call_chunk due.plugin due.hook due.moment (es Done err r.ran r.is c.visits) (I.Back fault ∷ [])) due.moment fault
    ends_called fault c = record { front = r.ran.items; plugin = due.plugin; hook = due.hook; edits = es Done err r.ran r.is c.visits; are = refl }

    went_on : (c : CameBack f g new1 new2 due None) (b : Bool) → nat_lt limits.edits spent'.edits ≡ b → Made hs limits begin old g new2 spent' os (done hs r.ran.state (turn hs r.ran.state)).stage (Ok (if b then Some (EditBudgetSpent spent'.edits due.moment) else None))
    went_on c true e = record {
      ran = ran_as Done (EditBudgetSpent spent'.edits due.moment) (back_ran Done err r.ran r.is c.visits g None c.back c.logged);
      ends = (sym (back_count None c), subst (λ k. limits.edits < k) refl (ltb-true limits.edits spent'.edits e), ends_called None c);
      shown = (_, still_shown None c);
      count = still_counted None c;
      paid = let i = r.calls in let j = back_calls None c in omega arith;
    }
    went_on c false e =
        let v = c.visits in
        let q = es Done err r.ran r.is v in
        let t = called_state Done err r.ran r.is v in
        let u = edited_all t q in
        let count = back_count None c in
        let edits : u.edits ≡ r.ran.state.edits + length q = edited_count t q ∙ ap (λ k. k + length q) (done_edits hs r.ran.state (turn hs r.ran.state)) in
        let nodes : g.nodes ≡ apply_all f.nodes q = ap (λ (y : Forest). y.nodes) c.logged ∙ ((visit Done err r.ran r.is v).edited.nodes ∙ ap (λ (y : Forest). apply_all y.nodes q) v.logged) in
        let over : nat_lt limits.edits u.edits ≡ false = ap (λ k. nat_lt limits.edits k) count ∙ e in
        let frames : AllShown g.cursors os (moved_frames t.nodes q t.frames) = still_shown None c in (
          record {
            ran = back_ran Done err r.ran r.is v g None c.back c.logged;
            shows = record {
              nodes = sym (back_ran Done err r.ran r.is v g None c.back c.logged).nodes;
              free = refl;
              frames = subst (λ fs. AllShown g.cursors os fs) (sym (edited_frames t q)) frames;
              sure = subst (λ ns. AllSure ns u.edits os) (sym nodes) (subst (λ k. AllSure (apply_all f.nodes q) k os) (sym edits) (sure_edited f.nodes r.ran.state.edits q os r.is.sure));
            };
            free = r.free;
            count = still_counted None c;
            calls = let i = r.calls in let j = back_calls None c in omega arith;
            edits = count;
          },
          ap (λ b. if b then Stopped else u.stage) over ∙ edited_stage t q,
        )

    pub came : (fault : Option (List ℕ)) → CameBack f g new1 new2 due fault → Made hs limits begin old g new2 spent' os (done hs r.ran.state (turn hs r.ran.state)).stage (Ok (end_of fault spent' limits due.moment))
    came None c = went_on c (nat_lt limits.edits spent'.edits) refl
    came (Some text) c = record {
      ran = ran_as Done (Failed text due.moment) (back_ran Done err r.ran r.is c.visits g (Some text) c.back c.logged);
      ends = ends_called (Some text) c;
      shown = (_, still_shown (Some text) c);
      count = still_counted (Some text) c;
      paid = let i = r.calls in let j = back_calls (Some text) c in omega arith;
    }

-- no hook is lost in a call
pub kept_broken : {f g : Forest} {old new : List PluginSeen} {due : Due} (e : AllocError) → Called f g old new due (Err e) → (i j : ℕ) → IsSome (hook_at old i j) → IsSome (hook_at new i j)
kept_broken e (inl q) i j h = subst (λ s. IsSome (hook_at s i j)) (sym q.1) h
kept_broken e (inr q) i j h = place_kept q.visits.visited i j h

pub kept_back : {f g : Forest} {old new : List PluginSeen} {due : Due} (fault : Option (List ℕ)) → CameBack f g old new due fault → (i j : ℕ) → IsSome (hook_at old i j) → IsSome (hook_at new i j)
kept_back fault c i j h = place_kept c.visits.visited i j h
