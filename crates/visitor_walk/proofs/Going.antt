-- A walk that goes on by a stroll.
use Rattle.std.proofs.Common.{◌≡◌, ℕ, ◌+◌, List, [], ◌∷◌, ◌++◌, false, length, Option, Some, None, Result, refl, ap, sym, ◌∙◌, subst, map, append_assoc, append-nil}
use Rattle.std.specs.declared.alloc.AllocError.{AllocError}
use Rattle.node_rows.specs.Nodes.{Node}
use Rattle.node_store.specs.declared.item.Edit.{Edit}
use Rattle.node_store.specs.declared.item.Item.{Item}
use Rattle.node_store.specs.declared.item.Item.TheVariants as I
use Rattle.node_store.specs.declared.item.Moment.{Moment}
use Rattle.node_store.specs.Forest.{Forest, Place, cursor_at}
use Rattle.node_rows.specs.Marks.{with_mark}
use Rattle.node_store.specs.Edits.{apply, moved_place}
use Rattle.plugin_api.specs.Shelf.{HookSeen, PluginSeen, hook_at}
use Rattle.visitor_machine.specs.Hooks.{PickedHook}
use Rattle.visitor_machine.specs.Machine.{State}
use Rattle.visitor_machine.specs.Follow.{step, and_then, follow, start}
use Rattle.visitor_machine.proofs.Turns.{follow_append}
use Rattle.visitor_walk.specs.declared.turn.Open.{Open}
use Rattle.visitor_walk.specs.Heard.{edits_ahead, told_of, said_of, Tells, Says, Heard, came_back, duty_of, KeepDuties}
use Rattle.visitor_walk.specs.Walk.{moved_through}
use Rattle.visitor_walk.specs.Turns.{IsPlain, Strolls, nodes_through}
use Rattle.visitor_walk.specs.Ran.{first_edits, behind_edits, IsKept, Keeps, Ran, AreFree}
use Rattle.visitor_walk.proofs.Chunks as Chunks

-- the items begin with an item of the walk, or there are none
abbrev pub IsFresh : List Item → Type 0
IsFresh [] = Unit {0}
IsFresh (I.Edit e ∷ is) = ⊥
IsFresh (I.Back o ∷ is) = ⊥
IsFresh (_ ∷ is) = Unit {0}

first_edits-append : (xs ys : List Item) → IsFresh ys → first_edits (xs ++ ys) ≡ first_edits xs
first_edits-append [] [] h = refl
first_edits-append [] (I.Edit e ∷ ys) h = absurd h
first_edits-append [] (I.Back o ∷ ys) h = absurd h
first_edits-append [] (I.Pass ∷ ys) h = refl
first_edits-append [] (I.Enter n ∷ ys) h = refl
first_edits-append [] (I.Call p k m ∷ ys) h = refl
first_edits-append [] (I.Leave n ∷ ys) h = refl
first_edits-append [] (I.End ∷ ys) h = refl
first_edits-append (I.Edit e ∷ xs) ys h = ap (λ l. e ∷ l) (first_edits-append xs ys h)
first_edits-append (I.Pass ∷ xs) ys h = refl
first_edits-append (I.Enter n ∷ xs) ys h = refl
first_edits-append (I.Call p k m ∷ xs) ys h = refl
first_edits-append (I.Back o ∷ xs) ys h = refl
first_edits-append (I.Leave n ∷ xs) ys h = refl
first_edits-append (I.End ∷ xs) ys h = refl

back-append : (xs ys : List Item) → IsFresh ys → came_back (behind_edits (xs ++ ys)) ≡ came_back (behind_edits xs)
back-append [] [] h = refl
back-append [] (I.Edit e ∷ ys) h = absurd h
back-append [] (I.Back o ∷ ys) h = absurd h
back-append [] (I.Pass ∷ ys) h = refl
back-append [] (I.Enter n ∷ ys) h = refl
back-append [] (I.Call p k m ∷ ys) h = refl
back-append [] (I.Leave n ∷ ys) h = refl
back-append [] (I.End ∷ ys) h = refl
back-append (I.Edit e ∷ xs) ys h = back-append xs ys h
back-append (I.Pass ∷ xs) ys h = refl
back-append (I.Enter n ∷ xs) ys h = refl
back-append (I.Call p k m ∷ xs) ys h = refl
back-append (I.Back None ∷ xs) ys h = refl
back-append (I.Back (Some t) ∷ xs) ys h = refl
back-append (I.Leave n ∷ xs) ys h = refl
back-append (I.End ∷ xs) ys h = refl

kept-append : (shelf : List PluginSeen) (s : State) (i : Item) (xs ys : List Item) → IsFresh ys → IsKept shelf s i xs → IsKept shelf s i (xs ++ ys)
kept-append shelf s (I.Call p k m) xs ys h d = subst (λ es. duty_of (hook_at shelf p k) s.nodes m es (came_back (behind_edits (xs ++ ys)))) (sym (first_edits-append xs ys h)) (subst (λ r. duty_of (hook_at shelf p k) s.nodes m (first_edits xs) r) (sym (back-append xs ys h)) d)
kept-append shelf s I.Pass xs ys h d = tt
kept-append shelf s (I.Enter n) xs ys h d = tt
kept-append shelf s (I.Edit e) xs ys h d = tt
kept-append shelf s (I.Back o) xs ys h d = tt
kept-append shelf s (I.Leave n) xs ys h d = tt
kept-append shelf s I.End xs ys h d = tt

some_same : {s t : State} → Some s ≡ Some t → s ≡ t
some_same e = cc

module _ (shelf : List PluginSeen) (hs : List PickedHook) (most : ℕ) where
  pub keeps-append : (s u : State) (xs ys : List Item) → IsFresh ys → Keeps shelf hs most s xs → follow hs most s xs ≡ Some u → Keeps shelf hs most u ys → Keeps shelf hs most s (xs ++ ys)
  keeps-append s u [] ys h k e l = subst (λ t. Keeps shelf hs most t ys) (sym (some_same e)) l
  keeps-append s u (i ∷ xs) ys h k e l = (kept-append shelf s i xs ys h k.0, λ t j. keeps-append t u xs ys h (k.1 t j) (sym (ap (λ o. and_then o (λ x. follow hs most x xs)) j) ∙ e) l)

  -- items with no calls
  pub keeps_plain : (s : State) (xs : List Item) → IsPlain xs → Keeps shelf hs most s xs
  keeps_plain s [] h = tt
  keeps_plain s (I.Pass ∷ xs) h = (tt, λ t e. keeps_plain t xs h)
  keeps_plain s (I.Enter n ∷ xs) h = (tt, λ t e. keeps_plain t xs h)
  keeps_plain s (I.Leave n ∷ xs) h = (tt, λ t e. keeps_plain t xs h)
  keeps_plain s (I.End ∷ xs) h = (tt, λ t e. keeps_plain t xs h)
  keeps_plain s (I.Call p k m ∷ xs) h = absurd h
  keeps_plain s (I.Edit e ∷ xs) h = absurd h
  keeps_plain s (I.Back o ∷ xs) h = absurd h

  pub first_are : (es : List Edit) (rest : List Item) → edits_ahead rest ≡ 0 → first_edits (map (λ e. I.Edit e) es ++ rest) ≡ es
  first_are [] [] h = refl
  first_are [] (I.Edit e ∷ rest) h = absurd cc
  first_are [] (I.Pass ∷ rest) h = refl
  first_are [] (I.Enter n ∷ rest) h = refl
  first_are [] (I.Call p k m ∷ rest) h = refl
  first_are [] (I.Back o ∷ rest) h = refl
  first_are [] (I.Leave n ∷ rest) h = refl
  first_are [] (I.End ∷ rest) h = refl
  first_are (e ∷ es) rest h = ap (λ l. e ∷ l) (first_are es rest h)

  pub behind_is : (es : List Edit) (rest : List Item) → edits_ahead rest ≡ 0 → behind_edits (map (λ e. I.Edit e) es ++ rest) ≡ rest
  behind_is [] [] h = refl
  behind_is [] (I.Edit e ∷ rest) h = absurd cc
  behind_is [] (I.Pass ∷ rest) h = refl
  behind_is [] (I.Enter n ∷ rest) h = refl
  behind_is [] (I.Call p k m ∷ rest) h = refl
  behind_is [] (I.Back o ∷ rest) h = refl
  behind_is [] (I.Leave n ∷ rest) h = refl
  behind_is [] (I.End ∷ rest) h = refl
  behind_is (e ∷ es) rest h = behind_is es rest h

  -- what holds of each call in turn holds of each
  duties_at : (s t : State) (front : List Item) (p h : ℕ) (m : Moment) (es : List Edit) (rest : List Item) → edits_ahead rest ≡ 0 → follow hs most s front ≡ Some t → Keeps shelf hs most s (front ++ I.Call p h m ∷ (map (λ e. I.Edit e) es ++ rest)) → duty_of (hook_at shelf p h) t.nodes m es (came_back rest)
  duties_at s t [] p h m es rest z e k =
      let d = subst (λ l. duty_of (hook_at shelf p h) s.nodes m l (came_back (behind_edits (map (λ e. I.Edit e) es ++ rest)))) (first_are es rest z) k.0 in
      let q = subst (λ l. duty_of (hook_at shelf p h) s.nodes m es (came_back l)) (behind_is es rest z) d in
      subst (λ u. duty_of (hook_at shelf p h) u.nodes m es (came_back rest)) (some_same e) q
  duties_at s t (i ∷ front) p h m es rest z e k = by_step (step hs most s i) refl e (λ u f q. duties_at u t front p h m es rest z f q)
    where
      by_step : (o : Option State) → step hs most s i ≡ o → and_then o (λ x. follow hs most x front) ≡ Some t → ((u : State) → follow hs most u front ≡ Some t → Keeps shelf hs most u (front ++ I.Call p h m ∷ (map (λ e. I.Edit e) es ++ rest)) → duty_of (hook_at shelf p h) t.nodes m es (came_back rest)) → duty_of (hook_at shelf p h) t.nodes m es (came_back rest)
      by_step None j f r = absurd cc
      by_step (Some u) j f r = r u f (k.1 u j)

  pub all_duties : (ns : List Node) (items : List Item) → Keeps shelf hs most (start hs ns) items → KeepDuties shelf hs most ns items
  all_duties ns items k = λ front p h m es rest s e z f. duties_at (start hs ns) s front p h m es rest z f (subst (Keeps shelf hs most (start hs ns)) e k)

-- after a stroll the hooks tell and say no more
pub plain_heard : {A : Type 0} (r : Result A AllocError) (i j at : ℕ) (xs ys : List Item) (o n : Option HookSeen) → IsPlain ys → Heard r i j at xs o n → Heard r i j at (xs ++ ys) o n
plain_heard r i j at xs ys None n h k = k
plain_heard {A} r i j at xs ys (Some o) n h k =
    let told : told_of i j at (xs ++ ys) ≡ told_of i j at xs = Chunks.told-append i j at xs ys (Chunks.plain_ahead ys h) ∙ (ap (λ l. told_of i j at xs ++ l) (Chunks.plain_told i j (at + length xs) ys h) ∙ append-nil (told_of i j at xs)) in
    let said : said_of i j false (xs ++ ys) ≡ said_of i j false xs = Chunks.said-append i j false xs ys (λ b. Chunks.plain_said i j b ys h ∙ sym (Chunks.plain_said i j false ys h)) ∙ (ap (λ l. said_of i j false xs ++ l) (Chunks.plain_said i j false ys h) ∙ append-nil (said_of i j false xs)) in (
      k.0,
      k.1,
      record {
        event = k.2.event;
        filter = k.2.filter;
        duty = k.2.duty;
        tells = subst (λ l. Tells r o.told k.0.told l) (sym told) k.2.tells;
        says = subst (λ l. Says r o.said k.0.said l) (sym said) k.2.says;
        left = λ e. k.2.left (sym told ∙ e);
      },
    )

pub plain_fresh : (xs : List Item) → IsPlain xs → IsFresh xs
plain_fresh [] h = tt
plain_fresh (I.Pass ∷ xs) h = tt
plain_fresh (I.Enter n ∷ xs) h = tt
plain_fresh (I.Leave n ∷ xs) h = tt
plain_fresh (I.End ∷ xs) h = tt
plain_fresh (I.Call p k m ∷ xs) h = absurd h
plain_fresh (I.Edit e ∷ xs) h = absurd h
plain_fresh (I.Back o ∷ xs) h = absurd h

pub some_moved : (ns : List Node) (xs : List Item) (c : Place) → (d : Place) × (moved_through ns xs (Some c) ≡ Some d)
some_moved ns [] c = (c, refl)
some_moved ns (I.Edit e ∷ xs) c = some_moved (apply ns e) xs (moved_place ns e c)
some_moved ns (I.Enter n ∷ xs) c = some_moved (with_mark ns n false) xs c
some_moved ns (I.Pass ∷ xs) c = some_moved ns xs c
some_moved ns (I.Call p h m ∷ xs) c = some_moved ns xs c
some_moved ns (I.Back o ∷ xs) c = some_moved ns xs c
some_moved ns (I.Leave n ∷ xs) c = some_moved ns xs c
some_moved ns (I.End ∷ xs) c = some_moved ns xs c

-- the walk so far and a stroll
abbrev pub strolled : {A : Type 0} {r : Result A AllocError} {hs : List PickedHook} {most : ℕ} {begin f g : Forest} {old new : List PluginSeen} {os : List Open} → (a : Ran r hs most begin old f new) → AreFree begin os → Strolls hs most f os a.state g → Ran r hs most begin old g new
strolled {A} {r} {hs} {most} {begin} {f} {g} {old} {new} {os} a free w = record {
  items = a.items ++ w.items;
  state = w.state;
  text = w.text ∙ a.text;
  log = w.log ∙ (ap (λ l. l ++ w.items) a.log ∙ append_assoc begin.log a.items w.items);
  run = follow_append hs most (start hs begin.nodes) a.state a.items w.items a.run ∙ w.run;
  nodes = w.nodes;
  through = w.through ∙ (ap (λ ns. nodes_through ns w.items) a.through ∙ sym (Chunks.through-append begin.nodes a.items w.items));
  cursors = λ serial c e.
      let d = some_moved begin.nodes a.items c in
      let here : cursor_at f.cursors serial ≡ Some d.0 = a.cursors serial c e ∙ d.1 in
      w.kept serial d.0 here (free serial c e)
      ∙ (sym d.1 ∙ (sym (Chunks.plain_moved (nodes_through begin.nodes a.items) w.items (moved_through begin.nodes a.items (Some c)) w.plain) ∙ sym (Chunks.moved-append begin.nodes a.items w.items (Some c))));
  hears = record { names = a.hears.names; hooks = λ i j. plain_heard r i j (length begin.log) a.items w.items (hook_at old i j) (hook_at new i j) w.plain (a.hears.hooks i j) };
  duties = keeps-append old hs most (start hs begin.nodes) a.state a.items w.items (plain_fresh w.items w.plain) a.duties a.run (keeps_plain old hs most a.state w.items w.plain);
}
