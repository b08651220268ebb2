-- A walk that goes on by a call.
use Rattle.std.proofs.Common.{◌≡◌, ℕ, suc, ◌+◌, List, [], ◌∷◌, ◌++◌, true, false, length, Option, Some, None, Ok, Err, refl, ap, sym, ◌∙◌, subst, map, arith, append_assoc, append-nil, length-append}
use Rattle.std.specs.declared.alloc.AllocError.{AllocError}
use Rattle.css_tree.specs.declared.node.NodeText.{NodeText}
use Rattle.css_tree.specs.declared.node.NodeText.TheVariants.{Root, AtRule, Rule, Declaration, Comment}
use Rattle.css_text.specs.ValueParts.{written}
use Rattle.css_text.proofs.ValueParts.{one_value}
use Rattle.css_tree.specs.declared.node.Field.TheVariants as F
use Rattle.node_rows.specs.Nodes.{Node, text_of, parent_of}
use Rattle.node_store.specs.declared.item.Event.{Event}
use Rattle.node_store.specs.declared.item.Event.TheVariants as E
use Rattle.node_store.specs.declared.item.Edit.{Edit}
use Rattle.node_store.specs.declared.item.Edit.TheVariants.{Set}
use Rattle.node_store.specs.declared.item.Item.{Item}
use Rattle.node_store.specs.declared.item.Item.TheVariants as I
use Rattle.node_store.specs.declared.item.Moment.{Moment}
use Rattle.node_store.specs.Forest.{Forest, Place, cursor_at, unreserved}
use Rattle.node_store.specs.Edits.{all_can, apply_all, moved_all, noted}
use Rattle.plugin_api.specs.declared.visitor.Duty.{Duty}
use Rattle.plugin_api.specs.declared.visitor.Duty.TheVariants.{Quiet, DropComment, DropEmpty, ShortHex, Unnest}
use Rattle.plugin_api.specs.declared.visitor.VisitFault.TheVariants.{Plugin, Memory}
use Rattle.plugin_api.specs.Effect.{IsShort, IsShortened, IsEffect, shortened, changing}
use Rattle.plugin_api.specs.Visit.{Answer, Dutiful, Visited}
use Rattle.plugin_api.specs.Shelf.{HookSeen, PluginSeen, hook_at}
use Rattle.visitor_machine.specs.Hooks.{PickedHook}
use Rattle.visitor_machine.specs.Machine.{State, turn, done}
use Rattle.visitor_machine.specs.Follow.{follow, start, back}
use Rattle.visitor_machine.proofs.Turns.{CanAll, edited_all, follow_edits, follow_call, follow_one, step_item, follow_append}
use Rattle.visitor_walk.specs.declared.turn.Open.{Open}
use Rattle.visitor_walk.specs.declared.turn.Due.{Due}
use Rattle.visitor_walk.specs.Called.{Visits, IsBack}
use Rattle.visitor_walk.specs.Heard.{edits_ahead, said_of, Heard, came_back, duty_of}
use Rattle.visitor_walk.specs.Walk.{moved_through}
use Rattle.visitor_walk.specs.Turns.{IsDue, nodes_through}
use Rattle.visitor_walk.specs.Ran.{first_edits, behind_edits, Keeps, Ran}
use Rattle.visitor_walk.proofs.Chunks as Chunks
use Rattle.visitor_walk.proofs.Going.{keeps-append, first_are, behind_is, some_moved}
use Rattle.visitor_walk.proofs.Calling.{can_each, edited_nodes, back_nodes, hook_before, same_names}
use Rattle.visitor_walk.proofs.Hearing.{ok_of, err_of, call_chunk, heard_back, heard_open}

one_short : (source a b : List ℕ) → IsShort source a → IsShort source b → a ≡ b
one_short source a b p q = p.text ∙ (ap (λ v. written (shortened v)) (one_value source p.parts q.parts p.are q.are) ∙ sym q.text)

one_shortened : (ns : List Node) (n : ℕ) (e : Event) (text : NodeText) (o : Option ℕ) (es fs : List Edit) → IsShortened ns n e text o es → IsShortened ns n e text o fs → fs ≡ es
one_shortened ns n E.Once text o es fs a b = b ∙ sym a
one_shortened ns n E.Root text o es fs a b = b ∙ sym a
one_shortened ns n E.RootExit text o es fs a b = b ∙ sym a
one_shortened ns n E.AtRule text o es fs a b = b ∙ sym a
one_shortened ns n E.AtRuleExit text o es fs a b = b ∙ sym a
one_shortened ns n E.Rule text o es fs a b = b ∙ sym a
one_shortened ns n E.RuleExit text o es fs a b = b ∙ sym a
one_shortened ns n E.DeclarationExit text o es fs a b = b ∙ sym a
one_shortened ns n E.Comment text o es fs a b = b ∙ sym a
one_shortened ns n E.CommentExit text o es fs a b = b ∙ sym a
one_shortened ns n E.OnceExit text o es fs a b = b ∙ sym a
one_shortened ns n E.Declaration (Root bom block) o es fs a b = b ∙ sym a
one_shortened ns n E.Declaration (AtRule before name after_name params between block) o es fs a b = b ∙ sym a
one_shortened ns n E.Declaration (Rule before selector between block) o es fs a b = b ∙ sym a
one_shortened ns n E.Declaration (Comment before left text right) o es fs a b = b ∙ sym a
one_shortened ns n E.Declaration (Declaration before prop between val important important_raw tail) None es fs a b = b ∙ sym a
one_shortened ns n E.Declaration (Declaration before prop between val important important_raw tail) (Some p) es fs a b = b.2 ∙ (ap (λ t. changing ns (Set F.Value n t ∷ [])) (one_short val.source b.0 a.0 b.1 a.1) ∙ sym a.2)

-- a duty asks for one list of edits
pub one_effect : (d : Duty) (ns : List Node) (m : Moment) (es fs : List Edit) → IsEffect d ns m es → IsEffect d ns m fs → fs ≡ es
one_effect Quiet ns m es fs a b = b ∙ sym a
one_effect DropComment ns m es fs a b = b ∙ sym a
one_effect DropEmpty ns m es fs a b = b ∙ sym a
one_effect ShortHex ns m es fs a b = one_shortened ns m.node m.event (text_of ns m.node) (parent_of ns m.node) es fs a b
one_effect Unnest ns m es fs a b = b ∙ sym a

-- a call that didn't come back did a front of its duty
pub front_done : (o : Option Duty) (ns : List Node) (m : Moment) (es : List Edit) (a : Answer) → Dutiful o ns m es a → Dutiful o ns m es (Err (Memory (record {})))
front_done None ns m es a h = tt
front_done (Some d) ns m es (Ok u) h = λ all k. ([], one_effect d ns m es all h k ∙ sym (append-nil es))
front_done (Some d) ns m es (Err (Plugin text)) h = absurd h
front_done (Some d) ns m es (Err (Memory e)) h = h

pub came_with : (o : Option Duty) (ns : List Node) (m : Moment) (es : List Edit) (a : Answer) (fault : Option (List ℕ)) → IsBack a fault → Dutiful o ns m es a → Dutiful o ns m es (came_back (I.Back fault ∷ []))
came_with o ns m es (Ok u) None b h = h
came_with o ns m es (Ok u) (Some t) b h = absurd cc
came_with o ns m es (Err (Plugin text)) None b h = absurd cc
came_with o ns m es (Err (Plugin text)) (Some t) b h = let i : text ≡ t = cc in subst (λ x. Dutiful o ns m es (Err (Plugin x))) i h
came_with o ns m es (Err (Memory e)) fault b h = absurd b

pub said_else : (i j : ℕ) (fault : Option (List ℕ)) → said_of i j false (I.Back fault ∷ []) ≡ []
said_else i j None = refl
said_else i j (Some t) = refl

pub said_same : (i j d : ℕ) (fault : Option (List ℕ)) → said_of i j true (I.Back fault ∷ []) ≡ said_of 0 0 true (I.Back fault ∷ [])
said_same i j d None = refl
said_same i j d (Some t) = refl

keeps_edits : (shelf : List PluginSeen) (hs : List PickedHook) (most : ℕ) (s : State) (es : List Edit) (tail : List Item) → ((u : State) → Keeps shelf hs most u tail) → Keeps shelf hs most s (map (λ e. I.Edit e) es ++ tail)
keeps_edits shelf hs most s [] tail k = k s
keeps_edits shelf hs most s (e ∷ es) tail k = (tt, λ t i. keeps_edits shelf hs most t es tail k)

-- what is owed of a hook before is owed of it in the walk
owed_at : {A : Type 0} (x : A) (i j at : ℕ) (xs : List Item) (o n : Option HookSeen) (w : HookSeen) (ns : List Node) (m : Moment) (es : List Edit) (r : Answer) → n ≡ Some w → Heard (ok_of x) i j at xs o n → Dutiful w.duty ns m es r → duty_of o ns m es r
owed_at x i j at xs None n w ns m es r e k h = tt
owed_at x i j at xs (Some o) n w ns m es r e k h =
    let same : w ≡ k.0 = let q = sym e ∙ k.1 in cc in
    subst (λ d. Dutiful d ns m es r) (ap (λ (y : HookSeen). y.duty) same ∙ k.2.duty) h

module _ {A : Type 0} (x : A) (err : AllocError) {hs : List PickedHook} {most : ℕ} {begin f k : Forest} {old new1 new2 : List PluginSeen} {os : List Open} {due : Due} {answer : Answer} (a : Ran (ok_of x) hs most begin old f new1) (d : IsDue hs f os a.state due) (v : Visits f k new1 new2 due answer) where
  abbrev pub visit : Visited v.visited.visited.was.told v.visited.visited.is.told v.visited.visited.was.said v.visited.visited.is.said v.visited.visited.was.duty v.visited.visited.is.duty v.visited.visited.was.left v.visited.visited.is.left v.at k due.moment answer
  visit = v.visited.visited.visited.visited

  abbrev pub es : List Edit
  es = visit.edits

  abbrev pub called_state : State
  called_state = done hs a.state (turn hs a.state)

  at_nodes : v.at.nodes ≡ f.nodes
  at_nodes = ap (λ (y : Forest). y.nodes) v.logged

  pub cans : CanAll called_state.nodes es
  cans = can_each called_state.nodes es (subst (λ ns. all_can ns es ≡ true) (at_nodes ∙ sym d.nodes) visit.edited.met)

  before_nodes : nodes_through begin.nodes a.items ≡ called_state.nodes
  before_nodes = sym a.through ∙ (d.before ∙ sym d.nodes)

  pub after_nodes : k.nodes ≡ (edited_all called_state es).nodes
  after_nodes = visit.edited.nodes ∙ (ap (λ ns. apply_all ns es) (at_nodes ∙ sym d.nodes) ∙ sym (edited_nodes called_state es))

  pub len : length v.at.log ≡ suc (length begin.log + length a.items)
  len =
      let i : length v.at.log ≡ length (f.log ++ I.Call due.plugin due.hook due.moment ∷ []) = ap (λ (y : Forest). length y.log) v.logged in
      let j : length (f.log ++ I.Call due.plugin due.hook due.moment ∷ []) ≡ length f.log + 1 = length-append f.log (I.Call due.plugin due.hook due.moment ∷ []) in
      let l : length f.log ≡ length (begin.log ++ a.items) = ap length a.log in
      let q : length (begin.log ++ a.items) ≡ length begin.log + length a.items = length-append begin.log a.items in
      omega arith

  module _ (tail : List Item) (quiet : (ns : List Node) → nodes_through ns tail ≡ ns) (still : (ns : List Node) (c : Option Place) → moved_through ns tail c ≡ c) where
    pub through_chunk : (edited_all called_state es).nodes ≡ nodes_through begin.nodes (a.items ++ call_chunk due.plugin due.hook due.moment es tail)
    through_chunk = edited_nodes called_state es ∙ (ap (λ ns. apply_all ns es) (sym before_nodes) ∙ (sym (quiet (apply_all (nodes_through begin.nodes a.items) es)) ∙ (sym (Chunks.edits_through (nodes_through begin.nodes a.items) es tail) ∙ sym (Chunks.through-append begin.nodes a.items (call_chunk due.plugin due.hook due.moment es tail)))))

    pub cursor_chunk : (serial : ℕ) (c : Place) → cursor_at begin.cursors serial ≡ Some c → cursor_at k.cursors serial ≡ moved_through begin.nodes (a.items ++ call_chunk due.plugin due.hook due.moment es tail) (Some c)
    cursor_chunk serial c e =
        let m = some_moved begin.nodes a.items c in
        let here : cursor_at v.at.cursors serial ≡ Some m.0 = ap (λ (y : Forest). cursor_at y.cursors serial) v.logged ∙ (a.cursors serial c e ∙ m.1) in
        let N = nodes_through begin.nodes a.items in
        let eq : v.at.nodes ≡ N = at_nodes ∙ (sym d.nodes ∙ sym before_nodes) in
        visit.edited.cursors serial m.0 here
        ∙ (ap (λ ns. moved_all ns es (Some m.0)) eq
        ∙ (sym (still (apply_all N es) (moved_all N es (Some m.0)))
        ∙ (sym (Chunks.edits_moved N es tail (Some m.0))
        ∙ (ap (λ y. moved_through N (map (λ e. I.Edit e) es ++ tail) y) (sym m.1)
        ∙ sym (Chunks.moved-append begin.nodes a.items (call_chunk due.plugin due.hook due.moment es tail) (Some c))))))

    pub log_chunk : (g : Forest) → g.log ≡ k.log ++ tail → g.log ≡ begin.log ++ (a.items ++ call_chunk due.plugin due.hook due.moment es tail)
    log_chunk g e =
        let c : v.at.log ≡ f.log ++ I.Call due.plugin due.hook due.moment ∷ [] = ap (λ (y : Forest). y.log) v.logged in
        let ed = map (λ e. I.Edit e) es in
        let one = I.Call due.plugin due.hook due.moment ∷ [] in
        e ∙ (ap (λ l. l ++ tail) (visit.edited.log ∙ (ap (λ l. l ++ ed) (c ∙ ap (λ l. l ++ one) a.log))) ∙ (append_assoc ((begin.log ++ a.items) ++ one) ed tail ∙ (append_assoc (begin.log ++ a.items) one (ed ++ tail) ∙ append_assoc begin.log a.items (call_chunk due.plugin due.hook due.moment es tail))))

    pub duty_chunk : edits_ahead tail ≡ 0 → ((u : State) → Keeps old hs most u tail) → Dutiful v.visited.visited.was.duty v.at.nodes due.moment es (came_back tail) → Keeps old hs most (start hs begin.nodes) (a.items ++ call_chunk due.plugin due.hook due.moment es tail)
    duty_chunk z kt h =
        let rest = map (λ e. I.Edit e) es ++ tail in
        let nodes : v.at.nodes ≡ a.state.nodes = at_nodes ∙ sym d.before in
        let o : duty_of (hook_at old due.plugin due.hook) a.state.nodes due.moment es (came_back tail) = owed_at x due.plugin due.hook (length begin.log) a.items (hook_at old due.plugin due.hook) (hook_at new1 due.plugin due.hook) v.visited.visited.was a.state.nodes due.moment es (came_back tail) (hook_before v.visited) (a.hears.hooks due.plugin due.hook) (subst (λ ns. Dutiful v.visited.visited.was.duty ns due.moment es (came_back tail)) nodes h) in
        let p : duty_of (hook_at old due.plugin due.hook) a.state.nodes due.moment (first_edits rest) (came_back tail) = subst (λ l. duty_of (hook_at old due.plugin due.hook) a.state.nodes due.moment l (came_back tail)) (sym (first_are old hs most es tail z)) o in
        let q : duty_of (hook_at old due.plugin due.hook) a.state.nodes due.moment (first_edits rest) (came_back (behind_edits rest)) = subst (λ l. duty_of (hook_at old due.plugin due.hook) a.state.nodes due.moment (first_edits rest) (came_back l)) (sym (behind_is old hs most es tail z)) p in
        keeps-append old hs most (start hs begin.nodes) a.state a.items (call_chunk due.plugin due.hook due.moment es tail) tt a.duties a.run (q, λ t e. keeps_edits old hs most t es tail kt)

  abbrev pub back_state : Option (List ℕ) → State
  back_state fault = back most (edited_all called_state es) fault

  -- the call came back
  abbrev pub back_ran : (g : Forest) (fault : Option (List ℕ)) → IsBack answer fault → unreserved g ≡ noted (unreserved k) (I.Back fault) → Ran (ok_of x) hs most begin old g new2
  back_ran g fault b e = record {
    items = a.items ++ call_chunk due.plugin due.hook due.moment es (I.Back fault ∷ []);
    state = back_state fault;
    text = ap (λ (y : Forest). y.text) e ∙ (visit.edited.text ∙ (ap (λ (y : Forest). y.text) v.logged ∙ a.text));
    log = log_chunk (I.Back fault ∷ []) (λ ns. refl) (λ ns c. refl) g (ap (λ (y : Forest). y.log) e);
    run = follow_append hs most (start hs begin.nodes) a.state a.items (call_chunk due.plugin due.hook due.moment es (I.Back fault ∷ [])) a.run ∙ follow_call hs most a.state (I.Call due.plugin due.hook due.moment) es fault d.free d.item d.calling cans;
    nodes = ap (λ (y : Forest). y.nodes) e ∙ (after_nodes ∙ sym (back_nodes most (edited_all called_state es) fault));
    through = back_nodes most (edited_all called_state es) fault ∙ through_chunk (I.Back fault ∷ []) (λ ns. refl) (λ ns c. refl);
    cursors = λ serial c i. ap (λ (y : Forest). cursor_at y.cursors serial) e ∙ cursor_chunk (I.Back fault ∷ []) (λ ns. refl) (λ ns c. refl) serial c i;
    hears = record { names = same_names v.visited ∙ a.hears.names; hooks = heard_back x err old v.visited (length begin.log) a.items len (I.Back fault ∷ []) refl (λ i j n. refl) (λ i j. said_else i j fault) (λ i j n. said_same i j n fault) fault b refl a.hears.hooks };
    duties = duty_chunk (I.Back fault ∷ []) (λ ns. refl) (λ ns c. refl) refl (λ u. (tt, λ t i. tt)) (came_with v.visited.visited.was.duty v.at.nodes due.moment es answer fault b visit.does);
  }

  -- the call's end was not logged
  abbrev pub open_ran : (g : Forest) → unreserved g ≡ unreserved k → Ran (err_of {A = A} err) hs most begin old g new2
  open_ran g e =
      let i : follow hs most a.state (I.Call due.plugin due.hook due.moment ∷ []) ≡ Some called_state = follow_one hs most a.state a.state called_state [] (I.Call due.plugin due.hook due.moment) refl (step_item hs most a.state (I.Call due.plugin due.hook due.moment) d.free d.item) in
      let j : follow hs most a.state (I.Call due.plugin due.hook due.moment ∷ map (λ e. I.Edit e) es) ≡ Some (edited_all called_state es) = follow_append hs most a.state called_state (I.Call due.plugin due.hook due.moment ∷ []) (map (λ e. I.Edit e) es) i ∙ follow_edits hs most called_state es d.calling cans in
      record {
        items = a.items ++ call_chunk due.plugin due.hook due.moment es [];
        state = edited_all called_state es;
        text = ap (λ (y : Forest). y.text) e ∙ (visit.edited.text ∙ (ap (λ (y : Forest). y.text) v.logged ∙ a.text));
        log = log_chunk [] (λ ns. refl) (λ ns c. refl) g (ap (λ (y : Forest). y.log) e ∙ sym (append-nil k.log));
        run = follow_append hs most (start hs begin.nodes) a.state a.items (call_chunk due.plugin due.hook due.moment es []) a.run ∙ (ap (λ l. follow hs most a.state (I.Call due.plugin due.hook due.moment ∷ l)) (append-nil (map (λ e. I.Edit e) es)) ∙ j);
        nodes = ap (λ (y : Forest). y.nodes) e ∙ after_nodes;
        through = through_chunk [] (λ ns. refl) (λ ns c. refl);
        cursors = λ serial c i. ap (λ (y : Forest). cursor_at y.cursors serial) e ∙ cursor_chunk [] (λ ns. refl) (λ ns c. refl) serial c i;
        hears = record { names = same_names v.visited ∙ a.hears.names; hooks = heard_open x err old v.visited (length begin.log) a.items len [] refl (λ i j n. refl) (λ i j. refl) (λ i j n. refl) refl a.hears.hooks };
        duties = duty_chunk [] (λ ns. refl) (λ ns c. refl) refl (λ u. tt) (front_done v.visited.visited.was.duty v.at.nodes due.moment es answer visit.does);
      }
