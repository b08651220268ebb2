-- Visits that are closed one after another, the innermost first.
use Rattle.std.proofs.Common.{◌≡◌, ℕ, ◌+◌, arith, List, [], ◌∷◌, Ok, refl, ap, sym, ◌∙◌, subst}
use Rattle.node_store.specs.Forest.{Forest, cursor_at, unreserved}
use Rattle.node_store.specs.Edits.{noted}
use Rattle.node_store.specs.declared.item.Item.TheVariants as I
use Rattle.plugin_api.specs.Open.{open_total}
use Rattle.plugin_api.specs.Shelf.{PluginSeen, left_total}
use Rattle.visitor_machine.specs.Hooks.{PickedHook}
use Rattle.visitor_machine.specs.Machine.{Frame}
use Rattle.visitor_walk.specs.declared.turn.Open.{Open}
use Rattle.visitor_walk.specs.declared.spent.Limits.{Limits}
use Rattle.visitor_walk.specs.declared.walk_end.WalkEnd.{WalkEnd}
use Rattle.visitor_walk.specs.Turns.{AllApart, AllShown, AreOpen, IsSeated, held_by, held, SameBeside, Closes, Leaves}
use Rattle.visitor_walk.specs.Ran.{AreFree, Finishes}
use Rattle.visitor_walk.proofs.Turning.{top_of, below_kept}

-- a visit is left once it is logged, and its cursor closed
pub left_by : (f h g : Forest) (o : Open) → unreserved h ≡ noted (unreserved f) (I.Leave o.node) → Closes h g o.children → Leaves f g o (Ok tt)
left_by f h g o e k =
    let cs : h.cursors ≡ f.cursors = ap (λ (x : Forest). x.cursors) e in
    record {
      text = k.same.text ∙ ap (λ (x : Forest). x.text) e;
      nodes = k.same.nodes ∙ ap (λ (x : Forest). x.nodes) e;
      log = k.same.log ∙ ap (λ (x : Forest). x.log) e;
      kept = λ serial a. k.kept serial a ∙ ap (λ c. cursor_at c serial) cs;
      count = λ n passed s. k.count n passed (subst (λ c. IsSeated c o.children n passed) (sym cs) s) ∙ ap (λ c. open_total c + 0) cs;
    }

-- Of the visits rs those that are not among ss are closed.
pub record IsClosing (begin now : Forest) (rs ss : List Open) : Type 0 where
  pub same : SameBeside begin now
  pub kept : (serial : ℕ) → AllApart rs serial → AllApart ss serial × (cursor_at now.cursors serial ≡ cursor_at begin.cursors serial)
  pub count : (fs : List Frame) → AllShown begin.cursors rs fs → AreOpen now.cursors ss × (open_total now.cursors + held rs ≡ open_total begin.cursors + held ss)

pub closing_none : (f : Forest) (rs : List Open) → IsClosing f f rs rs
closing_none f rs = record { same = record { text = refl; nodes = refl; log = refl }; kept = λ serial a. (a, refl); count = λ fs h. ((fs, h), refl) }

pub closing_on : (begin f g : Forest) (rs ss ts : List Open) (o : Open) → ss ≡ o ∷ ts → IsClosing begin f rs ss → Closes f g o.children → IsClosing begin g rs ts
closing_on begin f g rs ss ts o e h k =
    let l : IsClosing begin f rs (o ∷ ts) = subst (IsClosing begin f rs) e h in
    record {
      same = record { text = k.same.text ∙ l.same.text; nodes = k.same.nodes ∙ l.same.nodes; log = k.same.log ∙ l.same.log };
      kept = λ serial a. let b = l.kept serial a in (b.0.1, k.kept serial b.0.0 ∙ b.1);
      count = λ fs a.
          let b = l.count fs a in
          let t = top_of f.cursors o ts b.0.0 b.0.1 in
          let i : open_total f.cursors + held rs ≡ open_total begin.cursors + (held_by o.children + held ts) = b.1 in
          let j : open_total g.cursors + held_by o.children ≡ open_total f.cursors + 0 = k.count o.node t.f.passed t.shown.seat in
          ((t.rest, below_kept f.cursors g.cursors o.children ts t.rest t.others (λ serial c q u. k.kept serial u ∙ q) t.below), let q : open_total g.cursors + held rs ≡ open_total begin.cursors + held ts = omega arith in q);
    }

pub closed_all : (begin f : Forest) (rs ss : List Open) → ss ≡ [] → IsClosing begin f rs ss → (fs : List Frame) → AllShown begin.cursors rs fs → open_total f.cursors + held rs ≡ open_total begin.cursors
closed_all begin f rs ss e h fs a = let i : open_total f.cursors + held rs ≡ open_total begin.cursors + 0 = ((subst (IsClosing begin f rs) e h).count fs a).1 in omega arith

-- the walk is at its end, and its visits are closed
pub finished : (hs : List PickedHook) (limits : Limits) (begin f g : Forest) (old new : List PluginSeen) (os : List Open) (end : WalkEnd) → Finishes hs limits begin old f new os end → AreFree begin os → SameBeside f g → ((fs : List Frame) → AllShown f.cursors os fs → open_total g.cursors + held os ≡ open_total f.cursors) → ((serial : ℕ) → AllApart os serial → cursor_at g.cursors serial ≡ cursor_at f.cursors serial) → Finishes hs limits begin old g new [] end
finished hs limits begin f g old new os end r free same closes kept = record {
  ran = record {
    items = r.ran.items;
    state = r.ran.state;
    text = same.text ∙ r.ran.text;
    log = same.log ∙ r.ran.log;
    run = r.ran.run;
    nodes = same.nodes ∙ r.ran.nodes;
    through = r.ran.through;
    cursors = λ serial c e. kept serial (free serial c e) ∙ r.ran.cursors serial c e;
    hears = r.ran.hears;
    duties = r.ran.duties;
  };
  ends = r.ends;
  shown = ([], tt);
  count =
      let i : open_total f.cursors + left_total old ≡ open_total begin.cursors + left_total new + held os = r.count in
      let j : open_total g.cursors + held os ≡ open_total f.cursors = closes r.shown.0 r.shown.1 in
      let k : open_total g.cursors + left_total old ≡ open_total begin.cursors + left_total new + 0 = omega arith in
      k;
  paid = r.paid;
}
