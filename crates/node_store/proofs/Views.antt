-- The forest that a store shows after an edit.
use Rattle.std.proofs.Common.{◌≡◌, ℕ, List, [], ◌∷◌, ◌++◌, map, true, cond, Option, None, refl, ap, sym, ◌∙◌, subst}
use Rattle.std.specs.Option.{option_map}
use Rattle.node_rows.specs.Nodes.{Node}
use Rattle.node_store.specs.declared.item.Edit.{Edit}
use Rattle.node_store.specs.declared.item.Item.{Item}
use Rattle.node_store.specs.declared.item.Item.TheVariants as I
use Rattle.node_store.specs.declared.seat.Seat.{Seat}
use Rattle.node_store.specs.Forest.{Forest, Place, unreserved}
use Rattle.node_store.specs.Edits.{apply, changes, edited, edited_where, moved_place}
use Rattle.node_store.specs.Seats.{shown_seats}

abbrev pub shown_forest : List ℕ → List Node → List (Option Seat) → List Item → ℕ → Option ℕ → Forest
shown_forest text ns ss log spare room = record { text = text; nodes = ns; cursors = shown_seats ns ss; log = log; spare = spare; room = room }

pub forest-same : (text : List ℕ) (a b : List Node) (c d : List (Option Place)) (l m : List Item) (spare : ℕ) (room : Option ℕ) → a ≡ b → c ≡ d → l ≡ m
    → (let f : Forest = record { text = text; nodes = a; cursors = c; log = l; spare = spare; room = room } in f) ≡ record { text = text; nodes = b; cursors = d; log = m; spare = spare; room = room }
forest-same text a b c d l m spare room e g h = rw (e, g, h) refl

module _ (f : Forest) (text : List ℕ) (ns : List Node) (ss : List (Option Seat)) (log : List Item) (spare : ℕ) (room : Option ℕ) (view : shown_forest text ns ss log spare room ≡ f) where
  pub view-edited : (e : Edit) (ms : List Node) (ts : List (Option Seat)) (lent new : List Item) → ms ≡ apply ns e → shown_seats ms ts ≡ map (option_map (moved_place ns e)) (shown_seats ns ss) → lent ≡ log → new ≡ lent ++ I.Edit e ∷ []
      → unreserved (shown_forest text ms ts new 0 None) ≡ edited (unreserved f) e
  view-edited e ms ts lent new a c l m =
      forest-same text ms (apply ns e) (shown_seats ms ts) (map (option_map (moved_place ns e)) (shown_seats ns ss)) new (log ++ I.Edit e ∷ []) 0 None a c (m ∙ ap (λ x. x ++ I.Edit e ∷ []) l)
      ∙ ap (λ w. edited (unreserved w) e) view

  -- an edit that changes something
  pub view-where : (e : Edit) → changes ns e ≡ true → edited (unreserved f) e ≡ edited_where (unreserved f) e
  view-where e h =
      let g : changes f.nodes e ≡ true = subst (λ w. changes w.nodes e ≡ true) view h in
      ap (λ b. cond b (edited (unreserved f) e) (unreserved f)) (sym g)

  -- where nothing has changed
  pub view-kept : (ms : List Node) (new : List Item) → ms ≡ ns → new ≡ log → unreserved (shown_forest text ms ss new 0 None) ≡ unreserved f
  view-kept ms new a l =
      forest-same text ms ns (shown_seats ms ss) (shown_seats ns ss) new log 0 None a (ap (λ x. shown_seats x ss) a) l
      ∙ ap unreserved view

  pub view-spare : spare ≡ f.spare
  view-spare = ap (λ w. w.spare) view
