-- Forests whose cursors are the same at each serial.
use Rattle.std.proofs.Common.{◌≡◌, ℕ, zero, suc, List, [], ◌∷◌, Bool, Option, Some, None, set, refl, ap, ◌∙◌}
use Rattle.node_rows.specs.Nodes.{Node, is_dirty}
use Rattle.node_store.specs.Forest.{Forest, Place, cursor_at}
use Rattle.node_store.specs.Cursors.{SameCursors, CursorsAreSame, answer_of, after_of, any_child, ahead, passed_on}

-- another cursor in place of one that is open in both
both_set : (cs ds : List (Option Place)) (serial : ℕ) (p : Place) (c : Option Place) → cursor_at cs serial ≡ Some p → ((i : ℕ) → cursor_at cs i ≡ cursor_at ds i) → (i : ℕ) → cursor_at (set cs serial c) i ≡ cursor_at (set ds serial c) i
both_set [] ds serial p c e h i = absurd cc
both_set (x ∷ cs) [] serial p c e h i = let f = h serial in absurd cc
both_set (x ∷ cs) (y ∷ ds) zero p c e h zero = refl
both_set (x ∷ cs) (y ∷ ds) zero p c e h (suc i) = h (suc i)
both_set (x ∷ cs) (y ∷ ds) (suc serial) p c e h zero = h 0
both_set (x ∷ cs) (y ∷ ds) (suc serial) p c e h (suc i) = both_set cs ds serial p c e (λ j. h (suc j)) i

module _ (f g : Forest) (h : SameCursors f g) where
  nodes_same : f.nodes ≡ g.nodes
  nodes_same = ap (λ x. x.nodes) h.rest

  abbrev moved : Forest → (ℕ → Bool) → Place → Option Place
  moved x test p = Some (passed_on p (ahead x test p))

  answer : (test : List Node → ℕ → Bool) (serial : ℕ) → answer_of f (test f.nodes) (cursor_at f.cursors serial) ≡ answer_of g (test g.nodes) (cursor_at g.cursors serial)
  answer test serial = ap (answer_of f (test f.nodes)) (h.cursors serial) ∙ by (cursor_at g.cursors serial)
    where
      by : (c : Option Place) → answer_of f (test f.nodes) c ≡ answer_of g (test g.nodes) c
      by None = refl
      by (Some p) = ap (λ x. answer_of x (test x.nodes) (Some p)) h.rest

  after : (test : List Node → ℕ → Bool) (serial : ℕ) → SameCursors (after_of f (test f.nodes) serial (cursor_at f.cursors serial)) (after_of g (test g.nodes) serial (cursor_at g.cursors serial))
  after test serial = by (cursor_at f.cursors serial) (cursor_at g.cursors serial) refl (h.cursors serial)
    where
      by : (c d : Option Place) → cursor_at f.cursors serial ≡ c → c ≡ d → SameCursors (after_of f (test f.nodes) serial c) (after_of g (test g.nodes) serial d)
      by None None e s = h
      by None (Some q) e s = absurd cc
      by (Some p) None e s = absurd cc
      by (Some p) (Some q) e s =
          let t : moved f (test f.nodes) p ≡ moved g (test g.nodes) q = ap (λ x. moved x (test x.nodes) p) h.rest ∙ ap (λ o. alike o) s in
          record {
            cursors = λ i. both_set f.cursors g.cursors serial p (moved f (test f.nodes) p) e h.cursors i ∙ ap (λ o. cursor_at (set g.cursors serial o) i) t;
            rest = h.rest;
          }
        where
          alike : Option Place → Option Place
          alike None = None
          alike (Some o) = moved g (test g.nodes) o

pub cursors_are_same : CursorsAreSame
cursors_are_same f g h = record {
  next = answer f g h (λ _. any_child);
  next_dirty = answer f g h is_dirty;
  after_next = after f g h (λ _. any_child);
  after_next_dirty = after f g h is_dirty;
}
