-- What leaves a forest fresh.
use Rattle.std.proofs.Common.{◌≡◌, ℕ, zero, suc, List, [], ◌∷◌, Option, None, refl, ap, sym, ◌∙◌, subst}
use Rattle.css_tree.specs.Reads.{Reads}
use Rattle.node_store.specs.Forest.{Forest, Place, cursor_at}
use Rattle.node_store.specs.Cursors.{with_cursor}
use Rattle.node_store.specs.Fresh.{IsFresh, ReservedIsFresh, ClosedIsFresh}

same_fresh : (f g : Forest) → g.text ≡ f.text → g.nodes ≡ f.nodes → g.log ≡ f.log → ((serial : ℕ) → cursor_at g.cursors serial ≡ None) → IsFresh f → IsFresh g
same_fresh f g text nodes log none h = record {
  tree = h.tree;
  reads = subst (λ s. Reads s h.tree) (sym text) h.reads;
  entries = h.entries;
  are_numbered = h.are_numbered;
  are_nodes = nodes ∙ h.are_nodes;
  no_cursor = none;
  no_log = log ∙ h.no_log;
}

pub reserved_is_fresh : ReservedIsFresh
reserved_is_fresh f g e h =
    same_fresh f g (ap (λ x. x.text) e) (ap (λ x. x.nodes) e) (ap (λ x. x.log) e) (λ serial. ap (λ x. cursor_at x.cursors serial) e ∙ h.no_cursor serial) h

none_left : (cs : List (Option Place)) (serial : ℕ) (c : Option Place) → ((i : ℕ) → cursor_at cs i ≡ None) → (i : ℕ) → cursor_at (with_cursor (with_cursor cs serial c) serial None) i ≡ None
none_left [] zero c h zero = refl
none_left [] zero c h (suc i) = refl
none_left [] (suc serial) c h zero = refl
none_left [] (suc serial) c h (suc i) = none_left [] serial c (λ _. refl) i
none_left (x ∷ cs) zero c h zero = refl
none_left (x ∷ cs) zero c h (suc i) = h (suc i)
none_left (x ∷ cs) (suc serial) c h zero = h 0
none_left (x ∷ cs) (suc serial) c h (suc i) = none_left cs serial c (λ j. h (suc j)) i

abbrev without_cursors : Forest → Forest
without_cursors f = record f { cursors = [] }

pub closed_is_fresh : ClosedIsFresh
closed_is_fresh f g k n serial o c h =
    let rest : without_cursors k ≡ without_cursors f = c.rest ∙ ap without_cursors o.opened in
    same_fresh f k (ap (λ x. x.text) rest) (ap (λ x. x.nodes) rest) (ap (λ x. x.log) rest)
    (λ i. c.cursors i ∙ (ap (λ x. cursor_at (with_cursor x.cursors serial None) i) o.opened ∙ none_left f.cursors serial _ h.no_cursor i))
    h
