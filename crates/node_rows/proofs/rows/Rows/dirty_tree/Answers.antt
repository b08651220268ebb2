use Rattle.std.proofs.Common.{◌∷◌, ap, true}
use Rattle.node_rows.specs.Marks.{all_dirty, dirtied}
use Rattle.node_rows.proofs.Behind.{held-self}
use Rattle.node_rows.proofs.Marked.{next_after}
use Rattle.node_rows.proofs.SameLinks.{SameLinks-self, SameLinks-marked}
use Rattle.node_rows.proofs.Turns.{behind-self, dirty_on, to_go_falls}
use Rattle.node_rows.proofs.rows.Rows.dirty_tree.Goals as goal

pub loop-at-init : goal.loop-at-init
unfolding dirtied
loop-at-init c =
    let ns = c.args.self.now in
    record {
      sound = c.facts.ensures;
      same = SameLinks-self ns;
      root = c.requires;
      rest = (c.requires, held-self ns c.args.n c.requires, ap (λ l. all_dirty ns (c.args.n ∷ l)) (behind-self ns c.facts.ensures c.args.n c.requires));
    }

pub loop-at-smaller : goal.loop-at-smaller
loop-at-smaller c =
    let i = c.loop-at.invariant in
    rw c.in-Some.is (to_go_falls c.args.self.now c.args.n c.in-Some.m c.follower-at.result
    (next_after c.args.self.now c.loop-at.self c.set_dirty.new.self c.args.n c.in-Some.m c.follower-at.result i.same c.set_dirty.ensures c.follower-at.ensures))

pub loop-at-preserved : goal.loop-at-preserved
loop-at-preserved c =
    let i = c.loop-at.invariant in
    let ns = c.args.self.now in
    let h = rw c.in-Some.is at i.rest in
    record {
      sound = i.sound;
      same = rw c.set_dirty.ensures (SameLinks-marked ns c.loop-at.self c.in-Some.m true i.same);
      root = i.root;
      rest = rw c.set_dirty.ensures (dirty_on ns c.loop-at.self _ c.args.n c.in-Some.m c.follower-at.result h.2
          (next_after ns c.loop-at.self c.set_dirty.new.self c.args.n c.in-Some.m c.follower-at.result i.same c.set_dirty.ensures c.follower-at.ensures));
    }
