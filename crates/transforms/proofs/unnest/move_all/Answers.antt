use Rattle.std.proofs.Common.{◌≡◌, [], ◌∷◌, ◌++◌, rules, true, false, refl, ap, sym, ◌∙◌, subst, arith}
use Rattle.std.specs.Prelude.{is_ok, IsSome}
use Rattle.std.specs.Option.{option_to_list}
use Rattle.transforms.proofs.Planned.{some_of}
use Rattle.transforms.proofs.Going.{out, outs, Going, going-start, going-next, going-stopped, going-done, last-parent, last-movable, front-ok, none_left}
use Rattle.transforms.proofs.unnest.move_all.Goals as goal

pub loop-child-init : goal.loop-child-init
loop-child-init c =
    let f = c.args.work.now in
    record {
      forest = c.facts.ensures;
      going = λ p e. subst (Going f f c.args.rule p) (sym c.in_ok-children.ensures) (going-start f c.args.rule p c.facts.ensures.sound e);
    }

pub move_out-requires-clause-rule : goal.move_out-requires-clause-rule
move_out-requires-clause-rule c =
    let p = some_of _ c.requires in
    let g = c.loop-child.invariant.going p.0 p.1 in
    subst (λ o. IsSome o) (sym g.parent) refl

pub move_out-requires-clause-child : goal.move_out-requires-clause-child
move_out-requires-clause-child c =
    let p = some_of _ c.requires in
    let x = c.in-Some.child in
    let xs = c.pop.new.self.items in
    let popped : c.loop-child.children.items ≡ xs ++ x ∷ [] = c.pop.ensures.items ∙ ap (λ o. xs ++ option_to_list o) c.in-Some.is in
    let g = subst (Going c.args.work.now c.loop-child.work c.args.rule p.0) popped (c.loop-child.invariant.going p.0 p.1) in
    last-parent c.args.work.now c.loop-child.work c.args.rule p.0 x xs g

pub move_out-requires-clause-movable : goal.move_out-requires-clause-movable
move_out-requires-clause-movable c =
    let p = some_of _ c.requires in
    let x = c.in-Some.child in
    let xs = c.pop.new.self.items in
    let popped : c.loop-child.children.items ≡ xs ++ x ∷ [] = c.pop.ensures.items ∙ ap (λ o. xs ++ option_to_list o) c.in-Some.is in
    let g = subst (Going c.args.work.now c.loop-child.work c.args.rule p.0) popped (c.loop-child.invariant.going p.0 p.1) in
    last-movable c.args.work.now c.loop-child.work c.args.rule p.0 x xs g

pub returns-in_err-move_out : goal.returns-in_err-move_out
unfolding out outs
returns-in_err-move_out c = λ p e.
    let f = c.args.work.now in
    let now = c.loop-child.work in
    let x = c.in-Some.child in
    let xs = c.pop.new.self.items in
    let popped : c.loop-child.children.items ≡ xs ++ x ∷ [] = c.pop.ensures.items ∙ ap (λ o. xs ++ option_to_list o) c.in-Some.is in
    let g = subst (Going f now c.args.rule p) popped (c.loop-child.invariant.going p e) in
    let err : is_ok c.move_out.result ≡ false = search rules in
    let stopped : is_ok c.from_residual-in_err-move_out.result ≡ false = search rules in
    going-stopped f now c.args.rule p x xs g c.move_out.new.work c.move_out.result c.from_residual-in_err-move_out.result (c.move_out.ensures p g.parent) err stopped

pub loop-child-preserved : goal.loop-child-preserved
unfolding out
loop-child-preserved c =
    let f = c.args.work.now in
    let now = c.loop-child.work in
    let x = c.in-Some.child in
    let xs = c.pop.new.self.items in
    let popped : c.loop-child.children.items ≡ xs ++ x ∷ [] = c.pop.ensures.items ∙ ap (λ o. xs ++ option_to_list o) c.in-Some.is in
    let ok : is_ok c.move_out.result ≡ true = search rules in
    record {
      forest = c.facts-in-Some.ensures;
      going = λ p e.
          let g = subst (Going f now c.args.rule p) popped (c.loop-child.invariant.going p e) in
          going-next f now c.args.rule p x xs g c.move_out.new.work c.loop-child.invariant.forest.sound (front-ok now c.move_out.new.work (out now c.args.rule p x) c.move_out.result (c.move_out.ensures p g.parent) ok);
    }

pub returns : goal.returns
unfolding outs
returns c = λ p e.
    let g = c.loop-child.invariant.going p e in
    let empty : c.loop-child.children.items ≡ [] = none_left c.loop-child.children.items (omega (arith, c.loop-child.children.ok.0, c.in_default.ensures.cases.0)) in
    going-done c.args.work.now c.loop-child.work c.args.rule p c.loop-child.children.items g empty
