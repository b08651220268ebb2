use Rattle.std.proofs.Common.{◌≡◌, [], None, OnOk, ap, sym, ◌∙◌, subst}
use Rattle.css_tree.specs.Print.{after_text, new_line}
use Rattle.node_rows.specs.NumberTrees.{plain, below}
use Rattle.stringify.specs.Sheet.{put}
use Rattle.stringify.proofs.Children.{below-some, below-none}
use Rattle.stringify.proofs.Puts.{put-none}
use Rattle.stringify.proofs.ending.write_after.Goals as goal

pub returns-in-Some-first_child : goal.returns-in-Some-first_child
returns-in-Some-first_child c =
    let ns = c.args.work.now.nodes in
    let d = c.args.depth in
    let e : after_text d c.args.after.now (plain ns (below ns c.args.n)) ≡ new_line d =
    ap (λ o. after_text d o (plain ns (below ns c.args.n))) c.in-None.is
    ∙ ap (λ t. after_text d None (plain ns t)) (below-some ns c.facts.ensures.sound c.args.n c.in-Some-first_child.field-0 (sym c.first_child.ensures ∙ c.in-Some-first_child.is)) in
    subst (λ l. OnOk c.push_new_line.result (c.push_new_line.new.self ≡ put l c.args.out.now)) (sym e) c.push_new_line.ensures

pub returns-in-None-first_child : goal.returns-in-None-first_child
returns-in-None-first_child c =
    let ns = c.args.work.now.nodes in
    let d = c.args.depth in
    let e : after_text d c.args.after.now (plain ns (below ns c.args.n)) ≡ [] =
    ap (λ o. after_text d o (plain ns (below ns c.args.n))) c.in-None.is
    ∙ ap (λ t. after_text d None (plain ns t)) (below-none ns c.facts.ensures.sound c.args.n (sym c.first_child.ensures ∙ c.in-None-first_child.is)) in
    put-none c.args.out.now ∙ ap (λ l. put l c.args.out.now) (sym e)
