use Rattle.std.proofs.Common.{◌≡◌, ◌+◌, ◌++◌, [], ◌∷◌, ap, ◌∙◌, sym, subst, arith}
use Rattle.css_tree.specs.Pieces.{is_blank, end_of}
use Rattle.css_parse.specs.Shapes.{named}
use Rattle.css_parse.specs.Standing.{sheet}
use Rattle.css_parse.proofs.Standing.{gap}
use Rattle.css_parse.proofs.Giving.{blank-comment, each-at, named-space, Settling, settling-start, settling-space, settling-comment, settling-end, next-comment, given_nodes, given_behind}
use Rattle.css_parse.proofs.parser.settle.Goals as goal
use Rattle.css_parse.proofs.parser.settle.Goals.{in-Space, in_default+in_ok-node-in_default+in_ok-push-in_default}

pub loop-piece-init : goal.loop-piece-init
loop-piece-init c = settling-start _ _ _ _ _ c.requires.behind

pub comment_node-requires-clause-comment : goal.comment_node-requires-clause-comment
comment_node-requires-clause-comment c =
    blank-comment c.piece-item.result (ap is_blank c.piece-item.is ∙ each-at c.args.blanks.now c.loop-piece.piece-index c.piece-item.result c.loop-piece-test.true c.requires.blanks)
    (λ e. c.in_default.not-Space (named-space c.shape.result (c.shape.ensures ∙ e)))

pub comment_node-requires-clause-behind : goal.comment_node-requires-clause-behind
comment_node-requires-clause-behind c = next-comment _ _ _ _ _ _ _ _ c.loop-piece.invariant c.piece-item.result c.loop-piece-test.true c.piece-item.is

pub loop-piece-preserved : goal.loop-piece-preserved
loop-piece-preserved c =
    let bs = sheet c.args.texts in
    let p = c.piece-item.result in
    let i = c.loop-piece.piece-index in
    elim c.match-shape.branch [
      | in-Space w ↦
          let g : c.match-shape.gap ≡ gap c.loop-piece.gap.start (end_of p) = w.gap-is ∙ ap (gap c.loop-piece.gap.start) w.end-gap.ensures.value in
          subst (λ z. Settling bs c.args.number c.args.nodes.now c.args.gap.now c.args.blanks.now (i + 1) z c.match-shape.gap) (sym w.nodes-is)
          (subst (λ z. Settling bs c.args.number c.args.nodes.now c.args.gap.now c.args.blanks.now (i + 1) c.loop-piece.nodes z) (sym g)
          (settling-space _ _ _ _ _ _ _ _ c.loop-piece.invariant p c.loop-piece-test.true c.piece-item.is (sym c.shape.ensures ∙ ap named w.in-Space.is)))
      | in_default+in_ok-node-in_default+in_ok-push-in_default w ↦
          let g : c.match-shape.gap ≡ gap (end_of p) (end_of p) = w.gap-is ∙ (w.at.ensures ∙ ap (λ e. gap e e) w.end.ensures.value) in
          subst (λ z. Settling bs c.args.number c.args.nodes.now c.args.gap.now c.args.blanks.now (i + 1) c.match-shape.nodes z) (sym g)
          (settling-comment _ _ _ _ _ _ _ _ c.loop-piece.invariant p c.match-shape.nodes c.loop-piece-test.true c.piece-item.is (λ e. w.in_default.not-Space (named-space c.shape.result (c.shape.ensures ∙ e)))
          (w.nodes-is ∙ (w.in_ok-push-in_default.ensures ∙ ap (λ x. c.loop-piece.nodes ++ x ∷ []) w.in_ok-node-in_default.ensures)))
    ]

pub returns-clause-nodes : goal.returns-clause-nodes
unfolding given_nodes
returns-clause-nodes c = (settling-end _ _ _ _ _ _ _ _ c.loop-piece.invariant (omega (arith, c.loop-piece-test.false, c.loop-piece.auto.piece-index-end))).0

pub returns-clause-gap : goal.returns-clause-gap
unfolding given_behind
returns-clause-gap c = (settling-end _ _ _ _ _ _ _ _ c.loop-piece.invariant (omega (arith, c.loop-piece-test.false, c.loop-piece.auto.piece-index-end))).1

pub returns-clause-behind : goal.returns-clause-behind
returns-clause-behind c = (settling-end _ _ _ _ _ _ _ _ c.loop-piece.invariant (omega (arith, c.loop-piece-test.false, c.loop-piece.auto.piece-index-end))).2
