use Rattle.std.proofs.Common.{List, Option, ◌<◌, ◌++◌, ◌∷◌, [], length, refl, subst, sym, ap, ◌∙◌, arith}
use Rattle.css_text.specs.declared.lexer.Span.{Span}
use Rattle.node_rows.specs.declared.rows.Row.{Row}
use Rattle.node_rows.specs.Growth.{row_of}
use Rattle.node_rows.specs.Nodes.{new_node}
use Rattle.node_rows.specs.Shown.{shown_rows, IsLinked}
use Rattle.node_rows.specs.Fingers.{IsFinger}
use Rattle.node_rows.proofs.Fingers.{IsFinger-pushed}
use Rattle.node_rows.proofs.Join.{length-shown}
use Rattle.node_rows.proofs.Pushed.{shown-pushed, IsLinked-pushed}
use Rattle.node_rows.proofs.rows.Rows.add.Goals as goal

pub invariant_of-self-2 : goal.invariant_of-self-2
invariant_of-self-2 c =
    let rs = c.self.inside.items.items in
    let few : length rs < 67108865 = rw (← length-shown rs) (rw c.self.view_is c.requires) in
    let put : Row → List Row = λ x. rs ++ x ∷ [] in
    let of : Option Span → Row = λ s. row_of (record { text = c.args.text; span = s }) in
    let is_row = ◌∙◌ {A = Row} c.loose_row.ensures (ap of c.in_ok-span.ensures.0) in
    let e = ◌∙◌ {A = List Row} c.in_ok-push.ensures.items (ap put is_row) in
    subst (λ l. IsLinked l × IsFinger (shown_rows l) c.self.inside.finger) (sym e) (
      IsLinked-pushed rs c.self.invariant.0 c.args.text c.args.span few,
      subst (λ l. IsFinger l c.self.inside.finger) (sym (shown-pushed rs c.self.invariant.0 c.args.text c.args.span)) (IsFinger-pushed (shown_rows rs) (new_node c.args.text c.args.span) c.self.inside.finger refl c.self.invariant.1),
    )

pub returns : goal.returns
returns c =
    let rs = c.self.inside.items.items in
    let put : Row → List Row = λ x. rs ++ x ∷ [] in
    let of : Option Span → Row = λ s. row_of (record { text = c.args.text; span = s }) in
    let is_row = ◌∙◌ {A = Row} c.loose_row.ensures (ap of c.in_ok-span.ensures.0) in
    let e = ◌∙◌ {A = List Row} c.in_ok-push.ensures.items (ap put is_row) in (
      omega (arith, c.len-number.ensures, c.self.inside.items.ok.0, length-shown rs, ap length c.self.view_is),
      ap shown_rows e ∙ (shown-pushed rs c.self.invariant.0 c.args.text c.args.span ∙ ap (λ l. l ++ new_node c.args.text c.args.span ∷ []) c.self.view_is),
    )
