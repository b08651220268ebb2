use Rattle.std.proofs.Common.{◌≡◌, ◌∙◌, ◌++◌, ◌∷◌, [], length, true, refl, ap, sym, subst}
use Rattle.std.specs.Option.{IfSome}
use Rattle.std.proofs.lemmas.Result.{MatchResult-from_err}
use Rattle.node_store.specs.declared.item.Edit.TheVariants.{New}
use Rattle.node_store.specs.declared.item.Item.TheVariants as I
use Rattle.node_store.specs.Forest.{IsSpanOf, unreserved}
use Rattle.node_store.specs.Edits.{is_allowed, edited}
use Rattle.node_store.proofs.Stores.{edited-made}
use Rattle.node_store.proofs.Views.{view-edited, view-kept}
use Rattle.node_store.proofs.work.Work.make.Goals as goal

pub returns-in_err-add : goal.returns-in_err-add
returns-in_err-add c =
    MatchResult-from_err _ _ _ c.from_residual-in_err-add.ensures.0
    (λ _. view-kept c.args.self.now _ _ _ _ _ _ c.self.view_is c.add.new.self c.reserve.new.self.items c.in_err-add.ensures c.in_ok-reserve.ensures.items)

pub invariant_of-self-2 : goal.invariant_of-self-2
invariant_of-self-2 c =
    let allowed = subst (λ f. is_allowed f.nodes (New (length f.nodes) c.args.text c.args.span) ≡ true) (sym c.self.view_is) c.requires.allowed in
    let within = subst (λ f. IfSome c.args.span (IsSpanOf f.text)) (sym c.self.view_is) c.requires.within in
    (edited-made c.self.inside.text c.self.inside.rows c.self.inside.seats.items c.self.invariant (length c.self.inside.rows) c.args.text c.args.span c.add.new.self allowed within refl c.in_ok-add.ensures.1).stored

pub returns : goal.returns
returns c =
    let f = c.args.self.now in
    let ns = c.self.inside.rows in
    let text = c.args.text in
    let span = c.args.span in
    let lent = c.reserve.new.self.items in
    let allowed = subst (λ f. is_allowed f.nodes (New (length f.nodes) text span) ≡ true) (sym c.self.view_is) c.requires.allowed in
    let within = subst (λ f. IfSome span (IsSpanOf f.text)) (sym c.self.view_is) c.requires.within in
    let done = edited-made c.self.inside.text ns c.self.inside.seats.items c.self.invariant (length ns) text span c.add.new.self allowed within refl c.in_ok-add.ensures.1 in
    let is_last = c.new-node.ensures ∙ c.in_ok-add.ensures.0 in
    let size = ap (λ w. length w.nodes) c.self.view_is in
    let logged = c.push_reserved.ensures.items ∙ (ap (λ k. lent ++ I.Edit (New k c.in_ok-copy.copy c.in_ok-packed.packed) ∷ []) is_last
    ∙ (ap (λ t. lent ++ I.Edit (New (length ns) t c.in_ok-packed.packed) ∷ []) (c.in_ok-copy.ensures ∙ c.in_ok-copy_node.ensures)
    ∙ ap (λ s. lent ++ I.Edit (New (length ns) text s) ∷ []) c.in_ok-packed.ensures.0)) in (
      is_last ∙ size,
      view-edited f _ _ _ _ _ _ c.self.view_is (New (length ns) text span) c.add.new.self c.self.inside.seats.items lent c.push_reserved.new.self.items c.in_ok-add.ensures.1 done.shown c.in_ok-reserve.ensures.items logged
          ∙ ap (λ k. edited (unreserved f) (New k text span)) size,
    )
