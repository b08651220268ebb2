use Rattle.std.proofs.Common.{◌≡◌, ◌+◌, ◌∷◌, drop, sym, ap, ◌∙◌, arith}
use Rattle.std.proofs.lemmas.List.{drop_more}
use Rattle.lint_config.specs.ConfigView.{named_view, rules_view}
use Rattle.lint_config.specs.ModesView.{modes_view}
use Rattle.lint_config.specs.Resolved.{set_name, set_names as names_set}
use Rattle.lint_config.proofs.Modes.{modes_view-insert_entry}
use Rattle.lint_config.proofs.resolve.set_names.Goals as goal

pub loop-named-preserved : goal.loop-named-preserved
loop-named-preserved c =
    let l = c.loop-named in
    let names = c.args.names.now in
    let named = c.named-item.result in
    let old = modes_view l.modes.entries in
    let here : drop l.named-index names ≡ named ∷ drop (l.named-index + 1) names =
    drop_more names l.named-index named (omega arith) ∙ ap (λ y. y ∷ drop (l.named-index + 1) names) (sym c.named-item.is) in
    let set : modes_view c.insert.new.self.entries ≡ set_name (named_view named) old =
    ap modes_view c.in_ok-insert.ensures.entries ∙ modes_view-insert_entry l.modes.entries c.as_str.result named.mode
    ∙ ap (λ k. set_name (record { name = k; mode = named.mode }) old) c.as_str.ensures.value in
    l.invariant ∙ ap (λ ns. names_set (rules_view ns) old) here ∙ ap (names_set (rules_view (drop (l.named-index + 1) names))) (sym set)
