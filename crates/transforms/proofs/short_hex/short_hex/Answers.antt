use Rattle.std.proofs.Common.{◌≡◌, [], ◌∷◌, rules, arith, Some, Ok, sym, subst}
use Rattle.std.specs.Prelude.{IfOk, MatchOption}
use Rattle.std.specs.Str.{chars}
use Rattle.css_tree.specs.declared.node.Field.TheVariants as F
use Rattle.node_rows.specs.Nodes.{text_of, parent_of}
use Rattle.node_store.specs.declared.item.Edit.TheVariants.{Set}
use Rattle.plugin_api.specs.declared.visitor.Duty.TheVariants as D
use Rattle.plugin_api.specs.Effect.{changing, IsEffect}
use Rattle.transforms.proofs.Duties.{met-front, one-short}
use Rattle.transforms.proofs.short_hex.short_hex.Goals as goal

pub returns-in-Ok-Some : goal.returns-in-Ok-Some
returns-in-Ok-Some c =
    let f = c.args.work.now in
    let ns = f.nodes in
    let m = c.args.moment in
    let t = chars c.as_str.result.now in
    let es = changing ns (Set F.Value m.node t ∷ []) in
    let is : c.short_value.result ≡ Ok (Some c.in-Ok-Some.short) = first_of (search rules, grind (arith, c.in-Ok-Some.is, c.in-Ok-Some.field-0-is)) in
    let told = subst (λ r. IfOk r (λ o. MatchOption o (IsEffect D.ShortHex ns m []) (λ x. IsEffect D.ShortHex ns m (changing ns (Set F.Value m.node x ∷ []))))) is c.short_value.ensures.effect in
    let effect = subst (λ x. IsEffect D.ShortHex ns m (changing ns (Set F.Value m.node x ∷ []))) (sym c.as_str.ensures.characters) told in
    met-front D.ShortHex f c.set_value.new.work m es c.set_value.result c.map_err.result effect
    (λ all h. one-short ns m.node m.event (text_of ns m.node) (parent_of ns m.node) all es h effect) c.set_value.ensures c.map_err.ensures.cases
