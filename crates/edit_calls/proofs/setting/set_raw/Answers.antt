use Rattle.std.specs.Prelude.{nat_lt, length}
use Rattle.std.specs.Str.{chars}
use Rattle.std.proofs.lemmas.Result.{MatchResult-weaker}
use Rattle.css_tree.specs.Changes.{takes_raw}
use Rattle.node_rows.specs.Nodes.{text_of}
use Rattle.node_store.specs.declared.fault.TreeFault.TheVariants.{NoSuchNode, WrongKind}
use Rattle.node_store.specs.declared.item.Edit.TheVariants.{SetRaw}
use Rattle.edit_calls.specs.Plans.{shaping, refused_raw, where_changing}
use Rattle.edit_calls.proofs.Answering.{plan-ok, passed, neither, makes-where, answered}
use Rattle.edit_calls.proofs.setting.set_raw.Goals as goal

pub returns : goal.returns
returns c =
    let old = c.args.work.now in
    let ns = old.nodes in
    let n = c.args.n in
    let raw = c.args.raw in
    let rs = refused_raw ns n raw in
    let e = SetRaw raw n (chars c.args.text.now) in
    let pass = passed rs c.check_raw.result c.map_err.result c.in_ok-map_err.field-0 c.map_err.ensures.variant c.in_ok-map_err.was c.check_raw.ensures in
    let allowed = neither (nat_lt n (length ns)) (takes_raw raw (text_of ns n)) NoSuchNode WrongKind pass in
    answered (shaping ns n raw (chars c.args.text.now)) (where_changing ns e) old c.set_shape.new.self c.set_shape.result c.map_err-2.result (plan-ok rs (where_changing ns e) pass)
    (MatchResult-weaker c.set_shape.result c.set_shape.ensures (λ _ h. makes-where old c.set_shape.new.self e allowed h) (λ _ h. h)) c.map_err-2.ensures.cases
