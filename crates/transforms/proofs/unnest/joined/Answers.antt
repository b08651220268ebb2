use Rattle.std.proofs.Common.{◌≡◌, ◌++◌, IfOk, drop, ap, sym, ◌∙◌, subst}
use Rattle.std.specs.Str.{chars}
use Rattle.std.specs.String.{string_bytes}
use Rattle.std.proofs.lemmas.Str.{chars-nil}
use Rattle.node_rows.specs.Nodes.{text_of}
use Rattle.value_parse.proofs.Trees.{push_chars}
use Rattle.plugin_api.specs.Effect.{own_selector}
use Rattle.transforms.specs.Reads.{selector_of}
use Rattle.transforms.proofs.Unnested.{own-is}
use Rattle.transforms.proofs.unnest.joined.Goals as goal

pub returns : goal.returns
returns c =
    let ns = c.args.work.now.nodes in
    let sel = selector_of (text_of ns c.args.rule) in
    let own = own_selector (text_of ns c.args.child) in
    subst (λ x. IfOk c.from_string.result (λ t. t ≡ x)) (push_chars c.push_str.new.self own (string_bytes c.push_str-2.new.self) c.behind_first.result.now (c.behind_first.ensures ∙ (ap (drop 1) c.selector-2.ensures ∙ sym (own-is (text_of ns c.args.child)))) c.in_ok-push_str-2.ensures.bytes
    ∙ ap (λ x. x ++ own) (push_chars c.new-text.result sel (string_bytes c.push_str.new.self) c.selector.result.now c.selector.ensures c.in_ok-push_str.ensures.bytes
    ∙ ap (λ x. x ++ sel) (ap chars c.new-text.ensures.bytes ∙ chars-nil))) c.from_string.ensures
