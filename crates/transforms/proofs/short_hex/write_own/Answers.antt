use Rattle.std.proofs.Common.{◌++◌, ap, sym, ◌∙◌}
use Rattle.std.specs.Str.{chars}
use Rattle.std.specs.String.{string_bytes}
use Rattle.std.proofs.lemmas.Result.{on_ok_weaker}
use Rattle.value_parse.specs.Tree.{form_of}
use Rattle.transforms.specs.Hex.{short_own}
use Rattle.transforms.proofs.Shorts.{on_str, other_own, word_own}
use Rattle.transforms.proofs.short_hex.write_own.Goals as goal

pub returns-then-not-is_word : goal.returns-then-not-is_word
returns-then-not-is_word c =
    let t = chars c.args.own.now in
    on_str c.args.text.now c.push_str.result (string_bytes c.push_str.new.self) c.args.own.now (short_own (form_of c.args.kind) t) (other_own (form_of c.args.kind) t (sym c.is_word.ensures ∙ c.if-not-is_word.true)) c.push_str.ensures.bytes

pub returns : goal.returns
returns c =
    let t = chars c.args.own.now in
    on_ok_weaker c.push_word.result (λ e. e ∙ ap (λ x. chars (string_bytes c.args.text.now) ++ x) (sym (word_own (form_of c.args.kind) t (sym c.is_word.ensures ∙ c.if-not-is_word.false)))) c.push_word.ensures
