use Rattle.std.proofs.Common.{[], ◌∷◌, ◌++◌, ap, sym, ◌∙◌, append_assoc}
use Rattle.std.specs.Str.{chars}
use Rattle.std.specs.String.{string_bytes}
use Rattle.std.proofs.lemmas.Result.{on_ok_weaker}
use Rattle.plugin_api.specs.Effect.{short_word}
use Rattle.transforms.specs.Hex.{firsts}
use Rattle.transforms.proofs.Shorts.{on_str, push_hash}
use Rattle.transforms.proofs.hex.push_word.Goals as goal

pub returns-in_ok-push-in-Some : goal.returns-in_ok-push-in-Some
returns-in_ok-push-in-Some c =
    let s = chars (string_bytes c.args.text.now) in
    let d = firsts (chars c.in-Some.digits.now) in
    on_ok_weaker c.push_firsts.result (λ e. e ∙ (ap (λ x. x ++ d) (push_hash c.args.text.now (string_bytes c.push.new.self) c.in_ok-push-in-Some.ensures.bytes) ∙ (append_assoc s (35 ∷ []) d ∙ ap (λ x. s ++ x) (sym c.in-Some.ensures)))) c.push_firsts.ensures

pub returns-in-None : goal.returns-in-None
returns-in-None c = on_str c.args.text.now c.push_str.result (string_bytes c.push_str.new.self) c.args.word.now (short_word (chars c.args.word.now)) c.in-None.ensures c.push_str.ensures.bytes
