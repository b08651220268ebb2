use Rattle.std.proofs.Common.{rules, ◌≡◌, ap, ◌∙◌, map}
use Rattle.std.specs.Str.{chars}
use Rattle.command_words.specs.Words.{word, taken as taken_words, behind}
use Rattle.command_words.specs.GivenSeen.{all_seen, item_seen, taken_seen}
use Rattle.command_words.proofs.Takens.{option_more, word_more}
use Rattle.command_words.proofs.options.taken_from.Goals as goal

pub loop-word-preserved-in_ok-push-in-Optional : goal.loop-word-preserved-in_ok-push-in-Optional
loop-word-preserved-in_ok-push-in-Optional c =
    option_more c.loop-word.taken.options.items c.push.new.self.items c.in-Optional.given (taken_seen c.loop-word.taken).plain (item_seen c.in-Some-first_item.item) _
    (taken_words c.args.known.now (map word c.loop-word.left.now)) (taken_words c.args.known.now (map word c.in-Some-first_item.after.now))
    c.in_ok-push-in-Optional.ensures.items (ap item_seen c.in-Optional.is) c.loop-word.invariant (search rules)

pub loop-word-preserved : goal.loop-word-preserved
loop-word-preserved c =
    word_more (λ w. chars w.now) c.loop-word.taken.plain.items c.push-in-Plain.new.self.items c.in-Plain.plain (all_seen c.loop-word.taken.options.items) (item_seen c.in-Some-first_item.item) _
    (taken_words c.args.known.now (map word c.loop-word.left.now)) (taken_words c.args.known.now (map word c.in-Some-first_item.after.now))
    c.in_ok-push-in-Plain.ensures.items (ap item_seen c.in-Plain.is) c.loop-word.invariant (search rules)
