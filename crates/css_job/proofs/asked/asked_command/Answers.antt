use Rattle.std.proofs.Common.{◌≡◌, ap, ◌∙◌, length, map, subst}
use Rattle.std.specs.Prelude.{IfOk, IfSome}
use Rattle.std.specs.Option.{option_map}
use Rattle.std.proofs.lemmas.List.{length-map}
use Rattle.command_words.specs.Words.{word, command_of}
use Rattle.command_words.specs.CommandSeen.{command_seen, Picks}
use Rattle.css_job.specs.ShelfSeen.{shelf_names}
use Rattle.css_job.proofs.asked.asked_command.Goals as goal

pub returns-clause-is : goal.returns-clause-is
returns-clause-is g c =
    subst (λ names. IfOk c.command_of.result (λ x. option_map command_seen x ≡ command_of names (map word c.args.words.now)))
    (c.as_slice.ensures.value ∙ c.in_ok-names.ensures) c.command_of.ensures.is

pub returns-clause-places : goal.returns-clause-places
returns-clause-places g c =
    subst (λ n. IfOk c.command_of.result (λ x. IfSome x (Picks n)))
    (ap length (c.as_slice.ensures.value ∙ c.in_ok-names.ensures) ∙ length-map c.args.shelf.now.items (λ p. p.name)) c.command_of.ensures.places
