use Rattle.std.proofs.Common.{◌≡◌, ◌++◌, ap, sym, ◌∙◌, subst, IfOk}
use Rattle.std.specs.Str.{chars}
use Rattle.std.specs.String.{string_bytes}
use Rattle.std.proofs.lemmas.Str.{chars-nil}
use Rattle.selector_parse.specs.declared.part.Args.TheViews.{out-Selectors}
use Rattle.selector_parse.specs.Tree.{written}
use Rattle.selector_parse.specs.Row.{list_parts}
use Rattle.selector_parse.proofs.Trees.{selectors_out}
use Rattle.selector_parse.proofs.print.print_selectors.Goals as goal

pub returns : goal.returns
returns c = subst (λ x. IfOk c.from_string.result (λ t. t ≡ x)) (c.in_ok-write_list.ensures ∙ ap (λ xs. chars (string_bytes c.new-text.result) ++ written (list_parts xs)) c.deref.ensures.value
    ∙ ap (λ s. s ++ written (list_parts (out-Selectors c.args.s.now).list.items)) (ap chars c.new-text.ensures.bytes ∙ chars-nil) ∙ ap written (sym (selectors_out c.args.s.now))) c.from_string.ensures
