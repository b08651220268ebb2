use Rattle.std.proofs.Common.{refl}
use Rattle.css_text.specs.Characters.{is_space, is_quote, is_single, ends_word}
use Rattle.css_text.specs.Forms.{begins_url}
use Rattle.css_text.specs.Pieces.{first, cut}
use Rattle.css_tree.specs.Pieces.{pieces_of, shape}
use Rattle.css_tree.specs.Turn.{turn, is_custom, is_allowed, colon_next}
use Rattle.css_tree.specs.Fault.{lexical_fault, fault, fault_from, stop, stop_from}
use Rattle.css_tree.specs.Clean.{clean_of}
use Rattle.css_tree.specs.Print.{print, body, print_children}
use Rattle.css_tree.proofs.laws.other_examples.Goals as goal

pub returns-clause-faults : goal.returns-clause-faults
unfolding is_space is_quote is_single ends_word begins_url first cut pieces_of lexical_fault fault fault_from stop stop_from turn shape is_custom is_allowed colon_next
returns-clause-faults c = (refl, refl, refl, refl, refl, refl, refl, refl)

pub returns-clause-first_faults : goal.returns-clause-first_faults
unfolding is_space is_quote is_single ends_word begins_url first cut pieces_of lexical_fault fault fault_from stop stop_from turn shape is_custom is_allowed colon_next
returns-clause-first_faults c = (refl, refl, refl, refl, refl)

pub returns-clause-depth : goal.returns-clause-depth
unfolding is_space is_quote is_single ends_word begins_url first cut pieces_of lexical_fault fault fault_from stop stop_from turn shape is_custom is_allowed colon_next
returns-clause-depth c = (refl, refl)

pub returns-clause-cleaned : goal.returns-clause-cleaned
unfolding is_space is_quote is_single ends_word begins_url first cut clean_of
returns-clause-cleaned c = (refl, refl, refl)

pub returns-clause-new_nodes : goal.returns-clause-new_nodes
unfolding print body print_children is_space
returns-clause-new_nodes c = refl

pub returns-clause-new_and_old : goal.returns-clause-new_and_old
unfolding print body print_children is_space
returns-clause-new_and_old c = refl
