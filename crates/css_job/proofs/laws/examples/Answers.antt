use Rattle.std.proofs.Common.{refl}
use lib.Utf8.{encode}
use Rattle.std.specs.Fmt.{digits}
use Rattle.std.specs.Str.{chars, is_utf8}
use Rattle.std.specs.Str.Lossy.{utf8_valid_len}
use Rattle.css_text.specs.Place.{place_of}
use Rattle.css_text.specs.Characters.{is_space, is_quote, is_single, ends_word}
use Rattle.css_text.specs.Forms.{begins_url}
use Rattle.css_text.specs.Pieces.{first, cut}
use Rattle.css_tree.specs.Pieces.{pieces_of, join, shape, is_blank}
use Rattle.css_tree.specs.Turn.{turn, is_custom, is_allowed, colon_next}
use Rattle.css_tree.specs.Fault.{lexical_fault, fault, fault_from}
use Rattle.css_tree.specs.Clean.{clean_of}
use Rattle.css_tree.specs.Print.{print, body, print_children}
use Rattle.css_tree.specs.Nodes.{ends_with_semicolon}
use Rattle.css_tree.proofs.Split.{solid_by, tail_by, lead_by, unlead_by}
use Rattle.css_tree.proofs.TreeOf.{trees}
use Rattle.css_tree.proofs.Reader.{outcome, settle}
use Rattle.css_tree.proofs.Reading.{reads-as}
use Rattle.node_rows.specs.NumberTrees.{levels, number_trees}
use Rattle.command_words.specs.Words.{command_of}
use Rattle.css_job.specs.Trace.{trace, caller}
use Rattle.css_job.specs.Report.{report}
use Rattle.css_job.specs.CommandPlan.{text_plan}
use Rattle.css_job.specs.Answer.{answer}
use Rattle.css_job.specs.Examples.{unclosed}
use Rattle.css_job.proofs.Readings.{faulty_as}
use Rattle.css_job.proofs.laws.examples.Goals as goal

pub returns-clause-empty_block : goal.returns-clause-empty_block
unfolding chars encode digits place_of report text_plan answer is_utf8 command_of is_space is_quote is_single ends_word begins_url first cut pieces_of lexical_fault outcome turn shape is_custom is_allowed colon_next is_blank solid_by tail_by lead_by unlead_by trees ends_with_semicolon settle join clean_of
returns-clause-empty_block c = (reads-as _ _ refl, λ r. refl, λ r. refl)

pub returns-clause-printed : goal.returns-clause-printed
unfolding chars encode digits print body print_children levels number_trees text_plan answer is_utf8 command_of
returns-clause-printed c = (refl, refl)

pub returns-clause-dropped : goal.returns-clause-dropped
unfolding chars encode digits print body print_children levels number_trees text_plan answer is_utf8 command_of trace
returns-clause-dropped c = refl

pub returns-clause-failing : goal.returns-clause-failing
unfolding chars encode digits print body print_children levels number_trees text_plan answer is_utf8 command_of trace caller
returns-clause-failing c = refl

pub returns-clause-spent : goal.returns-clause-spent
unfolding chars encode digits print body print_children levels number_trees text_plan answer is_utf8 command_of
returns-clause-spent c = (refl, refl)

pub returns-clause-nested : goal.returns-clause-nested
unfolding chars encode digits place_of report text_plan answer is_utf8 command_of is_space is_quote is_single ends_word begins_url first cut pieces_of lexical_fault outcome turn shape is_custom is_allowed colon_next is_blank solid_by tail_by lead_by unlead_by trees ends_with_semicolon settle join clean_of
returns-clause-nested c = (reads-as _ _ refl, λ r. refl)

pub returns-clause-unclosed : goal.returns-clause-unclosed
unfolding chars encode digits place_of report text_plan answer is_utf8 command_of is_space is_quote is_single ends_word begins_url first cut pieces_of lexical_fault fault fault_from turn shape is_custom is_allowed colon_next is_blank
returns-clause-unclosed c = (faulty_as _ unclosed refl refl, λ r. refl, λ r. refl)

pub returns-clause-wrong : goal.returns-clause-wrong
unfolding chars encode digits answer is_utf8 utf8_valid_len command_of
returns-clause-wrong c = λ reading r. refl

pub returns-clause-broken : goal.returns-clause-broken
unfolding chars encode digits answer command_of
returns-clause-broken c = λ reading r. refl

pub returns-clause-no_word : goal.returns-clause-no_word
unfolding chars encode digits answer command_of
returns-clause-no_word c = λ reading r. refl
