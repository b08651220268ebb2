use Rattle.std.proofs.Common.{refl}
use Rattle.css_text.specs.Characters.{is_space, is_quote, is_single, ends_word}
use Rattle.css_text.specs.Forms.{begins_url}
use Rattle.css_text.specs.Pieces.{first, cut}
use Rattle.css_tree.specs.Pieces.{pieces_of, join, shape, is_blank}
use Rattle.css_tree.specs.Turn.{turn, is_custom, is_allowed, colon_next}
use Rattle.css_tree.specs.Fault.{lexical_fault}
use Rattle.css_tree.specs.Clean.{clean_of}
use Rattle.css_tree.specs.Nodes.{ends_with_semicolon}
use Rattle.css_tree.proofs.Split.{solid_by, tail_by, lead_by, unlead_by}
use Rattle.css_tree.proofs.TreeOf.{trees}
use Rattle.css_tree.proofs.Reader.{outcome, settle}
use Rattle.css_tree.proofs.Reading.{reads-as}
use Rattle.css_tree.proofs.laws.reading_examples.Goals as goal

pub returns-clause-second_semicolon : goal.returns-clause-second_semicolon
unfolding is_space is_quote is_single ends_word begins_url first cut pieces_of lexical_fault outcome turn shape is_custom is_allowed colon_next is_blank solid_by tail_by lead_by unlead_by trees ends_with_semicolon settle join clean_of
returns-clause-second_semicolon c = reads-as _ _ refl

pub returns-clause-hack_and_mark : goal.returns-clause-hack_and_mark
unfolding is_space is_quote is_single ends_word begins_url first cut pieces_of lexical_fault outcome turn shape is_custom is_allowed colon_next is_blank solid_by tail_by lead_by unlead_by trees ends_with_semicolon settle join clean_of
returns-clause-hack_and_mark c = reads-as _ _ refl

pub returns-clause-mark_alone : goal.returns-clause-mark_alone
unfolding is_space is_quote is_single ends_word begins_url first cut pieces_of lexical_fault outcome turn shape is_custom is_allowed colon_next is_blank solid_by tail_by lead_by unlead_by trees ends_with_semicolon settle join clean_of
returns-clause-mark_alone c = reads-as _ _ refl

pub returns-clause-mark_and_comment : goal.returns-clause-mark_and_comment
unfolding is_space is_quote is_single ends_word begins_url first cut pieces_of lexical_fault outcome turn shape is_custom is_allowed colon_next is_blank solid_by tail_by lead_by unlead_by trees ends_with_semicolon settle join clean_of
returns-clause-mark_and_comment c = reads-as _ _ refl

pub returns-clause-hidden_mark : goal.returns-clause-hidden_mark
unfolding is_space is_quote is_single ends_word begins_url first cut pieces_of lexical_fault outcome turn shape is_custom is_allowed colon_next is_blank solid_by tail_by lead_by unlead_by trees ends_with_semicolon settle join clean_of
returns-clause-hidden_mark c = reads-as _ _ refl

pub returns-clause-custom_property : goal.returns-clause-custom_property
unfolding is_space is_quote is_single ends_word begins_url first cut pieces_of lexical_fault outcome turn shape is_custom is_allowed colon_next is_blank solid_by tail_by lead_by unlead_by trees ends_with_semicolon settle join clean_of
returns-clause-custom_property c = reads-as _ _ refl

pub returns-clause-custom_rule : goal.returns-clause-custom_rule
unfolding is_space is_quote is_single ends_word begins_url first cut pieces_of lexical_fault outcome turn shape is_custom is_allowed colon_next is_blank solid_by tail_by lead_by unlead_by trees ends_with_semicolon settle join clean_of
returns-clause-custom_rule c = reads-as _ _ refl

pub returns-clause-url_value : goal.returns-clause-url_value
unfolding is_space is_quote is_single ends_word begins_url first cut pieces_of lexical_fault outcome turn shape is_custom is_allowed colon_next is_blank solid_by tail_by lead_by unlead_by trees ends_with_semicolon settle join clean_of
returns-clause-url_value c = reads-as _ _ refl

pub returns-clause-brackets : goal.returns-clause-brackets
unfolding is_space is_quote is_single ends_word begins_url first cut pieces_of lexical_fault outcome turn shape is_custom is_allowed colon_next is_blank solid_by tail_by lead_by unlead_by trees ends_with_semicolon settle join clean_of
returns-clause-brackets c = reads-as _ _ refl

pub returns-clause-rule_last : goal.returns-clause-rule_last
unfolding is_space is_quote is_single ends_word begins_url first cut pieces_of lexical_fault outcome turn shape is_custom is_allowed colon_next is_blank solid_by tail_by lead_by unlead_by trees ends_with_semicolon settle join clean_of
returns-clause-rule_last c = reads-as _ _ refl

pub returns-clause-blanks_back : goal.returns-clause-blanks_back
unfolding is_space is_quote is_single ends_word begins_url first cut pieces_of lexical_fault outcome turn shape is_custom is_allowed colon_next is_blank solid_by tail_by lead_by unlead_by trees ends_with_semicolon settle join clean_of
returns-clause-blanks_back c = reads-as _ _ refl

pub returns-clause-comments_in_fields : goal.returns-clause-comments_in_fields
unfolding is_space is_quote is_single ends_word begins_url first cut pieces_of lexical_fault outcome turn shape is_custom is_allowed colon_next is_blank solid_by tail_by lead_by unlead_by trees ends_with_semicolon settle join clean_of
returns-clause-comments_in_fields c = reads-as _ _ refl

pub returns-clause-empty_params : goal.returns-clause-empty_params
unfolding is_space is_quote is_single ends_word begins_url first cut pieces_of lexical_fault outcome turn shape is_custom is_allowed colon_next is_blank solid_by tail_by lead_by unlead_by trees ends_with_semicolon settle join clean_of
returns-clause-empty_params c = reads-as _ _ refl

pub returns-clause-other_hacks : goal.returns-clause-other_hacks
unfolding is_space is_quote is_single ends_word begins_url first cut pieces_of lexical_fault outcome turn shape is_custom is_allowed colon_next is_blank solid_by tail_by lead_by unlead_by trees ends_with_semicolon settle join clean_of
returns-clause-other_hacks c = reads-as _ _ refl

pub returns-clause-white_comment : goal.returns-clause-white_comment
unfolding is_space is_quote is_single ends_word begins_url first cut pieces_of lexical_fault outcome turn shape is_custom is_allowed colon_next is_blank solid_by tail_by lead_by unlead_by trees ends_with_semicolon settle join clean_of
returns-clause-white_comment c = reads-as _ _ refl

pub returns-clause-mark_of_order : goal.returns-clause-mark_of_order
unfolding is_space is_quote is_single ends_word begins_url first cut pieces_of lexical_fault outcome turn shape is_custom is_allowed colon_next is_blank solid_by tail_by lead_by unlead_by trees ends_with_semicolon settle join clean_of
returns-clause-mark_of_order c = reads-as _ _ refl

pub returns-clause-empty_text : goal.returns-clause-empty_text
unfolding is_space is_quote is_single ends_word begins_url first cut pieces_of lexical_fault outcome turn shape is_custom is_allowed colon_next is_blank solid_by tail_by lead_by unlead_by trees ends_with_semicolon settle join clean_of
returns-clause-empty_text c = reads-as _ _ refl
