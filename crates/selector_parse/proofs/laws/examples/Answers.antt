use Rattle.std.proofs.Common.{refl, lit<, codes, false, []}
use Rattle.css_text.specs.Characters.{is_space, is_quote}
use Rattle.selector_parse.specs.declared.part.PartKind.TheVariants.{Element}
use Rattle.selector_parse.specs.declared.reading.Reading.TheVariants.{Blank}
use Rattle.selector_parse.specs.declared.reading.Gap.TheVariants.{Symbol}
use Rattle.selector_parse.specs.Tree.{none, gap, simple, combinator}
use Rattle.selector_parse.specs.Names.{is_legacy, is_logical}
use Rattle.selector_parse.specs.Worth.{names_all, is_where}
use Rattle.selector_parse.specs.Wide.{value, weight}
use Rattle.selector_parse.specs.Reading.{step}
use Rattle.selector_parse.specs.Machine.{at_start, in_gap}
use Rattle.selector_parse.proofs.Follows.{blocked_fault}
use Rattle.selector_parse.proofs.laws.examples.Goals as goal

pub returns-clause-names : goal.returns-clause-names
returns-clause-names c = (refl, refl, refl, refl, refl, refl)

pub returns-clause-elements : goal.returns-clause-elements
returns-clause-elements c = (refl, refl, refl, refl, refl, refl, refl)

pub returns-clause-kinds : goal.returns-clause-kinds
unfolding is_quote is_legacy
returns-clause-kinds c = (refl, refl, refl, refl, refl, refl, refl, refl, refl, refl, refl)

pub returns-clause-gaps : goal.returns-clause-gaps
unfolding is_space
returns-clause-gaps c = (refl, refl, refl, refl, refl, refl, refl, refl, refl, refl)

pub returns-clause-balanced : goal.returns-clause-balanced
unfolding is_quote is_space
returns-clause-balanced c = (refl, refl, refl, refl, refl, refl)

pub returns-clause-blanks : goal.returns-clause-blanks
unfolding is_space
returns-clause-blanks c = record { text = refl; begins = refl; are = (refl, refl, (refl, refl, (refl, refl, (refl, (refl, refl, (refl, refl, (refl, refl, tt))))))); places = (refl, (refl, (refl, (refl, (refl, (refl, tt)))))) }

pub returns-clause-notes : goal.returns-clause-notes
unfolding is_space
returns-clause-notes c = record { text = refl; begins = refl; are = (refl, refl, (refl, refl, (refl, refl, (refl, refl, tt)))); places = (refl, (refl, (refl, (refl, tt)))) }

pub returns-clause-lists : goal.returns-clause-lists
unfolding is_space is_quote is_legacy is_logical
returns-clause-lists c = (
  record { text = refl; begins = refl; are = (refl, refl, lit< tt, refl, (refl, refl, tt), refl, tt); places = (refl, (refl, tt), tt) },
  record { text = refl; begins = refl; are = (refl, refl, lit< tt, refl, refl, tt); places = (refl, tt) },
  record { text = refl; begins = refl; are = (refl, refl, lit< tt, refl, refl, tt); places = (refl, tt) },
)

pub returns-clause-simple : goal.returns-clause-simple
unfolding is_quote is_legacy
returns-clause-simple c = (
  record { text = refl; begins = refl; are = (refl, refl, (refl, refl, tt)); places = (refl, (refl, tt)) },
  record { text = refl; begins = refl; are = (refl, refl, (refl, refl, tt)); places = (refl, (refl, tt)) },
)

pub returns-clause-faults : goal.returns-clause-faults
unfolding is_space step
returns-clause-faults c = (
  blocked_fault (codes "a >") (codes ",b") (codes "b") (simple Element 0 (codes "a") (gap combinator 1 (codes " >") (simple Element 3 (codes "b") none))) (0, in_gap false false (Blank Symbol))
      (record { text = refl; begins = refl; are = (refl, refl, (refl, refl, (refl, refl, tt))); places = (refl, (refl, (refl, tt))) }) refl refl,
  blocked_fault [] [] (codes "a") (simple Element 0 (codes "a") none) (0, at_start false) (record { text = refl; begins = refl; are = (refl, refl, tt); places = (refl, tt) }) refl refl,
)

pub returns-clause-specific : goal.returns-clause-specific
unfolding is_legacy is_logical is_where names_all
returns-clause-specific c = (refl, refl, refl, refl, refl, refl, refl)

pub returns-clause-normals : goal.returns-clause-normals
unfolding is_space
returns-clause-normals c = (refl, refl, refl)

pub returns-clause-signs : goal.returns-clause-signs
unfolding is_space
returns-clause-signs c = (refl, refl)

pub returns-clause-words : goal.returns-clause-words
unfolding value weight
returns-clause-words c = refl
