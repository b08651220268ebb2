use Rattle.std.proofs.Common.{refl}
use Rattle.source_map.specs.Vlq.{digits, digit_of, numbers}
use Rattle.source_map.specs.Written.{written}
use Rattle.source_map.specs.Decode.{slots, decoded, decode}
use Rattle.source_map.proofs.laws.examples.Goals as goal

pub returns-clause-numbers : goal.returns-clause-numbers
unfolding digits digit_of numbers
returns-clause-numbers c = (refl, refl, refl, refl)

pub returns-clause-texts : goal.returns-clause-texts
unfolding digits written
returns-clause-texts c = (refl, refl, refl, refl)

pub returns-clause-segments : goal.returns-clause-segments
unfolding digit_of numbers slots decoded decode
returns-clause-segments c = (refl, refl, refl, refl)

pub returns-clause-faults : goal.returns-clause-faults
unfolding digit_of numbers slots decoded decode
returns-clause-faults c = (refl, refl, refl, refl, refl)
