use Rattle.std.proofs.Common.{◌≡◌, ◌*◌, get_or, ap, arith, mul-le-mul_right}
use Rattle.selector_parse.specs.Wide.{weight}
use Rattle.selector_parse.proofs.Words.{value-zero, value-suc, value_word, weight-zero, weight_large}
use Rattle.selector_parse.proofs.wide.cut_words.Goals as goal

pub loop-i-init : goal.loop-i-init
loop-i-init c = let w = c.args.words.now in omega (arith, value-suc w 0, value-zero w, ap (λ x. get_or w 0 0 * x) weight-zero)

pub returns-then-words-i-gt0 : goal.returns-then-words-i-gt0
returns-then-words-i-gt0 c =
    let w = c.args.words.now in
    let i = c.loop-i.i in
    omega (arith, value_word w i 101 (omega arith), weight_large i (omega arith), mul-le-mul_right {m = 1} {n = get_or w i 0} (weight i) (omega arith))

pub loop-i-preserved : goal.loop-i-preserved
loop-i-preserved c =
    let w = c.args.words.now in
    let i = c.loop-i.i in
    let z : get_or w i 0 ≡ 0 = omega arith in
    omega (arith, value-suc w i, ap (λ x. x * weight i) z, c.loop-i.invariant)
