use Rattle.std.proofs.Common.{IfOk, ◌≡◌, ◌<◌, ◌≤◌, Ok, length, drop, ◌∷◌, ap, ◌∙◌, sym, subst, arith}
use Rattle.std.specs.Str.{chars}
use Rattle.css_text.specs.Ahead.{ahead, behind, end_or, next_of}
use Rattle.css_tree.specs.Pieces.{end_of}
use Rattle.css_parse.specs.Machine.{answer, faulty}
use Rattle.css_parse.specs.Model.{model, IsUpTo, IsNext, IsSmall, Advances}
use Rattle.css_parse.specs.Standing.{sheet}
use Rattle.css_parse.specs.Going.{Going}
use Rattle.css_parse.proofs.Loop.{going-on, next-piece, seen, Taken, taken, ended, Broken, broken, read_stop, still}
use Rattle.css_parse.proofs.read.read_at.Goals as goal
use Rattle.css_parse.proofs.read.read_at.Goals.{In-Ok-Some-next_at, In-Err-next_at}

here : (c : In-Ok-Some-next_at) → Going (chars c.args.src.now) c.args.src.now c.args.at c.take_plain.new.self
here c = subst (Going (chars c.args.src.now) c.args.src.now c.args.at) (sym (still c.args.src.now c.args.at c.args.parser.now c.take_plain.new.self c.take_plain.result (c.in-Ok-None.is ∙ ap Ok c.in-Ok-None.field-0-is) c.take_plain.ensures)) c.requires.going

here-too : (c : In-Err-next_at) → Going (chars c.args.src.now) c.args.src.now c.args.at c.take_plain.new.self
here-too c = subst (Going (chars c.args.src.now) c.args.src.now c.args.at) (sym (still c.args.src.now c.args.at c.args.parser.now c.take_plain.new.self c.take_plain.result (c.in-Ok-None.is ∙ ap Ok c.in-Ok-None.field-0-is) c.take_plain.ensures)) c.requires.going

next : (c : In-Ok-Some-next_at) → Taken (chars c.args.src.now) c.args.src.now (ahead c.args.at (drop c.args.at c.args.src.now)) (model c.take_plain.new.self) c.args.at c.in-Ok-Some-next_at.piece
next c =
    taken (chars c.args.src.now) c.args.src.now (ahead c.args.at (drop c.args.at c.args.src.now)) (model c.take_plain.new.self) c.args.at c.in-Ok-Some-next_at.piece c.utf8.src (here c).reading
    (sym (subst (λ z. c.next_at.result ≡ next_of (ahead c.args.at (drop c.args.at z)).pieces (ahead c.args.at (drop c.args.at z)).fault) c.as_bytes.ensures.value c.next_at.ensures.answer) ∙ (c.in-Ok-Some-next_at.is ∙ ap Ok c.in-Ok-Some-next_at.field-0-is))

fault : (c : In-Err-next_at) → Broken (chars c.args.src.now) c.args.src.now c.in-Err-next_at.fault
fault c =
    broken (chars c.args.src.now) c.args.src.now (ahead c.args.at (drop c.args.at c.args.src.now)) (model c.take_plain.new.self) c.args.at c.in-Err-next_at.fault (here-too c).reading
    (sym (subst (λ z. c.next_at.result ≡ next_of (ahead c.args.at (drop c.args.at z)).pieces (ahead c.args.at (drop c.args.at z)).fault) c.as_bytes.ensures.value c.next_at.ensures.answer) ∙ c.in-Err-next_at.is)

pub piece_in-requires : goal.piece_in-requires
piece_in-requires c = let t = next (goal.at.piece_in-requires c).In-Ok-Some-next_at in
    record { some = t.some; start = t.low; end = t.high; short = c.requires.short; kind = t.kind; formed = t.formed }

pub step-requires : goal.step-requires
step-requires c =
    let k = (goal.at.step-requires c).In-Ok-Some-next_at in
    let t = next k in
    record {
      ready = t.ready;
      small = subst (λ z. IsSmall (model c.take_plain.new.self) z.at) (sym c.piece_in.ensures) t.small;
      longer = subst (λ z. z.at < end_of z) (sym c.piece_in.ensures) t.longer;
      within = subst (λ z. end_of z ≤ 67108864) (sym c.piece_in.ensures) (let n = t.within in omega (arith, n, c.requires.short));
      next = subst (λ z. IsNext (sheet c.take_plain.new.self.texts) c.take_plain.new.self z) (sym c.piece_in.ensures)
          (next-piece (chars c.args.src.now) c.args.src.now c.args.at c.take_plain.new.self c.in-Ok-Some-next_at.piece (here k) t);
    }

pub lexical-requires : goal.lexical-requires
lexical-requires c = let k = (fault (goal.at.lexical-requires c).In-Err-next_at).within in omega (arith, k, c.requires.short)

pub returns-in-Ok : goal.returns-in-Ok
returns-in-Ok c =
    let k = (goal.at.returns-in-Ok c).In-Ok-Some-next_at in
    let t = next k in
    let m = model c.take_plain.new.self in
    let n = model c.step.new.self in
    let bs = c.args.src.now in
    let q = c.in-Ok-Some-next_at.piece in
    let rest = subst (λ r. IfOk r (λ p. ahead (end_or c.args.at p) (drop (end_or c.args.at p) c.as_bytes.result.now) ≡ behind (ahead c.args.at (drop c.args.at c.as_bytes.result.now)))) (c.in-Ok-Some-next_at.is ∙ ap Ok c.in-Ok-Some-next_at.field-0-is) c.next_at.ensures.rest in
    let more : c.args.at < q.span.end = omega (arith, t.begins, t.longer, t.ends) in
    let within : q.span.end ≤ length bs = omega (arith, t.within, t.ends) in (
      more,
      within,
      going-on (chars bs) bs c.args.at c.take_plain.new.self c.step.new.self q t (subst (λ z. ahead q.span.end (drop q.span.end z) ≡ behind (ahead c.args.at (drop c.args.at z))) c.as_bytes.ensures.value rest)
          c.in-Ok.ensures.ready (subst (λ z. IsSmall n (end_of z)) c.piece_in.ensures c.in-Ok.ensures.small) (subst (λ z. Advances m z n) c.piece_in.ensures c.in-Ok.ensures.goes_on)
          (subst (λ z. IsUpTo z c.step.new.self (end_of (seen bs q))) (here k).up_to.same (subst (λ z. IsUpTo (sheet c.take_plain.new.self.texts) c.step.new.self (end_of z)) c.piece_in.ensures c.in-Ok.ensures.up_to)),
    )

pub returns-in-Err-step : goal.returns-in-Err-step
returns-in-Err-step c =
    let t = next (goal.at.returns-in-Err-step c).In-Ok-Some-next_at in
    let m = model c.take_plain.new.self in
    read_stop c.in-Err-step.stop (chars c.args.src.now) m c.piece_in.result
    (λ f h. t.stop f (λ ps lex. subst (λ z. answer m (z ∷ ps) lex ≡ faulty f) c.piece_in.ensures (h ps lex))) c.in-Err-step.ensures.stops

pub returns-in-Ok-None-next_at : goal.returns-in-Ok-None-next_at
returns-in-Ok-None-next_at c = (
  still c.args.src.now c.args.at c.args.parser.now c.take_plain.new.self c.take_plain.result (c.in-Ok-None.is ∙ ap Ok c.in-Ok-None.field-0-is) c.take_plain.ensures,
  ended (chars c.args.src.now) c.args.src.now (ahead c.args.at (drop c.args.at c.args.src.now)) (model c.args.parser.now) c.args.at c.requires.going.reading
      (sym (subst (λ z. c.next_at.result ≡ next_of (ahead c.args.at (drop c.args.at z)).pieces (ahead c.args.at (drop c.args.at z)).fault) c.as_bytes.ensures.value c.next_at.ensures.answer) ∙ (c.in-Ok-None-next_at.is ∙ ap Ok c.in-Ok-None-next_at.field-0-is)),
)

pub returns-in-Err-next_at : goal.returns-in-Err-next_at
returns-in-Err-next_at c = (fault (goal.at.returns-in-Err-next_at c).In-Err-next_at).answers ∙ ap faulty (sym c.lexical.ensures)
