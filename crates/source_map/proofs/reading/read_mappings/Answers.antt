use Rattle.std.proofs.Common.{ℕ, List, Err, Ok, ◌≡◌, arith, subst, sym, ◌∙◌}
use Rattle.source_map.proofs.Slots.{read_none, read_all, read_next, read_stop}
use Rattle.source_map.specs.Answers.{AnswersList}
use Rattle.source_map.specs.Decode.{decode}
use Rattle.source_map.proofs.Same.{decode_same}
use Rattle.source_map.proofs.reading.read_mappings.Goals as goal

pub loop-at-init : goal.loop-at-init
loop-at-init c = read_none _ _ _ c.nothing_yet-last.ensures c.new-segments.ensures.items

pub returns-in-Err : goal.returns-in-Err
returns-in-Err c = subst (λ (t : List ℕ). AnswersList (decode t) (Err c.in-Err.stop)) c.as_bytes-bytes.ensures.value (subst (λ r. AnswersList r (Err c.in-Err.stop)) (sym (decode_same _)) (read_stop _ _ _ _ _ c.loop-at.last _ c.loop-at.segments.items _ c.loop-at.invariant c.loop-at-test.true c.slot_end-end.ensures c.in-Err.ensures))

pub loop-at-preserved : goal.loop-at-preserved
loop-at-preserved c = read_next _ _ _ _ _ _ _ _ _ c.loop-at.invariant c.loop-at-test.true c.slot_end-end.ensures c.line_behind-line.ensures c.in-Ok.ensures

pub returns : goal.returns
returns c = subst (λ (t : List ℕ). decode t ≡ Ok c.loop-at.segments.items) c.as_bytes-bytes.ensures.value (decode_same _ ∙ read_all _ _ _ _ _ c.loop-at.invariant (omega arith))
