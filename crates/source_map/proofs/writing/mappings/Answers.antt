use Rattle.std.proofs.Common.{◌≡◌, ◌∙◌, ap, sym, subst, IfOk}
use Rattle.std.specs.Str.{chars}
use Rattle.source_map.specs.Written.{mappings_text}
use Rattle.source_map.proofs.Lines.{written_step, written_all}
use Rattle.source_map.proofs.Ascii.{chars-running_text}
use Rattle.source_map.proofs.Same.{mappings_same}
use Rattle.source_map.proofs.writing.mappings.Goals as goal

pub loop-segment-preserved : goal.loop-segment-preserved
loop-segment-preserved c = written_step _ _ _ _ _ _ _ _ _ c.requires c.deref-segment-items.ensures.value c.loop-segment.invariant c.loop-segment-test.true
    c.in_ok-push_separator.ensures c.in_ok-push_segment.ensures c.after-last.ensures

pub returns : goal.returns
returns c = subst (λ x. IfOk c.from_string.result (λ t. t ≡ x)) (ap chars (written_all _ _ _ _ c.loop-segment.invariant c.loop-segment-test.false) ∙ chars-running_text c.deref-segment-items.result.now ∙ sym (mappings_same c.deref-segment-items.result.now) ∙ ap mappings_text c.deref-segment-items.ensures.value) c.from_string.ensures
