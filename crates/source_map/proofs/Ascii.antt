-- A mappings text is ASCII.
use Rattle.std.proofs.Common.{◌≡◌, ℕ, zero, suc, ◌+◌, ◌-◌, ◌/◌, ◌%◌, ◌<◌, ◌==◌, Bool, true, false, nat_lt, List, [], ◌∷◌, map, replicate, Option, Some, None, refl, arith, if◌then◌else◌}
use Rattle.std.specs.Str.{IsAscii, chars}
use Rattle.std.proofs.lemmas.Str.{IsAscii-append, chars-IsAscii}
use Rattle.std.proofs.lemmas.Str.Ascii.{IsAscii-nil, IsAscii-cons}
use Rattle.std.proofs.lemmas.Grind.{common_steps}
use Rattle.source_map.specs.declared.segment.Segment.{Segment}
use Rattle.source_map.specs.declared.segment.Origin.{Origin}
use Rattle.source_map.specs.declared.last.Last.{Last}
use Rattle.source_map.specs.Vlq.{digits, digit_code}
use Rattle.source_map.specs.Written.{field_text, origin_text, difference}
use Rattle.source_map.specs.Running.{written, nothing_yet, after, segment_text, running_text, last_column}

code_small : (d : ℕ) → d < 64 → digit_code d < 128
code_small d h = grind (arith, common_steps)

digits_small : (k n : ℕ) → IsAscii (map digit_code (digits k n))
unfolding digits
digits_small zero n = IsAscii-nil
digits_small (suc k) n = by (nat_lt n 32) k n refl (digits_small k (n / 32))
  where
    by : (b : Bool) (k n : ℕ) → nat_lt n 32 ≡ b → IsAscii (map digit_code (digits k (n / 32))) → IsAscii (map digit_code (if nat_lt n 32 then n ∷ [] else (n % 32 + 32) ∷ digits k (n / 32)))
    by true k n e h = rw e (IsAscii-cons (digit_code n) [] (code_small n (grind (arith, common_steps))) IsAscii-nil)
    by false k n e h = rw e (IsAscii-cons (digit_code (n % 32 + 32)) (map digit_code (digits k (n / 32))) (code_small (n % 32 + 32) (omega arith)) h)

field_small : (from to : ℕ) → IsAscii (field_text from to)
field_small from to = digits_small 7 (difference from to)

origin_small : (o : Origin) (p : Option Origin) → IsAscii (origin_text o p)
origin_small o None = IsAscii-nil
origin_small o (Some p) = IsAscii-append _ _ (field_small o.source p.source) (IsAscii-append _ _ (field_small o.line p.line) (field_small o.column p.column))

segment_small : (l : Last) (g : Segment) → IsAscii (segment_text l g)
segment_small l g = IsAscii-append _ _ (field_small (last_column l g.line) g.column) (origin_small l.origin g.origin)

ends_small : (n : ℕ) → IsAscii (replicate n 59)
ends_small zero = IsAscii-nil
ends_small (suc n) = IsAscii-cons 59 (replicate n 59) (omega arith) (ends_small n)

separator_by : (b c : Bool) (n : ℕ) → IsAscii (if b then (if c then [] else 44 ∷ []) else replicate n 59)
separator_by true true n = IsAscii-nil
separator_by true false n = IsAscii-cons 44 [] (omega arith) IsAscii-nil
separator_by false c n = ends_small n

written_small : (l : Last) (gs : List Segment) → IsAscii (written l gs)
unfolding written
written_small l [] = IsAscii-nil
written_small l (g ∷ gs) = IsAscii-append _ _ (separator_by (l.line == g.line) l.is_first (g.line - l.line)) (IsAscii-append _ _ (segment_small l g) (written_small (after l g) gs))

-- its characters are its bytes
pub chars-running_text : (gs : List Segment) → chars (running_text gs) ≡ running_text gs
chars-running_text gs = chars-IsAscii (running_text gs) (written_small nothing_yet gs)
