-- The text of segments stands for them.
use Rattle.std.proofs.Common.{◌≡◌, ℕ, zero, suc, ◌+◌, ◌-◌, ◌/◌, ◌%◌, ◌<◌, ◌≤◌, ◌==◌, Bool, true, false, nat_lt, List, [], ◌∷◌, ◌++◌, length, map, replicate, get_or, All, Option, Some, None, Result, Ok, refl, sym, ap, ◌∙◌, arith, if◌then◌else◌, add-zero}
use Rattle.std.specs.List.Sorted.{IsNonDecreasingBy}
use Rattle.std.proofs.lemmas.Grind.{common_steps}
use Rattle.source_map.specs.declared.segment.Segment.{Segment}
use Rattle.source_map.specs.declared.segment.Origin.{Origin}
use Rattle.source_map.specs.declared.last.Last.{Last}
use Rattle.source_map.specs.Vlq.{digits, digit_code}
use Rattle.source_map.specs.Lines.{line_of}
use Rattle.source_map.specs.Written.{field_text, origin_text, difference}
use Rattle.source_map.specs.Decode.{Slot, slots, with_first, is_separator, decoded_by, with_segment}
use Rattle.source_map.specs.Laws.{FitsSegment}
use Rattle.source_map.specs.Running.{written, nothing_yet, after, separator, segment_text, running_text, last_column, decoded, decoded_slot, segment_in, running_decode}
use Rattle.source_map.proofs.Slots.{first_by, other_by}
use Rattle.source_map.proofs.Back.{not_separator, FitsLast, segment_back, fits_after}

-- none of these is a separator
abbrev pub NoSeparator : List ℕ → Type 0
NoSeparator [] = Unit {0}
NoSeparator (c ∷ cs) = (is_separator c ≡ false) × NoSeparator cs

no_separator-append : (xs ys : List ℕ) → NoSeparator xs → NoSeparator ys → NoSeparator (xs ++ ys)
no_separator-append [] ys h l = l
no_separator-append (x ∷ xs) ys h l = (h.0, no_separator-append xs ys h.1 l)

digits_plain : (k n : ℕ) → NoSeparator (map digit_code (digits k n))
unfolding digits
digits_plain zero n = tt
digits_plain (suc k) n = by (nat_lt n 32) k n refl (digits_plain k (n / 32))
  where
    by : (b : Bool) (k n : ℕ) → nat_lt n 32 ≡ b → NoSeparator (map digit_code (digits k (n / 32))) → NoSeparator (map digit_code (if nat_lt n 32 then n ∷ [] else (n % 32 + 32) ∷ digits k (n / 32)))
    by true k n e h = rw e (not_separator n (grind (arith, common_steps)), tt)
    by false k n e h = rw e (not_separator (n % 32 + 32) (omega arith), h)

field_plain : (a b : ℕ) → NoSeparator (field_text a b)
field_plain a b = digits_plain 7 (difference a b)

origin_plain : (o : Origin) (p : Option Origin) → NoSeparator (origin_text o p)
origin_plain o None = tt
origin_plain o (Some p) = no_separator-append (field_text o.source p.source) _ (field_plain o.source p.source) (no_separator-append (field_text o.line p.line) _ (field_plain o.line p.line) (field_plain o.column p.column))

segment_plain : (l : Last) (g : Segment) → NoSeparator (segment_text l g)
segment_plain l g = no_separator-append (field_text (last_column l g.line) g.column) _ (field_plain (last_column l g.line) g.column) (origin_plain l.origin g.origin)

-- nothing, or a separator first
abbrev pub BeginsSlot : List ℕ → Type 0
BeginsSlot [] = Unit {0}
BeginsSlot (c ∷ cs) = is_separator c ≡ true

-- the slots behind the first one of a text that begins so
abbrev pub more_slots : ℕ → ℕ → List ℕ → List Slot
more_slots line at [] = []
more_slots line at (c ∷ cs) = slots (if c == 59 then line + 1 else line) (at + 1) cs

begun : (line at : ℕ) (rest : List ℕ) → BeginsSlot rest → slots line at rest ≡ record { line = line; at = at; text = [] } ∷ more_slots line at rest
unfolding slots
begun line at [] h = refl
begun line at (c ∷ cs) h = first_by (c == 44) (c == 59) line at c cs refl refl h

-- a slot's text, and what follows it
slot_then : (line at : ℕ) (t rest : List ℕ) → NoSeparator t → BeginsSlot rest → slots line at (t ++ rest) ≡ record { line = line; at = at; text = t } ∷ more_slots line (at + length t) rest
slot_then line at [] rest h b = begun line at rest b ∙ ap (λ p. record { line = line; at = at; text = [] } ∷ more_slots line p rest) (sym (add-zero at))
slot_then line at (c ∷ cs) rest h b =
    other_by (c == 44) (c == 59) line at c (cs ++ rest) refl refl h.0
    ∙ ap (with_first line at c) (slot_then line (at + 1) cs rest h.1 b)
    ∙ ap (λ p. record { line = line; at = at; text = c ∷ cs } ∷ more_slots line p rest) (omega arith)

-- empty slots stand for nothing
lines_then : (l : Last) (m line at : ℕ) (rest : List ℕ) → decoded l (slots line at (replicate m 59 ++ rest)) ≡ decoded l (slots (line + m) (at + m) rest)
unfolding decoded
lines_then l zero line at rest = ap (λ p. decoded l (slots p at rest)) (sym (add-zero line)) ∙ ap (λ p. decoded l (slots (line + 0) p rest)) (sym (add-zero at))
lines_then l (suc m) line at rest =
    ap (decoded l) (first_by false true line at 59 (replicate m 59 ++ rest) refl refl refl) ∙ lines_then l m (line + 1) (at + 1) rest
    ∙ ap (λ p. decoded l (slots p (at + 1 + m) rest)) (omega arith) ∙ ap (λ p. decoded l (slots (line + suc m) p rest)) (omega arith)

-- a segment's text isn't empty
digits_some : (k n : ℕ) → 0 < length (map digit_code (digits (suc k) n))
unfolding digits
digits_some k n = by (nat_lt n 32)
  where
    by : (b : Bool) → 0 < length (map digit_code (if b then n ∷ [] else (n % 32 + 32) ∷ digits k (n / 32)))
    by true = omega arith
    by false = omega arith

longer : (xs ys : List ℕ) → 0 < length xs → 0 < length (xs ++ ys)
longer xs ys h = grind (arith, common_steps)

segment_some : (l : Last) (g : Segment) → 0 < length (segment_text l g)
segment_some l g = longer (field_text (last_column l g.line) g.column) (origin_text l.origin g.origin) (digits_some 6 (difference (last_column l g.line) g.column))

decoded_some : (l : Last) (s : Slot) (t : List ℕ) (rest : Last → Result (List Segment) ℕ) → 0 < length t → decoded_slot l s t rest ≡ decoded_by (segment_in l s) (λ g. rest (after l g))
decoded_some l s [] rest h = absurd (omega (arith, h))
decoded_some l s (c ∷ cs) rest h = refl

-- a segment's text, and what follows it
segment_then : (l : Last) (g : Segment) (at : ℕ) (rest : List ℕ) → FitsLast l → FitsSegment g → BeginsSlot rest
    → decoded l (slots g.line at (segment_text l g ++ rest)) ≡ with_segment g (decoded (after l g) (more_slots g.line (at + length (segment_text l g)) rest))
unfolding decoded
segment_then l g at rest f h b =
    ap (decoded l) (slot_then g.line at (segment_text l g) rest (segment_plain l g) b)
    ∙ decoded_some l (record { line = g.line; at = at; text = segment_text l g }) (segment_text l g) (λ k. decoded k (more_slots g.line (at + length (segment_text l g)) rest)) (segment_some l g)
    ∙ ap (λ r. decoded_by r (λ k. decoded (after l k) (more_slots g.line (at + length (segment_text l g)) rest))) (segment_back l g at f h)

-- segments whose lines don't decrease, from that line on
pub data IsRising : ℕ → List Segment → Type 0 where
  end : (line : ℕ) → IsRising line []
  next : (line : ℕ) (g : Segment) (gs : List Segment) → line ≤ g.line → FitsSegment g → IsRising g.line gs → IsRising line (g ∷ gs)

equal : (a b : ℕ) → (a == b) ≡ true → a ≡ b
equal a b h = grind (arith, common_steps)

apart : (a b : ℕ) → (a == b) ≡ false → a ≤ b → b - a ≡ suc (b - a - 1)
apart a b h l = let m : a < b = grind (arith, common_steps) in omega arith

-- what follows a segment begins with a separator
written_begins : (l : Last) (gs : List Segment) → l.is_first ≡ false → IsRising l.line gs → BeginsSlot (written l gs)
unfolding written
written_begins l [] f r = tt
written_begins l (g ∷ gs) f (next line h hs a b c) = by (l.line == g.line) refl
  where
    by : (t : Bool) → (l.line == g.line) ≡ t → BeginsSlot (separator l g.line ++ (segment_text l g ++ written (after l g) gs))
    by true e = rw (e, f) refl
    by false e = rw (e, apart l.line g.line e a) refl

fewer : (a b : ℕ) → a ≤ b → (a == b) ≡ false → a + 1 + (b - a - 1) ≡ b
fewer a b l h = let m = apart a b h l in omega arith

comma : (l : Last) (line : ℕ) → (l.line == line) ≡ true → l.is_first ≡ false → separator l line ≡ 44 ∷ []
comma l line e f = rw e (ap (λ b. if b then [] else 44 ∷ []) f)

line_ends : (l : Last) (line : ℕ) → (l.line == line) ≡ false → l.line ≤ line → separator l line ≡ replicate (suc (line - l.line - 1)) 59
line_ends l line e h = rw e (ap (λ n. replicate n 59) (apart l.line line e h))

some_lines : (l : Last) (m line at : ℕ) (text : List ℕ) → l.line + 1 + m ≡ line → decoded l (more_slots l.line at (replicate (suc m) 59 ++ text)) ≡ decoded l (slots line (at + 1 + m) text)
some_lines l m line at text h = lines_then l m (l.line + 1) (at + 1) text ∙ ap (λ n. decoded l (slots n (at + 1 + m) text)) h

-- the separator before a segment leads to its slot
to_segment : (l : Last) (line at : ℕ) (text : List ℕ) → l.is_first ≡ false → l.line ≤ line → (p : ℕ) × (decoded l (more_slots l.line at (separator l line ++ text)) ≡ decoded l (slots line p text))
to_segment l line at text f h = by (l.line == line) refl
  where
    by : (t : Bool) → (l.line == line) ≡ t → (p : ℕ) × (decoded l (more_slots l.line at (separator l line ++ text)) ≡ decoded l (slots line p text))
    by true e = (at + 1, ap (λ x. decoded l (more_slots l.line at (x ++ text))) (comma l line e f) ∙ ap (λ n. decoded l (slots n (at + 1) text)) (equal l.line line e))
    by false e = (at + 1 + (line - l.line - 1), ap (λ x. decoded l (more_slots l.line at (x ++ text))) (line_ends l line e h) ∙ some_lines l (line - l.line - 1) line at text (fewer l.line line h e))

-- a segment and what stands for the others
segment_first : (l : Last) (g : Segment) (gs : List Segment) (p : ℕ) → FitsLast l → FitsSegment g → IsRising g.line gs
    → ((at : ℕ) → decoded (after l g) (more_slots g.line at (written (after l g) gs)) ≡ Ok gs) → decoded l (slots g.line p (segment_text l g ++ written (after l g) gs)) ≡ Ok (g ∷ gs)
segment_first l g gs p h b c r = segment_then l g p (written (after l g) gs) h b (written_begins (after l g) gs refl c) ∙ ap (with_segment g) (r (p + length (segment_text l g)))

-- what follows a segment stands for the segments behind it
written_back : (l : Last) (gs : List Segment) (at : ℕ) → l.is_first ≡ false → FitsLast l → IsRising l.line gs → decoded l (more_slots l.line at (written l gs)) ≡ Ok gs
unfolding written decoded
written_back l [] at f h r = refl
written_back l (g ∷ gs) at f h (next line k ks a b c) =
    let s = to_segment l g.line at (segment_text l g ++ written (after l g) gs) f a in
    s.1 ∙ segment_first l g gs s.0 h b c (λ p. written_back (after l g) gs p refl (fits_after l g h b) c)

fits_nothing : FitsLast nothing_yet
fits_nothing = record { column = omega arith; origin = record { source = omega arith; line = omega arith; column = omega arith } }

start_lines : (line : ℕ) (text : List ℕ) → (p : ℕ) × (decoded nothing_yet (slots 0 0 (separator nothing_yet line ++ text)) ≡ decoded nothing_yet (slots line p text))
start_lines line text = by (0 == line) refl
  where
    by : (t : Bool) → (0 == line) ≡ t → (p : ℕ) × (decoded nothing_yet (slots 0 0 (separator nothing_yet line ++ text)) ≡ decoded nothing_yet (slots line p text))
    by true e = (0, rw e (ap (λ n. decoded nothing_yet (slots n 0 text)) (equal 0 line e)))
    by false e = (0 + (line - 0), rw e (lines_then nothing_yet (line - 0) 0 0 text ∙ ap (λ n. decoded nothing_yet (slots n (0 + (line - 0)) text)) (omega arith)))

-- the same from the start of the text
start_back : (gs : List Segment) → IsRising 0 gs → running_decode (running_text gs) ≡ Ok gs
unfolding running_decode written decoded slots
start_back [] r = refl
start_back (g ∷ gs) (next line k ks a b c) =
    let s = start_lines g.line (segment_text nothing_yet g ++ written (after nothing_yet g) gs) in
    s.1 ∙ segment_first nothing_yet g gs s.0 fits_nothing b c (λ p. written_back (after nothing_yet g) gs p refl (fits_after nothing_yet g fits_nothing b) c)

rising_from : (line : ℕ) (gs : List Segment) → ((i : ℕ) (d : Segment) → i < length gs → line ≤ line_of (get_or gs i d)) → IsNonDecreasingBy line_of gs → All FitsSegment gs → IsRising line gs
rising_from line [] h o f = end line
rising_from line (g ∷ gs) h o f = next line g gs (h 0 g (omega arith)) (f 0 g (omega arith)) (rising_from g.line gs (λ i d l. o 0 (suc i) d (omega arith) (omega arith)) (λ i j d a b. o (suc i) (suc j) d (omega arith) (omega arith)) (λ i d l. f (suc i) d (omega arith)))

pub running_back : (gs : List Segment) → IsNonDecreasingBy line_of gs → All FitsSegment gs → running_decode (running_text gs) ≡ Ok gs
running_back gs o f = start_back gs (rising_from 0 gs (λ i d l. omega arith) o f)
