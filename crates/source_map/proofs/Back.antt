-- Segments that are read back from their text.
use Rattle.std.proofs.Common.{◌≡◌, ℕ, zero, suc, ◌+◌, ◌-◌, ◌*◌, ◌/◌, ◌%◌, ◌^◌, ◌<◌, ◌≤◌, ◌==◌, Bool, true, false, nat_le, nat_lt, List, [], ◌∷◌, ◌++◌, length, map, Option, Some, None, Result, Ok, Err, refl, sym, ap, ◌∙◌, subst, arith, if◌then◌else◌, append-nil, lit<, unwrap_or}
use Rattle.std.proofs.lemmas.Grind.{common_steps}
use Rattle.std.proofs.Math.Nat.{pow-suc, div-lt_iff_lt-mul, mod-add-div}
use Rattle.source_map.specs.declared.segment.Segment.{Segment}
use Rattle.source_map.specs.declared.segment.Origin.{Origin}
use Rattle.source_map.specs.declared.last.Last.{Last}
use Rattle.source_map.specs.Vlq.{digits, digit_code, digit_of, numbers, number_text, with_number, with_low_digit}
use Rattle.source_map.specs.Written.{field_text, origin_text, difference}
use Rattle.source_map.specs.Decode.{moved, is_separator, plain_segment, full_segment, origin_of, moved_origin, or_fault}
use Rattle.source_map.specs.Laws.{FitsOrigin, FitsIfAny, FitsSegment}
use Rattle.source_map.specs.Running.{after, segment_text, last_column, segment_from, segment_by, segment_in}

known_code : (d : ℕ) → d < 64 → digit_of (digit_code d) ≡ Some d
unfolding digit_of
known_code d h = grind (arith, common_steps)

pub not_separator : (d : ℕ) → d < 64 → is_separator (digit_code d) ≡ false
not_separator d h = grind (arith, common_steps)

not_seventh : (k : ℕ) → k < 7 → (k == 7) ≡ false
not_seventh k h = grind (arith, common_steps)

up : (a b : ℕ) → a ≤ b → nat_le a b ≡ true
up a b h = grind (arith, common_steps)

over : (a b : ℕ) → b < a → nat_le a b ≡ false
over a b h = grind (arith, common_steps)

last_digit : (at k n : ℕ) (rest : List ℕ) → k < 7 → n < 32 → numbers at k (digit_code n ∷ rest) ≡ with_number n (numbers (at + 1) 0 rest)
unfolding numbers
last_digit at k n rest h l = rw (known_code n (omega arith)) (rw (not_seventh k h) (rw (over 32 n l) refl))

low_digit : (at k d : ℕ) (rest : List ℕ) → k < 7 → d < 32 → numbers at k (digit_code (d + 32) ∷ rest) ≡ with_low_digit d (numbers (at + 1) (k + 1) rest)
unfolding numbers
low_digit at k d rest h l = rw (known_code (d + 32) (omega arith)) (rw (not_seventh k h) (rw (up 32 (d + 32) (omega arith)) (ap (λ x. with_low_digit x (numbers (at + 1) (k + 1) rest)) (omega arith))))

number_again : (n : ℕ) (r : Result (List ℕ) ℕ) → with_low_digit (n % 32) (with_number (n / 32) r) ≡ with_number n r
number_again n (Ok ns) = ap (λ x. Ok (x ∷ ns)) (mod-add-div n 32)
number_again n (Err at) = refl

few : (k f : ℕ) → k + suc f ≤ 7 → k < 7
few k f h = omega arith

small : (n : ℕ) → n < 32 → nat_lt n 32 ≡ true
small n h = grind (arith, common_steps)

large : (n : ℕ) → 32 ≤ n → nat_lt n 32 ≡ false
large n h = grind (arith, common_steps)

part : (f n : ℕ) → n < 32 ^ suc f → n / 32 < 32 ^ f
part f n h = (div-lt_iff_lt-mul {x = n} {y = 32 ^ f} (lit< tt)).1 (subst (λ x. n < x) (pow-suc 32 f) h)

positive : (f n : ℕ) → n < 32 ^ suc f → 32 ≤ n → 1 ≤ f
positive zero n h l = absurd (omega (arith, h, l))
positive (suc f) n h l = omega arith

digits_by : (b : Bool) (f k n at : ℕ) (rest : List ℕ) → nat_lt n 32 ≡ b → n < 32 ^ suc f → k + suc f ≤ 7
    → ((m : ℕ) → m < 32 ^ f → (j a : ℕ) → j + f ≤ 7 → 1 ≤ f → numbers a j (map digit_code (digits f m) ++ rest) ≡ with_number m (numbers (a + length (digits f m)) 0 rest))
    → numbers at k (map digit_code (digits (suc f) n) ++ rest) ≡ with_number n (numbers (at + length (digits (suc f) n)) 0 rest)
unfolding digits
digits_by true f k n at rest e h s r = rw e (last_digit at k n rest (few k f s) (grind (arith, common_steps)))
digits_by false f k n at rest e h s r = rw e (low_digit at k (n % 32) (map digit_code (digits f (n / 32)) ++ rest) (few k f s) (omega arith)
    ∙ ap (with_low_digit (n % 32)) (r (n / 32) (part f n h) (k + 1) (at + 1) (omega (arith, s)) (positive f n h (grind (arith, common_steps))))
    ∙ number_again n (numbers (at + 1 + length (digits f (n / 32))) 0 rest) ∙ ap (λ p. with_number n (numbers p 0 rest)) (omega arith))

digits_read : (f n at k : ℕ) (rest : List ℕ) → n < 32 ^ f → k + f ≤ 7 → 1 ≤ f → numbers at k (map digit_code (digits f n) ++ rest) ≡ with_number n (numbers (at + length (digits f n)) 0 rest)
digits_read zero n at k rest h s p = absurd (omega (arith, p))
digits_read (suc f) n at k rest h s p = digits_by (nat_lt n 32) f k n at rest refl h s (λ m hm j a sj q. digits_read f m a j rest hm sj q)

-- a number, and what follows its text
number_read : (n at : ℕ) (rest : List ℕ) → n < 2 ^ 35 → numbers at 0 (number_text n ++ rest) ≡ with_number n (numbers (at + length (digits 7 n)) 0 rest)
number_read n at rest h = digits_read 7 n at 0 rest h (omega arith) (omega arith)

gap_small : (a b : ℕ) → a < 2 ^ 32 → b < 2 ^ 32 → difference a b < 2 ^ 35
gap_small a b h l = by (nat_le a b) refl
  where
    by : (t : Bool) → nat_le a b ≡ t → difference a b < 2 ^ 35
    by true e = rw e (omega (arith, h, l))
    by false e = rw e (omega (arith, h, l))

field_read : (a b at : ℕ) (rest : List ℕ) → a < 2 ^ 32 → b < 2 ^ 32 → numbers at 0 (field_text a b ++ rest) ≡ with_number (difference a b) (numbers (at + length (digits 7 (difference a b))) 0 rest)
field_read a b at rest h l = number_read (difference a b) at rest (gap_small a b h l)

even_test : (x : ℕ) → (2 * x % 2 == 1) ≡ false
even_test x = grind (arith, common_steps)

odd_test : (x : ℕ) → ((2 * x + 1) % 2 == 1) ≡ true
odd_test x = grind (arith, common_steps)

even_half : (x : ℕ) → 2 * x / 2 ≡ x
even_half x = omega arith

odd_half : (x : ℕ) → (2 * x + 1) / 2 ≡ x
odd_half x = omega arith

below : (a b : ℕ) → a < b → nat_lt a b ≡ true
below a b h = grind (arith, common_steps)

moved_up : (a x b : ℕ) → a + x ≡ b → b < 2 ^ 32 → moved a (2 * x) ≡ Some b
moved_up a x b e h = rw (even_test x, even_half x, e, below b 4294967296 h) refl

moved_down : (a x b : ℕ) → b + x ≡ a → moved a (2 * x + 1) ≡ Some b
moved_down a x b e = rw (odd_test x, odd_half x, up x a (omega arith)) (ap (λ y. Some y) (omega arith))

up_text : (a b : ℕ) → nat_le a b ≡ true → difference a b ≡ 2 * (b - a)
up_text a b e = rw e refl

down_text : (a b : ℕ) → nat_le a b ≡ false → difference a b ≡ 2 * (a - b) + 1
down_text a b e = rw e refl

at_most : (a b : ℕ) → nat_le a b ≡ true → a + (b - a) ≡ b
at_most a b e = let m : a ≤ b = grind (arith, common_steps) in omega arith

at_least : (a b : ℕ) → nat_le a b ≡ false → b + (a - b) ≡ a
at_least a b e = let m : b < a = grind (arith, common_steps) in omega arith

moved_by : (t : Bool) (a b : ℕ) → nat_le a b ≡ t → b < 2 ^ 32 → moved a (difference a b) ≡ Some b
moved_by true a b e l = ap (moved a) (up_text a b e) ∙ moved_up a (b - a) b (at_most a b e) l
moved_by false a b e l = ap (moved a) (down_text a b e) ∙ moved_down a (a - b) b (at_least a b e)

-- a field gives back what it was written for
pub moved-difference : (a b : ℕ) → b < 2 ^ 32 → moved a (difference a b) ≡ Some b
moved-difference a b l = moved_by (nat_le a b) a b refl l

-- the numbers of a segment's fields
abbrev pub origin_numbers : Origin → Option Origin → List ℕ
origin_numbers o None = []
origin_numbers o (Some p) = difference o.source p.source ∷ difference o.line p.line ∷ difference o.column p.column ∷ []

abbrev pub segment_numbers : Last → Segment → List ℕ
segment_numbers l g = difference (last_column l g.line) g.column ∷ origin_numbers l.origin g.origin

-- what fields are relative to has 32 bits
pub record FitsLast (l : Last) : Type 0 where
  pub column : l.column < 2 ^ 32
  pub origin : FitsOrigin l.origin

none_left : (at : ℕ) → numbers at 0 [] ≡ Ok []
unfolding numbers
none_left at = refl

-- the numbers of a text that is one field
field_alone : (a b at : ℕ) → a < 2 ^ 32 → b < 2 ^ 32 → numbers at 0 (field_text a b) ≡ Ok (difference a b ∷ [])
field_alone a b at h l = ap (numbers at 0) (sym (append-nil (field_text a b))) ∙ field_read a b at [] h l ∙ ap (with_number (difference a b)) (none_left (at + length (digits 7 (difference a b))))

field_then : (a b at : ℕ) (rest ns : List ℕ) → a < 2 ^ 32 → b < 2 ^ 32 → ((p : ℕ) → numbers p 0 rest ≡ Ok ns) → numbers at 0 (field_text a b ++ rest) ≡ Ok (difference a b ∷ ns)
field_then a b at rest ns h l r = field_read a b at rest h l ∙ ap (with_number (difference a b)) (r (at + length (digits 7 (difference a b))))

origin_read : (o : Origin) (p : Option Origin) → FitsOrigin o → FitsIfAny p → (at : ℕ) → numbers at 0 (origin_text o p) ≡ Ok (origin_numbers o p)
origin_read o None h l at = none_left at
origin_read o (Some p) h l at = field_then o.source p.source at (field_text o.line p.line ++ field_text o.column p.column) (difference o.line p.line ∷ difference o.column p.column ∷ []) h.source l.source
    (λ a. field_then o.line p.line a (field_text o.column p.column) (difference o.column p.column ∷ []) h.line l.line (λ b. field_alone o.column p.column b h.column l.column))

column_fits : (l : Last) (line : ℕ) → FitsLast l → last_column l line < 2 ^ 32
column_fits l line f = by (l.line == line)
  where
    by : (b : Bool) → (if b then l.column else 0) < 2 ^ 32
    by true = f.column
    by false = omega arith

segment_read : (l : Last) (g : Segment) (at : ℕ) → FitsLast l → FitsSegment g → numbers at 0 (segment_text l g) ≡ Ok (segment_numbers l g)
segment_read l g at f h = field_then (last_column l g.line) g.column at (origin_text l.origin g.origin) (origin_numbers l.origin g.origin) (column_fits l g.line f) h.column (origin_read l.origin g.origin f.origin h.origin)

segment_by_origin : (l : Last) (line column : ℕ) (o : Option Origin) → column < 2 ^ 32 → FitsIfAny o
    → segment_from l line (difference (last_column l line) column ∷ origin_numbers l.origin o) ≡ Some (record { line = line; column = column; origin = o })
segment_by_origin l line column None h f = ap (plain_segment line) (moved-difference (last_column l line) column h)
segment_by_origin l line column (Some o) h f =
    ap (λ c. full_segment line c (moved_origin l.origin (difference l.origin.source o.source) (difference l.origin.line o.line) (difference l.origin.column o.column))) (moved-difference (last_column l line) column h)
    ∙ ap (full_segment line (Some column)) (ap (λ s. origin_of s (moved l.origin.line (difference l.origin.line o.line)) (moved l.origin.column (difference l.origin.column o.column))) (moved-difference l.origin.source o.source f.source)
    ∙ ap (λ i. origin_of (Some o.source) i (moved l.origin.column (difference l.origin.column o.column))) (moved-difference l.origin.line o.line f.line)
    ∙ ap (origin_of (Some o.source) (Some o.line)) (moved-difference l.origin.column o.column f.column))

-- the slot of a segment's text stands for the segment
pub segment_back : (l : Last) (g : Segment) (at : ℕ) → FitsLast l → FitsSegment g → segment_in l (record { line = g.line; at = at; text = segment_text l g }) ≡ Ok g
segment_back l g at f h =
    ap (λ ns. segment_by ns l g.line (at + length (segment_text l g))) (segment_read l g at f h)
    ∙ ap (or_fault (at + length (segment_text l g))) (segment_by_origin l g.line g.column g.origin h.column h.origin)

fits_by : (o : Origin) (p : Option Origin) → FitsOrigin o → FitsIfAny p → FitsOrigin (unwrap_or p o)
fits_by o None h f = h
fits_by o (Some p) h f = f

pub fits_after : (l : Last) (g : Segment) → FitsLast l → FitsSegment g → FitsLast (after l g)
fits_after l g f h = record { column = h.column; origin = fits_by l.origin g.origin f.origin h.origin }
