-- The proof's own: reading selectors one character after another, with no look ahead: how far a text can be the front of a list.
use Rattle.std.specs.Prelude.{◌≡◌, ℕ, zero, suc, ◌-◌, Bool, true, false, ◌==◌, ◌&&◌, ◌||◌, nat_lt, if◌then◌else◌, List, [], ◌∷◌, ◌++◌, drop, Option, Some, None}
use Rattle.css_text.specs.Forms.{begins}
use Rattle.selector_parse.specs.declared.phase.Phase.{Phase}
use Rattle.selector_parse.specs.declared.phase.Phase.TheVariants.{Fresh, Open, Inside, Commented, Trailing}
use Rattle.selector_parse.specs.declared.reading.Gap.{Gap}
use Rattle.selector_parse.specs.declared.reading.Gap.TheVariants.{Comments}
use Rattle.selector_parse.specs.declared.reading.Within.TheVariants.{Parentheses}
use Rattle.selector_parse.specs.declared.reading.Reading.{Reading}
use Rattle.selector_parse.specs.declared.reading.Reading.TheVariants.{First, Next, Done, Text, Blank}
use Rattle.selector_parse.specs.Reading.{step, on, is_final, scan_len, scan_last}
use Rattle.selector_parse.specs.Names.{takes_args, takes_list}
use Rattle.selector_parse.specs.Grammar.{most_depth}
use Rattle.selector_parse.specs.Phases.{gap_read, is_blanks}

-- Where a reader stands: at the start of a complex selector; in a gap; in a simple selector, of which so much has been read; in
-- arguments that are no list. The first two tell whether nothing but blanks stands after the `(` of a list; the gap also
-- whether it stands at the start.
pub data Place : Type 0 where
  at_start : Bool → Place
  in_gap : Bool → Bool → Reading → Place
  in_simple : Reading → List ℕ → Place
  in_text : Reading → Place

-- a place inside so many parentheses
abbrev pub Stand : Type 0
Stand = ℕ × Place

abbrev pub or_else : Option Stand → Option Stand → Option Stand
or_else (Some s) o = Some s
or_else None o = o

-- after a `)`
abbrev pub pop : ℕ → Option Stand
pop zero = None
pop (suc d) = Some (d, in_simple Done [])

-- a complex selector may end before the character
abbrev pub enders : ℕ → ℕ → Option Stand
enders d c = if c == 44 then Some (d, at_start false) else if c == 41 then pop d else None

abbrev pub begin : Reading → ℕ → ℕ → Option Stand
begin q d c = on (step q c) (λ p. Some (d, in_simple p (c ∷ [])))

abbrev pub begin_gap : Bool → Bool → ℕ → ℕ → Option Stand
begin_gap lead f d c = on (step (Blank Comments) c) (λ p. Some (d, in_gap lead f p))

abbrev pub open_args : ℕ → List ℕ → Option Stand
open_args d t =
    if takes_args t && nat_lt d most_depth then (if takes_list t then Some (suc d, at_start true) else Some (d, in_text (Text (Parentheses 0 (most_depth - suc d))))) else None

-- what a simple selector after a gap begins with
abbrev pub opener : Bool → Gap → Reading
opener true g = First
opener false Comments = Next
opener false g = First

abbrev pub closer : Bool → Bool → Gap → ℕ → ℕ → Option Stand
closer true f g d c = if f && is_blanks (Some g) && c == 41 then pop d else None
closer false f g d c = if is_blanks (Some g) then enders d c else None

abbrev pub gap_end : Bool → Bool → Option Gap → ℕ → ℕ → Option Stand
gap_end lead f None d c = None
gap_end lead f (Some g) d c = or_else (begin (opener lead g) d c) (closer lead f g d c)

abbrev pub simple_end : ℕ → List ℕ → ℕ → Option Stand
simple_end d t c = or_else (begin_gap false false d c) (or_else (begin Next d c) (if c == 40 then open_args d t else enders d c))

-- One character more.
abbrev pub move : ℕ → Place → ℕ → Option Stand
move d (at_start f) c = or_else (begin_gap true f d c) (or_else (begin First d c) (if f && c == 41 then pop d else None))
move d (in_gap lead f q) c = or_else (on (step q c) (λ p. Some (d, in_gap lead f p))) (gap_end lead f (gap_read (Some q)) d c)
move d (in_simple q t) c = or_else (on (step q c) (λ p. Some (d, in_simple p (t ++ c ∷ [])))) (if is_final q then simple_end d t c else None)
move d (in_text q) c = or_else (on (step q c) (λ p. Some (d, in_text p))) (if is_final q && c == 41 then Some (d, in_simple Done []) else None)

-- All characters of a text.
abbrev pub follow : ℕ → Place → List ℕ → Option Stand
follow d m [] = Some (d, m)
follow d m (c ∷ cs) = on (move d m c) (λ s. follow s.0 s.1 cs)

-- the text may end here
abbrev pub may_stop : Place → Bool
may_stop (at_start f) = false
may_stop (in_gap true f q) = false
may_stop (in_gap false f q) = is_blanks (gap_read (Some q))
may_stop (in_simple q t) = is_final q
may_stop (in_text q) = false

abbrev pub accepts : ℕ → Place → Bool
accepts zero m = may_stop m
accepts (suc d) m = false

-- no list goes on with this text
abbrev pub Blocked : ℕ → Place → List ℕ → Type 0
Blocked d m [] = accepts d m ≡ false
Blocked d m (c ∷ cs) = move d m c ≡ None

-- nothing more of the part can be read
abbrev pub Stuck : Reading → List ℕ → Type 0
Stuck q [] = Unit {0}
Stuck q (c ∷ cs) = step q c ≡ None

-- the reader stands where this stands before
abbrev pub Matches : Phase → Place → Type 0
Matches Fresh (at_start f) = Unit {0}
Matches Open (in_gap lead f q) = (g : Gap) × ((gap_read (Some q) ≡ Some g) × (opener lead g ≡ First))
Matches Inside (in_simple q t) = is_final q ≡ true
Matches Commented (in_gap false f q) = q ≡ Blank Comments
Matches Trailing (in_gap false f q) = (g : Gap) × ((gap_read (Some q) ≡ Some g) × (is_blanks (Some g) ≡ true))
Matches p m = ⊥

-- the text after blanks and signs
abbrev pub after_run : List ℕ → List ℕ
after_run s = drop (scan_len (Blank Comments) s) s

-- the text is blanks up to a `)`
abbrev pub blank_list : List ℕ → Bool
blank_list s = is_blanks (gap_read (Some (scan_last (Blank Comments) s))) && begins 41 (after_run s)

-- a complex selector may end before the text
abbrev pub text_stops : ℕ → List ℕ → Bool
text_stops d [] = true
text_stops d (c ∷ cs) = c == 44 || (c == 41 && nat_lt 0 d)

abbrev pub open_stops : ℕ → Bool → Bool → Reading → List ℕ → Bool
open_stops d true f q s = f && is_blanks (gap_read (Some q)) && begins 41 s
open_stops d false f q s = is_blanks (gap_read (Some q)) && text_stops d s

-- what has been read doesn't go on in this text
abbrev pub Calm : ℕ → Phase → Place → List ℕ → Type 0
Calm d Fresh (at_start f) s = f ≡ true → blank_list s ≡ false
Calm d Open (in_gap lead f q) s = Stuck q s × (open_stops d lead f q s ≡ false)
Calm d Inside (in_simple q t) s = Stuck q s × ((takes_args t && begins 40 s) ≡ false)
Calm d Commented m s = (scan_last (Blank Comments) s ≡ Blank Comments) × (text_stops d (after_run s) ≡ false)
Calm d Trailing (in_gap lead f q) s = Stuck q s × (text_stops d s ≡ true)
Calm d p m s = Unit {0}

-- From where p stands before, the text x leads to where q does, before the text y.
abbrev pub Moves : ℕ → Phase → Phase → List ℕ → List ℕ → Type 0
Moves d p q x y = (m : Place) → Matches p m → Calm d p m (x ++ y) → (n : Place) × ((follow d m x ≡ Some (d, n)) × Matches q n × Calm d q n y)
