-- Each text is read as one thing.
use Rattle.std.proofs.Common.{◌≡◌, ℕ, List, Some, None, Ok, Err, refl, sym, ap, ◌∙◌}
use Rattle.std.specs.Prelude.{Option}
use Rattle.css_text.specs.Place.{place_of}
use Rattle.css_text.specs.declared.text.Place.{Place}
use Rattle.css_tree.specs.Tree.{Tree}
use Rattle.css_tree.specs.Fault.{Fault, fault}
use Rattle.css_tree.specs.Reads.{Reads}
use Rattle.css_tree.specs.declared.fault.SyntaxFault.{SyntaxFault}
use Rattle.css_tree.specs.declared.fault.SyntaxKind.{SyntaxKind}
use Rattle.css_tree.proofs.Reading as tree
use Rattle.css_job.specs.Reading.{Reading, IsReadingOf, HasNoTree}
use Rattle.css_job.specs.Laws.{SomeReading, OneReading}

-- a text with a tree has no fault
no_fault : (s : List ℕ) (t : Tree) (f : Fault) → Reads s t → fault s ≡ Some f → ⊥
no_fault s t f h e = let n = sym ((tree.fault_or_reading s).1 t h) ∙ e in cc

-- the first fault with its place
pub faulty_as : (s : List ℕ) (f : SyntaxFault) → fault s ≡ Some (record { kind = f.kind; at = f.at }) → f.place ≡ place_of s f.at → IsReadingOf s (Err f)
faulty_as s f e p = record { is_fault = e; is_place = p; no_reading = λ t h. no_fault s t _ h e }

some_by : (s : List ℕ) (o : Option Fault) → fault s ≡ o → (reading : Reading) × IsReadingOf s reading
some_by s None e = let t = (tree.fault_or_reading s).0 e in (Ok t.0, t.1)
some_by s (Some f) e = (
  Err (record { kind = f.kind; at = f.at; place = place_of s f.at }),
  faulty_as s (record { kind = f.kind; at = f.at; place = place_of s f.at }) e refl,
)

pub some_reading : SomeReading
some_reading s = some_by s (fault s) refl

abbrev kind_in : SyntaxKind → Option Fault → SyntaxKind
kind_in k None = k
kind_in k (Some f) = f.kind

abbrev at_in : Option Fault → ℕ
at_in None = 0
at_in (Some f) = f.at

abbrev made : SyntaxKind → ℕ → Place → SyntaxFault
made kind at place = record { kind = kind; at = at; place = place }

same_fault : (s : List ℕ) (f g : SyntaxFault) → IsReadingOf s (Err f) → IsReadingOf s (Err g) → f ≡ g
same_fault s f g h k =
    let e = sym h.is_fault ∙ k.is_fault in
    let a : f.kind ≡ g.kind = ap (kind_in f.kind) e in
    let b : f.at ≡ g.at = ap at_in e in
    let d : f.place ≡ g.place = h.is_place ∙ (ap (place_of s) b ∙ sym k.is_place) in
    ap (λ x. made x f.at f.place) a ∙ (ap (λ x. made g.kind x f.place) b ∙ ap (λ x. made g.kind g.at x) d)

pub no_both : {A : Type 0} (s : List ℕ) (t : Tree) (f : SyntaxFault) → Reads s t → IsReadingOf s (Err f) → A
no_both s t f h k = absurd (k.no_reading t h)

pub one_reading : OneReading
one_reading s (Ok t) (Ok u) h k = ap (λ x. Ok x) (tree.one_reading s t u h k)
one_reading s (Ok t) (Err g) h k = no_both s t g h k
one_reading s (Err f) (Ok u) h k = no_both s u f k h
one_reading s (Err f) (Err g) h k = ap (λ x. Err x) (same_fault s f g h k)

-- what a text without a tree is read as
pub faulty_reading : (s : List ℕ) (reading : Reading) → IsReadingOf s reading → HasNoTree s → (f : SyntaxFault) × (reading ≡ Err f) × IsReadingOf s (Err f)
faulty_reading s (Ok t) h none = absurd (none t h)
faulty_reading s (Err f) h none = (f, refl, h)
