-- Cursors: what their calls answer, and what they leave.
use Rattle.std.specs.Prelude.{◌≡◌, ℕ, zero, suc, ◌+◌, List, [], ◌∷◌, Bool, true, drop, Option, Some, None, Result, Ok, Err, slice_set, if◌then◌else◌}
use Rattle.node_rows.specs.Nodes.{children_of, is_dirty}
use Rattle.node_store.specs.declared.fault.TreeFault.{TreeFault}
use Rattle.node_store.specs.declared.fault.TreeFault.TheVariants.{NoSuchCursor}
use Rattle.node_store.specs.Forest.{Forest, Place, cursor_at}

-- the cursors with another one under a serial
abbrev pub with_cursor : List (Option Place) → ℕ → Option Place → List (Option Place)
with_cursor [] zero c = c ∷ []
with_cursor [] (suc serial) c = None ∷ with_cursor [] serial c
with_cursor (x ∷ xs) zero c = c ∷ xs
with_cursor (x ∷ xs) (suc serial) c = x ∷ with_cursor xs serial c

-- the forest with a cursor opened on n under the serial, under which no other is open
pub record IsOpened (before after : Forest) (n serial : ℕ) : Type 0 where
  pub free : cursor_at before.cursors serial ≡ None
  pub opened : after ≡ record before { cursors = with_cursor before.cursors serial (Some (record { container = n; passed = 0 })) }

abbrev pub further : {A : Type 0} → Option (A × ℕ) → Option (A × ℕ)
further None = None
further (Some x) = Some (x.0, suc x.1)

-- the first that passes the test, and how many stand through it
abbrev pub through : {A : Type 0} → (A → Bool) → List A → Option (A × ℕ)
through test [] = None
through test (x ∷ xs) = if test x then Some (x, 1) else further (through test xs)

abbrev pub first_of : Option (ℕ × ℕ) → Option ℕ
first_of None = None
first_of (Some x) = Some x.0

-- the cursor past those that stand through the one found; where none was found, as it was
abbrev pub passed_on : Place → Option (ℕ × ℕ) → Place
passed_on c None = c
passed_on c (Some x) = record c { passed = c.passed + x.1 }

-- the next child that passes the test, and how many are passed with it
abbrev pub ahead : Forest → (ℕ → Bool) → Place → Option (ℕ × ℕ)
ahead f test c = through test (drop c.passed (children_of f.nodes c.container))

-- what a cursor's call answers that passes the next child that passes the test
abbrev pub answer_of : Forest → (ℕ → Bool) → Option Place → Result (Option ℕ) TreeFault
answer_of f test None = Err NoSuchCursor
answer_of f test (Some c) = Ok (first_of (ahead f test c))

abbrev pub after_of : Forest → (ℕ → Bool) → ℕ → Option Place → Forest
after_of f test serial None = f
after_of f test serial (Some c) = record f { cursors = slice_set f.cursors serial (Some (passed_on c (ahead f test c))) }

abbrev pub any_child : ℕ → Bool
any_child n = true

-- what `next` answers
abbrev pub next_of : Forest → ℕ → Result (Option ℕ) TreeFault
next_of f serial = answer_of f any_child (cursor_at f.cursors serial)

-- the forest after `next`
abbrev pub after_next : Forest → ℕ → Forest
after_next f serial = after_of f any_child serial (cursor_at f.cursors serial)

-- what `next_dirty` answers: the first dirty child that isn't passed
abbrev pub next_dirty_of : Forest → ℕ → Result (Option ℕ) TreeFault
next_dirty_of f serial = answer_of f (is_dirty f.nodes) (cursor_at f.cursors serial)

-- The forest after `next_dirty`: that child and the clean ones before it are passed.
abbrev pub after_next_dirty : Forest → ℕ → Forest
after_next_dirty f serial = after_of f (is_dirty f.nodes) serial (cursor_at f.cursors serial)

-- the forests differ at most in the lists that their cursors stand in
pub record SameCursors (f g : Forest) : Type 0 where
  pub cursors : (serial : ℕ) → cursor_at f.cursors serial ≡ cursor_at g.cursors serial
  pub rest : record f { cursors = [] } ≡ record g { cursors = [] }

-- the forests' cursors answer alike, and the forests after it have the same cursors
pub record AnswerAlike (f g : Forest) : Type 0 where
  pub next : (serial : ℕ) → next_of f serial ≡ next_of g serial
  pub next_dirty : (serial : ℕ) → next_dirty_of f serial ≡ next_dirty_of g serial
  pub after_next : (serial : ℕ) → SameCursors (after_next f serial) (after_next g serial)
  pub after_next_dirty : (serial : ℕ) → SameCursors (after_next_dirty f serial) (after_next_dirty g serial)

-- cursors are the same where each serial's is
abbrev pub CursorsAreSame : Type 0
CursorsAreSame = (f g : Forest) → SameCursors f g → AnswerAlike f g

-- The cursor is closed; all others stand.
pub record IsClosed (before after : Forest) (serial : ℕ) : Type 0 where
  pub cursors : (other : ℕ) → cursor_at after.cursors other ≡ cursor_at (with_cursor before.cursors serial None) other
  pub rest : record after { cursors = [] } ≡ record before { cursors = [] }
