-- Functions that split the pieces of a run into those of its fields.
use Rattle.std.proofs.Common.{ℕ, List, [], ◌∷◌, ◌++◌, Bool, true, false, cond, Option, Some, None, reverse, drop}
use Rattle.css_tree.specs.Pieces.{Lexeme, shape, is_blank, join}
use Rattle.css_tree.specs.Mark.{is_text, mark_at, important_letters, part}
use Rattle.css_tree.specs.Turn.{is_word_shape}
use Rattle.css_tree.specs.Fields.{begins_hack}

abbrev pub keep : {A : Type 0} → Bool → A → List A → List A
keep true p [] = []
keep true p (q ∷ b) = p ∷ q ∷ b
keep false p b = p ∷ b

abbrev pub keep_tail : {A : Type 0} → Bool → A → List A → List A → List A
keep_tail true p [] t = p ∷ t
keep_tail true p (q ∷ b) t = t
keep_tail false p b t = t

-- without the trailing items of which the test holds
unfoldable pub solid_by : {A : Type 0} → (A → Bool) → List A → List A
solid_by test [] = []
solid_by test (p ∷ ps) = keep (test p) p (solid_by test ps)

-- those trailing items
unfoldable pub tail_by : {A : Type 0} → (A → Bool) → List A → List A
tail_by test [] = []
tail_by test (p ∷ ps) = keep_tail (test p) p (solid_by test ps) (tail_by test ps)

-- the leading items of which the test holds
unfoldable pub lead_by : {A : Type 0} → (A → Bool) → List A → List A
lead_by test [] = []
lead_by test (p ∷ ps) = cond (test p) (p ∷ lead_by test ps) []

-- without those leading items
unfoldable pub unlead_by : {A : Type 0} → (A → Bool) → List A → List A
unlead_by test [] = []
unlead_by test (p ∷ ps) = cond (test p) (unlead_by test ps) (p ∷ ps)

-- the same by blanks
abbrev pub solid : List Lexeme → List Lexeme
solid ps = solid_by is_blank ps

abbrev pub tail : List Lexeme → List Lexeme
tail ps = tail_by is_blank ps

abbrev pub lead : List Lexeme → List Lexeme
lead ps = lead_by is_blank ps

abbrev pub unlead : List Lexeme → List Lexeme
unlead ps = unlead_by is_blank ps

abbrev pub rest_of : List Lexeme → List Lexeme
rest_of [] = []
rest_of (p ∷ ps) = ps

abbrev pub first_list : List Lexeme → List Lexeme
first_list [] = []
first_list (p ∷ ps) = p ∷ []

-- the hack that a word begins with
abbrev pub hack_by : Bool → List ℕ → List ℕ
hack_by b [] = []
hack_by b (c ∷ cs) = cond b (c ∷ []) []

abbrev pub hack : List ℕ → List ℕ
hack t = hack_by (begins_hack t) t

abbrev pub is_word : Lexeme → Bool
is_word p = is_word_shape (shape p)

-- what stands before the mark, and the mark
pub record Marked : Type 0 where
  pub front : List Lexeme
  pub mark : List ℕ

abbrev pub marked_two : Option ℕ → Lexeme → List Lexeme → Lexeme → List Lexeme → Option Marked
marked_two None i blanks w ws = None
marked_two (Some n) i blanks w ws = Some (record { front = reverse ws ++ part w n; mark = drop n w.text ++ (join (reverse blanks) ++ i.text) })

-- the word `important` is the last piece, behind these blanks and pieces, backwards
abbrev pub mark_of_two : Lexeme → List Lexeme → List Lexeme → Option Marked
mark_of_two i blanks [] = None
mark_of_two i blanks (w ∷ ws) = marked_two (cond (is_word w) (mark_at false [] w.text) None) i blanks w ws

abbrev pub marked_one : Option ℕ → Lexeme → List Lexeme → Option Marked
marked_one (Some n) i ws = Some (record { front = reverse ws ++ part i n; mark = drop n i.text })
marked_one None i ws = cond (is_text important_letters i.text) (mark_of_two i (lead ws) (unlead ws)) None

-- of the pieces backwards
abbrev pub mark_backwards : List Lexeme → Option Marked
mark_backwards [] = None
mark_backwards (i ∷ ws) = cond (is_word i) (marked_one (mark_at false important_letters i.text) i ws) None

-- the mark at the end of a value with its mark
abbrev pub mark_of : List Lexeme → Option Marked
mark_of body = mark_backwards (reverse body)

abbrev pub value_of : Option Marked → List Lexeme → List Lexeme
value_of None body = body
value_of (Some m) body = solid m.front

abbrev pub important_of : Option Marked → List ℕ
important_of None = []
important_of (Some m) = join (tail m.front) ++ m.mark

abbrev pub is_marked : Option Marked → Bool
is_marked None = false
is_marked (Some m) = true
