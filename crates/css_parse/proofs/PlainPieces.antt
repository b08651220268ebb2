-- Where the pieces of a plain statement end.
use Rattle.std.proofs.Common.{◌≡◌, ◌⊎◌, ℕ, suc, ◌+◌, ◌<◌, ◌≤◌, ◌==◌, ◌&&◌, ◌||◌, Bool, true, false, List, [], ◌∷◌, ◌++◌, length, Result, Ok, refl, ap, sym, ◌∙◌, inl, inr, one-add, arith}
use Rattle.std.specs.Prelude.{not}
use Rattle.std.specs.Char.{to_ascii_lowercase}
use Rattle.std.proofs.lemmas.Bool.{agree_below, agree_below_at, and_left, and_right, or_cases, or_left, cases_Bool, eqb-true, not-true, not_from_false, cases_lt, le-ltb, ne_eqb, false≢true}
use Rattle.css_text.specs.declared.lexer.PieceKind.{PieceKind}
use Rattle.css_text.specs.declared.lexer.PieceKind.TheVariants.{Space, Word, Single}
use Rattle.css_text.specs.Characters.{is_space, is_quote, is_single, ends_word}
use Rattle.css_text.specs.Forms.{begins_with, begins_url, url_open, space_len, unit_len}
use Rattle.css_text.specs.Pieces.{Unclosed, first}
use Rattle.css_text.specs.Found.{found, first_at}
use Rattle.css_text.proofs.Bytes.{is_space-high}
use Rattle.css_text.proofs.Transport.{AllLow}
use Rattle.css_tree.specs.Classes.{Each, BeginsWithout}
use Rattle.css_parse.specs.Plain.{is_name, is_flat, is_calm, brackets, OpensNoUrl}

-- a unit of a word or of a mark
abbrev pub is_unit : ℕ → Bool
is_unit c = is_name c || c == 33

-- a piece by itself
abbrev pub is_sign : ℕ → Bool
is_sign c = c == 58 || c == 44 || c == 59 || c == 123 || c == 40 || c == 41 || c == 125

-- what ends a word and stands in no `url(`
abbrev pub is_stop : ℕ → Bool
is_stop c = is_space c || c == 58 || c == 44 || c == 59 || c == 123

-- Tests of ASCII characters, by their table.

abbrev Table : (ℕ → Bool) → (ℕ → Bool) → Type 0
Table f g = agree_below (λ c. not (f c) || g c) (λ c. true) 128 ≡ true

by_table : (f g : ℕ → Bool) → Table f g → (c : ℕ) → c < 128 → f c ≡ true → g c ≡ true
by_table f g t c l e = let h : (not (f c) || g c) ≡ true = agree_below_at (λ c. not (f c) || g c) (λ c. true) 128 c t l in rw e at h

no_table : (f g : ℕ → Bool) → Table f (λ c. not (g c)) → (c : ℕ) → c < 128 → f c ≡ true → g c ≡ false
no_table f g t c l e = not-true (g c) (by_table f (λ c. not (g c)) t c l e)

is_low : (f : ℕ → Bool) → ((c : ℕ) → 128 ≤ c → f c ≡ false) → (c : ℕ) → f c ≡ true → c < 128
is_low f high c e = elim (cases_lt c 128) [ inl l ↦ l | inr h ↦ absurd (false≢true (sym (high c h) ∙ e)) ]

pub unit-low : (c : ℕ) → is_unit c ≡ true → c < 128
unfolding is_name
unit-low c e = is_low is_unit (λ c h. rw (le-ltb c 128 h, ne_eqb c 33 (λ e. omega arith)) refl) c e

pub sign-low : (c : ℕ) → is_sign c ≡ true → c < 128
sign-low c e = is_low is_sign
    (λ c h. rw (ne_eqb c 58 (λ e. omega arith), ne_eqb c 44 (λ e. omega arith), ne_eqb c 59 (λ e. omega arith), ne_eqb c 123 (λ e. omega arith), ne_eqb c 40 (λ e. omega arith), ne_eqb c 41 (λ e. omega arith), ne_eqb c 125 (λ e. omega arith)) refl) c e

pub space-low : (c : ℕ) → is_space c ≡ true → c < 128
space-low c e = is_low is_space is_space-high c e

stop-low : (c : ℕ) → is_stop c ≡ true → c < 128
stop-low c e = is_low is_stop
    (λ c h. rw (is_space-high c h, ne_eqb c 58 (λ e. omega arith), ne_eqb c 44 (λ e. omega arith), ne_eqb c 59 (λ e. omega arith), ne_eqb c 123 (λ e. omega arith)) refl) c e

pub calm-low : (c : ℕ) → is_calm c ≡ true → c < 128
unfolding is_calm is_flat is_name
calm-low c e = is_low is_calm
    (λ c h. rw (le-ltb c 128 h, is_space-high c h, ne_eqb c 58 (λ e. omega arith), ne_eqb c 44 (λ e. omega arith), ne_eqb c 40 (λ e. omega arith), ne_eqb c 41 (λ e. omega arith)) refl) c e

pub all-low : (f : ℕ → Bool) → ((c : ℕ) → f c ≡ true → c < 128) → (t : List ℕ) → Each f t → AllLow t
all-low f low [] h = tt
all-low f low (c ∷ t) h = (low c h.0, all-low f low t h.1)

-- What a unit isn't.

pub unit-space : (c : ℕ) → is_unit c ≡ true → is_space c ≡ false
unfolding is_name is_space is_quote is_single ends_word
unit-space c e = no_table is_unit (λ c. is_space c) refl c (unit-low c e) e

unit-slash : (c : ℕ) → is_unit c ≡ true → (c == 47) ≡ false
unfolding is_name is_space is_quote is_single ends_word
unit-slash c e = no_table is_unit (λ c. (c == 47)) refl c (unit-low c e) e

unit-quote : (c : ℕ) → is_unit c ≡ true → is_quote c ≡ false
unfolding is_name is_space is_quote is_single ends_word
unit-quote c e = no_table is_unit (λ c. is_quote c) refl c (unit-low c e) e

unit-at : (c : ℕ) → is_unit c ≡ true → (c == 64) ≡ false
unfolding is_name is_space is_quote is_single ends_word
unit-at c e = no_table is_unit (λ c. (c == 64)) refl c (unit-low c e) e

unit-single : (c : ℕ) → is_unit c ≡ true → is_single c ≡ false
unfolding is_name is_space is_quote is_single ends_word
unit-single c e = no_table is_unit (λ c. is_single c) refl c (unit-low c e) e

unit-escape : (c : ℕ) → is_unit c ≡ true → (c == 92) ≡ false
unfolding is_name is_space is_quote is_single ends_word
unit-escape c e = no_table is_unit (λ c. (c == 92)) refl c (unit-low c e) e

unit-ends : (c : ℕ) → is_unit c ≡ true → ends_word c ≡ false
unfolding is_name is_space is_quote is_single ends_word
unit-ends c e = no_table is_unit (λ c. ends_word c) refl c (unit-low c e) e

unit-open : (c : ℕ) → is_unit c ≡ true → (c == 40) ≡ false
unfolding is_name is_space is_quote is_single ends_word
unit-open c e = no_table is_unit (λ c. (c == 40)) refl c (unit-low c e) e

unit-close : (c : ℕ) → is_unit c ≡ true → (c == 41) ≡ false
unfolding is_name is_space is_quote is_single ends_word
unit-close c e = no_table is_unit (λ c. (c == 41)) refl c (unit-low c e) e

-- What a sign is and isn't.

pub sign-space : (c : ℕ) → is_sign c ≡ true → is_space c ≡ false
unfolding is_space is_quote is_single ends_word
sign-space c e = no_table is_sign (λ c. is_space c) refl c (sign-low c e) e

sign-slash : (c : ℕ) → is_sign c ≡ true → (c == 47) ≡ false
unfolding is_space is_quote is_single ends_word
sign-slash c e = no_table is_sign (λ c. (c == 47)) refl c (sign-low c e) e

sign-quote : (c : ℕ) → is_sign c ≡ true → is_quote c ≡ false
unfolding is_space is_quote is_single ends_word
sign-quote c e = no_table is_sign (λ c. is_quote c) refl c (sign-low c e) e

sign-at : (c : ℕ) → is_sign c ≡ true → (c == 64) ≡ false
unfolding is_space is_quote is_single ends_word
sign-at c e = no_table is_sign (λ c. (c == 64)) refl c (sign-low c e) e

sign-u : (c : ℕ) → is_sign c ≡ true → (to_ascii_lowercase c == 117) ≡ false
unfolding is_space is_quote is_single ends_word
sign-u c e = no_table is_sign (λ c. (to_ascii_lowercase c == 117)) refl c (sign-low c e) e

sign-single : (c : ℕ) → is_sign c ≡ true → is_single c ≡ true
unfolding is_single
sign-single c e = by_table is_sign is_single refl c (sign-low c e) e

-- What a stop is and isn't.

stop-ends : (c : ℕ) → is_stop c ≡ true → ends_word c ≡ true
unfolding is_space is_quote is_single ends_word
stop-ends c e = by_table is_stop ends_word refl c (stop-low c e) e

stop-u : (c : ℕ) → is_stop c ≡ true → (to_ascii_lowercase c == 117) ≡ false
unfolding is_space
stop-u c e = no_table is_stop (λ c. (to_ascii_lowercase c == 117)) refl c (stop-low c e) e

stop-r : (c : ℕ) → is_stop c ≡ true → (to_ascii_lowercase c == 114) ≡ false
unfolding is_space
stop-r c e = no_table is_stop (λ c. (to_ascii_lowercase c == 114)) refl c (stop-low c e) e

stop-l : (c : ℕ) → is_stop c ≡ true → (to_ascii_lowercase c == 108) ≡ false
unfolding is_space
stop-l c e = no_table is_stop (λ c. (to_ascii_lowercase c == 108)) refl c (stop-low c e) e

stop-open : (c : ℕ) → is_stop c ≡ true → (to_ascii_lowercase c == 40) ≡ false
unfolding is_space
stop-open c e = no_table is_stop (λ c. (to_ascii_lowercase c == 40)) refl c (stop-low c e) e

-- What stands behind a word.

abbrev pub Stops : List ℕ → Type 0
Stops [] = ⊥
Stops (x ∷ xs) = is_stop x ≡ true

abbrev pub Ends : List ℕ → Type 0
Ends [] = ⊥
Ends (x ∷ xs) = ends_word x ≡ true

pub stops-end : (z : List ℕ) → Stops z → Ends z
stops-end [] k = k
stops-end (x ∷ xs) k = stop-ends x k

units : (t z : List ℕ) → Each is_unit t → Ends z → unit_len false (t ++ z) ≡ length t
units [] [] h k = absurd k
units [] (x ∷ xs) h k = rw k refl
units (c ∷ t) z h k = rw (unit-ends c h.0, unit-slash c h.0, unit-escape c h.0, units t z h.1 k) refl

pub spaces : (t z : List ℕ) → Each is_space t → BeginsWithout is_space z → space_len (t ++ z) ≡ length t
spaces [] [] h k = refl
spaces [] (x ∷ xs) h k = rw k refl
spaces (c ∷ t) z h k = rw (h.0, spaces t z h.1 k) (one-add (length t))

-- No word opens a `url(`.

low-open : (c : ℕ) → c < 128 → (c == 40) ≡ false → (to_ascii_lowercase c == 40) ≡ false
low-open c l e = no_table (λ c. not (c == 40)) (λ c. (to_ascii_lowercase c == 40)) refl c l (not_from_false (c == 40) e)

low-l : (c : ℕ) → c < 128 → (c == 108 || c == 76) ≡ false → (to_ascii_lowercase c == 108) ≡ false
low-l c l e = no_table (λ c. not (c == 108 || c == 76)) (λ c. (to_ascii_lowercase c == 108)) refl c l (not_from_false (c == 108 || c == 76) e)

-- the third and fourth characters of `url(`
no-two : (c d : ℕ) (cs : List ℕ) → c < 128 → d < 128 → (d == 40 && (c == 108 || c == 76)) ≡ false → begins_with (108 ∷ 40 ∷ []) (c ∷ d ∷ cs) ≡ false
no-two c d cs l k e = elim (cases_Bool (d == 40)) [
  | inl h ↦ and_left _ _ (low-l c l (rw h at e))
  | inr h ↦ and_right _ _ (and_left _ _ (low-open d k h))
]

no-open : (q : List ℕ) (x : ℕ) (xs : List ℕ) → AllLow q → OpensNoUrl q → is_stop x ≡ true → begins_with url_open (q ++ x ∷ xs) ≡ false
no-open [] x xs h o k = and_left _ _ (stop-u x k)
no-open (a ∷ []) x xs h o k = and_right (to_ascii_lowercase a == 117) _ (and_left _ _ (stop-r x k))
no-open (a ∷ b ∷ []) x xs h o k = and_right (to_ascii_lowercase a == 117) _ (and_right (to_ascii_lowercase b == 114) _ (and_left _ _ (stop-l x k)))
no-open (a ∷ b ∷ c ∷ []) x xs h o k = and_right (to_ascii_lowercase a == 117) _ (and_right (to_ascii_lowercase b == 114) _ (and_right (to_ascii_lowercase c == 108) _ (and_left _ true (stop-open x k))))
no-open (a ∷ b ∷ c ∷ d ∷ q) x xs h o k = and_right (to_ascii_lowercase a == 117) _ (and_right (to_ascii_lowercase b == 114) _ (no-two c d (q ++ x ∷ xs) h.1.1.0 h.1.1.1.0 o.1.1.0))

pub no-url : (q z : List ℕ) → AllLow q → OpensNoUrl q → Stops z → begins_url (q ++ z) ≡ false
unfolding begins_url
no-url q [] h o k = absurd k
no-url q (x ∷ xs) h o k = and_left _ _ (no-open q x xs h o k)

pub units-no-url : (t : List ℕ) → Each is_unit t → OpensNoUrl t
units-no-url [] h = tt
units-no-url (c ∷ []) h = tt
units-no-url (c ∷ d ∷ t) h = (and_left _ _ (unit-open d h.1.0), units-no-url (d ∷ t) h.1)

pub no-url-back : (xs ys : List ℕ) → OpensNoUrl (xs ++ ys) → OpensNoUrl ys
no-url-back [] ys h = h
no-url-back (x ∷ []) [] h = tt
no-url-back (x ∷ []) (y ∷ ys) h = h.1
no-url-back (x ∷ z ∷ xs) ys h = no-url-back (z ∷ xs) ys h.1

sign-url : (c : ℕ) (z : List ℕ) → is_sign c ≡ true → begins_url (c ∷ z) ≡ false
unfolding begins_url
sign-url c z e = and_left _ _ (and_left _ _ (sign-u c e))

-- The first piece, and where it ends.

word : (c : ℕ) (t z : List ℕ) → Each is_unit (c ∷ t) → Ends z → begins_url (c ∷ (t ++ z)) ≡ false → first c (t ++ z) ≡ Ok (Word, length t)
unfolding first
word c t z h k n =
    rw (unit-space c h.0, unit-slash c h.0, unit-quote c h.0, n, unit-at c h.0, unit-single c h.0, unit-escape c h.0, units t z h.1 k) refl

space : (c : ℕ) (t z : List ℕ) → Each is_space (c ∷ t) → BeginsWithout is_space z → first c (t ++ z) ≡ Ok (Space, length t)
unfolding first
space c t z h k = rw (h.0, spaces t z h.1 k) refl

sign : (c : ℕ) (z : List ℕ) → is_sign c ≡ true → first c z ≡ Ok (Single, 0)
unfolding first
sign c z e = rw (sign-space c e, sign-slash c e, sign-quote c e, sign-url c z e, sign-at c e, sign-single c e) refl

ends : (at n : ℕ) (k : PieceKind) (r : Result (PieceKind × ℕ) Unclosed) → r ≡ Ok (k, n) → found at r ≡ Ok (k, at + suc n)
unfolding found
ends at n k r e = rw e (ap (λ m. Ok (k, m)) (omega arith))

pub word_first : (at c : ℕ) (t z : List ℕ) → Each is_unit (c ∷ t) → Ends z → begins_url (c ∷ (t ++ z)) ≡ false → first_at at (c ∷ (t ++ z)) ≡ Ok (Word, at + suc (length t))
word_first at c t z h k n = ends at (length t) Word _ (word c t z h k n)

pub space_first : (at c : ℕ) (t z : List ℕ) → Each is_space (c ∷ t) → BeginsWithout is_space z → first_at at (c ∷ (t ++ z)) ≡ Ok (Space, at + suc (length t))
space_first at c t z h k = ends at (length t) Space _ (space c t z h k)

pub sign_first : (at c : ℕ) (z : List ℕ) → is_sign c ≡ true → first_at at (c ∷ z) ≡ Ok (Single, at + 1)
sign_first at c z e = ends at 0 Single _ (sign c z e)

-- A calm character is of a word, white space, or a piece by itself: one that is kept, or a round bracket.

pub name-unit : (c : ℕ) → is_name c ≡ true → is_unit c ≡ true
name-unit c e = or_left (is_name c) (c == 33) e

abbrev pub IsMark : ℕ → Type 0
IsMark c = (c ≡ 58) ⊎ (c ≡ 44)

pub calm-sign : (c : ℕ) → is_calm c ≡ true → is_name c ≡ false → is_space c ≡ false → IsMark c ⊎ ((c ≡ 40) ⊎ (c ≡ 41))
unfolding is_calm is_flat
calm-sign c e n s = elim (or_cases (c == 58 || c == 44 || c == 40) (c == 41) (rw (n, s) at e)) [
  | inl h ↦ elim (or_cases (c == 58 || c == 44) (c == 40) h) [
    | inl a ↦ inl (elim (or_cases (c == 58) (c == 44) a) [ inl b ↦ inl (eqb-true c 58 b) | inr b ↦ inr (eqb-true c 44 b) ])
    | inr a ↦ inr (inl (eqb-true c 40 a))
  ]
  | inr h ↦ inr (inr (eqb-true c 41 h))
]

pub space-stop : (c : ℕ) → is_space c ≡ true → is_stop c ≡ true
unfolding is_space
space-stop c e = by_table is_space is_stop refl c (space-low c e) e

calm-ends : (c : ℕ) → is_calm c ≡ true → is_name c ≡ false → ends_word c ≡ true
unfolding is_calm is_flat is_name is_space is_quote is_single ends_word
calm-ends c e n = by_table (λ c. is_calm c && not (is_name c)) ends_word refl c (calm-low c e) (rw (e, n) refl)

pub word-end : (q z : List ℕ) → Each is_calm q → BeginsWithout is_name q → Stops z → Ends (q ++ z)
word-end [] z h b k = stops-end z k
word-end (c ∷ q) z h b k = calm-ends c h.0 b

-- Such characters leave as many brackets open.

pub units-brackets : (n : ℕ) (t back : List ℕ) → Each is_unit t → brackets n (t ++ back) ≡ brackets n back
units-brackets n [] back h = refl
units-brackets n (c ∷ t) back h = rw (unit-open c h.0, unit-close c h.0) (units-brackets n t back h.1)

space-round : (c : ℕ) → is_space c ≡ true → ((c == 40) ≡ false) × ((c == 41) ≡ false)
unfolding is_space
space-round c e = (no_table is_space (λ c. (c == 40)) refl c (space-low c e) e, no_table is_space (λ c. (c == 41)) refl c (space-low c e) e)

pub spaces-brackets : (n : ℕ) (t back : List ℕ) → Each is_space t → brackets n (t ++ back) ≡ brackets n back
spaces-brackets n [] back h = refl
spaces-brackets n (c ∷ t) back h = rw ((space-round c h.0).0, (space-round c h.0).1) (spaces-brackets n t back h.1)

pub each-as : (f g : ℕ → Bool) → ((c : ℕ) → f c ≡ true → g c ≡ true) → (t : List ℕ) → Each f t → Each g t
each-as f g h [] e = tt
each-as f g h (c ∷ t) e = (h c e.0, each-as f g h t e.1)
