-- The first part at an index, test by test.
use Rattle.std.proofs.Common.{◌≡◌, ℕ, ◌+◌, ◌<◌, Bool, true, false, cond, eqb, List, ◌∷◌, length, get_or, drop, Option, Some, None, refl, ap, sym, ◌∙◌, add_assoc, add-zero, add-suc, lit<, arith}
use Rattle.std.specs.Prelude.{◌&&◌}
use Rattle.std.specs.Option.{unwrap_or}
use Rattle.std.proofs.lemmas.Bool.{cond-true, cond-false}
use Rattle.std.proofs.lemmas.List.{at_drop_more, drop-drop, drop_more, length-drop}
use Rattle.css_text.specs.declared.lexer.PieceKind.{PieceKind}
use Rattle.css_text.specs.declared.lexer.PieceKind.TheVariants.{Space, Comment, Quoted, Url, Word, Single}
use Rattle.css_text.specs.Characters.{is_space, is_quote}
use Rattle.css_text.specs.Forms.{begins, shifted, space_len, through, through_comment, begins_url}
use Rattle.css_text.specs.ValueParts.{ends_value, value_len, end_or, part, first_part, ValueForm, plain}
use Rattle.css_text.proofs.Steps.{begins-drop}
use Rattle.value_parse.specs.Found.{found, first_at}
use Rattle.value_parse.proofs.Steps.{value_len-at}

abbrev form : PieceKind → ℕ → ValueForm × ℕ
form k n = (plain k, n)

found-cond : (at : ℕ) (b : Bool) (x y : PieceKind × ℕ) → found at (cond b x y) ≡ cond b (found at x) (found at y)
found-cond at true x y = refl
found-cond at false x y = refl

found-part : (at n : ℕ) (k : PieceKind) → found at (part k n) ≡ form k (at + 1 + n)
unfolding found
found-part at n k = refl

-- a form that has an end, or runs to the end of the text
found-end : (at k j n l : ℕ) (kind : PieceKind) (o : Option ℕ) → j ≡ at + 1 + k → n ≡ at + 1 + l → found at (part kind (end_or k o l)) ≡ form kind (unwrap_or (shifted j o) n)
unfolding found shifted
found-end at k j n l kind (Some m) e f = ap (λ x. (plain kind, x)) (omega arith)
found-end at k j n l kind None e f = ap (λ x. (plain kind, x)) (omega arith)

choice : {A : Type 0} (b : Bool) (x y z w : A) → x ≡ z → y ≡ w → cond b x y ≡ cond b z w
choice b x y z w e f = cc

-- the tests in their order, on a text of which n bytes are through its end
tests : (at n c : ℕ) (cs : List ℕ) → n ≡ at + 1 + length cs → found at (first_part c cs) ≡
    cond (is_space c) (form Space (at + 1 + space_len cs))
    (cond (eqb c 47 && begins 42 cs) (form Comment (unwrap_or (shifted (at + 2) (through_comment (drop 1 cs))) n))
    (cond (is_quote c) (form Quoted (unwrap_or (shifted (at + 1) (through c false cs)) n))
    (cond (begins_url (c ∷ cs)) (form Url (unwrap_or (shifted (at + 4) (through 41 false (drop 3 cs))) n))
    (cond (ends_value c) (form Single (at + 1 + 0))
    (form Word (at + 1 + value_len (eqb c 92) cs))))))
unfolding first_part
tests at n c cs e = simp found-cond (
    choice (is_space c) _ _ _ _ (found-part at _ Space)
    (choice (eqb c 47 && begins 42 cs) _ _ _ _ (found-end at 1 (at + 2) n (length cs) Comment _ (omega arith) e)
    (choice (is_quote c) _ _ _ _ (found-end at 0 (at + 1) n (length cs) Quoted _ (omega arith) e)
    (choice (begins_url (c ∷ cs)) _ _ _ _ (found-end at 3 (at + 4) n (length cs) Url _ (omega arith) e)
    (choice (ends_value c) _ _ _ _ (found-part at 0 Single) (found-part at _ Word))))))

module _ (s : List ℕ) (i : ℕ) (h : i < length s) where
  at_start : first_at i (drop i s) ≡ found i (first_part (get_or s i 0) (drop (i + 1) s))
  at_start = at_drop_more (first_at i) s i 0 h

  whole : length s ≡ i + 1 + length (drop (i + 1) s)
  whole = omega (arith, length-drop (i + 1) s)

  -- the tests in their order, by index
  pub first_at-at : first_at i (drop i s) ≡
      cond (is_space (get_or s i 0)) (form Space (i + 1 + space_len (drop (i + 1) s)))
      (cond (eqb (get_or s i 0) 47 && eqb (get_or s (i + 1) 0) 42) (form Comment (unwrap_or (shifted (i + 2) (through_comment (drop (i + 2) s))) (length s)))
      (cond (is_quote (get_or s i 0)) (form Quoted (unwrap_or (shifted (i + 1) (through (get_or s i 0) false (drop (i + 1) s))) (length s)))
      (cond (begins_url (drop i s)) (form Url (unwrap_or (shifted (i + 4) (through 41 false (drop (i + 4) s))) (length s)))
      (cond (ends_value (get_or s i 0)) (form Single (i + 1))
      (form Word (i + 1 + value_len (eqb (get_or s i 0) 92) (drop (i + 1) s)))))))
  first_at-at = at_start ∙ tests i (length s) (get_or s i 0) (drop (i + 1) s) whole
      ∙ rw (begins-drop 42 s (i + 1) (lit< tt), drop-drop 1 (i + 1) s, drop-drop 3 (i + 1) s, add_assoc i 1 1, add_assoc i 1 3, ← drop_more s i 0 h, add-zero (i + 1)) refl

  pub at_space : is_space (get_or s i 0) ≡ true → first_at i (drop i s) ≡ (plain Space, i + 1 + space_len (drop (i + 1) s))
  at_space a = first_at-at ∙ cond-true _ _ _ a

  module _ (a : is_space (get_or s i 0) ≡ false) where
    pub at_comment : (eqb (get_or s i 0) 47 && eqb (get_or s (i + 1) 0) 42) ≡ true → first_at i (drop i s) ≡ (plain Comment, unwrap_or (shifted (i + 2) (through_comment (drop (i + 2) s))) (length s))
    at_comment b = first_at-at ∙ cond-false _ _ _ a ∙ cond-true _ _ _ b

    module _ (b : (eqb (get_or s i 0) 47 && eqb (get_or s (i + 1) 0) 42) ≡ false) where
      pub at_quoted : is_quote (get_or s i 0) ≡ true → first_at i (drop i s) ≡ (plain Quoted, unwrap_or (shifted (i + 1) (through (get_or s i 0) false (drop (i + 1) s))) (length s))
      at_quoted q = first_at-at ∙ cond-false _ _ _ a ∙ cond-false _ _ _ b ∙ cond-true _ _ _ q

      module _ (q : is_quote (get_or s i 0) ≡ false) where
        pub at_url : begins_url (drop i s) ≡ true → first_at i (drop i s) ≡ (plain Url, unwrap_or (shifted (i + 4) (through 41 false (drop (i + 4) s))) (length s))
        at_url u = first_at-at ∙ cond-false _ _ _ a ∙ cond-false _ _ _ b ∙ cond-false _ _ _ q ∙ cond-true _ _ _ u

        module _ (u : begins_url (drop i s) ≡ false) where
          pub at_mark : ends_value (get_or s i 0) ≡ true → first_at i (drop i s) ≡ (plain Single, i + 1)
          at_mark w = first_at-at ∙ cond-false _ _ _ a ∙ cond-false _ _ _ b ∙ cond-false _ _ _ q ∙ cond-false _ _ _ u ∙ cond-true _ _ _ w

          at_word_after : ends_value (get_or s i 0) ≡ false → first_at i (drop i s) ≡ form Word (i + 1 + value_len (eqb (get_or s i 0) 92) (drop (i + 1) s))
          at_word_after w = first_at-at ∙ cond-false _ _ _ a ∙ cond-false _ _ _ b ∙ cond-false _ _ _ q ∙ cond-false _ _ _ u ∙ cond-false _ _ _ w

          units_after : ends_value (get_or s i 0) ≡ false → i + value_len false (drop i s) ≡ i + 1 + value_len (eqb (get_or s i 0) 92) (drop (i + 1) s)
          units_after w = rw (value_len-at s i h, w) (simp add-suc (omega arith))

          pub at_word : ends_value (get_or s i 0) ≡ false → first_at i (drop i s) ≡ (plain Word, i + value_len false (drop i s))
          at_word w = at_word_after w ∙ ap (λ m. (plain Word, m)) (sym (units_after w))

          -- a Word has at least one unit
          pub word_grows : ends_value (get_or s i 0) ≡ false → i < i + value_len false (drop i s)
          word_grows w = omega (arith, units_after w)

pub ruleset found_steps = (at_space, at_comment, at_quoted, at_url, at_mark, at_word, word_grows)
