-- A plain declaration: its pieces, and the machine behind its `;`.
use Rattle.std.proofs.Common.{◌≡◌, ◌⊎◌, ℕ, ◌+◌, ◌<◌, List, [], ◌∷◌, ◌++◌, length, refl, sym, subst, inl, inr, arith, append_assoc}
use Rattle.std.specs.Str.{IsUtf8}
use Rattle.std.proofs.lemmas.List.{append-nil}
use Rattle.css_text.specs.declared.lexer.PieceKind.TheVariants as K
use Rattle.css_text.specs.Characters.{is_space, is_quote, is_single, ends_word}
use Rattle.css_tree.specs.Classes.{Each, BeginsWithout}
use Rattle.css_tree.specs.Pieces.{Lexeme, Shape, shape, is_blank}
use Rattle.css_parse.specs.Machine.{Machine}
use Rattle.css_parse.specs.Plain.{is_name, mark_text, IsMarkPieces}
use Rattle.css_parse.proofs.PlainPieces.{is_unit, Stops, stops-end, unit-low, all-low, name-unit, no-url, units-no-url, each-as, word_first, sign_first}
use Rattle.css_parse.proofs.PlainSteps.{At, piece_of}
use Rattle.css_parse.proofs.PlainRuns.{with_run, Run, run-none, run-append, kept}
use Rattle.css_parse.proofs.PlainBlanks.{blanks}

-- A word.
pub record AWord (s bs : List ℕ) (m : Machine) (r : List Lexeme) (at : ℕ) (t rest : List ℕ) : Type 0 where
  pub word : Lexeme
  pub next : At s bs (with_run m (r ++ word ∷ [])) (at + length t) rest
  pub run : Run bs at (at + length t) (word ∷ [])
  pub is_word : shape word ≡ Shape.word
  pub text : word.text ≡ t

pub a-word : (s bs : List ℕ) (m : Machine) (r : List Lexeme) (at : ℕ) (t rest : List ℕ) → IsUtf8 bs → 0 < length t → Each is_unit t → Stops rest → At s bs (with_run m r) at (t ++ rest) → AWord s bs m r at t rest
unfolding shape is_blank
a-word s bs m r at [] rest u l h k x = absurd (omega arith)
a-word s bs m r at (c ∷ t) rest u l h k x =
    let low = all-low is_unit unit-low (c ∷ t) h in
    let n = no-url (c ∷ t) rest low (units-no-url (c ∷ t) h) k in
    let y = kept s bs m r [] at K.Word c t rest u low x (word_first at c t rest h (stops-end rest k) n) (λ _. refl) tt in
    record { word = piece_of K.Word at (c ∷ t); next = y.next; run = y.run; is_word = refl; text = refl }

-- A name, its colon, and the white space behind that.
pub record Front (s bs : List ℕ) (m : Machine) (at : ℕ) (name back rest : List ℕ) : Type 0 where
  pub word : Lexeme
  pub colon : Lexeme
  pub spaces : List Lexeme
  pub next : At s bs (with_run m (word ∷ colon ∷ spaces)) (at + length name + 1 + length back) rest
  pub word_run : Run bs at (at + length name) (word ∷ [])
  pub colon_run : Run bs (at + length name) (at + length name + 1 + length back) (colon ∷ spaces)
  pub is_word : shape word ≡ Shape.word
  pub text : word.text ≡ name
  pub is_colon : shape colon ≡ Shape.colon
  pub blank : Each is_blank spaces

pub front : (s bs : List ℕ) (m : Machine) (at : ℕ) (name back rest : List ℕ) → IsUtf8 bs → 0 < length name → Each is_name name → Each is_space back → BeginsWithout is_space rest
    → At s bs (with_run m []) at (name ++ 58 ∷ (back ++ rest)) → Front s bs m at name back rest
unfolding shape is_blank is_space
front s bs m at name back rest u l h b k x =
    let w = a-word s bs m [] at name (58 ∷ (back ++ rest)) u l (each-as is_name is_unit name-unit name h) refl x in
    let i = at + length name in
    let c = kept s bs m (w.word ∷ []) [] i K.Single 58 [] (back ++ rest) u (omega arith, tt) w.next (sign_first i 58 (back ++ rest) refl) (λ _. refl) tt in
    let y = blanks s bs m (w.word ∷ piece_of K.Single i (58 ∷ []) ∷ []) (i + 1) back rest u (omega arith) b k c.next in
    record {
      word = w.word;
      colon = piece_of K.Single i (58 ∷ []);
      spaces = y.pieces;
      next = y.next;
      word_run = w.run;
      colon_run = run-append bs i (i + 1) (i + 1 + length back) (piece_of K.Single i (58 ∷ []) ∷ []) y.pieces c.run y.run;
      is_word = w.is_word;
      text = w.text;
      is_colon = refl;
      blank = y.blank;
    }

-- What stands between the value and the `;`.
pub record Ending (s bs : List ℕ) (m : Machine) (r : List Lexeme) (at : ℕ) (blank mark rest : List ℕ) : Type 0 where
  pub spaces : List Lexeme
  pub words : List Lexeme
  pub next : At s bs (with_run m (r ++ (spaces ++ words))) (at + (length blank + length mark)) rest
  pub run : Run bs at (at + (length blank + length mark)) (spaces ++ words)
  pub class : Each is_blank spaces
  pub kind : ((spaces ≡ []) × (words ≡ []) × (length blank + length mark ≡ 0)) ⊎ (IsMarkPieces words × (0 < length blank + length mark))

pub no-ending : (s bs : List ℕ) (m : Machine) (r : List Lexeme) (at : ℕ) (rest : List ℕ) → At s bs (with_run m r) at rest → Ending s bs m r at [] [] rest
no-ending s bs m r at rest x =
    let e : at ≡ at + (0 + 0) = omega arith in
    record {
      spaces = [];
      words = [];
      next = subst (λ n. At s bs (with_run m (r ++ [])) n rest) e (subst (λ z. At s bs (with_run m z) at rest) (sym (append-nil r)) x);
      run = subst (λ n. Run bs at n []) e (run-none bs at);
      class = tt;
      kind = inl (refl, refl, refl);
    }

mark-units : Each is_unit mark_text
unfolding is_name ends_word is_space is_quote is_single
mark-units = (refl, (refl, (refl, (refl, (refl, (refl, (refl, (refl, (refl, (refl, tt))))))))))

pub marked : (s bs : List ℕ) (m : Machine) (r : List Lexeme) (at : ℕ) (blank rest : List ℕ) → IsUtf8 bs → 0 < length r → 0 < length blank → Each is_space blank → Stops rest → At s bs (with_run m r) at (blank ++ (mark_text ++ rest)) → Ending s bs m r at blank mark_text rest
unfolding is_space
marked s bs m r at blank rest u l k h f x =
    let y = blanks s bs m r at blank (mark_text ++ rest) u l h refl x in
    let w = a-word s bs m (r ++ y.pieces) (at + length blank) mark_text rest u (omega arith) mark-units f y.next in
    let e : at + length blank + length mark_text ≡ at + (length blank + length mark_text) = omega arith in
    record {
      spaces = y.pieces;
      words = w.word ∷ [];
      next = subst (λ n. At s bs (with_run m (r ++ (y.pieces ++ w.word ∷ []))) n rest) e (subst (λ z. At s bs (with_run m z) (at + length blank + length mark_text) rest) (append_assoc r y.pieces (w.word ∷ [])) w.next);
      run = subst (λ n. Run bs at n (y.pieces ++ w.word ∷ [])) e (run-append bs at (at + length blank) _ y.pieces (w.word ∷ []) y.run w.run);
      class = y.blank;
      kind = inr ((w.is_word, w.text), omega arith);
    }
