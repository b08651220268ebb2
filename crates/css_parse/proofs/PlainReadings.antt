-- Reading a plain declaration at once.
use Rattle.std.proofs.Common.{◌≡◌, ℕ, ◌+◌, ◌<◌, false, List, [], ◌∷◌, ◌++◌, None, length, drop, refl, ap, sym, ◌∙◌, subst, inl, inr, arith, append_assoc}
use Rattle.std.specs.Str.{IsUtf8}
use Rattle.css_text.specs.declared.lexer.PieceKind.TheVariants as K
use Rattle.css_text.specs.Ahead.{ahead}
use Rattle.css_text.specs.Characters.{is_space}
use Rattle.css_tree.specs.Classes.{Each}
use Rattle.css_tree.specs.Fault.{unknown}
use Rattle.css_tree.specs.Fields.{begins_hack}
use Rattle.css_tree.specs.Pieces.{Lexeme, Shape, shape}
use Rattle.css_tree.specs.Turn.{turn, ends, is_allowed, colon_next}
use Rattle.css_parse.specs.declared.plain.PlainLeaf.{PlainLeaf}
use Rattle.css_parse.specs.Machine.{Machine, IsReady}
use Rattle.css_parse.specs.Plain.{IsPlainLeaf, IsLeafRun, IsEnding, BeginsNoHack}
use Rattle.css_parse.specs.PlainSteps.{leaf_next}
use Rattle.css_parse.specs.Going.{Reading}
use Rattle.css_parse.proofs.PlainPieces.{Stops, sign_first, space-stop}
use Rattle.css_parse.proofs.PlainSplits.{begins-behind}
use Rattle.css_parse.proofs.PlainSteps.{At, piece_of, stepped}
use Rattle.css_parse.proofs.PlainRuns.{with_run, Run, run-append}
use Rattle.css_parse.proofs.PlainRegions.{Region, region}
use Rattle.css_parse.proofs.PlainLeaves.{Front, front, Ending, no-ending, marked}

-- a machine with nothing in progress
pub idle-run : (m : Machine) → IsReady m → m.run ≡ [] → with_run m [] ≡ m
idle-run m h e = ap (λ r. with_run m r) (sym e) ∙ ap (λ a. record m { awaited = a }) (sym (h.idle e))

pub at-start : (s bs : List ℕ) (m : Machine) (at : ℕ) (rest : List ℕ) → Reading s bs (ahead at (drop at bs)) m at → m.run ≡ [] → drop at bs ≡ rest → At s bs (with_run m []) at rest
at-start s bs m at rest h e d = record { here = d; reading = subst (λ z. Reading s bs (ahead at z) (with_run m []) at) d (subst (λ z. Reading s bs (ahead at (drop at bs)) z at) (sym (idle-run m h.ready e)) h) }

pub at-reading : (s bs : List ℕ) (m : Machine) (at : ℕ) (rest : List ℕ) → At s bs m at rest → Reading s bs (ahead at (drop at bs)) m at
at-reading s bs m at rest h = subst (λ z. Reading s bs (ahead at z) m at) (sym h.here) h.reading

-- a word with its colon may end
known : (word colon : Lexeme) (ps : List Lexeme) → shape word ≡ Shape.word → shape colon ≡ Shape.colon → unknown (word ∷ colon ∷ ps) ≡ None
unfolding is_allowed colon_next
known word colon ps e f = rw (e, f) refl

turn-ends : (x : Lexeme) (r : List Lexeme) (q : Lexeme) → shape q ≡ Shape.semicolon → turn (x ∷ r) [] q ≡ ends
unfolding turn
turn-ends x r q e = rw e refl

-- the `;`
leaf-end : (s bs : List ℕ) (m : Machine) (word colon : Lexeme) (ps : List Lexeme) (at : ℕ) (rest : List ℕ) → IsUtf8 bs → m.awaited ≡ [] → shape word ≡ Shape.word → shape colon ≡ Shape.colon
    → At s bs (with_run m (word ∷ colon ∷ ps)) at (59 ∷ rest) → At s bs (leaf_next m (word ∷ colon ∷ ps)) (at + 1) rest
unfolding shape
leaf-end s bs m word colon ps at rest u a e f x =
    let r : List Lexeme = word ∷ colon ∷ ps in
    let y = stepped s bs (with_run m r) at K.Single 59 [] rest u (omega arith, tt) x ends (sign_first at 59 rest refl) (turn-ends word (colon ∷ ps) (piece_of K.Single at (59 ∷ [])) refl) (known word colon ps e f) in
    subst (λ z. At s bs (record (leaf_next m r) { awaited = z }) (at + 1) rest) (sym a) y.next

-- what stands behind the value
ending : (s bs : List ℕ) (m : Machine) (r : List Lexeme) (at : ℕ) (blanks mark rest : List ℕ) → IsUtf8 bs → 0 < length r → IsEnding blanks mark → At s bs (with_run m r) at (blanks ++ (mark ++ 59 ∷ rest)) → Ending s bs m r at blanks mark (59 ∷ rest)
unfolding is_space
ending s bs m r at blanks mark rest u l h =
    let P : List ℕ → List ℕ → Type 0 = λ b k. At s bs (with_run m r) at (b ++ (k ++ 59 ∷ rest)) → Ending s bs m r at b k (59 ∷ rest) in
    elim h [
      | inl e ↦ subst (λ b. P b mark) (sym e.0) (subst (λ k. P [] k) (sym e.1) (no-ending s bs m r at (59 ∷ rest)))
      | inr e ↦ subst (λ k. P blanks k) (sym e.2) (marked s bs m r at blanks (59 ∷ rest) u l e.0 e.1 refl)
    ]

stops-spaces : (b z : List ℕ) → 0 < length b → Each is_space b → Stops (b ++ z)
stops-spaces [] z l h = absurd (omega arith)
stops-spaces (c ∷ b) z l h = space-stop c h.0

stops-ending : (blanks mark rest : List ℕ) → IsEnding blanks mark → Stops (blanks ++ (mark ++ 59 ∷ rest))
unfolding is_space
stops-ending blanks mark rest h = elim h [
  | inl e ↦ subst (λ b. Stops (b ++ (mark ++ 59 ∷ rest))) (sym e.0) (subst (λ k. Stops (k ++ 59 ∷ rest)) (sym e.1) refl)
  | inr e ↦ stops-spaces blanks (mark ++ 59 ∷ rest) e.0 e.1
]

no-hack : (t : List ℕ) → BeginsNoHack t → begins_hack t ≡ false
no-hack [] h = refl
no-hack (c ∷ []) h = refl
no-hack (c ∷ d ∷ t) h = h

pub run-at : (bs : List ℕ) (a b c d : ℕ) (ps : List Lexeme) → a ≡ b → c ≡ d → Run bs a c ps → Run bs b d ps
run-at bs a b c d ps e f h = subst (λ n. Run bs n d ps) e (subst (λ n. Run bs a n ps) f h)

-- A declaration by its parts.

pub record LeafReading (s bs : List ℕ) (m : Machine) (at : ℕ) (p : PlainLeaf) : Type 0 where
  pub run : List Lexeme
  pub is_run : IsLeafRun bs at p run
  pub reading : Reading s bs (ahead (p.semicolon + 1) (drop (p.semicolon + 1) bs)) (leaf_next m run) (p.semicolon + 1)

module _ (s bs : List ℕ) (m : Machine) (at : ℕ) (p : PlainLeaf) (u : IsUtf8 bs) (x : Reading s bs (ahead at (drop at bs)) m at) (idle : m.run ≡ []) (h : IsPlainLeaf bs at p) where
  behind : List ℕ
  behind = h.blanks ++ (h.mark ++ 59 ∷ h.rest)

  f : Front s bs m at h.name h.back (h.value ++ behind)
  unfolding behind
  f = front s bs m at h.name h.back (h.value ++ behind) u h.name_some h.name_class h.back_class (begins-behind is_space h.value behind h.value_some h.value_begins) (at-start s bs m at _ x idle h.all)

  value-place : at + length h.name + 1 + length h.back ≡ p.value
  value-place = omega (arith, h.value_at, h.colon_at)

  g : Region s bs m (f.word ∷ f.colon ∷ f.spaces) p.value h.value behind
  unfolding behind
  g = region s bs m (f.word ∷ f.colon ∷ f.spaces) p.value h.value behind u h.value_class h.value_brackets h.value_ends (λ w. absurd (cc)) (stops-ending h.blanks h.mark h.rest h.ending)
      (subst (λ n. At s bs (with_run m (f.word ∷ f.colon ∷ f.spaces)) n (h.value ++ behind)) value-place f.next)

  k : Ending s bs m (f.word ∷ f.colon ∷ (f.spaces ++ g.pieces)) p.end h.blanks h.mark (59 ∷ h.rest)
  unfolding behind
  k = ending s bs m (f.word ∷ f.colon ∷ (f.spaces ++ g.pieces)) p.end h.blanks h.mark h.rest u (omega arith) h.ending
      (subst (λ n. At s bs (with_run m (f.word ∷ f.colon ∷ (f.spaces ++ g.pieces))) n behind) (sym h.end_at) g.next)

  run : List Lexeme
  run = f.word ∷ f.colon ∷ (f.spaces ++ (g.pieces ++ (k.spaces ++ k.words)))

  last : At s bs (leaf_next m run) (p.semicolon + 1) h.rest
  unfolding run
  last = leaf-end s bs m f.word f.colon (f.spaces ++ (g.pieces ++ (k.spaces ++ k.words))) p.semicolon h.rest u (x.ready.idle idle) f.is_word f.is_colon
      (subst (λ z. At s bs (with_run m (f.word ∷ f.colon ∷ z)) p.semicolon (59 ∷ h.rest)) (append_assoc f.spaces g.pieces (k.spaces ++ k.words))
      (subst (λ n. At s bs (with_run m (f.word ∷ f.colon ∷ ((f.spaces ++ g.pieces) ++ (k.spaces ++ k.words)))) n (59 ∷ h.rest)) (sym h.semicolon_at) k.next))

  word-run : Run bs at p.colon (f.word ∷ [])
  word-run = run-at bs at at _ p.colon _ refl (sym h.colon_at) f.word_run

  colon-run : Run bs p.colon p.value (f.colon ∷ f.spaces)
  colon-run = run-at bs _ p.colon _ p.value _ (sym h.colon_at) value-place f.colon_run

  value-run : Run bs p.value p.end g.pieces
  value-run = run-at bs p.value p.value _ p.end _ refl (sym h.end_at) g.run

  tail-run : Run bs p.end p.semicolon (k.spaces ++ k.words)
  tail-run = run-at bs p.end p.end _ p.semicolon _ refl (sym h.semicolon_at) k.run

  whole-run : Run bs at p.semicolon run
  unfolding run
  whole-run = run-append bs at p.colon p.semicolon (f.word ∷ []) _ word-run
      (run-append bs p.colon p.value p.semicolon (f.colon ∷ f.spaces) _ colon-run (run-append bs p.value p.end p.semicolon g.pieces (k.spaces ++ k.words) value-run tail-run))

  is-run : IsLeafRun bs at p run
  unfolding run
  is-run = record {
    word = f.word;
    colon = f.colon;
    back = f.spaces;
    value = g.pieces;
    blanks = k.spaces;
    mark = k.words;
    all = refl;
    is_word = f.is_word;
    no_hack = ap begins_hack f.text ∙ no-hack h.name h.name_begins;
    is_colon = f.is_colon;
    back_class = f.blank;
    value_some = g.some h.value_some;
    value_calm = g.calm;
    value_begins = g.begins h.value_begins;
    value_ends = g.ends;
    blanks_class = k.class;
    ending = elim k.kind [ inl e ↦ inl (e.0, e.1, omega (arith, e.2, h.semicolon_at)) | inr e ↦ inr (e.0, omega (arith, e.1, h.semicolon_at)) ];
    stand = whole-run.stand;
    word_end = word-run.end;
    value_at = colon-run.end;
    end_at = value-run.end;
    semicolon_at = tail-run.end;
  }

  pub leaf-reading : LeafReading s bs m at p
  leaf-reading = record { run = run; is_run = is-run; reading = at-reading s bs (leaf_next m run) (p.semicolon + 1) h.rest last }
