-- Reading the head of a plain rule at once.
use Rattle.std.proofs.Common.{◌≡◌, ℕ, suc, ◌+◌, ◌<◌, ◌==◌, ◌||◌, false, List, [], ◌∷◌, ◌++◌, None, length, map, drop, refl, ap, sym, subst, arith, length-append}
use Rattle.std.specs.Str.{IsUtf8}
use Rattle.std.proofs.lemmas.Bool.{or_parts, and_left, and_right, lt-leb}
use Rattle.css_text.specs.declared.lexer.PieceKind.TheVariants as K
use Rattle.css_text.specs.Ahead.{ahead}
use Rattle.css_text.specs.Characters.{is_space}
use Rattle.css_tree.specs.Classes.{Each, BeginsWithout}
use Rattle.css_tree.specs.Fault.{deep}
use Rattle.css_tree.specs.Pieces.{Lexeme, Shape, shape, end_of}
use Rattle.css_tree.specs.Turn.{turn, opens, is_custom}
use Rattle.css_parse.specs.declared.plain.PlainHead.{PlainHead}
use Rattle.css_parse.specs.declared.turn.Frame.{Frame}
use Rattle.css_parse.specs.Steps.{opening_of}
use Rattle.css_parse.specs.Machine.{Machine, next}
use Rattle.css_parse.specs.Plain.{IsPlainHead, IsHeadRun}
use Rattle.css_parse.specs.PlainSteps.{head_next, brace}
use Rattle.css_parse.specs.Going.{Reading}
use Rattle.css_parse.proofs.PlainPieces.{Stops, sign_first, space-stop}
use Rattle.css_parse.proofs.PlainSteps.{At, Stepped, stepped}
use Rattle.css_parse.proofs.PlainRuns.{with_run, Run, run-append}
use Rattle.css_parse.proofs.PlainBlanks.{Blanks, blanks}
use Rattle.css_parse.proofs.PlainRegions.{NoDashes, Region, region}
use Rattle.css_parse.proofs.PlainReadings.{at-start, at-reading, run-at}

-- Behind a selector.

no-custom : (ps qs : List Lexeme) → 0 < length ps → NoDashes ps → is_custom (ps ++ qs) ≡ false
unfolding is_custom
no-custom [] qs l h = absurd (omega arith)
no-custom (p ∷ ps) qs l h = and_right _ _ (and_left _ _ h)

turn-opens : (r : List Lexeme) (q : Lexeme) → 0 < length r → is_custom r ≡ false → shape q ≡ Shape.brace_open → turn r [] q ≡ opens
unfolding turn
turn-opens [] q l e f = absurd (omega arith)
turn-opens (x ∷ r) q l e f = rw (f, e) refl

length-opened : (fs : List Frame) → length (map opening_of fs) ≡ length fs
length-opened [] = refl
length-opened (f ∷ fs) = ap suc (length-opened fs)

not-deep : (fs : List Frame) (q : Lexeme) → length fs < 200 → deep (map opening_of fs) q ≡ None
not-deep fs q l = rw (lt-leb 200 (length (map opening_of fs)) (omega (arith, length-opened fs))) refl

-- the `{`
head-end : (s bs : List ℕ) (m : Machine) (r : List Lexeme) (at : ℕ) (rest : List ℕ) → IsUtf8 bs → m.awaited ≡ [] → 0 < length r → is_custom r ≡ false → length m.frames < 200
    → At s bs (with_run m r) at (123 ∷ rest) → Stepped s bs (head_next m r (brace at)) at (brace at) (123 ∷ []) rest
unfolding shape
head-end s bs m r at rest u a l c d x =
    let y = stepped s bs (with_run m r) at K.Single 123 [] rest u (omega arith, tt) x opens (sign_first at 123 rest refl) (turn-opens r (brace at) l c refl) (not-deep m.frames (brace at) d) in
    subst (λ z. Stepped s bs (next (record m { run = r; awaited = z }) (brace at) opens) at (brace at) (123 ∷ []) rest) (sym a) y

stops-between : (b rest : List ℕ) → Each is_space b → Stops (b ++ 123 ∷ rest)
unfolding is_space
stops-between [] rest h = refl
stops-between (c ∷ b) rest h = space-stop c h.0

first-space : (t : List ℕ) → BeginsWithout (λ c. is_space c || c == 45 || c == 40) t → BeginsWithout is_space t
first-space [] h = tt
first-space (c ∷ t) h = (or_parts _ _ (or_parts _ _ h).0).0

first-dash : (t : List ℕ) → BeginsWithout (λ c. is_space c || c == 45 || c == 40) t → BeginsWithout (λ c. c == 45) t
first-dash [] h = tt
first-dash (c ∷ t) h = (or_parts _ _ (or_parts _ _ h).0).1

-- A head by its parts.

pub record HeadReading (s bs : List ℕ) (m : Machine) (at : ℕ) (p : PlainHead) : Type 0 where
  pub run : List Lexeme
  pub is_run : IsHeadRun bs at p run
  pub reading : Reading s bs (ahead (p.brace + 1) (drop (p.brace + 1) bs)) (head_next m run (brace p.brace)) (p.brace + 1)
  pub end : end_of (brace p.brace) ≡ p.brace + 1

module _ (s bs : List ℕ) (m : Machine) (at : ℕ) (p : PlainHead) (u : IsUtf8 bs) (x : Reading s bs (ahead at (drop at bs)) m at) (idle : m.run ≡ []) (deep : length m.frames < 200) (h : IsPlainHead bs at p) where
  behind : List ℕ
  behind = h.between ++ 123 ∷ h.rest

  g : Region s bs m [] at h.selector behind
  unfolding behind
  g = region s bs m [] at h.selector behind u h.selector_class h.selector_brackets h.selector_ends (λ _. first-space h.selector h.selector_begins) (stops-between h.between h.rest h.between_class) (at-start s bs m at _ x idle h.all)

  some : 0 < length g.pieces
  some = g.some h.selector_some

  k : Blanks s bs m g.pieces p.end h.between (123 ∷ h.rest)
  unfolding behind is_space
  k = blanks s bs m g.pieces p.end h.between (123 ∷ h.rest) u some h.between_class refl (subst (λ n. At s bs (with_run m g.pieces) n behind) (sym h.end_at) g.next)

  run : List Lexeme
  run = g.pieces ++ k.pieces

  last : Stepped s bs (head_next m run (brace p.brace)) p.brace (brace p.brace) (123 ∷ []) h.rest
  unfolding run
  last = head-end s bs m (g.pieces ++ k.pieces) p.brace h.rest u (x.ready.idle idle) (omega (arith, some, length-append g.pieces k.pieces)) (no-custom g.pieces k.pieces some (g.dashes (first-dash h.selector h.selector_begins))) deep
      (subst (λ n. At s bs (with_run m (g.pieces ++ k.pieces)) n (123 ∷ h.rest)) (sym h.brace_at) k.next)

  selector-run : Run bs at p.end g.pieces
  selector-run = run-at bs at at _ p.end _ refl (sym h.end_at) g.run

  between-run : Run bs p.end p.brace k.pieces
  between-run = run-at bs p.end p.end _ p.brace _ refl (sym h.brace_at) k.run

  is-run : IsHeadRun bs at p run
  unfolding run
  is-run = record {
    selector = g.pieces;
    between = k.pieces;
    all = refl;
    selector_some = some;
    selector_calm = g.calm;
    selector_kind = g.kind;
    selector_begins = g.begins (first-space h.selector h.selector_begins);
    selector_ends = g.ends;
    between_class = k.blank;
    stand = (run-append bs at p.end p.brace g.pieces k.pieces selector-run between-run).stand;
    end_at = selector-run.end;
    brace_at = between-run.end;
  }

  pub head-reading : HeadReading s bs m at p
  head-reading = record { run = run; is_run = is-run; reading = at-reading s bs (head_next m run (brace p.brace)) (p.brace + 1) h.rest last.next; end = last.end }
