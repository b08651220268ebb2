-- Segments written one after another.
use Rattle.std.proofs.Common.{◌≡◌, ℕ, ◌+◌, ◌-◌, ◌<◌, ◌≤◌, List, [], ◌∷◌, ◌++◌, length, drop, get_or, refl, sym, ap, ◌∙◌, arith, append_assoc, append-nil}
use Rattle.std.specs.List.{AllAdjacentBelow}
use Rattle.std.proofs.lemmas.List.Sorted.{IsNonDecreasingBy-from_all_adjacent, all_adjacent_more}
use Rattle.std.specs.List.Sorted.{IsNonDecreasingBy}
use Rattle.std.proofs.lemmas.Grind.{common_steps}
use Rattle.source_map.specs.declared.segment.Segment.{Segment}
use Rattle.source_map.specs.declared.last.Last.{Last}
use Rattle.source_map.specs.Lines.{line_of}
use Rattle.source_map.specs.Running.{written, nothing_yet, after, separator, segment_text, running_text}

-- what is written so far, and what is left to write
pub record IsWrittenUpTo (segments : List Segment) (index : ℕ) (last : Last) (text : List ℕ) : Type 0 where
  pub same : text ++ written last (drop index segments) ≡ running_text segments
  pub sorted : (i : ℕ) (d : Segment) → index ≤ i → i < length segments → last.line ≤ line_of (get_or segments i d)

pub written_none : (segments : List Segment) (last : Last) (text : List ℕ) → last ≡ nothing_yet → text ≡ [] → IsWrittenUpTo segments 0 last text
written_none segments last text e f = rw (e, f) (record { same = refl; sorted = λ i d h l. omega arith })

front : (segments : List Segment) (i : ℕ) (d : Segment) → i < length segments → drop i segments ≡ get_or segments i d ∷ drop (i + 1) segments
front segments i d h = grind (arith, common_steps)

regroup : (a b c d : List ℕ) → ((a ++ b) ++ c) ++ d ≡ a ++ (b ++ (c ++ d))
regroup a b c d = simp append_assoc

same_line : (segments : List Segment) (i : ℕ) (d e : Segment) → i < length segments → get_or segments i d ≡ get_or segments i e
same_line segments i d e h = grind (arith, common_steps)

pub written_next : (segments : List Segment) (index : ℕ) (d : Segment) (last : Last) (text between now : List ℕ) → IsNonDecreasingBy line_of segments → IsWrittenUpTo segments index last text → index < length segments
    → between ≡ text ++ separator last (get_or segments index d).line → now ≡ between ++ segment_text last (get_or segments index d) → IsWrittenUpTo segments (index + 1) (after last (get_or segments index d)) now
unfolding written
written_next segments index d last text between now o h l f n =
    let g : Segment = get_or segments index d in
    let rest : List ℕ = written (after last g) (drop (index + 1) segments) in
    record {
      same = ap (λ x. x ++ rest) (n ∙ ap (λ x. x ++ segment_text last g) f)
          ∙ regroup text (separator last g.line) (segment_text last g) rest ∙ (ap (λ x. text ++ x) (ap (written last) (sym (front segments index d l))) ∙ h.same);
      sorted = λ i e a b. let s : line_of (get_or segments index e) ≤ line_of (get_or segments i e) = o index i e (omega arith) b in
          let t : line_of (get_or segments index e) ≡ line_of (get_or segments index d) = ap line_of (same_line segments index e d l) in omega (arith, s, t);
    }

pub written_all : (segments : List Segment) (index : ℕ) (last : Last) (text : List ℕ) → IsWrittenUpTo segments index last text → length segments ≤ index → text ≡ running_text segments
unfolding written
written_all segments index last text h l = sym (append-nil text) ∙ ap (λ x. text ++ written last x) (sym (past segments index l)) ∙ h.same
  where
    past : (xs : List Segment) (i : ℕ) → length xs ≤ i → drop i xs ≡ []
    past xs i l = grind (arith, common_steps)

-- the answer of a step, by what the text and the fields' base were before it
pub written_step : (segments items : List Segment) (index : ℕ) (d : Segment) (last new : Last) (text between now : List ℕ) → IsNonDecreasingBy line_of segments → items ≡ segments → IsWrittenUpTo items index last text
    → index < length items → between ≡ text ++ separator last (get_or items index d).line → now ≡ between ++ segment_text last (get_or items index d) → new ≡ after last (get_or items index d) → IsWrittenUpTo items (index + 1) new now
written_step segments items index d last new text between now o e h l f n a = rw a (written_next items index d last text between now (rw e o) h l f n)

-- one more pair of lines that don't fall
pub rise_more : (segments : List Segment) (i : ℕ) (d e : Segment) → 0 < i → i < length segments → AllAdjacentBelow (λ x y. line_of x ≤ line_of y) segments i
    → line_of (get_or segments (i - 1) d) ≤ line_of (get_or segments i e) → AllAdjacentBelow (λ x y. line_of x ≤ line_of y) segments (i + 1)
rise_more segments i d e p l s h = all_adjacent_more segments (λ x y. line_of x ≤ line_of y) i p s (λ f.
    let a : line_of (get_or segments (i - 1) f) ≡ line_of (get_or segments (i - 1) d) = ap line_of (same_line segments (i - 1) f d (omega arith)) in
    let b : line_of (get_or segments i f) ≡ line_of (get_or segments i e) = ap line_of (same_line segments i f e l) in omega (arith, a, b, h))

-- a pair of lines that falls
pub rise_not : (segments : List Segment) (i : ℕ) (d e : Segment) → 0 < i → i < length segments → line_of (get_or segments i e) < line_of (get_or segments (i - 1) d) → IsNonDecreasingBy line_of segments → ⊥
rise_not segments i d e p l h o =
    let a : line_of (get_or segments (i - 1) e) ≡ line_of (get_or segments (i - 1) d) = ap line_of (same_line segments (i - 1) e d (omega arith)) in
    let b : line_of (get_or segments (i - 1) e) ≤ line_of (get_or segments i e) = o (i - 1) i e (omega arith) l in omega (arith, a, b, h)

pub rise_all : (segments : List Segment) (i : ℕ) → length segments ≤ i → AllAdjacentBelow (λ x y. line_of x ≤ line_of y) segments i → IsNonDecreasingBy line_of segments
rise_all segments i h s = IsNonDecreasingBy-from_all_adjacent line_of segments (λ k d l. s k d (omega arith))
