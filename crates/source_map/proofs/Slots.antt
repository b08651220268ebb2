-- The slots of a text, found one after another.
use Rattle.std.proofs.Common.{◌≡◌, ℕ, zero, suc, ◌+◌, ◌-◌, ◌<◌, ◌≤◌, ◌==◌, ◌&&◌, Bool, true, false, nat_le, nat_lt, List, [], ◌∷◌, length, take, drop, slice_index, Result, Ok, Err, refl, sym, ap, ◌∙◌, subst, arith, if◌then◌else◌, append-nil, add-zero}
use Rattle.std.proofs.lemmas.Grind.{common_steps}
use Rattle.source_map.specs.declared.segment.Segment.{Segment}
use Rattle.source_map.specs.declared.last.Last.{Last}
use Rattle.source_map.specs.Decode.{Slot, slots, with_first, is_separator}
use Rattle.source_map.specs.Answers.{AnswersList, IsSlotEnd, ReadsSlot, behind, line_behind}
use Rattle.css_text.specs.declared.stop.Stop.{Stop}
use Rattle.css_text.specs.declared.stop.Stop.TheVariants.{Fault, Memory}
use Rattle.source_map.specs.declared.segment.MapFault.{MapFault}
use Rattle.source_map.specs.Running.{decoded, decoded_slot, running_decode, nothing_yet}

-- the slots from that place on, if it isn't past the end
abbrev pub slots_left : ℕ → ℕ → List ℕ → List Slot
slots_left line at text = if nat_le at (length text) then slots line at (drop at text) else []

front : (text : List ℕ) (i : ℕ) → i < length text → drop i text ≡ slice_index text i ∷ drop (i + 1) text
front text i h = grind (arith, common_steps)

no_more : (text : List ℕ) (i : ℕ) → length text ≤ i → drop i text ≡ []
no_more text i h = grind (arith, common_steps)

past : (a b : ℕ) → b < a → nat_le a b ≡ false
past a b h = grind (arith, common_steps)

up_to : (a b : ℕ) → a ≤ b → nat_le a b ≡ true
up_to a b h = grind (arith, common_steps)

below : (a b : ℕ) → a < b → nat_lt a b ≡ true
below a b h = grind (arith, common_steps)

not_below : (a b : ℕ) → b ≤ a → nat_lt a b ≡ false
not_below a b h = grind (arith, common_steps)

-- a separator begins a list of slots with an empty one
pub first_by : (b d : Bool) (line at c : ℕ) (cs : List ℕ) → (c == 44) ≡ b → (c == 59) ≡ d → is_separator c ≡ true
    → slots line at (c ∷ cs) ≡ record { line = line; at = at; text = [] } ∷ slots (if c == 59 then line + 1 else line) (at + 1) cs
unfolding slots
first_by true true line at c cs e f h = absurd (both c e f)
  where
    both : (c : ℕ) → (c == 44) ≡ true → (c == 59) ≡ true → ⊥
    both c e f = absurd (grind (arith, common_steps))
first_by true false line at c cs e f h = rw (e, f) refl
first_by false true line at c cs e f h = rw (e, f) refl
first_by false false line at c cs e f h = absurd (cc)

pub other_by : (b d : Bool) (line at c : ℕ) (cs : List ℕ) → (c == 44) ≡ b → (c == 59) ≡ d → is_separator c ≡ false → slots line at (c ∷ cs) ≡ with_first line at c (slots line (at + 1) cs)
unfolding slots
other_by true true line at c cs e f h = absurd (cc)
other_by true false line at c cs e f h = absurd (cc)
other_by false true line at c cs e f h = absurd (cc)
other_by false false line at c cs e f h = rw (e, f) refl

end_by : (text : List ℕ) (line at : ℕ) → at ≡ length text → slots line at (drop at text) ≡ record { line = line; at = at; text = [] } ∷ slots_left (line_behind text line at) (at + 1) text
unfolding slots
end_by text line at h = rw (no_more text at (omega arith), past (at + 1) (length text) (omega arith)) refl

separator_by : (text : List ℕ) (line at : ℕ) → at < length text → is_separator (slice_index text at) ≡ true
    → slots line at (drop at text) ≡ record { line = line; at = at; text = [] } ∷ slots_left (line_behind text line at) (at + 1) text
separator_by text line at h s = rw (front text at h, up_to (at + 1) (length text) (omega arith), below at (length text) h)
    (first_by (slice_index text at == 44) (slice_index text at == 59) line at (slice_index text at) (drop (at + 1) text) refl refl s)

end_cases : (b : Bool) (text : List ℕ) (line at : ℕ) → nat_lt at (length text) ≡ b → at ≤ length text → (at < length text → is_separator (slice_index text at) ≡ true)
    → slots line at (drop at text) ≡ record { line = line; at = at; text = [] } ∷ slots_left (line_behind text line at) (at + 1) text
end_cases true text line at e h s = let l : at < length text = grind (arith, common_steps) in separator_by text line at l (s l)
end_cases false text line at e h s = end_by text line at (grind (arith, common_steps))

-- the first slot, of k bytes, and the others
pub first_slot : (k : ℕ) (text : List ℕ) (line from : ℕ) → IsSlotEnd text from (from + k)
    → slots line from (drop from text) ≡ record { line = line; at = from; text = take k (drop from text) } ∷ slots_left (line_behind text line (from + k)) (from + k + 1) text
first_slot zero text line from h = rw (add-zero from) (end_cases (nat_lt from (length text)) text line from refl (omega (arith, h.within)) (λ l. subst (λ x. is_separator (slice_index text x) ≡ true) (add-zero from) (h.one (omega arith))))
first_slot (suc k) text line from h =
    let e : from + 1 + k ≡ from + suc k = omega arith in
    let inside : from < length text = omega (arith, h.within) in
    let later : IsSlotEnd text (from + 1) (from + 1 + k) = record { after = omega arith; within = omega (arith, h.within); none = λ i a b. h.none i (omega arith) (omega arith); one = λ l. subst (λ x. is_separator (slice_index text x) ≡ true) (sym e) (h.one (omega arith)) } in
    let tail = first_slot k text line (from + 1) later in
    ap (slots line from) (front text from inside)
    ∙ other_by (slice_index text from == 44) (slice_index text from == 59) line from (slice_index text from) (drop (from + 1) text) refl refl (h.none from (omega arith) (omega arith))
    ∙ ap (with_first line from (slice_index text from)) tail
    ∙ ap (λ n. record { line = line; at = from; text = slice_index text from ∷ take k (drop (from + 1) text) } ∷ slots_left (line_behind text line n) (n + 1) text) e
    ∙ ap (λ t. record { line = line; at = from; text = take (suc k) t } ∷ slots_left (line_behind text line (from + suc k)) (from + suc k + 1) text) (sym (front text from inside))

left_here : (text : List ℕ) (line at : ℕ) → at ≤ length text → slots_left line at text ≡ slots line at (drop at text)
left_here text line at h = rw (up_to at (length text) h) refl

left_none : (text : List ℕ) (line at : ℕ) → length text < at → slots_left line at text ≡ []
left_none text line at h = rw (past at (length text) h) refl

-- what is read so far, and what is left
pub record IsReadUpTo (text : List ℕ) (line at : ℕ) (last : Last) (segments : List Segment) : Type 0 where
  pub lines : line ≤ at
  pub near : at ≤ length text + 1
  pub same : running_decode text ≡ behind segments (decoded last (slots_left line at text))

behind_none : (r : Result (List Segment) ℕ) → behind [] r ≡ r
behind_none (Ok gs) = refl
behind_none (Err at) = refl

pub read_none : (text : List ℕ) (last : Last) (segments : List Segment) → last ≡ nothing_yet → segments ≡ [] → IsReadUpTo text 0 0 last segments
unfolding running_decode
read_none text last segments e f = rw (e, f) (record {
  lines = omega arith;
  near = omega arith;
  same = ap (decoded nothing_yet) (sym (left_here text 0 0 (omega arith))) ∙ sym (behind_none (decoded nothing_yet (slots_left 0 0 text)));
})

-- all is read
pub read_all : (text : List ℕ) (line at : ℕ) (last : Last) (segments : List Segment) → IsReadUpTo text line at last segments → length text < at → running_decode text ≡ Ok segments
unfolding decoded
read_all text line at last segments h l = h.same ∙ ap (λ ss. behind segments (decoded last ss)) (left_none text line at l) ∙ ap (λ gs. Ok gs) (append-nil segments)

-- the next slot, and what is left behind it
pub next_slot : (text : List ℕ) (line at end : ℕ) (last : Last) (segments : List Segment) → IsReadUpTo text line at last segments → at ≤ length text → IsSlotEnd text at end
    → running_decode text ≡ behind segments (decoded_slot last (record { line = line; at = at; text = take (end - at) (drop at text) }) (take (end - at) (drop at text)) (λ k. decoded k (slots_left (line_behind text line end) (end + 1) text)))
unfolding decoded
next_slot text line at end last segments h l i =
    let e : at + (end - at) ≡ end = omega (arith, i.after) in
    let found = first_slot (end - at) text line at (subst (IsSlotEnd text at) (sym e) i) in
    let there = ap (λ n. record { line = line; at = at; text = take (end - at) (drop at text) } ∷ slots_left (line_behind text line n) (n + 1) text) e in
    h.same ∙ ap (λ ss. behind segments (decoded last ss)) (left_here text line at l ∙ found ∙ there)

line_more : (b : Bool) (line n : ℕ) → (if b then line + 1 else line) ≤ line + 1
line_more true line n = omega arith
line_more false line n = omega arith

-- behind a slot that was read
pub read_next : (text : List ℕ) (line at end next : ℕ) (last new : Last) (segments now : List Segment) → IsReadUpTo text line at last segments → at ≤ length text → IsSlotEnd text at end
    → next ≡ line_behind text line end
    → ((rest : Last → Result (List Segment) ℕ) → behind segments (decoded_slot last (record { line = line; at = at; text = take (end - at) (drop at text) }) (take (end - at) (drop at text)) rest) ≡ behind now (rest new))
    → IsReadUpTo text next (end + 1) new now
read_next text line at end next last new segments now h l i n r = record {
  lines = let m = line_more (nat_lt end (length text) && slice_index text end == 59) line 0 in omega (arith, m, n, h.lines, i.after);
  near = omega (arith, i.within);
  same = next_slot text line at end last segments h l i ∙ r (λ k. decoded k (slots_left (line_behind text line end) (end + 1) text)) ∙ ap (λ m. behind now (decoded new (slots_left m (end + 1) text))) (sym n);
}

pub read_fault : (text : List ℕ) (line at end fault : ℕ) (last : Last) (segments : List Segment) → IsReadUpTo text line at last segments → at ≤ length text → IsSlotEnd text at end
    → ((rest : Last → Result (List Segment) ℕ) → decoded_slot last (record { line = line; at = at; text = take (end - at) (drop at text) }) (take (end - at) (drop at text)) rest ≡ Err fault)
    → running_decode text ≡ Err fault
read_fault text line at end fault last segments h l i r =
    next_slot text line at end last segments h l i ∙ ap (behind segments) (r (λ k. decoded k (slots_left (line_behind text line end) (end + 1) text)))

pub read_stop : (text : List ℕ) (line at end : ℕ) (last new : Last) (segments now : List Segment) (s : Stop MapFault) → IsReadUpTo text line at last segments → at ≤ length text → IsSlotEnd text at end
    → ReadsSlot (record { line = line; at = at; text = take (end - at) (drop at text) }) last new segments now (Err s) → AnswersList (running_decode text) (Err s)
read_stop text line at end last new segments now (Fault f) h l i r = read_fault text line at end f.at last segments h l i r
read_stop text line at end last new segments now (Memory e) h l i r = tt
