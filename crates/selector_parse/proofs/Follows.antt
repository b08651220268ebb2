-- Whole parts lead the reader; so where it is blocked no list goes on.
use Rattle.std.proofs.Common.{◌≡◌, ℕ, suc, ◌+◌, ◌-◌, ◌<◌, ◌≤◌, Bool, true, false, eqb, List, [], ◌∷◌, ◌++◌, length, get_or, Option, Some, None, refl, ap, sym, ◌∙◌, subst, arith, append_assoc, append-nil, zero-add}
use Rattle.std.specs.Prelude.{◌&&◌, ◌||◌, nat_lt, nat_le}
use Rattle.std.specs.Str.{chars, IsUtf8}
use Rattle.std.proofs.lemmas.Bool.{false≢true, true≢false}
use Rattle.css_text.specs.Ahead.{byte_len}
use Rattle.css_text.proofs.Slices.{chars_of}
use Rattle.selector_parse.specs.declared.phase.Phase.{Phase}
use Rattle.selector_parse.specs.declared.phase.Phase.TheVariants.{Fresh, Open, Inside, Commented, Trailing}
use Rattle.selector_parse.specs.declared.reading.Gap.TheVariants.{Comments}
use Rattle.selector_parse.specs.declared.reading.Within.TheVariants.{Parentheses}
use Rattle.selector_parse.specs.declared.reading.Reading.{Reading}
use Rattle.selector_parse.specs.declared.reading.Reading.TheVariants.{Done, Text, Blank}
use Rattle.selector_parse.specs.Reading.{step, on, read, is_final}
use Rattle.selector_parse.specs.Tree.{Tree, none, comma, gap, simple, plain, nested, GapKind, blank as blank_gap, comment, combinator, written}
use Rattle.selector_parse.specs.Names.{takes_args, takes_list}
use Rattle.selector_parse.specs.Grammar.{most_depth, Selects}
use Rattle.selector_parse.specs.Phases.{gap_of, is_blanks, is_comment, is_some_text, comment_next, is_simple, gap_next, is_plain, may_end, Are, Passes}
use Rattle.selector_parse.specs.Machine.{Place, at_start, in_gap, in_simple, in_text, Stand, follow, accepts, Blocked, Stuck, text_stops, Matches, Calm, Moves}
use Rattle.selector_parse.specs.Fault.{IsFault}
use lib.Utf8.{encodes}
use Rattle.std.proofs.lemmas.Bool.{leb-true}
use Rattle.std.proofs.lemmas.List.{drop_all}
use Rattle.css_text.proofs.Slices.{byte_len-append}
use Rattle.css_text.proofs.Transport.{length-bytes}
use Rattle.selector_parse.proofs.Rows.{some_bytes}
use Rattle.selector_parse.specs.Row.{IsHalt, IsEnded, list_stops}
use Rattle.selector_parse.proofs.Moves.{some_same, moved, follow-append, comment_moves, simple_moves, blanks_some, none_some, sign_some, comment_read, if_so_parts}
use Rattle.selector_parse.proofs.GapMoves.{gap_leads}
use Rattle.selector_parse.proofs.Arguments.{done_stuck, opens_args, list_opens, text_opens, text_moves, blank_moves, ends_comma, ends_close}
use Rattle.selector_parse.proofs.Heads.{selector_read, starts_selector, head_opens, quiet_head}
use Rattle.selector_parse.proofs.Whole.{Ends, moves-append, SimpleIs, simple_is, gap_is, gap_read_some, whole_go, Inner, inside_inner, opens_paren, open_first, first_unstopped, first_stuck, no_one, commented_run, run_back, run_pair, trailing_last, fresh_unblank, blank_41, args_read, args_close, fresh_open}
use Rattle.selector_parse.proofs.Judged.{selects, passes}

pub quiet_by : (p : Phase) (t y : List ℕ) (h : SimpleIs p t) → head_opens y ≡ true → Stuck h.last y
quiet_by p t y h o = quiet_head h.last y (selector_read t h.from h.last (starts_selector p h.from h.start) h.reads) h.final o

-- a simple selector, and arguments after it
simple_leads : (d : ℕ) (p : Phase) (t y : List ℕ) → is_simple p t ≡ true → Inner y → Moves d p Inside t y
simple_leads d p t y e i = let h = simple_is p t e in
    λ m w k. (in_simple h.last t, (simple_moves d p m h.from h.last t y w k h.start h.reads h.final, h.final, (quiet_by p t y h i.opens, ap (λ b. takes_args t && b) i.bare ∙ nothing (takes_args t))))
  where
    nothing : (b : Bool) → (b && false) ≡ false
    nothing true = refl
    nothing false = refl

args_lead : (d : ℕ) (p : Phase) (t u y : List ℕ) → is_simple p t ≡ true → ((q : Reading) → is_final q ≡ true → step q 40 ≡ None → follow d (in_simple q t) (40 ∷ (u ++ 41 ∷ [])) ≡ Some (d, in_simple Done [])) → Moves d p Inside (t ++ 40 ∷ (u ++ 41 ∷ [])) y
args_lead d p t u y e f = let h = simple_is p t e in
    λ m w k.
    let z : (t ++ 40 ∷ (u ++ 41 ∷ [])) ++ y ≡ t ++ 40 ∷ ((u ++ 41 ∷ []) ++ y) = append_assoc t (40 ∷ (u ++ 41 ∷ [])) y in
    let v = simple_moves d p m h.from h.last t (40 ∷ ((u ++ 41 ∷ []) ++ y)) w (subst (Calm d p m) z k) h.start h.reads h.final in
    let o = quiet_by p t (40 ∷ ((u ++ 41 ∷ []) ++ y)) h (opens_paren ((u ++ 41 ∷ []) ++ y)) in
    (in_simple Done [], (follow-append d m t (40 ∷ (u ++ 41 ∷ [])) (d, in_simple h.last t) v ∙ f h.last h.final o, refl, (done_stuck y, refl)))

text_lead : (d : ℕ) (t u : List ℕ) → takes_args t ≡ true → takes_list t ≡ false → d < most_depth → is_plain false (suc d) u ≡ true → (q : Reading) → is_final q ≡ true → step q 40 ≡ None → follow d (in_simple q t) (40 ∷ (u ++ 41 ∷ [])) ≡ Some (d, in_simple Done [])
text_lead d t u a l b e q f s =
    let q0 = Text (Parentheses 0 (most_depth - suc d)) in
    let h = whole_go q0 u (read q0 u) refl e in
    let c = args_close h.0 (args_read u q0 h.0 refl h.1.0) h.1.1 in
    moved d (in_simple q t) 40 (u ++ 41 ∷ []) (d, in_text q0) (opens_args d q t f s ∙ text_opens d t a l b) ∙ text_moves d q0 h.0 u h.1.0 h.1.1 c

blank_lead : (d : ℕ) (t u : List ℕ) → takes_list t ≡ true → d < most_depth → is_plain true (suc d) u ≡ true → (q : Reading) → is_final q ≡ true → step q 40 ≡ None → follow d (in_simple q t) (40 ∷ (u ++ 41 ∷ [])) ≡ Some (d, in_simple Done [])
blank_lead d t u l b e q f s =
    let g = blanks_some (gap_of u) e in
    moved d (in_simple q t) 40 (u ++ 41 ∷ []) (suc d, at_start true) (opens_args d q t f s ∙ list_opens d t l b)
    ∙ blank_moves d (Blank g.0) g.0 u (gap_read_some (read (Blank Comments) u) g.0 g.1.0) refl g.1.1 (blank_41 g.0)

plain_lead : (d : ℕ) (p : Phase) (t u y : List ℕ) (l : Bool) → takes_list t ≡ l → is_simple p t ≡ true → takes_args t ≡ true → d < most_depth → is_plain l (suc d) u ≡ true → Moves d p Inside (t ++ 40 ∷ (u ++ 41 ∷ [])) y
plain_lead d p t u y true l e a b f = args_lead d p t u y e (blank_lead d t u l b f)
plain_lead d p t u y false l e a b f = args_lead d p t u y e (text_lead d t u a l b f)

reassoc : (t u v : List ℕ) → t ++ 40 ∷ (u ++ 41 ∷ v) ≡ (t ++ 40 ∷ (u ++ 41 ∷ [])) ++ v
reassoc t u v = sym (append_assoc t (40 ∷ (u ++ 41 ∷ [])) v ∙ ap (λ x. t ++ 40 ∷ x) (append_assoc u (41 ∷ []) v))

pub comment_phase : (p m : Phase) → comment_next p ≡ Some m → Commented ≡ m
comment_phase Inside m e = some_same Commented m e
comment_phase Commented m e = some_same Commented m e
comment_phase Fresh m e = cc
comment_phase Open m e = cc
comment_phase Trailing m e = cc

blank_other : blank_gap ≡ comment → ⊥
blank_other e = cc

sign_other : combinator ≡ comment → ⊥
sign_other e = cc

open_trailing : Open ≡ Trailing → ⊥
open_trailing e = cc

trailing_open : Trailing ≡ Open → ⊥
trailing_open e = cc

fresh_inside : Fresh ≡ Inside → ⊥
fresh_inside e = cc

and_false : (a b : Bool) → b ≡ false → (a && b) ≡ false
and_false true b e = e
and_false false b e = refl

module _ (d at : ℕ) (q : Phase) (t : List ℕ) (x : Tree) (r : List ℕ) (y : may_end q ≡ true) (z : Ends d r) where
  open_lead : (p : Phase) (k : GapKind) → gap_next p k t ≡ Some Open → (k ≡ comment → ⊥) → Are d Open (at + byte_len t) x q → Moves d p Open t (written x ++ r)
  open_lead p k e n a =
      let g = gap_is p Open k t e in
      let b = open_first d (at + byte_len t) q x r a y in
      gap_leads d p Open k t (written x ++ r) (Blank g.gap) g.some g.reads e n (first_stuck g.gap (written x ++ r) (no_one t g.gap g.reads) b)
      (λ _ _. and_false (is_blanks (Some g.gap)) (text_stops d (written x ++ r)) (first_unstopped d (written x ++ r) b)) (λ _ f. absurd (open_trailing f))

  trailing_lead : gap_next Inside blank_gap t ≡ Some Trailing → Are d Trailing (at + byte_len t) x q → Moves d Inside Trailing t (written x ++ r)
  trailing_lead e a =
      let g = gap_is Inside Trailing blank_gap t e in
      let l = trailing_last d (at + byte_len t) g.gap q x r a z in
      gap_leads d Inside Trailing blank_gap t (written x ++ r) (Blank g.gap) g.some g.reads e blank_other l.stuck (λ _ f. absurd (trailing_open f)) (λ _ _. l.stops)

  comment_lead : (p : Phase) → gap_next p comment t ≡ Some Commented → Are d Commented (at + byte_len t) x q → Moves d p Commented t (written x ++ r)
  comment_lead p e a =
      let h = comment_read t (if_so_parts (is_comment t) (comment_next p) Commented e).0 in
      λ m w k. comment_moves d p m t (written x ++ r) w k e (λ _. run_pair d (t ++ (written x ++ r)) (run_back d t (written x ++ r) h (commented_run d (at + byte_len t) q x r a y)))

  gap_lead : (p : Phase) (k : GapKind) (m : Phase) → gap_next p k t ≡ Some m → Are d m (at + byte_len t) x q → Moves d p m t (written x ++ r)
  gap_lead p comment m e a =
      let h = comment_phase p m (if_so_parts (is_comment t) (comment_next p) m e).1 in
      subst (λ m. Moves d p m t (written x ++ r)) h (comment_lead p (e ∙ ap Some (sym h)) (subst (λ m. Are d m (at + byte_len t) x q) (sym h) a))
  gap_lead p combinator m e a =
      let h = sym (sign_some p (gap_of t) m e).1.2 in
      subst (λ m. Moves d p m t (written x ++ r)) h (open_lead p combinator (e ∙ ap Some (sym h)) sign_other (subst (λ m. Are d m (at + byte_len t) x q) (sym h) a))
  gap_lead Fresh blank_gap m e a =
      let h = fresh_open m blank_gap t e in
      subst (λ m. Moves d Fresh m t (written x ++ r)) h (open_lead Fresh blank_gap (e ∙ ap Some (sym h)) blank_other (subst (λ m. Are d m (at + byte_len t) x q) (sym h) a))
  gap_lead Inside blank_gap m e a =
      let h = some_same Trailing m (if_so_parts (is_some_text t && is_blanks (gap_of t)) (Some Trailing) m e).1 in
      subst (λ m. Moves d Inside m t (written x ++ r)) h (trailing_lead (e ∙ ap Some (sym h)) (subst (λ m. Are d m (at + byte_len t) x q) (sym h) a))
  gap_lead Open blank_gap m e a = absurd (none_some _ m e)
  gap_lead Commented blank_gap m e a = absurd (none_some _ m e)
  gap_lead Trailing blank_gap m e a = absurd (none_some _ m e)

-- the list inside parentheses
nested_lead : (d at : ℕ) (t : List ℕ) (i : Tree) (q : Phase) → takes_list t ≡ true → d < most_depth → may_end q ≡ true → Are (suc d) Fresh at i q → ((s : List ℕ) → Moves (suc d) Fresh q (written i) (41 ∷ s))
    → (o : Reading) → is_final o ≡ true → step o 40 ≡ None → follow d (in_simple o t) (40 ∷ (written i ++ 41 ∷ [])) ≡ Some (d, in_simple Done [])
nested_lead d at t i q l b e a h o f s =
    let m = h [] (at_start true) tt (λ _. fresh_unblank (suc d) at q i (41 ∷ []) a e) in
    moved d (in_simple o t) 40 (written i ++ 41 ∷ []) (suc d, at_start true) (opens_args d o t f s ∙ list_opens d t l b)
    ∙ follow-append (suc d) (at_start true) (written i) (41 ∷ []) (suc d, m.0) m.1.0 ∙ moved (suc d) m.0 41 [] (d, in_simple Done []) (ends_close (suc d) q m.0 [] e m.1.1 m.1.2)

above_none : (d : ℕ) → 0 < suc d
above_none d = omega arith

pub tree_leads : (d at : ℕ) (p q : Phase) (x : Tree) (r : List ℕ) → Are d p at x q → may_end q ≡ true → Ends d r → Moves d p q (written x) r
tree_leads d at p q none r a y z = subst (λ q. Moves d p q [] r) a (λ m w k. (m, (refl, w, k)))
tree_leads d at p q (comma x) r a y z = λ m w k.
    let n = tree_leads d (at + 1) Fresh q x r a.1 y z (at_start false) tt (λ e. absurd (false≢true e)) in
    (n.0, (moved d m 44 (written x) (d, at_start false) (ends_comma d p m (written x ++ r) a.0 w k) ∙ n.1.0, n.1.1, n.1.2))
tree_leads d at p q (gap k g t x) r a y z =
    moves-append d p a.1.0 q t (written x) r (gap_lead d at q t x r y z p k a.1.0 a.1.1.0 a.1.1.1) (tree_leads d (at + byte_len t) a.1.0 q x r a.1.1.1 y z)
tree_leads d at p q (simple k g t x) r a y z =
    moves-append d p Inside q t (written x) r (simple_leads d p t (written x ++ r) a.2 (inside_inner d (at + byte_len t) q x r a.3 z)) (tree_leads d (at + byte_len t) Inside q x r a.3 y z)
tree_leads d at p q (plain k g t args x) r a y z =
    subst (λ s. Moves d p q s r) (sym (reassoc t args (written x))) (moves-append d p Inside q (t ++ 40 ∷ (args ++ 41 ∷ [])) (written x) r
    (plain_lead d p t args (written x ++ r) (takes_list t) refl a.2 a.3 a.4 a.5) (tree_leads d (at + byte_len t + 1 + byte_len args + 1) Inside q x r a.6 y z))
tree_leads d at p q (nested k g t i x) r a y z =
    subst (λ s. Moves d p q s r) (sym (reassoc t (written i) (written x))) (moves-append d p Inside q (t ++ 40 ∷ (written i ++ 41 ∷ [])) (written x) r
    (args_lead d p t (written i) (written x ++ r) a.2 (nested_lead d (at + byte_len t + 1) t i a.5.0 a.3 a.4 a.5.1.0 a.5.1.1 (λ s. tree_leads (suc d) (at + byte_len t + 1) Fresh a.5.0 i (41 ∷ s) a.5.1.1 a.5.1.0 (refl, above_none d))))
    (tree_leads d (at + byte_len t + 1 + byte_len (written i) + 1) Inside q x r a.6 y z))

-- a list is accepted
accepted : (q : Phase) (m : Place) → may_end q ≡ true → Matches q m → accepts 0 m ≡ true
accepted Inside (in_simple o t) e w = w
accepted Trailing (in_gap false f o) e w = ap is_blanks w.1.0 ∙ w.1.1
accepted Inside (at_start f) e w = absurd w
accepted Inside (in_gap l f o) e w = absurd w
accepted Inside (in_text o) e w = absurd w
accepted Trailing (at_start f) e w = absurd w
accepted Trailing (in_gap true f o) e w = absurd w
accepted Trailing (in_simple o t) e w = absurd w
accepted Trailing (in_text o) e w = absurd w
accepted Fresh m e w = absurd (false≢true e)
accepted Open m e w = absurd (false≢true e)
accepted Commented m e w = absurd (false≢true e)

pub follows : (s : List ℕ) (x : Tree) → Passes s x → (m : Place) × ((follow 0 (at_start false) s ≡ Some (0, m)) × (accepts 0 m ≡ true))
follows s x h =
    let n = tree_leads 0 0 Fresh h.last x [] h.are h.ends tt (at_start false) tt (λ e. absurd (false≢true e)) in
    (n.0, (ap (follow 0 (at_start false)) (sym h.text) ∙ n.1.0, accepted h.last n.0 h.ends n.1.1))

-- no list goes on where the reader is blocked
go_blocked : (s : Stand) (back : List ℕ) (n : Stand) → Blocked s.0 s.1 back → follow s.0 s.1 back ≡ Some n → accepts n.0 n.1 ≡ true → ⊥
go_blocked s [] n b f a = let e : ◌≡◌ {A = Stand} s n = some_same s n f in false≢true (sym b ∙ ap (λ s. accepts s.0 s.1) e ∙ a)
go_blocked s (c ∷ cs) n b f a = nothing (sym (ap (λ o. on o (λ s. follow s.0 s.1 cs)) b) ∙ f)
  where
    nothing : ◌≡◌ {A = Option Stand} None (Some n) → ⊥
    nothing e = cc

stuck_on : (s : Stand) (back : List ℕ) (c : ℕ) (rest more : List ℕ) → back ≡ c ∷ rest → Blocked s.0 s.1 back → Blocked s.0 s.1 (c ∷ more)
stuck_on s back c rest more e b = subst (Blocked s.0 s.1) e b

pub blocked_fault : (front back more : List ℕ) (parts : Tree) (s : Stand) → Selects (front ++ more) parts → follow 0 (at_start false) front ≡ Some s → Blocked s.0 s.1 back → IsFault (front ++ back) (byte_len front)
blocked_fault front back more parts s h g b = record {
  none = λ x k.
      let f = follows (front ++ back) x (passes (front ++ back) x k) in
      go_blocked s back (0, f.0) b (sym (follow-append 0 (at_start false) front back s g) ∙ f.1.0) f.1.1;
  longest = record {
    front = front;
    back = back;
    text = refl;
    size = refl;
    begins = (more, (parts, h));
    no_more = λ c rest z k.
        let f = follows ((front ++ c ∷ []) ++ k.0) k.1.0 (passes ((front ++ c ∷ []) ++ k.0) k.1.0 k.1.1) in
        go_blocked s (c ∷ k.0) (0, f.0) (stuck_on s back c rest k.0 z b) (sym (follow-append 0 (at_start false) front (c ∷ k.0) s g) ∙ ap (follow 0 (at_start false)) (sym (append_assoc front (c ∷ []) k.0)) ∙ f.1.0) f.1.1;
  };
}

pub halt_fault : (bs : List ℕ) (e : ℕ) → IsUtf8 bs → IsHalt bs 0 0 Fresh e → IsFault (chars bs) e
halt_fault bs e u h =
    let is : chars bs ≡ h.front ++ h.back = chars_of bs (h.front ++ h.back) u h.text in
    let b = h.blocked (at_start false) tt (λ e. absurd (false≢true e)) in
    let p = selects (h.front ++ h.more) h.parts (record { text = h.goes; last = h.last; ends = h.ends; are = h.are }) in
    subst (λ s. IsFault s e) (sym is) (subst (λ n. IsFault (h.front ++ h.back) n) (sym (h.size ∙ zero-add (byte_len h.front))) (blocked_fault h.front h.back h.more h.parts b.0 p b.1.0 b.1.1))

pub halt_within : (bs : List ℕ) (e : ℕ) → IsHalt bs 0 0 Fresh e → e ≤ length bs
halt_within bs e h =
    let l : length bs ≡ byte_len (h.front ++ h.back) = ap length h.text ∙ length-bytes (h.front ++ h.back) in
    let b = byte_len-append h.front h.back in
    omega (arith, h.size)

at_end : (a b c : Bool) → (a || (b && c)) ≡ true → b ≡ false → a ≡ true
at_end true b c e f = refl
at_end false true c e f = absurd (true≢false f)
at_end false false c e f = absurd (false≢true e)

nothing_left : (cs : List ℕ) → [] ≡ encodes cs → cs ≡ []
nothing_left [] e = refl
nothing_left (c ∷ cs) e = absurd (some_bytes c cs (sym e))

pub ended_selects : (bs : List ℕ) (e : ℕ) (x : Tree) → IsUtf8 bs → IsEnded bs 0 0 x e → list_stops bs e 0 ≡ true → Selects (chars bs) x
ended_selects bs e x u h s =
    let l : length bs ≤ e = leb-true (length bs) e (at_end (nat_le (length bs) e) (nat_lt 0 0) (eqb (get_or bs e 0) 41) s refl) in
    let z : h.row.ahead ≡ [] = nothing_left h.row.ahead (sym (drop_all e bs l) ∙ h.row.here) in
    selects (chars bs) x (record {
      text = sym (append-nil (written x)) ∙ ap (λ y. written x ++ y) (sym z) ∙ sym (chars_of bs (written x ++ h.row.ahead) u h.row.text);
      last = h.last;
      ends = h.ends;
      are = h.row.are;
    })
