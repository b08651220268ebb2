-- A text has at most one list of selectors.
use Rattle.std.proofs.Common.{◌⊎◌, inl, inr, ◌≡◌, ℕ, suc, ◌+◌, ◌-◌, ◌<◌, Bool, true, false, eqb, List, [], ◌∷◌, ◌++◌, Option, Some, None, refl, ap, sym, ◌∙◌, subst, arith, append_assoc}
use Rattle.std.specs.Prelude.{◌&&◌}
use Rattle.std.proofs.lemmas.Bool.{and_parts, false≢true, true≢false, lt-ltb}
use Rattle.css_text.specs.Forms.{begins}
use Rattle.css_text.specs.Ahead.{byte_len}
use Rattle.selector_parse.specs.declared.part.PartKind.{PartKind}
use Rattle.selector_parse.specs.declared.phase.Phase.{Phase}
use Rattle.selector_parse.specs.declared.phase.Phase.TheVariants.{Fresh, Open, Inside, Commented, Trailing}
use Rattle.selector_parse.specs.declared.reading.Gap.{Gap}
use Rattle.selector_parse.specs.declared.reading.Gap.TheVariants.{One, Comments, Spaced, Symbol}
use Rattle.selector_parse.specs.declared.reading.Within.TheVariants.{Parentheses}
use Rattle.selector_parse.specs.declared.reading.Reading.{Reading}
use Rattle.selector_parse.specs.declared.reading.Reading.TheVariants.{First, Next, Done, Text, Blank}
use Rattle.selector_parse.specs.Reading.{step, read, scan_last}
use Rattle.selector_parse.specs.Tree.{Tree, none, comma, gap, simple, plain, nested, GapKind, blank as blank_gap, comment, combinator, written}
use Rattle.selector_parse.specs.Names.{takes_list}
use Rattle.selector_parse.specs.Grammar.{most_depth}
use Rattle.selector_parse.specs.Phases.{gap_read, gap_of, is_blanks, is_comment, is_some_text, is_simple, starts, gap_next, blank_next, comment_next, combinator_next, is_plain, kind_of, may_end, Are, Passes}
use Rattle.selector_parse.specs.Machine.{Stuck, text_stops, after_run, blank_list}
use Rattle.selector_parse.proofs.Moves.{some_same, read_head, if_so_parts, none_some, blanks_some, sign_some, run_last, run_after, begins_first, begins_next, comment_read, done_is}
use Rattle.selector_parse.proofs.Heads.{head_opens, differs}
use Rattle.selector_parse.proofs.Arguments.{done_stuck}
use Rattle.selector_parse.proofs.Rows.{leaf_text, plain_text}
use Rattle.selector_parse.proofs.Whole.{Ends, simple_is, GapIs, gap_is, gap_read_some, whole_go, Begins, begins_text, blank_begins, Inner, inside_inner, opens_paren, open_first, first_unstopped, next_unstopped, first_stuck, no_one, commented_run, run_back, run_pair, trailing_last, fresh_unblank, blank_44, blank_41, args_read, args_close, fresh_open}
use Rattle.selector_parse.proofs.Follows.{quiet_by, comment_phase}

head_same : (c d : ℕ) (s t : List ℕ) → c ∷ s ≡ d ∷ t → c ≡ d
head_same c d s t e = cc

tail_same : (c d : ℕ) (s t : List ℕ) → c ∷ s ≡ d ∷ t → s ≡ t
tail_same c d s t e = cc

nil_cons : (c : ℕ) (s : List ℕ) → ◌≡◌ {A = List ℕ} [] (c ∷ s) → ⊥
nil_cons c s e = cc

none_is : (q : Reading) → None ≡ Some q → ⊥
none_is q e = cc

-- texts that are read as far as they go are one
record Split (t u y z : List ℕ) (p r : Reading) : Type 0 where
  pub front : t ≡ u
  pub back : y ≡ z
  pub last : p ≡ r

unread : (q r : Reading) (c : ℕ) (u y : List ℕ) → Stuck q y → y ≡ c ∷ u → step q c ≡ Some r → ⊥
unread q r c u y s e f = none_is r (sym (subst (Stuck q) e s) ∙ f)

cons_eq : (c d : ℕ) (s t : List ℕ) → c ≡ d → s ≡ t → c ∷ s ≡ d ∷ t
cons_eq c d s t e f = cc

split : (q p r : Reading) (t u y z : List ℕ) → read q t ≡ Some p → read q u ≡ Some r → Stuck p y → Stuck r z → t ++ y ≡ u ++ z → Split t u y z p r
split q p r [] [] y z a b s k e = record { front = refl; back = e; last = sym (some_same q p a) ∙ some_same q r b }
split q p r [] (c ∷ u) y z a b s k e = let h = read_head q r c u b in absurd (unread q h.0 c (u ++ z) y (subst (λ q. Stuck q y) (sym (some_same q p a)) s) e h.1.0)
split q p r (c ∷ t) [] y z a b s k e = let h = read_head q p c t a in absurd (unread q h.0 c (t ++ y) z (subst (λ q. Stuck q z) (sym (some_same q r b)) k) (sym e) h.1.0)
split q p r (c ∷ t) (d ∷ u) y z a b s k e =
    let h = read_head q p c t a in
    let i = read_head q r d u b in
    let f = head_same c d (t ++ y) (u ++ z) e in
    let g : h.0 ≡ i.0 = some_same h.0 i.0 (sym h.1.0 ∙ ap (step q) f ∙ i.1.0) in
    let n = split i.0 p r t u y z (ap (λ q. read q t) (sym g) ∙ h.1.1) i.1.1 s k (tail_same c d (t ++ y) (u ++ z) e) in
    record { front = cons_eq c d t u f n.front; back = n.back; last = n.last }

-- what stands first
start_phase : (p : Phase) (q : Reading) → starts p ≡ Some q → (s : List ℕ) → Begins q s → (d : ℕ) → (text_stops d s ≡ false) × (Begins (Blank Comments) s → ⊥)
start_phase p q h s b d = by_reading q b (first_or_next p q h)
  where
    apart : (c e : ℕ) (x y : List ℕ) (r : Reading) → s ≡ c ∷ x → step (Blank Comments) c ≡ None → s ≡ e ∷ y → step (Blank Comments) e ≡ Some r → ⊥
    apart c e x y r f g i k = none_is r (sym (ap (step (Blank Comments)) (sym (head_same c e x y (sym f ∙ i))) ∙ g) ∙ k)

    by_reading : (q : Reading) → Begins q s → (q ≡ First) ⊎ (q ≡ Next) → (text_stops d s ≡ false) × (Begins (Blank Comments) s → ⊥)
    by_reading q b (inl e) = let f = subst (λ q. Begins q s) e b in (first_unstopped d s f, λ g. apart f.char g.char f.rest g.rest g.next f.is (begins_first f.char f.next f.steps) g.is g.steps)
    by_reading q b (inr e) = let f = subst (λ q. Begins q s) e b in (next_unstopped d s f, λ g. apart f.char g.char f.rest g.rest g.next f.is (begins_next f.char f.next f.steps) g.is g.steps)

    first_or_next : (p : Phase) (q : Reading) → starts p ≡ Some q → (q ≡ First) ⊎ (q ≡ Next)
    first_or_next Fresh q e = inl (sym (some_same First q e))
    first_or_next Open q e = inl (sym (some_same First q e))
    first_or_next Inside q e = inr (sym (some_same Next q e))
    first_or_next Commented q e = inr (sym (some_same Next q e))
    first_or_next Trailing q e = cc

gap_unstopped : (d : ℕ) (s : List ℕ) → Begins (Blank Comments) s → text_stops d s ≡ false
gap_unstopped d s b = ap (text_stops d) b.is ∙ no_stop (differs (Blank Comments) b.next b.char 44 b.steps (blank_44 Comments)) (differs (Blank Comments) b.next b.char 41 b.steps (blank_41 Comments))
  where
    no_stop : eqb b.char 44 ≡ false → eqb b.char 41 ≡ false → text_stops d (b.char ∷ b.rest) ≡ false
    no_stop e f = rw (e, f) refl

front_simple : (p : Phase) (t u r : List ℕ) → is_simple p t ≡ true → (q : Reading) × ((starts p ≡ Some q) × Begins q ((t ++ u) ++ r))
front_simple p t u r e = let h = simple_is p t e in (h.from, (h.start, subst (λ z. Begins h.from z) (sym (append_assoc t u r)) (begins_text p t (u ++ r) h)))

front_gap : (p m : Phase) (k : GapKind) (t u r : List ℕ) → gap_next p k t ≡ Some m → Begins (Blank Comments) ((t ++ u) ++ r)
front_gap p m k t u r e = subst (λ z. Begins (Blank Comments) z) (sym (append_assoc t u r)) (blank_begins t (u ++ r) (gap_is p m k t e))

end_stops : (d : ℕ) (r : List ℕ) → Ends d r → text_stops d r ≡ true
end_stops d [] e = refl
end_stops d (c ∷ cs) e = subst (λ x. text_stops d (x ∷ cs) ≡ true) (sym e.0) (lt-ltb 0 d e.1)

-- what stops isn't what begins
stop_gap : (d : ℕ) (s z : List ℕ) → text_stops d s ≡ true → Begins (Blank Comments) z → s ≡ z → ⊥
stop_gap d s z e b f = true≢false (sym e ∙ ap (text_stops d) f ∙ gap_unstopped d z b)

stop_simple : (d : ℕ) (p : Phase) (s z : List ℕ) → text_stops d s ≡ true → (q : Reading) × ((starts p ≡ Some q) × Begins q z) → s ≡ z → ⊥
stop_simple d p s z e b f = true≢false (sym e ∙ ap (text_stops d) f ∙ (start_phase p b.0 b.1.0 z b.1.1 d).0)

gap_simple : (p : Phase) (s z : List ℕ) → Begins (Blank Comments) s → (q : Reading) × ((starts p ≡ Some q) × Begins q z) → s ≡ z → ⊥
gap_simple p s z a b f = (start_phase p b.0 b.1.0 z b.1.1 0).1 (subst (λ x. Begins (Blank Comments) x) f a)

comma_end : (d : ℕ) (r s : List ℕ) → Ends d r → r ≡ 44 ∷ s → ⊥
comma_end d [] s e f = nil_cons 44 s f
comma_end d (c ∷ cs) s e f = let g = head_same c 44 cs s f in absurd (two (sym e.0 ∙ g))
  where
    two : ◌≡◌ {A = ℕ} 41 44 → ⊥
    two e = absurd (omega arith)

-- simple selectors of one text
same_text : (p : Phase) (t u y z : List ℕ) → is_simple p t ≡ true → is_simple p u ≡ true → head_opens y ≡ true → head_opens z ≡ true → t ++ y ≡ u ++ z → (t ≡ u) × (y ≡ z)
same_text p t u y z a b f g e =
    let h = simple_is p t a in
    let i = simple_is p u b in
    let same : h.from ≡ i.from = some_same h.from i.from (sym h.start ∙ i.start) in
    let s = split i.from h.last i.last t u y z (ap (λ q. read q t) (sym same) ∙ h.reads) i.reads (quiet_by p t y h f) (quiet_by p u z i g) e in
    (s.front, s.back)

-- what follows a gap ends it
module _ (d at : ℕ) (q : Phase) (t : List ℕ) (x : Tree) (r : List ℕ) (y : may_end q ≡ true) (z : Ends d r) where
  open_behind : (p m : Phase) (k : GapKind) (h : GapIs t) → Open ≡ m → Are d m (at + byte_len t) x q → Stuck (Blank h.gap) (written x ++ r)
  open_behind p m k h e a = first_stuck h.gap (written x ++ r) (no_one t h.gap h.reads) (open_first d (at + byte_len t) q x r (subst (λ m. Are d m (at + byte_len t) x q) (sym e) a) y)

  gap_behind : (p m : Phase) (k : GapKind) (h : GapIs t) → gap_next p k t ≡ Some m → (k ≡ comment → ⊥) → Are d m (at + byte_len t) x q → Stuck (Blank h.gap) (written x ++ r)
  gap_behind p m comment h e n a = absurd (n refl)
  gap_behind p m combinator h e n a = open_behind p m combinator h (sym (sign_some p (gap_of t) m e).1.2) a
  gap_behind Fresh m blank_gap h e n a = open_behind Fresh m blank_gap h (fresh_open m blank_gap t e) a
  gap_behind Inside m blank_gap h e n a =
      let f = some_same Trailing m (if_so_parts (is_some_text t && is_blanks (gap_of t)) (Some Trailing) m e).1 in
      (trailing_last d (at + byte_len t) h.gap q x r (subst (λ m. Are d m (at + byte_len t) x q) (sym f) a) z).stuck
  gap_behind Open m blank_gap h e n a = absurd (none_some _ m e)
  gap_behind Commented m blank_gap h e n a = absurd (none_some _ m e)
  gap_behind Trailing m blank_gap h e n a = absurd (none_some _ m e)

  trailing_stops : (m : Phase) → gap_next Inside blank_gap t ≡ Some m → Are d m (at + byte_len t) x q → text_stops d (written x ++ r) ≡ true
  trailing_stops m e a =
      let f = some_same Trailing m (if_so_parts (is_some_text t && is_blanks (gap_of t)) (Some Trailing) m e).1 in
      (trailing_last d (at + byte_len t) Comments q x r (subst (λ m. Are d m (at + byte_len t) x q) (sym f) a) z).stops

  open_unstopped : (p m : Phase) → gap_next p combinator t ≡ Some m → Are d m (at + byte_len t) x q → text_stops d (written x ++ r) ≡ false
  open_unstopped p m e a = first_unstopped d (written x ++ r) (open_first d (at + byte_len t) q x r (subst (λ m. Are d m (at + byte_len t) x q) (sign_some p (gap_of t) m e).1.2 a) y)

  comment_run : (p m : Phase) → gap_next p comment t ≡ Some m → Are d m (at + byte_len t) x q → (scan_last (Blank Comments) (t ++ (written x ++ r)) ≡ Blank Comments) × (text_stops d (after_run (t ++ (written x ++ r))) ≡ false)
  comment_run p m e a =
      let h = if_so_parts (is_comment t) (comment_next p) m e in
      run_pair d (t ++ (written x ++ r)) (run_back d t (written x ++ r) (comment_read t h.0) (commented_run d (at + byte_len t) q x r (subst (λ m. Are d m (at + byte_len t) x q) (sym (comment_phase p m h.1)) a) y))

-- comments alone aren't another gap
none_phase : (m : Phase) → ◌≡◌ {A = Option Phase} None (Some m) → ⊥
none_phase m e = cc

apart_by : (d : ℕ) (p m n : Phase) (k : GapKind) (u y : List ℕ) → comment_next p ≡ Some m → gap_next p k u ≡ Some n → (k ≡ comment → ⊥) → read (Blank Comments) u ≡ Some (Blank Comments) → (p ≡ Inside → k ≡ blank_gap → text_stops d y ≡ true) → text_stops d y ≡ false → ⊥
apart_by d p m n comment u y a b i r s f = i refl
apart_by d Inside m n blank_gap u y a b i r s f = true≢false (sym (s refl refl) ∙ f)
apart_by d Inside m n combinator u y a b i r s f = none_phase n (ap (λ o. combinator_next Inside (gap_read o)) (sym r) ∙ b)
apart_by d Commented m n blank_gap u y a b i r s f = none_some _ n b
apart_by d Commented m n combinator u y a b i r s f = none_phase n b
apart_by d Fresh m n k u y a b i r s f = none_phase m a
apart_by d Open m n k u y a b i r s f = none_phase m a
apart_by d Trailing m n k u y a b i r s f = none_phase m a

blank_same : (g h : Gap) → Blank g ≡ Blank h → g ≡ h
blank_same g h e = cc

comment_apart : (d at bt : ℕ) (p q q' m n : Phase) (k : GapKind) (t u : List ℕ) (x y : Tree) (r s : List ℕ) → may_end q ≡ true → may_end q' ≡ true → Ends d r → Ends d s → gap_next p comment t ≡ Some m → Are d m (at + byte_len t) x q
    → gap_next p k u ≡ Some n → (k ≡ comment → ⊥) → Are d n (bt + byte_len u) y q' → t ++ (written x ++ r) ≡ u ++ (written y ++ s) → ⊥
comment_apart d at bt p q q' m n k t u x y r s e f g h a b c i o z =
    let w = comment_run d at q t x r e g p m a b in
    let v = gap_is p n k u c in
    let l = gap_behind d bt q' u y s f h p n k v c i o in
    let one : Blank v.gap ≡ Blank Comments = sym (run_last u (written y ++ s) (Blank v.gap) v.reads l) ∙ ap (scan_last (Blank Comments)) (sym z) ∙ w.0 in
    let two : text_stops d (written y ++ s) ≡ false = ap (text_stops d) (sym (run_after u (written y ++ s) (Blank v.gap) v.reads l)) ∙ ap (λ x. text_stops d (after_run x)) (sym z) ∙ w.1 in
    apart_by d p m n k u (written y ++ s) (if_so_parts (is_comment t) (comment_next p) m a).1 c i (v.reads ∙ ap Some one)
    (λ j l. trailing_stops d bt q' u y s f h n (ap (λ p. gap_next p blank_gap u) (sym j) ∙ ap (λ k. gap_next p k u) (sym l) ∙ c) o) two

-- what follows a gap is one
record Next_same (k l : GapKind) (m n : Phase) : Type 0 where
  pub kind : k ≡ l
  pub phase : m ≡ n

sign_gap : (p m : Phase) (t : List ℕ) → combinator_next p (gap_of t) ≡ Some m → (p ≡ Fresh → is_blanks (gap_of t) ≡ false) × (Open ≡ m)
sign_gap p m t e = (λ f. by_fresh (gap_of t) (ap (λ p. combinator_next p (gap_of t)) (sym f) ∙ e), sym (sign_some p (gap_of t) m e).1.2)
  where
    by_fresh : (o : Option Gap) → combinator_next Fresh o ≡ Some m → is_blanks o ≡ false
    by_fresh (Some Symbol) e = refl
    by_fresh None e = refl
    by_fresh (Some One) e = absurd (none_phase m e)
    by_fresh (Some Comments) e = absurd (none_phase m e)
    by_fresh (Some Spaced) e = absurd (none_phase m e)

blank_sign : (d at bt : ℕ) (p q q' m n : Phase) (t u : List ℕ) (x y : Tree) (r s : List ℕ) → may_end q ≡ true → may_end q' ≡ true → Ends d r → Ends d s → gap_next p blank_gap t ≡ Some m → Are d m (at + byte_len t) x q
    → gap_next p combinator u ≡ Some n → Are d n (bt + byte_len u) y q' → t ≡ u → written x ++ r ≡ written y ++ s → ⊥
blank_sign d at bt Fresh q q' m n t u x y r s e f g h a b c o z w =
    let i = (and_parts (is_some_text t) (is_blanks (gap_of t)) (if_so_parts (is_some_text t && is_blanks (gap_of t)) (Some Open) m a).0).1 in
    true≢false (sym i ∙ ap (λ t. is_blanks (gap_of t)) z ∙ (sign_gap Fresh n u c).0 refl)
blank_sign d at bt Inside q q' m n t u x y r s e f g h a b c o z w = true≢false (sym (trailing_stops d at q t x r e g m a b) ∙ ap (text_stops d) w ∙ open_unstopped d bt q' u y s f h Inside n c o)
blank_sign d at bt Open q q' m n t u x y r s e f g h a b c o z w = none_some _ m a
blank_sign d at bt Commented q q' m n t u x y r s e f g h a b c o z w = none_some _ m a
blank_sign d at bt Trailing q q' m n t u x y r s e f g h a b c o z w = none_some _ m a

-- gaps of one text
record Gaps_same (k l : GapKind) (t u y z : List ℕ) (m n : Phase) : Type 0 where
  pub kind : k ≡ l
  pub front : t ≡ u
  pub back : y ≡ z
  pub phase : m ≡ n

blank_not : blank_gap ≡ comment → ⊥
blank_not e = cc

sign_not : combinator ≡ comment → ⊥
sign_not e = cc

phase_same : (o : Option Phase) (m n : Phase) → o ≡ Some m → o ≡ Some n → m ≡ n
phase_same o m n e f = some_same m n (sym e ∙ f)

gaps_same : (d at bt : ℕ) (p q q' m n : Phase) (k l : GapKind) (t u : List ℕ) (x y : Tree) (r s : List ℕ) → may_end q ≡ true → may_end q' ≡ true → Ends d r → Ends d s → gap_next p k t ≡ Some m → Are d m (at + byte_len t) x q
    → gap_next p l u ≡ Some n → Are d n (bt + byte_len u) y q' → t ++ (written x ++ r) ≡ u ++ (written y ++ s) → Gaps_same k l t u (written x ++ r) (written y ++ s) m n
gaps_same d at bt p q q' m n comment comment t u x y r s e f g h a b c o z =
    let i = if_so_parts (is_comment t) (comment_next p) m a in
    let j = if_so_parts (is_comment u) (comment_next p) n c in
    let k = split (Blank One) Done Done t u (written x ++ r) (written y ++ s) (done_is (read (Blank One) t) i.0) (done_is (read (Blank One) u) j.0) (done_stuck (written x ++ r)) (done_stuck (written y ++ s)) z in
    record { kind = refl; front = k.front; back = k.back; phase = phase_same (comment_next p) m n i.1 j.1 }
gaps_same d at bt p q q' m n comment blank_gap t u x y r s e f g h a b c o z = absurd (comment_apart d at bt p q q' m n blank_gap t u x y r s e f g h a b c blank_not o z)
gaps_same d at bt p q q' m n comment combinator t u x y r s e f g h a b c o z = absurd (comment_apart d at bt p q q' m n combinator t u x y r s e f g h a b c sign_not o z)
gaps_same d at bt p q q' m n blank_gap comment t u x y r s e f g h a b c o z = absurd (comment_apart d bt at p q' q n m blank_gap u t y x s r f e h g c o a blank_not b (sym z))
gaps_same d at bt p q q' m n combinator comment t u x y r s e f g h a b c o z = absurd (comment_apart d bt at p q' q n m combinator u t y x s r f e h g c o a sign_not b (sym z))
gaps_same d at bt p q q' m n blank_gap blank_gap t u x y r s e f g h a b c o z =
    let i = gap_is p m blank_gap t a in
    let j = gap_is p n blank_gap u c in
    let k = split (Blank Comments) (Blank i.gap) (Blank j.gap) t u (written x ++ r) (written y ++ s) i.reads j.reads (gap_behind d at q t x r e g p m blank_gap i a blank_not b) (gap_behind d bt q' u y s f h p n blank_gap j c blank_not o) z in
    record { kind = refl; front = k.front; back = k.back; phase = phase_same (blank_next p) m n (if_so_parts (is_some_text t && is_blanks (gap_of t)) (blank_next p) m a).1 (if_so_parts (is_some_text u && is_blanks (gap_of u)) (blank_next p) n c).1 }
gaps_same d at bt p q q' m n combinator combinator t u x y r s e f g h a b c o z =
    let i = gap_is p m combinator t a in
    let j = gap_is p n combinator u c in
    let k = split (Blank Comments) (Blank i.gap) (Blank j.gap) t u (written x ++ r) (written y ++ s) i.reads j.reads (gap_behind d at q t x r e g p m combinator i a sign_not b) (gap_behind d bt q' u y s f h p n combinator j c sign_not o) z in
    record { kind = refl; front = k.front; back = k.back; phase = sym (sign_gap p m t a).1 ∙ (sign_gap p n u c).1 }
gaps_same d at bt p q q' m n blank_gap combinator t u x y r s e f g h a b c o z =
    let i = gap_is p m blank_gap t a in
    let j = gap_is p n combinator u c in
    let k = split (Blank Comments) (Blank i.gap) (Blank j.gap) t u (written x ++ r) (written y ++ s) i.reads j.reads (gap_behind d at q t x r e g p m blank_gap i a blank_not b) (gap_behind d bt q' u y s f h p n combinator j c sign_not o) z in
    absurd (blank_sign d at bt p q q' m n t u x y r s e f g h a b c o k.front k.back)
gaps_same d at bt p q q' m n combinator blank_gap t u x y r s e f g h a b c o z =
    let i = gap_is p m combinator t a in
    let j = gap_is p n blank_gap u c in
    let k = split (Blank Comments) (Blank i.gap) (Blank j.gap) t u (written x ++ r) (written y ++ s) i.reads j.reads (gap_behind d at q t x r e g p m combinator i a sign_not b) (gap_behind d bt q' u y s f h p n blank_gap j c blank_not o) z in
    absurd (blank_sign d bt at p q' q n m u t y x s r f e h g c o a b (sym k.front) (sym k.back))

-- arguments of one text
plain_same : (d : ℕ) (l : Bool) (t u y z : List ℕ) → is_plain l (suc d) t ≡ true → is_plain l (suc d) u ≡ true → t ++ 41 ∷ y ≡ u ++ 41 ∷ z → (t ≡ u) × (y ≡ z)
plain_same d true t u y z a b e =
    let g = blanks_some (gap_of t) a in
    let h = blanks_some (gap_of u) b in
    let s = split (Blank Comments) (Blank g.0) (Blank h.0) t u (41 ∷ y) (41 ∷ z) (gap_read_some (read (Blank Comments) t) g.0 g.1.0) (gap_read_some (read (Blank Comments) u) h.0 h.1.0) (blank_41 g.0) (blank_41 h.0) e in
    (s.front, tail_same 41 41 y z s.back)
plain_same d false t u y z a b e =
    let q0 = Text (Parentheses 0 (most_depth - suc d)) in
    let g = whole_go q0 t (read q0 t) refl a in
    let h = whole_go q0 u (read q0 u) refl b in
    let s = split q0 g.0 h.0 t u (41 ∷ y) (41 ∷ z) g.1.0 h.1.0 (args_close g.0 (args_read t q0 g.0 refl g.1.0) g.1.1) (args_close h.0 (args_read u q0 h.0 refl h.1.0) h.1.1) e in
    (s.front, tail_same 41 41 y z s.back)

-- blanks alone are no list
plain_nested : (d at : ℕ) (q : Phase) (t : List ℕ) (i : Tree) (y z : List ℕ) → is_plain true (suc d) t ≡ true → Are (suc d) Fresh at i q → may_end q ≡ true → t ++ 41 ∷ y ≡ written i ++ 41 ∷ z → ⊥
plain_nested d at q t i y z a b e f =
    let g = blanks_some (gap_of t) a in
    let r = gap_read_some (read (Blank Comments) t) g.0 g.1.0 in
    let one : blank_list (t ++ 41 ∷ y) ≡ true = ap (λ q. is_blanks (gap_read (Some q)) && begins 41 (after_run (t ++ 41 ∷ y))) (run_last t (41 ∷ y) (Blank g.0) r (blank_41 g.0))
    ∙ ap (λ s. is_blanks (Some g.0) && begins 41 s) (run_after t (41 ∷ y) (Blank g.0) r (blank_41 g.0)) ∙ ap (λ b. b && true) g.1.1 in
    true≢false (sym one ∙ ap blank_list f ∙ fresh_unblank (suc d) at q i (41 ∷ z) b e)

pub record Same (x y : Tree) (r s : List ℕ) : Type 0 where
  pub parts : x ≡ y
  pub rest : r ≡ s

gap_eq : (k l : GapKind) (a b : ℕ) (t u : List ℕ) (x y : Tree) → k ≡ l → a ≡ b → t ≡ u → x ≡ y → gap k a t x ≡ gap l b u y
gap_eq k l a b t u x y e f g h = cc

simple_eq : (k l : PartKind) (a b : ℕ) (t u : List ℕ) (x y : Tree) → k ≡ l → a ≡ b → t ≡ u → x ≡ y → simple k a t x ≡ simple l b u y
simple_eq k l a b t u x y e f g h = cc

plain_eq : (k l : PartKind) (a b : ℕ) (t u v w : List ℕ) (x y : Tree) → k ≡ l → a ≡ b → t ≡ u → v ≡ w → x ≡ y → plain k a t v x ≡ plain l b u w y
plain_eq k l a b t u v w x y e f g i h = cc

nested_eq : (k l : PartKind) (a b : ℕ) (t u : List ℕ) (i j x y : Tree) → k ≡ l → a ≡ b → t ≡ u → i ≡ j → x ≡ y → nested k a t i x ≡ nested l b u j y
nested_eq k l a b t u i j x y e f g h z = cc

above_none : (d : ℕ) → 0 < suc d
above_none d = omega arith

inner_paren : (s z : List ℕ) → Inner s → s ≡ 40 ∷ z → ⊥
inner_paren s z i e = false≢true (sym i.bare ∙ ap (begins 40) e)

-- Parts that end where others end, on one text, are these.
pub unique : (d at : ℕ) (p q q' : Phase) (x y : Tree) (r s : List ℕ) → Are d p at x q → may_end q ≡ true → Ends d r → Are d p at y q' → may_end q' ≡ true → Ends d s → written x ++ r ≡ written y ++ s → Same x y r s
unique d at p q q' none none r s a e f b g h z = record { parts = refl; rest = z }
unique d at p q q' none (comma y) r s a e f b g h z = absurd (comma_end d r (written y ++ s) f z)
unique d at p q q' none (gap l o u y) r s a e f b g h z = absurd (stop_gap d r _ (end_stops d r f) (front_gap p b.1.0 l u (written y) s b.1.1.0) z)
unique d at p q q' none (simple l o u y) r s a e f b g h z = absurd (stop_simple d p r _ (end_stops d r f) (front_simple p u (written y) s b.2) z)
unique d at p q q' none (plain l o u v y) r s a e f b g h z = absurd (stop_simple d p r _ (end_stops d r f) (front_simple p u (40 ∷ (v ++ 41 ∷ written y)) s b.2) z)
unique d at p q q' none (nested l o u j y) r s a e f b g h z = absurd (stop_simple d p r _ (end_stops d r f) (front_simple p u (40 ∷ (written j ++ 41 ∷ written y)) s b.2) z)
unique d at p q q' (comma x) none r s a e f b g h z = absurd (comma_end d s (written x ++ r) h (sym z))
unique d at p q q' (comma x) (comma y) r s a e f b g h z =
    let n = unique d (at + 1) Fresh q q' x y r s a.1 e f b.1 g h (tail_same 44 44 (written x ++ r) (written y ++ s) z) in record { parts = ap comma n.parts; rest = n.rest }
unique d at p q q' (comma x) (gap l o u y) r s a e f b g h z = absurd (stop_gap d _ _ refl (front_gap p b.1.0 l u (written y) s b.1.1.0) z)
unique d at p q q' (comma x) (simple l o u y) r s a e f b g h z = absurd (stop_simple d p _ _ refl (front_simple p u (written y) s b.2) z)
unique d at p q q' (comma x) (plain l o u v y) r s a e f b g h z = absurd (stop_simple d p _ _ refl (front_simple p u (40 ∷ (v ++ 41 ∷ written y)) s b.2) z)
unique d at p q q' (comma x) (nested l o u j y) r s a e f b g h z = absurd (stop_simple d p _ _ refl (front_simple p u (40 ∷ (written j ++ 41 ∷ written y)) s b.2) z)
unique d at p q q' (gap k m t x) none r s a e f b g h z = absurd (stop_gap d s _ (end_stops d s h) (front_gap p a.1.0 k t (written x) r a.1.1.0) (sym z))
unique d at p q q' (gap k m t x) (comma y) r s a e f b g h z = absurd (stop_gap d _ _ refl (front_gap p a.1.0 k t (written x) r a.1.1.0) (sym z))
unique d at p q q' (gap k m t x) (gap l o u y) r s a e f b g h z =
    let n = gaps_same d at at p q q' a.1.0 b.1.0 k l t u x y r s e g f h a.1.1.0 a.1.1.1 b.1.1.0 b.1.1.1 (sym (leaf_text t x r) ∙ z ∙ leaf_text u y s) in
    let i = unique d (at + byte_len t) a.1.0 q q' x y r s a.1.1.1 e f (subst (λ p. Are d p (at + byte_len t) y q') (sym n.phase) (subst (λ v. Are d b.1.0 (at + byte_len v) y q') (sym n.front) b.1.1.1)) g h n.back in
    record { parts = gap_eq k l m o t u x y n.kind (a.0 ∙ sym b.0) n.front i.parts; rest = i.rest }
unique d at p q q' (gap k m t x) (simple l o u y) r s a e f b g h z = absurd (gap_simple p _ _ (front_gap p a.1.0 k t (written x) r a.1.1.0) (front_simple p u (written y) s b.2) z)
unique d at p q q' (gap k m t x) (plain l o u v y) r s a e f b g h z = absurd (gap_simple p _ _ (front_gap p a.1.0 k t (written x) r a.1.1.0) (front_simple p u (40 ∷ (v ++ 41 ∷ written y)) s b.2) z)
unique d at p q q' (gap k m t x) (nested l o u j y) r s a e f b g h z = absurd (gap_simple p _ _ (front_gap p a.1.0 k t (written x) r a.1.1.0) (front_simple p u (40 ∷ (written j ++ 41 ∷ written y)) s b.2) z)
unique d at p q q' (simple k m t x) none r s a e f b g h z = absurd (stop_simple d p s _ (end_stops d s h) (front_simple p t (written x) r a.2) (sym z))
unique d at p q q' (simple k m t x) (comma y) r s a e f b g h z = absurd (stop_simple d p _ _ refl (front_simple p t (written x) r a.2) (sym z))
unique d at p q q' (simple k m t x) (gap l o u y) r s a e f b g h z = absurd (gap_simple p _ _ (front_gap p b.1.0 l u (written y) s b.1.1.0) (front_simple p t (written x) r a.2) (sym z))
unique d at p q q' (simple k m t x) (simple l o u y) r s a e f b g h z =
    let v = inside_inner d (at + byte_len t) q x r a.3 f in
    let w = inside_inner d (at + byte_len u) q' y s b.3 h in
    let n = same_text p t u (written x ++ r) (written y ++ s) a.2 b.2 v.opens w.opens (sym (leaf_text t x r) ∙ z ∙ leaf_text u y s) in
    let i = unique d (at + byte_len t) Inside q q' x y r s a.3 e f (subst (λ v. Are d Inside (at + byte_len v) y q') (sym n.0) b.3) g h n.1 in
    record { parts = simple_eq k l m o t u x y (a.1 ∙ ap kind_of n.0 ∙ sym b.1) (a.0 ∙ sym b.0) n.0 i.parts; rest = i.rest }
unique d at p q q' (simple k m t x) (plain l o u v y) r s a e f b g h z =
    let i = inside_inner d (at + byte_len t) q x r a.3 f in
    let w = v ++ 41 ∷ (written y ++ s) in
    let n = same_text p t u (written x ++ r) (40 ∷ w) a.2 b.2 i.opens (opens_paren w) (sym (leaf_text t x r) ∙ z ∙ plain_text u v y s) in absurd (inner_paren (written x ++ r) w i n.1)
unique d at p q q' (simple k m t x) (nested l o u j y) r s a e f b g h z =
    let i = inside_inner d (at + byte_len t) q x r a.3 f in
    let w = written j ++ 41 ∷ (written y ++ s) in
    let n = same_text p t u (written x ++ r) (40 ∷ w) a.2 b.2 i.opens (opens_paren w) (sym (leaf_text t x r) ∙ z ∙ plain_text u (written j) y s) in absurd (inner_paren (written x ++ r) w i n.1)
unique d at p q q' (plain k m t v x) none r s a e f b g h z = absurd (stop_simple d p s _ (end_stops d s h) (front_simple p t (40 ∷ (v ++ 41 ∷ written x)) r a.2) (sym z))
unique d at p q q' (plain k m t v x) (comma y) r s a e f b g h z = absurd (stop_simple d p _ _ refl (front_simple p t (40 ∷ (v ++ 41 ∷ written x)) r a.2) (sym z))
unique d at p q q' (plain k m t v x) (gap l o u y) r s a e f b g h z = absurd (gap_simple p _ _ (front_gap p b.1.0 l u (written y) s b.1.1.0) (front_simple p t (40 ∷ (v ++ 41 ∷ written x)) r a.2) (sym z))
unique d at p q q' (plain k m t v x) (simple l o u y) r s a e f b g h z =
    let i = inside_inner d (at + byte_len u) q' y s b.3 h in
    let w = v ++ 41 ∷ (written x ++ r) in
    let n = same_text p u t (written y ++ s) (40 ∷ w) b.2 a.2 i.opens (opens_paren w) (sym (leaf_text u y s) ∙ sym z ∙ plain_text t v x r) in absurd (inner_paren (written y ++ s) w i n.1)
unique d at p q q' (plain k m t v x) (plain l o u w y) r s a e f b g h z =
    let i = v ++ 41 ∷ (written x ++ r) in
    let j = w ++ 41 ∷ (written y ++ s) in
    let n = same_text p t u (40 ∷ i) (40 ∷ j) a.2 b.2 (opens_paren i) (opens_paren j) (sym (plain_text t v x r) ∙ z ∙ plain_text u w y s) in
    let o1 = plain_same d (takes_list t) v w (written x ++ r) (written y ++ s) a.5 (subst (λ n. is_plain (takes_list n) (suc d) w ≡ true) (sym n.0) b.5) (tail_same 40 40 i j n.1) in
    let c = unique d (at + byte_len t + 1 + byte_len v + 1) Inside q q' x y r s a.6 e f
    (subst (λ n. Are d Inside (at + byte_len n + 1 + byte_len v + 1) y q') (sym n.0) (subst (λ n. Are d Inside (at + byte_len u + 1 + byte_len n + 1) y q') (sym o1.0) b.6)) g h o1.1 in
    record { parts = plain_eq k l m o t u v w x y (a.1 ∙ ap kind_of n.0 ∙ sym b.1) (a.0 ∙ sym b.0) n.0 o1.0 c.parts; rest = c.rest }
unique d at p q q' (plain k m t v x) (nested l o u j y) r s a e f b g h z =
    let i = v ++ 41 ∷ (written x ++ r) in
    let w = written j ++ 41 ∷ (written y ++ s) in
    let n = same_text p t u (40 ∷ i) (40 ∷ w) a.2 b.2 (opens_paren i) (opens_paren w) (sym (plain_text t v x r) ∙ z ∙ plain_text u (written j) y s) in
    absurd (plain_nested d (at + byte_len u + 1) b.5.0 v j (written x ++ r) (written y ++ s) (subst (λ l. is_plain l (suc d) v ≡ true) (ap takes_list n.0 ∙ b.3) a.5) b.5.1.1 b.5.1.0 (tail_same 40 40 i w n.1))
unique d at p q q' (nested k m t i x) none r s a e f b g h z = absurd (stop_simple d p s _ (end_stops d s h) (front_simple p t (40 ∷ (written i ++ 41 ∷ written x)) r a.2) (sym z))
unique d at p q q' (nested k m t i x) (comma y) r s a e f b g h z = absurd (stop_simple d p _ _ refl (front_simple p t (40 ∷ (written i ++ 41 ∷ written x)) r a.2) (sym z))
unique d at p q q' (nested k m t i x) (gap l o u y) r s a e f b g h z = absurd (gap_simple p _ _ (front_gap p b.1.0 l u (written y) s b.1.1.0) (front_simple p t (40 ∷ (written i ++ 41 ∷ written x)) r a.2) (sym z))
unique d at p q q' (nested k m t i x) (simple l o u y) r s a e f b g h z =
    let v = inside_inner d (at + byte_len u) q' y s b.3 h in
    let w = written i ++ 41 ∷ (written x ++ r) in
    let n = same_text p u t (written y ++ s) (40 ∷ w) b.2 a.2 v.opens (opens_paren w) (sym (leaf_text u y s) ∙ sym z ∙ plain_text t (written i) x r) in absurd (inner_paren (written y ++ s) w v n.1)
unique d at p q q' (nested k m t i x) (plain l o u v y) r s a e f b g h z =
    let j = written i ++ 41 ∷ (written x ++ r) in
    let w = v ++ 41 ∷ (written y ++ s) in
    let n = same_text p t u (40 ∷ j) (40 ∷ w) a.2 b.2 (opens_paren j) (opens_paren w) (sym (plain_text t (written i) x r) ∙ z ∙ plain_text u v y s) in
    absurd (plain_nested d (at + byte_len t + 1) a.5.0 v i (written y ++ s) (written x ++ r) (subst (λ l. is_plain l (suc d) v ≡ true) (sym (ap takes_list n.0) ∙ a.3) b.5) a.5.1.1 a.5.1.0 (sym (tail_same 40 40 j w n.1)))
unique d at p q q' (nested k m t i x) (nested l o u j y) r s a e f b g h z =
    let v = written i ++ 41 ∷ (written x ++ r) in
    let w = written j ++ 41 ∷ (written y ++ s) in
    let n = same_text p t u (40 ∷ v) (40 ∷ w) a.2 b.2 (opens_paren v) (opens_paren w) (sym (plain_text t (written i) x r) ∙ z ∙ plain_text u (written j) y s) in
    let c = unique (suc d) (at + byte_len t + 1) Fresh a.5.0 b.5.0 i j (41 ∷ (written x ++ r)) (41 ∷ (written y ++ s)) a.5.1.1 a.5.1.0 (refl, above_none d)
    (subst (λ n. Are (suc d) Fresh (at + byte_len n + 1) j b.5.0) (sym n.0) b.5.1.1) b.5.1.0 (refl, above_none d) (tail_same 40 40 v w n.1) in
    let o1 = unique d (at + byte_len t + 1 + byte_len (written i) + 1) Inside q q' x y r s a.6 e f
    (subst (λ n. Are d Inside (at + byte_len n + 1 + byte_len (written i) + 1) y q') (sym n.0) (subst (λ n. Are d Inside (at + byte_len u + 1 + byte_len (written n) + 1) y q') (sym c.parts) b.6)) g h (tail_same 41 41 (written x ++ r) (written y ++ s) c.rest) in
    record { parts = nested_eq k l m o t u i j x y (a.1 ∙ ap kind_of n.0 ∙ sym b.1) (a.0 ∙ sym b.0) n.0 c.parts o1.parts; rest = o1.rest }

-- at most one list for each text
pub one_list : (s : List ℕ) (x y : Tree) → Passes s x → Passes s y → x ≡ y
one_list s x y a b = (unique 0 0 Fresh a.last b.last x y [] [] a.are a.ends tt b.are b.ends tt (ap (λ z. z ++ []) (a.text ∙ sym b.text))).parts
