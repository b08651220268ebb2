-- One more part after those read so far.
use Rattle.std.proofs.Common.{◌≡◌, ℕ, suc, ◌+◌, ◌-◌, ◌<◌, Bool, true, false, eqb, List, [], ◌∷◌, ◌++◌, length, get_or, drop, Some, refl, ap, sym, ◌∙◌, subst, inl, inr, add-zero, lit<, arith, append-nil, append_assoc}
use Rattle.std.specs.Prelude.{◌&&◌, ◌||◌, nat_lt, nat_le}
use Rattle.std.specs.Str.{IsUtf8, IsCharBoundary}
use lib.Utf8.{encodes}
use Rattle.std.proofs.lemmas.Bool.Decides.{nat_tests}
use Rattle.std.proofs.lemmas.Bool.{lt-ltb, eqb-true, cases_lt}
use Rattle.std.proofs.lemmas.List.{drop_all, length-drop, get_or_past}
use Rattle.std.proofs.lemmas.List.Sums.{sum_by-cons}
use Rattle.std.specs.Char.{len_utf8}
use Rattle.std.proofs.lemmas.Str.{encodes_same}
use Rattle.css_text.specs.Ahead.{byte_len}
use Rattle.css_text.proofs.Slices.{IsFrom, boundary, from_back, from_begins, from_boundary, slice_length, byte_len-append, byte_len_some}
use Rattle.css_text.proofs.Transport.{length-bytes}
use Rattle.selector_parse.specs.declared.phase.Phase.{Phase}
use Rattle.selector_parse.specs.declared.phase.Phase.TheVariants.{Fresh, Inside}
use Rattle.selector_parse.specs.declared.reading.Reading.{Reading}
use Rattle.selector_parse.specs.Reading.{is_final, scan_last}
use Rattle.selector_parse.specs.Tree.{GapKind, Tree, none, comma, gap, simple, plain, nested, written, Arguments, absent, text, list, made}
use Rattle.css_text.specs.Forms.{begins}
use Rattle.selector_parse.specs.Names.{takes_args}
use Rattle.selector_parse.specs.Phases.{kind_of, is_whole, simple_read, starts, is_simple, gap_next, Are}
use Rattle.selector_parse.specs.Row.{IsRow, IsClosedText, IsArguments, stops, followed, enclosed}
use Rattle.std.specs.Prelude.{Result, Ok, Err, IfOk}
use Rattle.selector_parse.specs.Machine.{text_stops, in_simple, follow, Stuck, Calm, Moves}
use Rattle.selector_parse.proofs.Moves.{follow-append, simple_moves}
use Rattle.selector_parse.proofs.Scanned.{Scanned, ahead_of}
use Rattle.selector_parse.proofs.KindBytes.{bare_simple}

-- the text of parts by their first part
pub leaf_text : (t : List ℕ) (p : Tree) (r : List ℕ) → (t ++ written p) ++ r ≡ t ++ (written p ++ r)
leaf_text t p r = append_assoc t (written p) r

pub plain_text : (t args : List ℕ) (p : Tree) (r : List ℕ) → (t ++ 40 ∷ (args ++ 41 ∷ written p)) ++ r ≡ t ++ 40 ∷ (args ++ 41 ∷ (written p ++ r))
plain_text t args p r = append_assoc t (40 ∷ (args ++ 41 ∷ written p)) r ∙ ap (λ x. t ++ 40 ∷ x) (append_assoc args (41 ∷ written p) r)

-- parts before others
pub followed_text : (p q : Tree) (r : List ℕ) → written p ++ (written q ++ r) ≡ written (followed p q) ++ r
followed_text none q r = refl
followed_text (comma p) q r = ap (λ x. 44 ∷ x) (followed_text p q r)
followed_text (gap k a t p) q r = leaf_text t p (written q ++ r) ∙ ap (λ x. t ++ x) (followed_text p q r) ∙ sym (leaf_text t (followed p q) r)
followed_text (simple k a t p) q r = leaf_text t p (written q ++ r) ∙ ap (λ x. t ++ x) (followed_text p q r) ∙ sym (leaf_text t (followed p q) r)
followed_text (plain k a t args p) q r = plain_text t args p (written q ++ r) ∙ ap (λ x. t ++ 40 ∷ (args ++ 41 ∷ x)) (followed_text p q r) ∙ sym (plain_text t args (followed p q) r)
followed_text (nested k a t inner p) q r = plain_text t (written inner) p (written q ++ r) ∙ ap (λ x. t ++ 40 ∷ (written inner ++ 41 ∷ x)) (followed_text p q r) ∙ sym (plain_text t (written inner) (followed p q) r)

pub followed-written : (p q : Tree) → written (followed p q) ≡ written p ++ written q
followed-written p q = sym (append-nil (written (followed p q))) ∙ sym (followed_text p q []) ∙ ap (λ x. written p ++ x) (append-nil (written q))

-- how many bytes they take
pub one_byte : (c : ℕ) (cs : List ℕ) → c < 128 → byte_len (c ∷ cs) ≡ 1 + byte_len cs
one_byte c cs l = sum_by-cons len_utf8 c cs ∙ ap (λ n. n + byte_len cs) (ascii_len c l)
  where
    ascii_len : (c : ℕ) → c < 128 → len_utf8 c ≡ 1
    ascii_len c l = rw (lt-ltb c 128 l) refl

pub plain_len : (t args r : List ℕ) → byte_len (t ++ 40 ∷ (args ++ 41 ∷ r)) ≡ byte_len t + 1 + byte_len args + 1 + byte_len r
plain_len t args r =
    let e1 = byte_len-append t (40 ∷ (args ++ 41 ∷ r)) in
    let e2 = one_byte 40 (args ++ 41 ∷ r) (lit< tt) in
    let e3 = byte_len-append args (41 ∷ r) in
    let e4 = one_byte 41 r (lit< tt) in
    omega (arith, e1, e2, e3, e4)

-- parts before others are right where both are
module _ (depth : ℕ) where
  shift : (a b c : ℕ) (p q : Phase) (y : Tree) → a ≡ b → Are depth p a y q → Are depth p b y q
  shift a b c p q y e h = subst (λ n. Are depth p n y q) e h

  pub followed-are : (at : ℕ) (p m q : Phase) (x y : Tree) → Are depth p at x m → Are depth m (at + byte_len (written x)) y q → Are depth p at (followed x y) q
  followed-are at p m q none y a b = subst (λ r. Are depth r at y q) (sym a) (shift (at + 0) at 0 m q y (add-zero at) b)
  followed-are at p m q (comma x) y a b = (a.0, followed-are (at + 1) Fresh m q x y a.1 (shift (at + byte_len (44 ∷ written x)) (at + 1 + byte_len (written x)) 0 m q y (omega (arith, one_byte 44 (written x) (lit< tt))) b))
  followed-are at p m q (gap k g t x) y a b = (a.0, (a.1.0, (a.1.1.0, followed-are (at + byte_len t) a.1.0 m q x y a.1.1.1 (shift (at + byte_len (t ++ written x)) (at + byte_len t + byte_len (written x)) 0 m q y (omega (arith, byte_len-append t (written x))) b))))
  followed-are at p m q (simple k g t x) y a b = (a.0, a.1, a.2, followed-are (at + byte_len t) Inside m q x y a.3 (shift (at + byte_len (t ++ written x)) (at + byte_len t + byte_len (written x)) 0 m q y (omega (arith, byte_len-append t (written x))) b))
  followed-are at p m q (plain k g t args x) y a b = (
    a.0,
    a.1,
    a.2,
    a.3,
    a.4,
    a.5,
    followed-are (at + byte_len t + 1 + byte_len args + 1) Inside m q x y a.6
        (shift (at + byte_len (t ++ 40 ∷ (args ++ 41 ∷ written x))) (at + byte_len t + 1 + byte_len args + 1 + byte_len (written x)) 0 m q y (omega (arith, plain_len t args (written x))) b),
  )
  followed-are at p m q (nested k g t inner x) y a b = (
    a.0,
    a.1,
    a.2,
    a.3,
    a.4,
    a.5,
    followed-are (at + byte_len t + 1 + byte_len (written inner) + 1) Inside m q x y a.6
        (shift (at + byte_len (t ++ 40 ∷ (written inner ++ 41 ∷ written x))) (at + byte_len t + 1 + byte_len (written inner) + 1 + byte_len (written x)) 0 m q y (omega (arith, plain_len t (written inner) (written x))) b),
  )

-- nothing read yet
pub empty_row : (bs : List ℕ) (start depth : ℕ) (p : Phase) → IsUtf8 bs → IsCharBoundary bs start → IsRow bs start depth p none p start
empty_row bs start depth p u b = let h = ahead_of bs start u b in
    record { ahead = h.0; fits = b.0; here = h.1.text; text = h.1.text; size = sym (add-zero start); are = refl; moves = λ m w k. (m, (refl, w, k)) }

-- a row, and another after it
pub row_append : (bs : List ℕ) (start middle end depth : ℕ) (p m q : Phase) (x y : Tree) → IsRow bs start depth p x m middle → IsRow bs middle depth m y q end → IsRow bs start depth p (followed x y) q end
row_append bs start middle end depth p m q x y a b =
    let is : a.ahead ≡ written y ++ b.ahead = encodes_same a.ahead (written y ++ b.ahead) (sym a.here ∙ b.text) in
    let total : byte_len (written (followed x y)) ≡ byte_len (written x) + byte_len (written y) = ap byte_len (followed-written x y) ∙ byte_len-append (written x) (written y) in
    record {
      ahead = b.ahead;
      fits = b.fits;
      here = b.here;
      text = a.text ∙ ap (λ z. encodes (written x ++ z)) is ∙ ap encodes (followed_text x y b.ahead);
      size = omega (arith, total, a.size, b.size);
      are = followed-are depth start p m q x y a.are (subst (λ n. Are depth m n y q) a.size b.are);
      moves = λ r w k.
          let n = a.moves r w (subst (Calm depth p r) (sym (followed_text x y b.ahead) ∙ ap (λ z. written x ++ z) (sym is)) k) in
          let o = b.moves n.0 n.1.1 (subst (Calm depth m n.0) is n.1.2) in
          (o.0, (ap (follow depth r) (followed-written x y) ∙ follow-append depth r (written x) (written y) (depth, n.0) n.1.0 ∙ o.1.0, o.1.1, o.1.2));
    }

pub row_boundary : (bs : List ℕ) (start depth end : ℕ) (p q : Phase) (x : Tree) → IsRow bs start depth p x q end → IsCharBoundary bs end
row_boundary bs start depth end p q x r = boundary bs r.ahead end r.fits r.here

-- one gap
nil_moves : (d : ℕ) (p q : Phase) (x y : List ℕ) → Moves d p q x y → Moves d p q (x ++ []) y
nil_moves d p q x y h = subst (λ z. Moves d p q z y) (sym (append-nil x)) h

pub gap_row : (bs : List ℕ) (at depth end : ℕ) (p q : Phase) (k : GapKind) (q0 last : Reading) (h : Scanned bs at q0 end last) → gap_next p k h.inner ≡ Some q → Moves depth p q h.inner h.ahead
    → IsRow bs at depth p (gap k at h.inner none) q end
gap_row bs at depth end p q k q0 last h e v = record {
  ahead = h.ahead;
  fits = h.next.fits;
  here = h.next.text;
  text = h.front.text ∙ ap (λ x. encodes (x ++ h.ahead)) (sym (append-nil h.inner));
  size = sym (slice_length bs at end h.inner h.slice) ∙ ap (λ x. at + byte_len x) (sym (append-nil h.inner));
  are = (refl, (q, (e, refl)));
  moves = nil_moves depth p q h.inner h.ahead v;
}

-- one simple selector, with its arguments
module _ (bs : List ℕ) (at depth name end : ℕ) (p : Phase) (q0 last : Reading) (h : Scanned bs at q0 name last) (s : starts p ≡ Some q0) (f : is_final last ≡ true) where
  whole : is_simple p h.inner ≡ true
  whole = ap (λ o. simple_read o h.inner) s ∙ ap is_whole h.reads ∙ f

  long : at + byte_len h.inner ≡ name
  long = slice_length bs at name h.inner h.slice

  same_ahead : (t : Arguments) (a : IsArguments bs name depth h.inner t end) → h.ahead ≡ enclosed t ++ a.ahead
  same_ahead t a = encodes_same h.ahead (enclosed t ++ a.ahead) (sym h.next.text ∙ a.front)

  front_is : (t : Arguments) (a : IsArguments bs name depth h.inner t end) → drop at bs ≡ encodes (h.inner ++ (enclosed t ++ a.ahead))
  front_is t a = h.front.text ∙ ap (λ x. encodes (h.inner ++ x)) (same_ahead t a)

  total : (t : Arguments) (a : IsArguments bs name depth h.inner t end) → end ≡ at + byte_len (h.inner ++ enclosed t)
  total t a = let e = byte_len-append h.inner (enclosed t) in let l = long in omega (arith, a.size)

  leads_on : (t : Arguments) (a : IsArguments bs name depth h.inner t end) → Moves depth p Inside (h.inner ++ enclosed t) a.ahead
  leads_on t a = λ m w k.
      let v = simple_moves depth p m q0 last h.inner (enclosed t ++ a.ahead) w (subst (Calm depth p m) (append_assoc h.inner (enclosed t) a.ahead) k) s h.reads f in
      let n = a.moves last f (subst (Stuck last) (same_ahead t a) h.stuck) in
      (n.0, (follow-append depth m h.inner (enclosed t) (depth, in_simple last h.inner) v ∙ n.1.0, n.1.1, n.1.2))

  pub simple_row : (t : Arguments) → IsArguments bs name depth h.inner t end → IsRow bs at depth p (made (kind_of h.inner) at h.inner t none) Inside end
  simple_row absent a = subst (λ x. IsRow bs at depth p x Inside end) (sym (bare_simple h.inner at h.inner none)) (record {
    ahead = a.ahead;
    fits = a.fits;
    here = a.here;
    text = front_is absent a ∙ ap (λ x. encodes (x ++ a.ahead)) (sym (append-nil h.inner));
    size = total absent a;
    are = (refl, refl, whole, refl);
    moves = leads_on absent a;
  })
  simple_row (text args) a = record {
    ahead = a.ahead;
    fits = a.fits;
    here = a.here;
    text = front_is (text args) a ∙ ap encodes (sym (append_assoc h.inner (enclosed (text args)) a.ahead));
    size = total (text args) a;
    are = (refl, refl, whole, a.fit.0, a.fit.1, a.fit.2, refl);
    moves = leads_on (text args) a;
  }
  simple_row (list inner) a = record {
    ahead = a.ahead;
    fits = a.fits;
    here = a.here;
    text = front_is (list inner) a ∙ ap encodes (sym (append_assoc h.inner (enclosed (list inner)) a.ahead));
    size = total (list inner) a;
    are = (refl, refl, whole, a.fit.0, a.fit.1, (a.fit.2.0, (a.fit.2.1.0, subst (λ n. Are (suc depth) Fresh (n + 1) inner a.fit.2.0) (sym long) a.fit.2.1.1)), refl);
    moves = leads_on (list inner) a;
  }

-- no arguments
pub no_arguments : (bs : List ℕ) (from depth : ℕ) (name cs : List ℕ) → IsFrom bs from cs → (takes_args name && begins 40 cs) ≡ false → IsArguments bs from depth name absent from
no_arguments bs from depth name cs h e = record { ahead = cs; fits = h.fits; here = h.text; front = h.text; size = sym (add-zero from); fit = tt; moves = λ q f k. (in_simple q name, (refl, f, (k, e))) }

pub cons_nil : (c : ℕ) (s : List ℕ) → ◌≡◌ {A = List ℕ} (c ∷ s) [] → ⊥
cons_nil c s e = cc

pub no_length : (bs : List ℕ) (at : ℕ) → at < length bs → drop at bs ≡ [] → ⊥
no_length bs at l e = let z : length bs - at ≡ 0 = sym (length-drop at bs) ∙ ap length e in omega arith

some_byte : (bs : List ℕ) (at k : ℕ) → 0 < k → get_or bs at 0 ≡ k → at < length bs
some_byte bs at k l e = elim (cases_lt at (length bs)) [ inl l ↦ l | inr h ↦ absurd (nothing (get_or_past bs at 0 h)) ]
  where
    nothing : get_or bs at 0 ≡ 0 → ⊥
    nothing f = omega arith

begins_go : (bs : List ℕ) (at k : ℕ) (cs : List ℕ) → k < 128 → at < length bs → IsFrom bs at cs → get_or bs at 0 ≡ k → (r : List ℕ) × (cs ≡ k ∷ r)
begins_go bs at k [] s l h e = absurd (no_length bs at l h.text)
begins_go bs at k (c ∷ cs) s l h e = (cs, ap (λ x. x ∷ cs) (eqb-true c k (sym (from_begins bs at c cs k s h) ∙ ap (λ x. eqb x k) e ∙ eqb_same k)))
  where
    eqb_same : (n : ℕ) → eqb n n ≡ true
    eqb_same n = grind (arith, nat_tests)

-- what stands where a byte stands
pub byte_begins : (bs : List ℕ) (at k : ℕ) (cs : List ℕ) → 0 < k → k < 128 → IsFrom bs at cs → get_or bs at 0 ≡ k → (r : List ℕ) × (cs ≡ k ∷ r)
byte_begins bs at k cs p s h e = begins_go bs at k cs s (some_byte bs at k p e) h e

-- after one ASCII character
pub behind : (bs : List ℕ) (at k : ℕ) (r : List ℕ) → k < 128 → IsFrom bs at (k ∷ r) → IsFrom bs (at + 1) r
behind bs at k r l h = subst (λ n. IsFrom bs (at + n) r) (one_byte k [] l) (from_back bs at (k ∷ []) r h)

-- text up to a `)`
pub closed_text : (bs : List ℕ) (from end : ℕ) (q0 last : Reading) (args : Arguments) (h : Scanned bs from q0 end last) → last ≡ scan_last q0 (drop from bs) → args ≡ text h.inner → is_final last ≡ true
    → get_or bs end 0 ≡ 41 → IsClosedText bs from q0 args (end + 1)
closed_text bs from end q0 last args h l e f b =
    let r = byte_begins bs end 41 h.ahead (lit< tt) (lit< tt) h.next b in
    let back : IsFrom bs (end + 1) r.0 = behind bs end 41 r.0 (lit< tt) (subst (IsFrom bs end) r.1 h.next) in
    record {
      inner = h.inner;
      is = e;
      ahead = r.0;
      fits = back.fits;
      here = back.text;
      front = h.front.text ∙ ap (λ x. encodes (h.inner ++ x)) r.1;
      size = ap (λ n. n + 1) (sym (slice_length bs from end h.inner h.slice));
      last = last;
      last_is = l;
      reads = h.reads;
      final = f;
      stuck = subst (Stuck last) r.1 h.stuck;
    }

pub closed_boundary : (bs : List ℕ) (from end : ℕ) (cs : List ℕ) → IsFrom bs end cs → IsCharBoundary bs end
closed_boundary bs from end cs h = from_boundary bs end cs h

-- a row by equal ends
pub row_same : (bs : List ℕ) (at depth : ℕ) (p q r : Phase) (x y : Tree) (e f : ℕ) → IsRow bs at depth p y r f → x ≡ y → q ≡ r → e ≡ f → IsRow bs at depth p x q e
row_same bs at depth p q r x y e f h a b c = subst (λ x. IsRow bs at depth p x q e) (sym a) (subst (λ q. IsRow bs at depth p y q e) (sym b) (subst (λ e. IsRow bs at depth p y r e) (sym c) h))

pub if_ok_map : {A E : Type 0} (r : Result A E) (P Q : A → Type 0) → ((a : A) → P a → Q a) → IfOk r P → IfOk r Q
if_ok_map (Ok a) P Q f h = f a h
if_ok_map (Err e) P Q f h = tt

pub some_bytes : (c : ℕ) (cs : List ℕ) → encodes (c ∷ cs) ≡ [] → ⊥
some_bytes c cs e = let z : byte_len (c ∷ cs) ≡ 0 = sym (length-bytes (c ∷ cs)) ∙ ap length e in absurd (omega (arith, byte_len_some c cs))

-- whether a complex selector ends at an index, by the characters there
pub stops_same : (bs : List ℕ) (e depth : ℕ) (cs : List ℕ) → IsFrom bs e cs → stops bs e depth ≡ text_stops depth cs
stops_same bs e depth [] h = or_right (eqb (get_or bs e 0) 44) (nat_le (length bs) e) (nat_lt 0 depth && eqb (get_or bs e 0) 41) (past_end bs e h)
  where
    or_right : (a b c : Bool) → b ≡ true → (a || (b || c)) ≡ true
    or_right true b c e = refl
    or_right false b c e = rw e refl

    past_end : (bs : List ℕ) (e : ℕ) → IsFrom bs e [] → nat_le (length bs) e ≡ true
    past_end bs e h = let z : length bs - e ≡ 0 = sym (length-drop e bs) ∙ ap length h.text in grind (arith, nat_tests)
stops_same bs e depth (c ∷ cs) h = tests (eqb (get_or bs e 0) 44) (nat_le (length bs) e) (eqb (get_or bs e 0) 41) (nat_lt 0 depth) (eqb c 44) (eqb c 41) (from_begins bs e c cs 44 (lit< tt) h) (from_begins bs e c cs 41 (lit< tt) h) (within bs e h)
  where
    turn : (d x y : Bool) → (x || (false || (d && y))) ≡ (x || (y && d))
    turn d true y = refl
    turn true false true = refl
    turn true false false = refl
    turn false false true = refl
    turn false false false = refl

    tests : (a b c d x y : Bool) → a ≡ x → c ≡ y → b ≡ false → (a || (b || (d && c))) ≡ (x || (y && d))
    tests a b c d x y e f h = ap (λ z. z || (b || (d && c))) e ∙ ap (λ z. x || (b || (d && z))) f ∙ ap (λ z. x || (z || (d && y))) h ∙ turn d x y

    within : (bs : List ℕ) (e : ℕ) → IsFrom bs e (c ∷ cs) → nat_le (length bs) e ≡ false
    within bs e h = elim (cases_lt e (length bs)) [ inl l ↦ grind (arith, nat_tests) | inr l ↦ absurd (some_bytes c cs (sym h.text ∙ drop_all e bs l)) ]

pub stops_text : (bs : List ℕ) (e depth : ℕ) (cs : List ℕ) → IsFrom bs e cs → stops bs e depth ≡ false → text_stops depth cs ≡ false
stops_text bs e depth cs h s = sym (stops_same bs e depth cs h) ∙ s
