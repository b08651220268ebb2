-- One more part behind those read so far.
use Rattle.std.proofs.Common.{◌≡◌, ℕ, zero, suc, ◌+◌, ◌-◌, ◌<◌, ◌≤◌, Bool, true, false, eqb, List, [], ◌∷◌, ◌++◌, length, get_or, take, drop, refl, ap, sym, ◌∙◌, subst, inl, inr, add-one, add-zero, lit<, arith, append-nil}
use Rattle.std.specs.Prelude.{◌&&◌, nat_lt}
use Rattle.std.specs.Str.{chars, IsUtf8, IsCharBoundary}
use lib.Utf8.{encodes}
use mir.Val.{bool_byte}
use Rattle.std.proofs.lemmas.Bool.{ltb-true, lt-ltb, eqb-true, cases_lt, and_parts, false≢true, true≢false}
use Rattle.std.proofs.lemmas.List.{take-append-drop, drop_all, length-take-le, length-drop, get_or_past}
use Rattle.std.proofs.lemmas.Str.{encodes-chars, encodes_same, IsUtf8-drop}
use Rattle.css_text.specs.declared.lexer.PieceKind.{PieceKind}
use Rattle.css_text.specs.declared.lexer.PieceKind.TheVariants.{Space, Comment, Quoted, Url, AtWord, Word, Single}
use Rattle.css_text.specs.Forms.{begins}
use Rattle.css_text.specs.Ahead.{byte_len}
use Rattle.css_text.specs.ValueParts.{first_part, part, ValueForm, plain, function, ValueParts, none, value, ending, written, StandsBefore, StaysPlain, most_depth, IsName, EndsThere, AreParts, Stops, followed, StandAt, IsValue}
use Rattle.css_text.proofs.Slices.{IsFrom, IsSlice, boundary, from_front, from_back, from_begins, slice_chars, slice_length, slice_empty, byte_len-append, byte_len_some, chars_of}
use Rattle.css_text.proofs.Transport.{length-bytes}
use Rattle.css_text.proofs.ValueParts.{function_text}
use Rattle.css_text.proofs.ValueRows.{function_len, followed-written, followed_text, followed-are, followed-places}
use Rattle.value_parse.specs.Found.{first_at}
use Rattle.value_parse.specs.Row.{IsRow, IsWholeRow, name_end}
use Rattle.value_parse.proofs.PartBytes.{part_bytes}
use Rattle.value_parse.proofs.Bounds.{part_bound}

-- the characters from a place on
ahead_of : (bs : List ℕ) (at : ℕ) → IsUtf8 bs → IsCharBoundary bs at → (cs : List ℕ) × IsFrom bs at cs
ahead_of bs at u b = (chars (drop at bs), record { fits = b.0; text = sym (encodes-chars (drop at bs) (IsUtf8-drop bs at u b)) })

-- The form k with the text t stands at a place, and its characters end at the byte `end`.
pub record Plain (bs : List ℕ) (at : ℕ) (form : ValueForm) (end : ℕ) : Type 0 where
  pub kind : PieceKind
  pub text : List ℕ
  pub ahead : List ℕ
  pub some : text ≡ [] → ⊥
  pub form_is : form ≡ plain kind
  pub stands : StandsBefore kind text ahead
  pub slice : IsSlice bs at end text
  pub front : IsFrom bs at (text ++ ahead)
  pub next : IsFrom bs end ahead

cons_nil : (c : ℕ) (s : List ℕ) → ◌≡◌ {A = List ℕ} (c ∷ s) [] → ⊥
cons_nil c s e = cc

plain_by : (bs : List ℕ) (at c : ℕ) (cs : List ℕ) (form : ValueForm) (end : ℕ) → IsFrom bs at (c ∷ cs) → (form, end) ≡ first_at at (drop at bs) → Plain bs at form end
plain_by bs at c cs form end h e =
    let k = (first_part c cs).0 in
    let n = (first_part c cs).1 in
    let t = c ∷ take n cs in
    let g : (form, end) ≡ (plain k, at + byte_len t) = e ∙ ap (first_at at) h.text ∙ part_bytes at c cs in
    let ends : at + byte_len t ≡ end = sym (ap (λ p. p.1) g) in
    let whole : t ++ drop n cs ≡ c ∷ cs = ap (λ x. c ∷ x) (take-append-drop n cs) in
    let front : IsFrom bs at (t ++ drop n cs) = subst (IsFrom bs at) (sym whole) h in
    record {
      kind = k;
      text = t;
      ahead = drop n cs;
      some = cons_nil c (take n cs);
      form_is = ap (λ p. p.0) g;
      stands = ap (first_part c) (take-append-drop n cs) ∙ ap (λ m. part k m) (sym (length-take-le n cs (part_bound c cs)));
      slice = subst (λ m. IsSlice bs at m t) ends (from_front bs at t (drop n cs) front);
      front = front;
      next = subst (λ m. IsFrom bs m (drop n cs)) ends (from_back bs at t (drop n cs) front);
    }

no_length : (bs : List ℕ) (at : ℕ) → at < length bs → drop at bs ≡ [] → ⊥
no_length [] at l e = omega arith
no_length (b ∷ bs) zero l e = cc
no_length (b ∷ bs) (suc at) l e = no_length bs at (omega arith) e

plain_go : (bs : List ℕ) (at : ℕ) (cs : List ℕ) (form : ValueForm) (end : ℕ) → at < length bs → IsFrom bs at cs → (form, end) ≡ first_at at (drop at bs) → Plain bs at form end
plain_go bs at [] form end l h e = absurd (no_length bs at l h.text)
plain_go bs at (c ∷ cs) form end l h e = plain_by bs at c cs form end h e

pub plain_here : (bs : List ℕ) (at : ℕ) (form : ValueForm) (end : ℕ) → IsUtf8 bs → IsCharBoundary bs at → at < length bs → (form, end) ≡ first_at at (drop at bs) → Plain bs at form end
plain_here bs at form end u b l e = let h = ahead_of bs at u b in plain_go bs at h.0 form end l h.1 e

-- a character at a place, by its byte
byte_is : (bs : List ℕ) (at : ℕ) (cs : List ℕ) (k : ℕ) → k < 128 → IsFrom bs at cs → begins k cs ≡ true → get_or bs at 0 ≡ k
byte_is bs at [] k l h e = absurd (false≢true e)
byte_is bs at (c ∷ cs) k l h e = eqb-true (get_or bs at 0) k (from_begins bs at c cs k l h ∙ e)

-- a part that is no Function stays one
both_by : (bs : List ℕ) (at depth : ℕ) (t ahead : List ℕ) → IsFrom bs at (t ++ ahead) → (get_or bs at 0 ≡ 40 → depth ≡ most_depth) → (get_or bs at 0 ≡ 41 → depth ≡ 0)
    → (t ≡ 40 ∷ [] → depth ≡ most_depth) × (t ≡ 41 ∷ [] → depth ≡ 0)
both_by bs at depth t ahead f o c = (
  λ e. o (byte_is bs at (t ++ ahead) 40 (lit< tt) f (ap (λ x. begins 40 (x ++ ahead)) e)),
  λ e. c (byte_is bs at (t ++ ahead) 41 (lit< tt) f (ap (λ x. begins 41 (x ++ ahead)) e)),
)

stays_by : (bs : List ℕ) (at end depth : ℕ) (k : PieceKind) (t ahead : List ℕ) → IsFrom bs at (t ++ ahead) → IsFrom bs end ahead
    → (get_or bs (name_end (plain k) at end) 0 ≡ 40 → depth ≡ most_depth) → (get_or bs at 0 ≡ 41 → depth ≡ 0) → StaysPlain depth k t ahead
stays_by bs at end depth Word t ahead f n o c = λ e. o (byte_is bs end ahead 40 (lit< tt) n e)
stays_by bs at end depth Space t ahead f n o c = both_by bs at depth t ahead f o c
stays_by bs at end depth Comment t ahead f n o c = both_by bs at depth t ahead f o c
stays_by bs at end depth Quoted t ahead f n o c = both_by bs at depth t ahead f o c
stays_by bs at end depth Url t ahead f n o c = both_by bs at depth t ahead f o c
stays_by bs at end depth AtWord t ahead f n o c = both_by bs at depth t ahead f o c
stays_by bs at end depth Single t ahead f n o c = both_by bs at depth t ahead f o c

no_open : (x depth : ℕ) → (nat_lt depth 100 && eqb x 40) ≡ false → depth ≤ 100 → x ≡ 40 → depth ≡ most_depth
no_open x depth e l f = elim (cases_lt depth 100) [
  | inl k ↦ absurd (false≢true (sym e ∙ rw (lt-ltb depth 100 k, f) refl))
  | inr k ↦ omega arith
]

no_close : (x depth : ℕ) → (nat_lt 0 depth && eqb x 41) ≡ false → x ≡ 41 → depth ≡ 0
no_close x depth e f = elim (cases_lt 0 depth) [
  | inl k ↦ absurd (false≢true (sym e ∙ rw (lt-ltb 0 depth k, f) refl))
  | inr k ↦ omega arith
]

-- a row of one part that is no Function
pub plain_row : (bs : List ℕ) (at depth end : ℕ) (form : ValueForm) (p : ValueParts) (h : Plain bs at form end) → IsUtf8 bs → depth ≤ 100
    → (nat_lt depth 100 && eqb (get_or bs (name_end form at end) 0) 40) ≡ false → (nat_lt 0 depth && eqb (get_or bs at 0) 41) ≡ false
    → p ≡ value form at (chars (take (end - at) (drop at bs))) none true none → IsRow bs at depth p end
plain_row bs at depth end form p h u l o c e =
    let g : p ≡ value (plain h.kind) at h.text none true none = e ∙ ap (λ f. value f at (chars (take (end - at) (drop at bs))) none true none) h.form_is
    ∙ ap (λ t. value (plain h.kind) at t none true none) (slice_chars bs at end h.text u h.slice) in
    let opens = no_open (get_or bs (name_end (plain h.kind) at end) 0) depth (ap (λ f. nat_lt depth 100 && eqb (get_or bs (name_end f at end) 0) 40) (sym h.form_is) ∙ o) l in
    let same : h.text ++ [] ≡ h.text = append-nil h.text in
    subst (λ p. IsRow bs at depth p end) (sym g) (record {
      ahead = h.ahead;
      fits = h.next.fits;
      here = h.next.text;
      text = rw same h.front.text;
      size = rw same (sym (slice_length bs at end h.text h.slice));
      are = (h.stands, stays_by bs at end depth h.kind h.text h.ahead h.front h.next opens (no_close (get_or bs at 0) depth c), refl, refl, tt);
      places = (refl, tt);
    })

-- The name t of a Function stands at a place, and behind its `(` the text goes on with these characters.
pub record Named (bs : List ℕ) (at end : ℕ) : Type 0 where
  pub text : List ℕ
  pub ahead : List ℕ
  pub name : IsName text (40 ∷ ahead)
  pub slice : IsSlice bs at end text
  pub front : IsFrom bs at (text ++ 40 ∷ ahead)
  pub next : IsFrom bs (end + 1) ahead

byte_begins : (bs : List ℕ) (at : ℕ) (cs : List ℕ) → at < length bs → IsFrom bs at cs → get_or bs at 0 ≡ 40 → (r : List ℕ) × (cs ≡ 40 ∷ r)
byte_begins bs at [] l h e = absurd (no_length bs at l h.text)
byte_begins bs at (c ∷ cs) l h e = (cs, ap (λ x. x ∷ cs) (eqb-true c 40 (sym (from_begins bs at c cs 40 (lit< tt) h) ∙ ap (λ x. eqb x 40) e)))

some_byte : (bs : List ℕ) (at : ℕ) → get_or bs at 0 ≡ 40 → at < length bs
some_byte bs at e = elim (cases_lt at (length bs)) [ inl l ↦ l | inr l ↦ absurd (nothing (get_or_past bs at 0 l)) ]
  where
    nothing : get_or bs at 0 ≡ 0 → ⊥
    nothing f = omega arith

empty_name : (bs : List ℕ) (at : ℕ) (cs : List ℕ) → IsCharBoundary bs at → IsFrom bs at cs → get_or bs at 0 ≡ 40 → Named bs at at
empty_name bs at cs b h e =
    let r = byte_begins bs at cs (some_byte bs at e) h e in
    let front : IsFrom bs at (40 ∷ r.0) = subst (IsFrom bs at) r.1 h in
    record { text = []; ahead = r.0; name = tt; slice = slice_empty bs at b; front = front; next = from_back bs at (40 ∷ []) r.0 front }

word_name : (bs : List ℕ) (at end : ℕ) (t cs : List ℕ) → (t ≡ [] → ⊥) → StandsBefore Word t cs → IsSlice bs at end t → IsFrom bs at (t ++ cs) → IsFrom bs end cs → get_or bs end 0 ≡ 40 → Named bs at end
word_name bs at end [] cs n s c f h e = absurd (n refl)
word_name bs at end (x ∷ t) cs n s c f h e =
    let r = byte_begins bs end cs (some_byte bs end e) h e in
    let back : IsFrom bs end (40 ∷ r.0) = subst (IsFrom bs end) r.1 h in
    record { text = x ∷ t; ahead = r.0; name = subst (StandsBefore Word (x ∷ t)) r.1 s; slice = c; front = subst (λ z. IsFrom bs at ((x ∷ t) ++ z)) r.1 f; next = from_back bs end (40 ∷ []) r.0 back }

named_by : (bs : List ℕ) (at end : ℕ) (k : PieceKind) (t cs : List ℕ) → (t ≡ [] → ⊥) → StandsBefore k t cs → IsSlice bs at end t → IsFrom bs at (t ++ cs) → IsFrom bs end cs
    → get_or bs (name_end (plain k) at end) 0 ≡ 40 → Named bs at (name_end (plain k) at end)
named_by bs at end Word t cs n s c f h e = word_name bs at end t cs n s c f h e
named_by bs at end Space t cs n s c f h e = empty_name bs at (t ++ cs) c.low f e
named_by bs at end Comment t cs n s c f h e = empty_name bs at (t ++ cs) c.low f e
named_by bs at end Quoted t cs n s c f h e = empty_name bs at (t ++ cs) c.low f e
named_by bs at end Url t cs n s c f h e = empty_name bs at (t ++ cs) c.low f e
named_by bs at end AtWord t cs n s c f h e = empty_name bs at (t ++ cs) c.low f e
named_by bs at end Single t cs n s c f h e = empty_name bs at (t ++ cs) c.low f e

pub named_here : (bs : List ℕ) (at end depth : ℕ) (form : ValueForm) (h : Plain bs at form end)
    → (nat_lt depth 100 && eqb (get_or bs (name_end form at end) 0) 40) ≡ true → Named bs at (name_end form at end) × (depth < 100)
named_here bs at end depth form h o =
    let parts = and_parts (nat_lt depth 100) (eqb (get_or bs (name_end form at end) 0) 40) o in
    let byte : get_or bs (name_end (plain h.kind) at end) 0 ≡ 40 = ap (λ f. get_or bs (name_end f at end) 0) (sym h.form_is) ∙ eqb-true (get_or bs (name_end form at end) 0) 40 parts.1 in
    (subst (λ f. Named bs at (name_end f at end)) (sym h.form_is) (named_by bs at end h.kind h.text h.ahead h.some h.stands h.slice h.front h.next byte), ltb-true depth 100 parts.0)

-- the row of one Function, from the row inside it
function_by : (bs : List ℕ) (at depth name end : ℕ) (inner : ValueParts) (closed : Bool) (w : List ℕ) (n : Named bs at name) (r : IsRow bs (name + 1) (depth + 1) inner end) → depth < 100
    → r.ahead ≡ ending closed ++ w → EndsThere closed w → IsFrom bs (end + length (ending closed)) w → IsRow bs at depth (value function at n.text inner closed none) (end + length (ending closed))
function_by bs at depth name end inner closed w n r l e f h =
    let inside : n.ahead ≡ written inner ++ (ending closed ++ w) = encodes_same n.ahead (written inner ++ (ending closed ++ w)) (sym n.next.text ∙ r.text ∙ ap (λ x. encodes (written inner ++ x)) e) in
    let is = slice_length bs at name n.text n.slice in
    let more : AreParts (suc depth) inner (ending closed ++ w) = subst (λ d. AreParts d inner (ending closed ++ w)) (add-one depth) (subst (AreParts (depth + 1) inner) e r.are) in
    let total = function_len at n.text inner closed none in
    record {
      ahead = w;
      fits = h.fits;
      here = h.text;
      text = n.front.text ∙ ap (λ x. encodes (n.text ++ 40 ∷ x)) inside ∙ ap encodes (sym (function_text at n.text inner closed none w));
      size = omega (arith, total, r.size, is);
      are = (l, subst (λ x. IsName n.text (40 ∷ x)) inside n.name, f, more, tt);
      places = (refl, subst (λ m. StandAt (m + 1) inner) (sym is) r.places, tt);
    }

past_end : (bs : List ℕ) (end : ℕ) → end ≤ length bs → drop end bs ≡ [] → end ≡ length bs
past_end bs end l e = let z : length bs - end ≡ 0 = sym (length-drop end bs) ∙ ap length e in omega arith

nil_by : (cs : List ℕ) → [] ≡ encodes cs → cs ≡ []
nil_by [] e = refl
nil_by (c ∷ cs) e = let z : 0 ≡ byte_len (c ∷ cs) = ap length e ∙ length-bytes (c ∷ cs) in absurd (omega (arith, byte_len_some c cs))

function_go : (bs : List ℕ) (at depth name end : ℕ) (inner : ValueParts) (n : Named bs at name) (r : IsRow bs (name + 1) (depth + 1) inner end) → depth < 100 → (cs : List ℕ) → r.ahead ≡ cs → Stops (depth + 1) cs
    → (closed : Bool) → nat_lt end (length bs) ≡ closed → IsRow bs at depth (value function at n.text inner closed none) (end + length (ending closed))
function_go bs at depth name end inner n r l [] e s true c = absurd (not_past (past_end bs end r.fits (r.here ∙ ap encodes e)) (ltb-true end (length bs) c))
  where
    not_past : end ≡ length bs → end < length bs → ⊥
    not_past a b = omega arith
function_go bs at depth name end inner n r l [] e s false c = function_by bs at depth name end inner false [] n r l e refl (subst (λ m. IsFrom bs m []) (sym (add-zero end)) (record { fits = r.fits; text = r.here ∙ ap encodes e }))
function_go bs at depth name end inner n r l (x ∷ w) e s true c =
    let is : r.ahead ≡ 41 ∷ w = e ∙ ap (λ z. z ∷ w) s.0 in
    function_by bs at depth name end inner true w n r l is tt (from_back bs end (41 ∷ []) w (record { fits = r.fits; text = r.here ∙ ap encodes is }))
function_go bs at depth name end inner n r l (x ∷ w) e s false c =
    absurd (some_left (elim (cases_lt end (length bs)) [ inl k ↦ absurd (true≢false (sym (lt-ltb end (length bs) k) ∙ c)) | inr k ↦ k ]))
  where
    some_left : length bs ≤ end → ⊥
    some_left k = let z : x ∷ w ≡ [] = nil_by (x ∷ w) (sym (drop_all end bs k) ∙ r.here ∙ ap encodes e) in cons_nil x w z

pub function_row : (bs : List ℕ) (at depth name end next : ℕ) (inner p : ValueParts) (closed : Bool) (n : Named bs at name) → IsWholeRow bs (name + 1) (depth + 1) inner end → depth < 100 → IsUtf8 bs
    → nat_lt end (length bs) ≡ closed → next ≡ end + length (ending closed)
    → p ≡ value function at (chars (take (name - at) (drop at bs))) inner closed none → IsRow bs at depth p next
function_row bs at depth name end next inner p closed n r l u c f e =
    let g : p ≡ value function at n.text inner closed none = e ∙ ap (λ t. value function at t inner closed none) (slice_chars bs at name n.text u n.slice) in
    rw (g, f) (function_go bs at depth name end inner n r.row l r.row.ahead refl r.stops closed c)

pub ending_byte : (b : Bool) → bool_byte b ≡ length (ending b)
ending_byte true = refl
ending_byte false = refl

-- nothing read yet
pub empty_row : (bs : List ℕ) (start depth : ℕ) → IsUtf8 bs → IsCharBoundary bs start → IsRow bs start depth none start
empty_row bs start depth u b = let h = ahead_of bs start u b in
    record { ahead = h.0; fits = b.0; here = h.1.text; text = h.1.text; size = sym (add-zero start); are = tt; places = tt }

-- a row, and another behind it
pub row_append : (bs : List ℕ) (start middle end depth : ℕ) (p q : ValueParts) → IsRow bs start depth p middle → IsRow bs middle depth q end → IsRow bs start depth (followed p q) end
row_append bs start middle end depth p q a b =
    let is : a.ahead ≡ written q ++ b.ahead = encodes_same a.ahead (written q ++ b.ahead) (sym a.here ∙ b.text) in
    let total : byte_len (written (followed p q)) ≡ byte_len (written p) + byte_len (written q) = ap byte_len (followed-written p q) ∙ byte_len-append (written p) (written q) in
    record {
      ahead = b.ahead;
      fits = b.fits;
      here = b.here;
      text = a.text ∙ ap (λ x. encodes (written p ++ x)) is ∙ ap encodes (followed_text p q b.ahead);
      size = omega (arith, total, a.size, b.size);
      are = followed-are depth p q b.ahead (subst (AreParts depth p) is a.are) b.are;
      places = followed-places start p q a.places (subst (λ n. StandAt n q) a.size b.places);
    }

pub row_boundary : (bs : List ℕ) (start depth end : ℕ) (p : ValueParts) → IsRow bs start depth p end → IsCharBoundary bs end
row_boundary bs start depth end p r = boundary bs r.ahead end r.fits r.here

pub name_boundary : (bs : List ℕ) (at name : ℕ) → Named bs at name → IsCharBoundary bs (name + 1)
name_boundary bs at name n = boundary bs n.ahead (name + 1) n.next.fits n.next.text

-- where a row is whole
pub whole_at_end : (bs : List ℕ) (start depth end : ℕ) (p : ValueParts) → IsRow bs start depth p end → length bs ≤ end → IsWholeRow bs start depth p end
whole_at_end bs start depth end p r l = record { row = r; stops = subst (Stops depth) (sym (nil_by r.ahead (sym (drop_all end bs l) ∙ r.here))) tt }

stops_go : (bs : List ℕ) (end depth : ℕ) (cs : List ℕ) → IsFrom bs end cs → get_or bs end 0 ≡ 41 → 0 < depth → Stops depth cs
stops_go bs end depth [] h e l = tt
stops_go bs end depth (c ∷ cs) h e l = (eqb-true c 41 (sym (from_begins bs end c cs 41 (lit< tt) h) ∙ ap (λ x. eqb x 41) e), λ z. omega arith)

pub whole_at_close : (bs : List ℕ) (start depth end : ℕ) (p : ValueParts) → IsRow bs start depth p end → (nat_lt 0 depth && eqb (get_or bs end 0) 41) ≡ true → IsWholeRow bs start depth p end
whole_at_close bs start depth end p r t =
    let parts = and_parts (nat_lt 0 depth) (eqb (get_or bs end 0) 41) t in
    record { row = r; stops = stops_go bs end depth r.ahead (record { fits = r.fits; text = r.here }) (eqb-true (get_or bs end 0) 41 parts.1) (ltb-true 0 depth parts.0) }

-- the parts of a whole text
value_go : (bs : List ℕ) (p : ValueParts) (cs : List ℕ) → IsUtf8 bs → bs ≡ encodes (written p ++ cs) → AreParts 0 p cs → StandAt 0 p → Stops 0 cs → IsValue (chars bs) p
value_go bs p [] u t a s z = record { text = sym (append-nil (written p)) ∙ sym (chars_of bs (written p ++ []) u t); are = a; places = s }
value_go bs p (c ∷ cs) u t a s z = absurd (z.1 refl)

pub row_value : (bs : List ℕ) (p : ValueParts) (end : ℕ) → IsUtf8 bs → IsWholeRow bs 0 0 p end → IsValue (chars bs) p
row_value bs p end u r = value_go bs p r.row.ahead u r.row.text r.row.are r.row.places r.stops
