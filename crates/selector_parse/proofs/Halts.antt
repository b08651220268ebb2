-- Where reading halts.
use Rattle.std.proofs.Common.{◌≡◌, ℕ, suc, ◌+◌, ◌-◌, ◌<◌, ◌≤◌, true, false, eqb, List, [], ◌∷◌, ◌++◌, length, get_or, drop, Option, Some, None, refl, ap, sym, ◌∙◌, subst, lit<, arith, add-zero, append-nil, append_assoc}
use lib.Utf8.{encodes}
use Rattle.std.proofs.lemmas.Bool.{true≢false}
use Rattle.std.proofs.lemmas.Str.{encodes_same}
use Rattle.css_text.specs.Ahead.{byte_len}
use Rattle.css_text.specs.Forms.{begins}
use Rattle.css_text.proofs.Slices.{IsFrom, slice_length, byte_len-append}
use Rattle.selector_parse.specs.declared.phase.Phase.{Phase}
use Rattle.selector_parse.specs.declared.phase.Phase.TheVariants.{Fresh, Open, Inside, Commented, Trailing}
use Rattle.selector_parse.specs.declared.reading.Gap.TheVariants.{Comments}
use Rattle.selector_parse.specs.declared.reading.Reading.{Reading}
use Rattle.selector_parse.specs.declared.reading.Reading.TheVariants.{Blank}
use Rattle.selector_parse.specs.Reading.{step, read, is_final, scan_len}
use Rattle.selector_parse.specs.Tree.{Tree, none, comma, simple, plain, nested, written, Arguments, absent, text, list}
use Rattle.selector_parse.specs.Phases.{kind_of, is_simple, is_whole, simple_read, starts, may_end, Are}
use Rattle.selector_parse.specs.Machine.{Place, at_start, in_gap, in_simple, in_text, Stand, follow, Blocked, Stuck, Matches, Calm, text_stops}
use Rattle.selector_parse.specs.Row.{IsRow, IsEnded, IsHalt, IsNameHalt, Fit, takes_gap, followed, enclosed}
use Rattle.selector_parse.proofs.Scanned.{Scanned}
use Rattle.selector_parse.proofs.Finish.{finish, made_whole, finish_final}
use Rattle.selector_parse.proofs.Idle.{idle, simple_halts}
use Rattle.selector_parse.proofs.Moves.{follow-append, simple_moves, simple_start, some_same}
use Rattle.std.proofs.lemmas.Bool.{ne_eqb}
use Rattle.std.proofs.lemmas.List.{length-drop, get_or_past}
use Rattle.std.proofs.lemmas.Str.{len_utf8_bounds, length-encode}
use Rattle.css_text.proofs.Bytes.{weigh, weigh-suc}
use Rattle.css_text.proofs.Slices.{from_begins}
use Rattle.selector_parse.specs.declared.placed.Failure.{Failure}
use Rattle.selector_parse.specs.declared.placed.Failure.TheVariants.{At, Memory}
use Rattle.selector_parse.specs.Row.{Halts, NameHalts}
use Rattle.selector_parse.specs.Reading.{or_on}
use Rattle.selector_parse.proofs.Bytes.{scan_len-bytes}
use Rattle.selector_parse.proofs.Lists.{comma_row}
use Rattle.selector_parse.proofs.Rows.{row_append, byte_begins, followed-written, followed-are}

-- after parts that have been read
pub row_halt : (bs : List ℕ) (start mid depth e : ℕ) (p m : Phase) (x : Tree) → IsRow bs start depth p x m mid → IsHalt bs mid depth m e → start ≤ length bs → IsHalt bs start depth p e
row_halt bs start mid depth e p m x a h l =
    let is : a.ahead ≡ h.front ++ h.back = encodes_same a.ahead (h.front ++ h.back) (sym a.here ∙ h.text) in
    let total = byte_len-append (written x) h.front in
    record {
      front = written x ++ h.front;
      back = h.back;
      fits = l;
      text = a.text ∙ ap (λ z. encodes (written x ++ z)) is ∙ ap encodes (sym (append_assoc (written x) h.front h.back));
      size = omega (arith, total, a.size, h.size);
      parts = followed x h.parts;
      more = h.more;
      last = h.last;
      ends = h.ends;
      are = followed-are depth start p m h.last x h.parts a.are (subst (λ n. Are depth m n h.parts h.last) a.size h.are);
      goes = followed-written x h.parts ∙ ap (λ z. written x ++ z) h.goes ∙ sym (append_assoc (written x) h.front h.more);
      blocked = λ r w k.
          let n = a.moves r w (subst (Calm depth p r) (append_assoc (written x) h.front h.back ∙ ap (λ z. written x ++ z) (sym is)) k) in
          let s = h.blocked n.0 n.1.1 (subst (Calm depth m n.0) is n.1.2) in
          (s.0, (follow-append depth r (written x) h.front (depth, n.0) n.1.0 ∙ s.1.0, s.1.1));
    }

-- a simple selector that isn't whole
module _ (bs : List ℕ) (at depth end : ℕ) (p : Phase) (q0 last : Reading) (h : Scanned bs at q0 end last) (s : starts p ≡ Some q0) where
  whole : is_simple p (h.inner ++ finish last) ≡ true
  whole = ap (λ o. simple_read o (h.inner ++ finish last)) s ∙ ap is_whole (made_whole q0 last h.inner h.reads) ∙ finish_final last

  pub simple_halt : is_final last ≡ false → (takes_gap p ≡ true → Stuck (Blank Comments) (h.inner ++ h.ahead)) → (may_end p ≡ true → text_stops depth (h.inner ++ h.ahead) ≡ false) → (p ≡ Commented → begins 47 (h.inner ++ h.ahead) ≡ false) → IsHalt bs at depth p end
  simple_halt f g e z = record {
    front = h.inner;
    back = h.ahead;
    fits = h.front.fits;
    text = h.front.text;
    size = sym (slice_length bs at end h.inner h.slice);
    parts = simple (kind_of (h.inner ++ finish last)) at (h.inner ++ finish last) none;
    more = finish last;
    last = Inside;
    ends = refl;
    are = (refl, refl, whole, refl);
    goes = append-nil (h.inner ++ finish last);
    blocked = λ m w k. go h.inner h.reads m w k g e z;
  }
    where
      go : (t : List ℕ) → read q0 t ≡ Some last → (m : Place) → Matches p m → Calm depth p m (t ++ h.ahead) → (takes_gap p ≡ true → Stuck (Blank Comments) (t ++ h.ahead)) → (may_end p ≡ true → text_stops depth (t ++ h.ahead) ≡ false)
          → (p ≡ Commented → begins 47 (t ++ h.ahead) ≡ false) → (s : Stand) × ((follow depth m t ≡ Some s) × Blocked s.0 s.1 h.ahead)
      go [] r m w k g e z = ((depth, m), (refl, idle depth p m q0 h.ahead w k s (subst (λ q. Stuck q h.ahead) (sym (some_same q0 last r)) h.stuck) g e z))
      go (c ∷ t) r m w k g e z = ((depth, in_simple last (c ∷ t)), (simple_start depth p m q0 last c t h.ahead w k s r, simple_halts depth last (c ∷ t) h.ahead f h.stuck))

  -- one whose arguments aren't
  pub name_halt : (e : ℕ) → is_final last ≡ true → IsNameHalt bs end depth h.inner e → IsHalt bs at depth p e
  name_halt e f n =
      let long : at + byte_len h.inner ≡ end = slice_length bs at end h.inner h.slice in
      let is : h.ahead ≡ n.front ++ n.back = encodes_same h.ahead (n.front ++ n.back) (sym h.next.text ∙ n.text) in
      let total = byte_len-append h.inner n.front in
      let k = parts_of n.args n.fit in
      record {
        front = h.inner ++ n.front;
        back = n.back;
        fits = h.front.fits;
        text = h.front.text ∙ ap (λ x. encodes (h.inner ++ x)) is ∙ ap encodes (sym (append_assoc h.inner n.front n.back));
        size = omega (arith, total, n.size, long);
        parts = k.0;
        more = n.more;
        last = Inside;
        ends = refl;
        are = k.1.0;
        goes = k.1.1 ∙ ap (λ x. h.inner ++ x) n.goes ∙ sym (append_assoc h.inner n.front n.more);
        blocked = λ m w c.
            let v = simple_moves depth p m q0 last h.inner (n.front ++ n.back) w (subst (Calm depth p m) (append_assoc h.inner n.front n.back) c) s h.reads f in
            let b = n.blocked last f (subst (Stuck last) is h.stuck) in
            (b.0, (follow-append depth m h.inner n.front (depth, in_simple last h.inner) v ∙ b.1.0, b.1.1));
      }
    where
      here : is_simple p h.inner ≡ true
      here = ap (λ o. simple_read o h.inner) s ∙ ap is_whole h.reads ∙ f

      parts_of : (a : Arguments) → Fit depth h.inner end a → (x : Tree) × ((Are depth p at x Inside) × (written x ≡ h.inner ++ enclosed a))
      parts_of absent k = (simple (kind_of h.inner) at h.inner none, ((refl, refl, here, refl), refl))
      parts_of (text t) k = (plain (kind_of h.inner) at h.inner t none, ((refl, refl, here, k.0, k.1, k.2, refl), refl))
      parts_of (list i) k = (
        nested (kind_of h.inner) at h.inner i none,
        ((refl, refl, here, k.0, k.1, (k.2.0, (k.2.1.0, subst (λ n. Are (suc depth) Fresh (n + 1) i k.2.0) (sym (slice_length bs at end h.inner h.slice)) k.2.1.1)), refl), refl),
      )

-- no simple selector may stand there
pub trailing_halt : (bs : List ℕ) (at depth : ℕ) (p : Phase) (cs : List ℕ) → IsFrom bs at cs → starts p ≡ None → (may_end p ≡ true → text_stops depth cs ≡ false) → IsHalt bs at depth p at
trailing_halt bs at depth Trailing cs h s e = record {
  front = [];
  back = cs;
  fits = h.fits;
  text = h.text;
  size = sym (add-zero at);
  parts = none;
  more = [];
  last = Trailing;
  ends = refl;
  are = refl;
  goes = refl;
  blocked = λ m w k. absurd (go m w k);
}
  where
    go : (m : Place) → Matches Trailing m → Calm depth Trailing m cs → ⊥
    go (in_gap false f q) w k = true≢false (sym k.1 ∙ e refl)
    go (in_gap true f q) w k = w
    go (at_start f) w k = w
    go (in_simple q t) w k = w
    go (in_text q) w k = w
trailing_halt bs at depth Fresh cs h s e = cc
trailing_halt bs at depth Open cs h s e = cc
trailing_halt bs at depth Inside cs h s e = cc
trailing_halt bs at depth Commented cs h s e = cc

pub row_halts : (bs : List ℕ) (start mid depth : ℕ) (p m : Phase) (x : Tree) → IsRow bs start depth p x m mid → start ≤ length bs → (f : Failure) → Halts bs mid depth m f → Halts bs start depth p f
row_halts bs start mid depth p m x r l (Memory e) h = tt
row_halts bs start mid depth p m x r l (At e) h = row_halt bs start mid depth e p m x r h l

pub comma_halts : (bs : List ℕ) (start mid depth : ℕ) (x : Tree) → IsEnded bs start depth x mid → get_or bs mid 0 ≡ 44 → start ≤ length bs → (f : Failure) → Halts bs (mid + 1) depth Fresh f → Halts bs start depth Fresh f
comma_halts bs start mid depth x a b l f h =
    let k : IsFrom bs mid a.row.ahead = record { fits = a.row.fits; text = a.row.here } in
    let r = byte_begins bs mid 44 a.row.ahead (lit< tt) (lit< tt) k b in
    let c = comma_row bs mid depth a.last r.0 (subst (IsFrom bs mid) r.1 k) a.ends in
    row_halts bs start (mid + 1) depth Fresh Fresh (followed x (comma none)) (row_append bs start mid (mid + 1) depth Fresh a.last Fresh x (comma none) a.row c) l f h

pub name_halts : (bs : List ℕ) (at depth end : ℕ) (p : Phase) (q0 last : Reading) (h : Scanned bs at q0 end last) → starts p ≡ Some q0 → is_final last ≡ true → (f : Failure) → NameHalts bs end depth h.inner f → Halts bs at depth p f
name_halts bs at depth end p q0 last h s l (Memory e) k = tt
name_halts bs at depth end p q0 last h s l (At e) k = name_halt bs at depth end p q0 last h s e l k

-- a scan of no bytes is stuck
stuck_go : (q : Reading) (c : ℕ) (cs : List ℕ) (o : Option Reading) → step q c ≡ o → weigh (c ∷ cs) (or_on o 0 (λ p. suc (scan_len p cs))) ≡ 0 → step q c ≡ None
stuck_go q c cs None e z = e
stuck_go q c cs (Some p) e z = let w = weigh-suc c cs (scan_len p cs) in let b = (len_utf8_bounds c).0 in let d = length-encode c in absurd (omega arith)

pub stuck_by : (q : Reading) (bs : List ℕ) (at : ℕ) (cs : List ℕ) → IsFrom bs at cs → scan_len q (drop at bs) ≡ 0 → Stuck q cs
stuck_by q bs at [] h e = tt
stuck_by q bs at (c ∷ cs) h e = stuck_go q c cs (step q c) refl (sym (scan_len-bytes q (c ∷ cs)) ∙ ap (scan_len q) (sym h.text) ∙ e)

pub begins_byte : (bs : List ℕ) (at k : ℕ) (cs : List ℕ) → 0 < k → k < 128 → IsFrom bs at cs → begins k cs ≡ eqb (get_or bs at 0) k
begins_byte bs at k [] l m h = let z : length bs - at ≡ 0 = sym (length-drop at bs) ∙ ap length h.text in let p : length bs ≤ at = omega arith in sym (ap (λ x. eqb x k) (get_or_past bs at 0 p) ∙ ne_eqb 0 k (λ e. omega arith))
begins_byte bs at k (c ∷ cs) l m h = sym (from_begins bs at c cs k m h)

pub no_begins : (bs : List ℕ) (at : ℕ) (cs : List ℕ) → IsFrom bs at cs → (get_or bs at 0 ≡ 47 → ⊥) → begins 47 cs ≡ false
no_begins bs at cs h n = begins_byte bs at 47 cs (lit< tt) (lit< tt) h ∙ ne_eqb (get_or bs at 0) 47 n
