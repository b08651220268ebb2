-- The loop over the pieces of a text.
use Rattle.std.specs.declared.alloc.AllocError.{AllocError}
use Rattle.std.proofs.Common.{IfOk, MatchOption, ◌≡◌, ℕ, ◌+◌, ◌-◌, ◌<◌, ◌≤◌, List, [], ◌∷◌, Option, Some, None, Result, Ok, Err, length, take, drop, refl, ◌∙◌, sym, ap, subst, arith}
use Rattle.std.specs.Str.{chars, IsUtf8, IsCharBoundary}
use Rattle.css_text.specs.declared.lexer.Piece.{Piece as LexPiece}
use Rattle.css_text.specs.declared.lexer.LexFault.{LexFault}
use Rattle.css_text.specs.Pieces.{Unclosed, string, comment, url, cut}
use Rattle.css_text.specs.PieceKinds.{IsOfKind, AreOfKinds}
use Rattle.css_text.specs.Ahead.{Ahead, ahead, behind, unclosed_at, next_of, rest_of, byte_len, begins_bom, bom_len, without_bom, pieces}
use Rattle.css_text.proofs.PieceKinds.{cut_kinds}
use Rattle.css_text.proofs.Slices.{IsSlice, from_boundary, slice_chars, byte_len_some}
use Rattle.css_text.proofs.Reader.{Next, at_next, at_end, at_fault}
use Rattle.css_text.proofs.Start.{start_view}
use Rattle.css_text.proofs.ReaderStart.{at_start}
use Rattle.css_tree.proofs.Reader.{outcome}
use Rattle.css_tree.specs.Pieces.{Lexeme, shape, shape_of, located, pieces_of, end_of, last_end}
use Rattle.css_tree.specs.Fault.{Fault, lexical_at, lexical_fault}
use Rattle.css_tree.proofs.Formed.{FormedBy, AllFormed, cut-formed}
use Rattle.css_parse.specs.Machine.{Machine, answer, faulty, start, IsReady}
use Rattle.css_text.specs.declared.stop.Stop.{Stop}
use Rattle.css_text.specs.declared.stop.Stop.TheVariants as StopOf
use Rattle.node_rows.specs.declared.node_list.NodeAt.{NodeAt}
use Rattle.css_parse.specs.declared.parser.Parser.{Parser}
use Rattle.css_text.specs.Shared.{IsPart}
use Rattle.css_parse.specs.Standing.{sheet, Stand}
use Rattle.css_parse.specs.Model.{model, IsUpTo, IsNext, IsSmall, Advances, IsStop, IsEnd}
use Rattle.css_parse.proofs.Standing.{part-empty}
use Rattle.css_parse.specs.Reading.{whole, IsRead}
use Rattle.css_parse.specs.Going.{Reading, Going}
use Rattle.css_parse.specs.Lexical.{found_of}

pub at_begin : (bs : List ℕ) (lexer : Ahead) (m : Machine) → IsUtf8 bs → lexer ≡ pieces (chars bs) → m ≡ start (begins_bom (chars bs)) (byte_len (chars bs)) → Reading (chars bs) bs lexer m (bom_len (chars bs))
unfolding pieces_of lexical_fault
at_begin bs lexer m u e h =
    let b = at_start bs lexer u e in
    let c = cut (without_bom (chars bs)) in
    subst (λ z. Reading (chars bs) bs lexer z (bom_len (chars bs))) (sym h) (record {
      tokens = c.tokens;
      rest = b.rest;
      fault = c.fault;
      is_at = b.at;
      ready = record { known = omega arith; known_outer = tt; idle = λ _. refl; begun = tt };
      small = omega arith;
      kinds = cut_kinds (without_bom (chars bs));
      formed = cut-formed (without_bom (chars bs)) (bom_len (chars bs));
      same = refl;
    })

-- the piece with its characters
abbrev pub seen : List ℕ → LexPiece → Lexeme
seen bs p = record { kind = p.kind; at = p.span.start; text = chars (take (p.span.end - p.span.start) (drop p.span.start bs)) }

-- what is known of the piece that comes next
pub record Taken (s bs : List ℕ) (lexer : Ahead) (m : Machine) (at : ℕ) (p : LexPiece) : Type 0 where
  pub begins : at ≡ (seen bs p).at
  pub slice : IsSlice bs (seen bs p).at (end_of (seen bs p)) (seen bs p).text
  pub some : p.span.start < p.span.end
  pub low : IsCharBoundary bs p.span.start
  pub high : IsCharBoundary bs p.span.end
  pub kind : IsOfKind p.kind (seen bs p).text
  pub formed : FormedBy (shape_of p.kind (seen bs p).text) (seen bs p).text
  pub ready : IsReady m
  pub small : IsSmall m (seen bs p).at
  pub longer : (seen bs p).at < end_of (seen bs p)
  pub within : end_of (seen bs p) ≤ length bs
  pub ends : end_of (seen bs p) ≡ p.span.end
  pub on : (n : Machine) → IsReady n → IsSmall n (end_of (seen bs p)) → Advances m (seen bs p) n → Reading s bs (record { pieces = rest_of lexer.pieces; fault = lexer.fault }) n (end_of (seen bs p))
  pub stop : (f : Fault) → ((ps : List Lexeme) (lex : Option Fault) → answer m (seen bs p ∷ ps) lex ≡ faulty f) → whole s ≡ faulty f

taken_by : (s bs : List ℕ) (lexer : Ahead) (m : Machine) (at : ℕ) (p : LexPiece) (h : Reading s bs lexer m at) → IsUtf8 bs → Next bs at h.tokens h.rest h.fault lexer p → Taken s bs lexer m at p
unfolding shape
taken_by s bs lexer m at p h u x =
    let t = x.token in
    let q : Lexeme = record { kind = t.kind; at = at; text = t.text } in
    let text : chars (take (p.span.end - p.span.start) (drop p.span.start bs)) ≡ t.text = slice_chars bs p.span.start p.span.end t.text u x.slice in
    let is : seen bs p ≡ q = ap (λ z. record { kind = z.kind; at = z.span.start; text = chars (take (p.span.end - p.span.start) (drop p.span.start bs)) }) x.is ∙ ap (λ z. record { kind = t.kind; at = at; text = z }) text in
    let k = subst AreOfKinds x.are h.kinds in
    let f = subst (λ z. AllFormed (located at z)) x.are h.formed in
    let same : whole s ≡ answer m (q ∷ located (end_of q) x.others) (lexical_at (last_end (end_of q) (located (end_of q) x.others)) h.fault) =
    subst (λ z. whole s ≡ answer m (located at z) (lexical_at (last_end at (located at z)) h.fault)) x.are h.same in
    let end : p.span.end ≡ end_of q = ap (λ z. z.span.end) x.is in
    let begin : p.span.start ≡ at = ap (λ z. z.span.start) x.is in
    let long : at < end_of q = some_bytes at t.text k.0 in
    let slice : IsSlice bs at (end_of q) t.text = subst (λ z. IsSlice bs at z t.text) end (subst (λ z. IsSlice bs z p.span.end t.text) begin x.slice) in
    record {
      begins = sym begin;
      slice = subst (λ z. IsSlice bs z.at (end_of z) z.text) (sym is) slice;
      some = omega (arith, begin, end, long);
      low = x.slice.low;
      high = x.slice.high;
      kind = subst (λ z. IsOfKind z.kind z.text) (sym is) k.1;
      formed = subst (λ z. FormedBy (shape_of z.kind z.text) z.text) (sym is) f.0;
      ready = h.ready;
      small = subst (λ z. IsSmall m z) (sym begin) h.small;
      longer = subst (λ z. z.at < end_of z) (sym is) long;
      within = subst (λ z. z ≤ length bs) (end ∙ sym (ap end_of is)) x.slice.fits;
      ends = sym (end ∙ sym (ap end_of is));
      on = λ n r l a. subst (Reading s bs (record { pieces = rest_of lexer.pieces; fault = lexer.fault }) n) (end ∙ sym (ap end_of is)) (record {
        tokens = x.others;
        rest = h.rest;
        fault = h.fault;
        is_at = x.next;
        ready = r;
        small = subst (λ z. IsSmall n z) (ap end_of is ∙ sym end) l;
        kinds = k.2;
        formed = subst (λ z. AllFormed (located z x.others)) (sym end) f.2;
        same = subst (λ z. whole s ≡ answer n (located z x.others) (lexical_at (last_end z (located z x.others)) h.fault)) (sym end)
            (same ∙ subst (λ z. answer m (z ∷ located (end_of q) x.others) (lexical_at (last_end (end_of q) (located (end_of q) x.others)) h.fault) ≡ answer n (located (end_of q) x.others) (lexical_at (last_end (end_of q) (located (end_of q) x.others)) h.fault)) is (a _ _));
      });
      stop = λ g a. same ∙ subst (λ z. answer m (z ∷ located (end_of q) x.others) (lexical_at (last_end (end_of q) (located (end_of q) x.others)) h.fault) ≡ faulty g) is (a _ _);
    }
  where
    some_bytes : (at : ℕ) (t : List ℕ) → 0 < length t → at < at + byte_len t
    some_bytes at [] l = absurd (omega arith)
    some_bytes at (c ∷ cs) l = omega (arith, byte_len_some c cs)

pub taken : (s bs : List ℕ) (lexer : Ahead) (m : Machine) (at : ℕ) (p : LexPiece) → IsUtf8 bs → Reading s bs lexer m at → next_of lexer.pieces lexer.fault ≡ Ok (Some p) → Taken s bs lexer m at p
taken s bs lexer m at p u h e = taken_by s bs lexer m at p h u (at_next bs at h.tokens h.rest h.fault lexer p h.is_at e)

-- a text with so many bytes has no more nodes and pieces in progress
pub small-within : (s bs : List ℕ) (lexer : Ahead) (m : Machine) (at : ℕ) → Reading s bs lexer m at → length bs ≤ 67108864 → IsSmall m 67108864
small-within s bs lexer m at h short = omega (arith, h.small, h.is_at.here.fits, short)

-- behind the last piece
pub ended : (s bs : List ℕ) (lexer : Ahead) (m : Machine) (at : ℕ) → Reading s bs lexer m at → next_of lexer.pieces lexer.fault ≡ Ok None → whole s ≡ answer m [] None
ended s bs lexer m at h e =
    let x = at_end bs at h.tokens h.rest h.fault lexer h.is_at e in
    h.same ∙ (ap (λ z. answer m (located at z) (lexical_at (last_end at (located at z)) h.fault)) x.0 ∙ ap (λ z. answer m [] (lexical_at at z)) x.1)

lex-answer : (m : Machine) (f : Fault) → answer m [] (Some f) ≡ faulty f
unfolding answer outcome
lex-answer m f = refl

found-is : (at : ℕ) (u : Unclosed) → lexical_at at (Some u) ≡ Some (found_of (unclosed_at at u))
found-is at string = refl
found-is at comment = refl
found-is at url = refl

pub record Broken (s bs : List ℕ) (x : LexFault) : Type 0 where
  pub within : (found_of x).at ≤ length bs
  pub answers : whole s ≡ faulty (found_of x)

found-at : (at : ℕ) (u : Unclosed) → (found_of (unclosed_at at u)).at ≡ at
found-at at string = refl
found-at at comment = refl
found-at at url = refl

pub broken : (s bs : List ℕ) (lexer : Ahead) (m : Machine) (at : ℕ) (x : LexFault) → Reading s bs lexer m at → next_of lexer.pieces lexer.fault ≡ Err x → Broken s bs x
broken s bs lexer m at x h e =
    let k = at_fault bs at h.tokens h.rest h.fault lexer x h.is_at e in
    record {
      within = subst (λ z. (found_of z).at ≤ length bs) (sym k.3) (subst (λ z. z ≤ length bs) (sym (found-at at k.0)) h.is_at.here.fits);
      answers = h.same ∙ (ap (λ z. answer m (located at z) (lexical_at (last_end at (located at z)) h.fault)) k.1
          ∙ (ap (λ z. answer m [] (lexical_at at z)) k.2 ∙ (ap (λ z. answer m [] z) (found-is at k.0) ∙ (lex-answer m (found_of (unclosed_at at k.0)) ∙ ap (λ z. faulty (found_of z)) (sym k.3)))));
    }

pub read_end : (r : Result (List NodeAt) (Stop Fault)) (s : List ℕ) (m : Machine) → whole s ≡ answer m [] None → IsEnd r m → IsRead r s
read_end (Ok v) s m e h = e ∙ h
read_end (Err (StopOf.Fault f)) s m e h = e ∙ h
read_end (Err (StopOf.Memory x)) s m e h = tt

pub read_stop : (x : Stop Fault) (s : List ℕ) (m : Machine) (p : Lexeme) → ((f : Fault) → ((ps : List Lexeme) (lex : Option Fault) → answer m (p ∷ ps) lex ≡ faulty f) → whole s ≡ faulty f) → IsStop x m p → IsRead (Err x) s
read_stop (StopOf.Fault f) s m p e h = e f h
read_stop (StopOf.Memory x) s m p e h = tt

bom-boundary : (bs : List ℕ) → IsUtf8 bs → IsCharBoundary bs (bom_len (chars bs))
bom-boundary bs u = let b = at_start bs (pieces (chars bs)) u refl in from_boundary bs (bom_len (chars bs)) _ b.at.here

-- before the first piece
pub going : (bs : List ℕ) (p : Parser) → IsUtf8 bs → length bs ≤ 67108864 → model p ≡ start (begins_bom (chars bs)) (byte_len (chars bs))
    → sheet p.texts ≡ bs → p.gap.end ≡ bom_len (chars bs) → p.gap.start ≡ p.gap.end → p.run ≡ [] → Going (chars bs) bs (bom_len (chars bs)) p
going bs p u l m t g h r = record {
  reading = at_begin bs (ahead (bom_len (chars bs)) (drop (bom_len (chars bs)) bs)) (model p) u (start_view bs u) m;
  up_to = record {
    same = t;
    behind = record {
      is_sheet = record { utf8 = u; short = l };
      gap = subst (λ z. IsPart bs z p.gap.end) (sym h) (part-empty bs p.gap.end (subst (IsCharBoundary bs) (sym g) (bom-boundary bs u)));
      stand = subst (Stand bs p.gap.end) (sym r) tt;
    };
    end = ap (last_end p.gap.end) r ∙ g;
  };
}

-- the piece that comes next stands behind what the parser keeps
pub next-piece : (s bs : List ℕ) (at : ℕ) (p : Parser) (q : LexPiece) (g : Going s bs at p) → Taken s bs (ahead at (drop at bs)) (model p) at q → IsNext (sheet p.texts) p (seen bs q)
next-piece s bs at p q g t =
    let at : IsUpTo bs p (seen bs q).at = subst (IsUpTo bs p) t.begins g.up_to in
    let next : IsNext bs p (seen bs q) = record { up_to = at; slice = t.slice } in
    subst (λ z. IsNext z p (seen bs q)) (sym at.same) next

-- behind it
pub going-on : (s bs : List ℕ) (at : ℕ) (p n : Parser) (q : LexPiece) → Taken s bs (ahead at (drop at bs)) (model p) at q → ahead q.span.end (drop q.span.end bs) ≡ behind (ahead at (drop at bs))
    → IsReady (model n) → IsSmall (model n) (end_of (seen bs q)) → Advances (model p) (seen bs q) (model n) → IsUpTo bs n (end_of (seen bs q)) → Going s bs q.span.end n
going-on s bs at p n q t e r l a u = record {
  reading = subst (λ z. Reading s bs z (model n) q.span.end) (sym e) (subst (Reading s bs (behind (ahead at (drop at bs))) (model n)) t.ends (t.on (model n) r l a));
  up_to = subst (IsUpTo bs n) t.ends u;
}

-- where no plain statement was taken, the parser is as it was
pub still : (bs : List ℕ) (at : ℕ) (p n : Parser) (r : Result (Option ℕ) AllocError) → r ≡ Ok None → IfOk r (λ r. MatchOption r (n ≡ p) (λ next. (at < next) × (next ≤ length bs) × Going (chars bs) bs next n)) → n ≡ p
still bs at p n r e h = subst (λ r. IfOk r (λ r. MatchOption r (n ≡ p) (λ next. (at < next) × (next ≤ length bs) × Going (chars bs) bs next n))) e h
