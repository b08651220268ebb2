-- Pieces that stand side by side in a sheet: its parts and their characters.
use Rattle.std.proofs.Common.{◌≡◌, ℕ, zero, suc, ◌+◌, ◌-◌, ◌<◌, ◌≤◌, List, [], ◌∷◌, ◌++◌, length, take, drop, get_or, refl, ap, sym, ◌∙◌, subst, zero-le, arith, append_assoc, take-append-drop}
use Rattle.std.specs.Str.{chars, IsUtf8, IsCharBoundary}
use lib.Utf8.{encodes}
use Rattle.std.proofs.lemmas.Str.{encodes-chars, encodes-append, chars-nil, IsUtf8-between, IsUtf8-drop}
use Rattle.std.proofs.lemmas.List.{drop-drop}
use Rattle.css_text.specs.Ahead.{byte_len}
use Rattle.css_text.specs.Shared.{part, IsPart}
use Rattle.css_text.proofs.Slices.{IsFrom, IsSlice, boundary, byte_len-append, from_front, from_back, slice_append, slice_chars, slice_empty, slice_length}
use Rattle.css_tree.specs.Pieces.{Lexeme, join, end_of, last_end}
use Rattle.css_tree.proofs.Printed.{join-cons, join-nil}
use Rattle.css_parse.specs.declared.gap.Gap.{Gap}
use Rattle.css_parse.specs.Standing.{Stand, AreParts, gap_text, IsBehind}

-- Slices.

pub slice-part : (bs : List ℕ) (a b : ℕ) (cs : List ℕ) → IsSlice bs a b cs → IsPart bs a b
slice-part bs a b cs h = record { order = h.order; begins = h.low; ends = h.high }

pub part-slice : (bs : List ℕ) (a b : ℕ) → IsUtf8 bs → IsPart bs a b → IsSlice bs a b (chars (part bs a b))
part-slice bs a b u p =
    record {
      order = p.order;
      fits = p.ends.0;
      low = p.begins;
      high = p.ends;
      bytes = sym (encodes-chars (part bs a b) (IsUtf8-between bs a b u p.order p.begins p.ends));
    }

-- an empty part
pub part-empty : (bs : List ℕ) (a : ℕ) → IsCharBoundary bs a → IsPart bs a a
part-empty bs a h = record { order = omega arith; begins = h; ends = h }

pub start-empty : (cs : List ℕ) → IsPart (encodes cs) 0 0
start-empty cs = part-empty (encodes cs) 0 (boundary (encodes cs) cs 0 zero-le refl)

none : (a : ℕ) → a - a ≡ 0
none a = omega arith

pub chars-empty : (bs : List ℕ) (a : ℕ) → chars (part bs a a) ≡ []
chars-empty bs a = ap (λ n. chars (take n (drop a bs))) (none a) ∙ chars-nil

back : (a b : ℕ) → a ≤ b → a + (b - a) ≡ b
back a b h = omega arith

-- what the text has from a slice on
slice-from : (bs : List ℕ) (a b : ℕ) (cs : List ℕ) → IsUtf8 bs → IsSlice bs a b cs → IsFrom bs a (cs ++ chars (drop b bs))
slice-from bs a b cs u h =
    let rest : drop (b - a) (drop a bs) ≡ encodes (chars (drop b bs)) = drop-drop (b - a) a bs ∙ (ap (λ k. drop k bs) (back a b h.order) ∙ sym (encodes-chars (drop b bs) (IsUtf8-drop bs b u h.high))) in
    record {
      fits = h.low.0;
      text = sym (take-append-drop (b - a) (drop a bs)) ∙ (ap (λ z. z ++ drop (b - a) (drop a bs)) h.bytes ∙ (ap (λ z. encodes cs ++ z) rest ∙ sym (encodes-append cs (chars (drop b bs)))));
    }

-- a slice in two
pub record IsCutIn (bs : List ℕ) (a m b : ℕ) (xs ys : List ℕ) : Type 0 where
  pub front : IsSlice bs a m xs
  pub back : IsSlice bs m b ys

pub cut-in : (bs : List ℕ) (a b n : ℕ) (cs xs ys : List ℕ) → IsUtf8 bs → IsSlice bs a b cs → cs ≡ xs ++ ys → byte_len xs ≡ n → IsCutIn bs a (a + n) b xs ys
cut-in bs a b n cs xs ys u h e k =
    let rest = chars (drop b bs) in
    let all : cs ++ rest ≡ xs ++ (ys ++ rest) = ap (λ z. z ++ rest) e ∙ append_assoc xs ys rest in
    let f : IsFrom bs a (xs ++ (ys ++ rest)) = subst (IsFrom bs a) all (slice-from bs a b cs u h) in
    let size : a + byte_len cs ≡ b = slice_length bs a b cs h in
    let end : a + byte_len xs + byte_len ys ≡ b = omega (arith, size, ap byte_len e, byte_len-append xs ys) in
    let both : IsCutIn bs a (a + byte_len xs) b xs ys = record {
      front = from_front bs a xs (ys ++ rest) f;
      back = subst (λ z. IsSlice bs (a + byte_len xs) z ys) end (from_front bs (a + byte_len xs) ys rest (from_back bs a xs (ys ++ rest) f));
    } in
    subst (λ z. IsCutIn bs a (a + z) b xs ys) k both

-- Pieces.

pub stand-take : (bs : List ℕ) (n at : ℕ) (ps : List Lexeme) → Stand bs at ps → Stand bs at (take n ps)
stand-take bs zero at ps h = tt
stand-take bs (suc n) at [] h = tt
stand-take bs (suc n) at (p ∷ ps) h = (h.0, h.1, stand-take bs n (end_of p) ps h.2)

pub stand-drop : (bs : List ℕ) (n at : ℕ) (ps : List Lexeme) → Stand bs at ps → Stand bs (last_end at (take n ps)) (drop n ps)
stand-drop bs zero at ps h = h
stand-drop bs (suc n) at [] h = tt
stand-drop bs (suc n) at (p ∷ ps) h = stand-drop bs n (end_of p) ps h.2

pub stand-snoc : (bs : List ℕ) (at : ℕ) (ps : List Lexeme) (q : Lexeme) → Stand bs at ps → q.at ≡ last_end at ps → IsSlice bs q.at (end_of q) q.text → Stand bs at (ps ++ q ∷ [])
stand-snoc bs at [] q h e s = (e, s, tt)
stand-snoc bs at (p ∷ ps) q h e s = (h.0, h.1, stand-snoc bs (end_of p) ps q h.2 e s)

pub end-snoc : (at : ℕ) (ps : List Lexeme) (q : Lexeme) → last_end at (ps ++ q ∷ []) ≡ end_of q
end-snoc at [] q = refl
end-snoc at (p ∷ ps) q = end-snoc (end_of p) ps q

pub stand-back : (bs : List ℕ) (at : ℕ) (xs ys : List Lexeme) → Stand bs at (xs ++ ys) → Stand bs (last_end at xs) ys
stand-back bs at [] ys h = h
stand-back bs at (x ∷ xs) ys h = stand-back bs (end_of x) xs ys h.2

pub stand-front : (bs : List ℕ) (at : ℕ) (xs ys : List Lexeme) → Stand bs at (xs ++ ys) → Stand bs at xs
stand-front bs at [] ys h = tt
stand-front bs at (x ∷ xs) ys h = (h.0, h.1, stand-front bs (end_of x) xs ys h.2)

pub end-both : (at : ℕ) (xs ys : List Lexeme) → last_end at (xs ++ ys) ≡ last_end (last_end at xs) ys
end-both at [] ys = refl
end-both at (x ∷ xs) ys = end-both (end_of x) xs ys

-- pieces that stand side by side are a slice with their text
pub stand-slice : (bs : List ℕ) (at : ℕ) (ps : List Lexeme) → IsCharBoundary bs at → Stand bs at ps → IsSlice bs at (last_end at ps) (join ps)
stand-slice bs at [] b h = subst (IsSlice bs at at) (sym join-nil) (slice_empty bs at b)
stand-slice bs at (p ∷ ps) b h =
    let x : IsSlice bs at (end_of p) p.text = subst (λ z. IsSlice bs z (end_of p) p.text) h.0 h.1 in
    subst (IsSlice bs at (last_end (end_of p) ps)) (sym (join-cons p ps)) (slice_append bs at (end_of p) (last_end (end_of p) ps) p.text (join ps) x (stand-slice bs (end_of p) ps x.high h.2))

pub some-slice : (bs : List ℕ) (at : ℕ) (p : Lexeme) (ps : List Lexeme) → Stand bs at (p ∷ ps) → IsSlice bs p.at (last_end (end_of p) ps) (join (p ∷ ps))
some-slice bs at p ps h = stand-slice bs p.at (p ∷ ps) h.1.low (refl, h.1, h.2)

low-at : (bs : List ℕ) (at : ℕ) (xs : List Lexeme) (y : Lexeme) (ys : List Lexeme) → Stand bs at (xs ++ y ∷ ys) → IsCharBoundary bs at
low-at bs at [] y ys h = subst (IsCharBoundary bs) h.0 h.1.low
low-at bs at (x ∷ xs) y ys h = subst (IsCharBoundary bs) h.0 h.1.low

-- pieces of which one is cut within
pub cut-pieces : (bs : List ℕ) (at n : ℕ) (xs : List Lexeme) (w : Lexeme) (zs : List Lexeme) (front back : List ℕ) → IsUtf8 bs → Stand bs at (xs ++ w ∷ zs) → w.text ≡ front ++ back → byte_len front ≡ n
    → IsCutIn bs at (w.at + n) (last_end at (xs ++ w ∷ zs)) (join xs ++ front) (back ++ join zs)
cut-pieces bs at n xs w zs front back u h e k =
    let t = stand-back bs at xs (w ∷ zs) h in
    let c = cut-in bs w.at (end_of w) n w.text front back u t.1 e k in
    let f : IsSlice bs at w.at (join xs) = subst (λ z. IsSlice bs at z (join xs)) (sym t.0) (stand-slice bs at xs (low-at bs at xs w zs h) (stand-front bs at xs (w ∷ zs) h)) in
    record {
      front = slice_append bs at w.at (w.at + n) (join xs) front f c.front;
      back = subst (λ z. IsSlice bs (w.at + n) z (back ++ join zs)) (sym (end-both at xs (w ∷ zs)))
          (slice_append bs (w.at + n) (end_of w) (last_end (end_of w) zs) back (join zs) c.back (stand-slice bs (end_of w) zs t.1.high t.2));
    }

-- one of them and the others
pub head-rest : (ps : List Lexeme) (d : Lexeme) → 0 < length ps → d ≡ get_or ps 0 d → ps ≡ d ∷ drop 1 ps
head-rest [] d l e = absurd (omega arith)
head-rest (p ∷ ps) d l e = ap (λ z. z ∷ ps) (sym e)

-- the first of them
pub first-at : (bs : List ℕ) (at : ℕ) (ps : List Lexeme) (d : Lexeme) → 0 < length ps → Stand bs at ps → (get_or ps 0 d).at ≡ at
first-at bs at [] d l h = absurd (omega arith)
first-at bs at (p ∷ ps) d l h = h.0

-- the byte behind the last of them
pub last-at : (at : ℕ) (ps : List Lexeme) (d : Lexeme) → 0 < length ps → end_of (get_or ps (length ps - 1) d) ≡ last_end at ps
last-at at [] d l = absurd (omega arith)
last-at at (p ∷ []) d l = refl
last-at at (p ∷ q ∷ ps) d l =
    let e : length (p ∷ q ∷ ps) - 1 ≡ suc (length (q ∷ ps) - 1) = omega arith in
    ap (λ n. end_of (get_or (p ∷ q ∷ ps) n d)) e ∙ last-at (end_of p) (q ∷ ps) d (omega arith)

pub end-none : (at : ℕ) (ps : List Lexeme) → length ps < 1 → at ≡ last_end at ps
end-none at [] l = refl
end-none at (p ∷ ps) l = absurd (omega arith)

-- Parts.

pub parts-take : (bs : List ℕ) (n : ℕ) (ps : List Lexeme) → AreParts bs ps → AreParts bs (take n ps)
parts-take bs n ps h = record { is_sheet = h.is_sheet; at = h.at; stand = stand-take bs n h.at ps h.stand }

pub parts-drop : (bs : List ℕ) (n : ℕ) (ps : List Lexeme) → AreParts bs ps → AreParts bs (drop n ps)
parts-drop bs n ps h = record { is_sheet = h.is_sheet; at = last_end h.at (take n ps); stand = stand-drop bs n h.at ps h.stand }

pub parts-between : (bs : List ℕ) (n m : ℕ) (ps : List Lexeme) → AreParts bs ps → AreParts bs (take m (drop n ps))
parts-between bs n m ps h = parts-take bs m (drop n ps) (parts-drop bs n ps h)

pub behind-parts : (bs : List ℕ) (g : Gap) (ps : List Lexeme) → IsBehind bs g ps → AreParts bs ps
behind-parts bs g ps h = record { is_sheet = h.is_sheet; at = g.end; stand = h.stand }

pub rest-parts : (bs : List ℕ) (g : Gap) (p : Lexeme) (ps : List Lexeme) → IsBehind bs g (p ∷ ps) → AreParts bs ps
rest-parts bs g p ps h = record { is_sheet = h.is_sheet; at = end_of p; stand = h.stand.2 }

-- Gaps.

abbrev pub gap : ℕ → ℕ → Gap
gap start end = record { start = start; end = end }

pub gap-text : (bs : List ℕ) (g : Gap) → gap_text bs g ≡ chars (part bs g.start g.end)
unfolding gap_text
gap-text bs g = refl

pub gap-empty : (bs : List ℕ) (at : ℕ) → gap_text bs (gap at at) ≡ []
unfolding gap_text
gap-empty bs at = chars-empty bs at

gap-slice : (bs : List ℕ) (g : Gap) → IsUtf8 bs → IsPart bs g.start g.end → IsSlice bs g.start g.end (gap_text bs g)
unfolding gap_text
gap-slice bs g u h = part-slice bs g.start g.end u h

-- with what stands directly behind it
pub gap-and : (bs : List ℕ) (g : Gap) (end : ℕ) (cs : List ℕ) → IsUtf8 bs → IsPart bs g.start g.end → IsSlice bs g.end end cs → IsPart bs g.start end × (chars (part bs g.start end) ≡ gap_text bs g ++ cs)
gap-and bs g end cs u p s =
    let x = slice_append bs g.start g.end end (gap_text bs g) cs (gap-slice bs g u p) s in
    (slice-part bs g.start end (gap_text bs g ++ cs) x, slice_chars bs g.start end (gap_text bs g ++ cs) u x)

first-slice : (bs : List ℕ) (g : Gap) (p : Lexeme) (ps : List Lexeme) → IsBehind bs g (p ∷ ps) → IsSlice bs g.end (end_of p) p.text
first-slice bs g p ps h = subst (λ z. IsSlice bs z (end_of p) p.text) h.stand.0 h.stand.1

pub gap-more : (bs : List ℕ) (g : Gap) (p : Lexeme) (ps : List Lexeme) → IsBehind bs g (p ∷ ps) → gap_text bs (gap g.start (end_of p)) ≡ gap_text bs g ++ p.text
unfolding gap_text
gap-more bs g p ps h = (gap-and bs g (end_of p) p.text h.is_sheet.utf8 h.gap (first-slice bs g p ps h)).1

pub behind-more : (bs : List ℕ) (g : Gap) (p : Lexeme) (ps : List Lexeme) → IsBehind bs g (p ∷ ps) → IsBehind bs (gap g.start (end_of p)) ps
behind-more bs g p ps h = record { is_sheet = h.is_sheet; gap = (gap-and bs g (end_of p) p.text h.is_sheet.utf8 h.gap (first-slice bs g p ps h)).0; stand = h.stand.2 }

pub behind-empty : (bs : List ℕ) (g : Gap) (p : Lexeme) (ps : List Lexeme) → IsBehind bs g (p ∷ ps) → IsBehind bs (gap (end_of p) (end_of p)) ps
behind-empty bs g p ps h = record { is_sheet = h.is_sheet; gap = part-empty bs (end_of p) h.stand.1.high; stand = h.stand.2 }

pub behind-one : (bs : List ℕ) (g : Gap) (p : Lexeme) (ps : List Lexeme) → IsBehind bs g (p ∷ ps) → IsBehind bs g (p ∷ [])
behind-one bs g p ps h = record { is_sheet = h.is_sheet; gap = h.gap; stand = (h.stand.0, h.stand.1, tt) }

pub behind-front : (bs : List ℕ) (g : Gap) (n : ℕ) (ps : List Lexeme) → IsBehind bs g ps → IsBehind bs g (take n ps)
behind-front bs g n ps h = record { is_sheet = h.is_sheet; gap = h.gap; stand = stand-take bs n g.end ps h.stand }

pub behind-back : (bs : List ℕ) (g : Gap) (n : ℕ) (ps : List Lexeme) → IsBehind bs g ps → IsBehind bs (gap (last_end g.end (take n ps)) (last_end g.end (take n ps))) (drop n ps)
behind-back bs g n ps h = record {
  is_sheet = h.is_sheet;
  gap = part-empty bs (last_end g.end (take n ps)) (stand-slice bs g.end (take n ps) h.gap.ends (stand-take bs n g.end ps h.stand)).high;
  stand = stand-drop bs n g.end ps h.stand;
}
