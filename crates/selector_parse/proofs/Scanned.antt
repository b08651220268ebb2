-- What a scan has read, in characters.
use Rattle.std.proofs.Common.{◌≡◌, ℕ, suc, ◌+◌, List, [], ◌∷◌, ◌++◌, take, drop, Option, Some, None, refl, ap, sym, ◌∙◌, subst}
use Rattle.std.specs.Str.{chars, IsUtf8, IsCharBoundary}
use lib.Utf8.{encodes}
use Rattle.std.proofs.lemmas.List.{take-append-drop}
use Rattle.std.proofs.lemmas.Str.{encodes-chars, IsUtf8-drop}
use Rattle.css_text.specs.Ahead.{byte_len}
use Rattle.css_text.proofs.Slices.{IsFrom, IsSlice, from_front, from_back}
use Rattle.css_text.proofs.Transport.{length-bytes}
use Rattle.selector_parse.specs.declared.reading.Reading.{Reading}
use Rattle.selector_parse.specs.Reading.{step, on, or_on, read, scan_len, scan_last}
use Rattle.selector_parse.specs.Machine.{Stuck}
use Rattle.selector_parse.proofs.Bytes.{scan_len-bytes, scan_last-bytes}

-- a reading at a place, as far as it goes
pub record Scanned (bs : List ℕ) (at : ℕ) (q : Reading) (end : ℕ) (last : Reading) : Type 0 where
  pub inner : List ℕ
  pub ahead : List ℕ
  pub front : IsFrom bs at (inner ++ ahead)
  pub next : IsFrom bs end ahead
  pub slice : IsSlice bs at end inner
  pub reads : read q inner ≡ Some last
  pub stuck : Stuck last ahead

-- the characters from a place on
pub ahead_of : (bs : List ℕ) (at : ℕ) → IsUtf8 bs → IsCharBoundary bs at → (cs : List ℕ) × IsFrom bs at cs
ahead_of bs at u b = (chars (drop at bs), record { fits = b.0; text = sym (encodes-chars (drop at bs) (IsUtf8-drop bs at u b)) })

read_step : (q : Reading) (c : ℕ) (cs : List ℕ) (o : Option Reading) → step q c ≡ o → ((p : Reading) → read p (take (scan_len p cs) cs) ≡ Some (scan_last p cs))
    → read q (take (or_on o 0 (λ p. suc (scan_len p cs))) (c ∷ cs)) ≡ Some (or_on o q (λ p. scan_last p cs))
read_step q c cs None e ih = refl
read_step q c cs (Some p) e ih = ap (λ o. on o (λ r. read r (take (scan_len p cs) cs))) e ∙ ih p

stuck_step : (q : Reading) (c : ℕ) (cs : List ℕ) (o : Option Reading) → step q c ≡ o → ((p : Reading) → Stuck (scan_last p cs) (drop (scan_len p cs) cs))
    → Stuck (or_on o q (λ p. scan_last p cs)) (drop (or_on o 0 (λ p. suc (scan_len p cs))) (c ∷ cs))
stuck_step q c cs None e ih = e
stuck_step q c cs (Some p) e ih = ih p

pub read_scan : (cs : List ℕ) (q : Reading) → read q (take (scan_len q cs) cs) ≡ Some (scan_last q cs)
read_scan [] q = refl
read_scan (c ∷ cs) q = read_step q c cs (step q c) refl (read_scan cs)

pub stuck_scan : (cs : List ℕ) (q : Reading) → Stuck (scan_last q cs) (drop (scan_len q cs) cs)
stuck_scan [] q = tt
stuck_scan (c ∷ cs) q = stuck_step q c cs (step q c) refl (stuck_scan cs)

scanned_at : (bs : List ℕ) (at : ℕ) (q : Reading) (cs : List ℕ) → IsFrom bs at cs → Scanned bs at q (at + byte_len (take (scan_len q cs) cs)) (scan_last q cs)
scanned_at bs at q cs h =
    let n = scan_len q cs in
    let whole : take n cs ++ drop n cs ≡ cs = take-append-drop n cs in
    let front : IsFrom bs at (take n cs ++ drop n cs) = subst (IsFrom bs at) (sym whole) h in
    record {
      inner = take n cs;
      ahead = drop n cs;
      front = front;
      next = from_back bs at (take n cs) (drop n cs) front;
      slice = from_front bs at (take n cs) (drop n cs) front;
      reads = read_scan cs q;
      stuck = stuck_scan cs q;
    }

end_is : (at : ℕ) (q : Reading) (ds cs : List ℕ) → ds ≡ encodes cs → at + scan_len q ds ≡ at + byte_len (take (scan_len q cs) cs)
end_is at q ds cs e = ap (λ s. at + scan_len q s) e ∙ ap (λ n. at + n) (scan_len-bytes q cs ∙ length-bytes (take (scan_len q cs) cs))

pub scanned : (bs : List ℕ) (at : ℕ) (q : Reading) (end : ℕ) (last : Reading) → IsUtf8 bs → IsCharBoundary bs at → end ≡ at + scan_len q (drop at bs) → last ≡ scan_last q (drop at bs) → Scanned bs at q end last
scanned bs at q end last u b e f =
    let h = ahead_of bs at u b in
    let e2 : at + byte_len (take (scan_len q h.0) h.0) ≡ end = sym (e ∙ end_is at q (drop at bs) h.0 h.1.text) in
    let f2 : scan_last q h.0 ≡ last = sym (f ∙ ap (scan_last q) h.1.text ∙ scan_last-bytes q h.0) in
    subst (λ r. Scanned bs at q end r) f2 (subst (λ n. Scanned bs at q n (scan_last q h.0)) e2 (scanned_at bs at q h.0 h.1))

-- the same by a slice of the bytes
pub scanned_by : (bs xs : List ℕ) (at : ℕ) (q : Reading) (end : ℕ) (last : Reading) → xs ≡ bs → IsUtf8 bs → IsCharBoundary bs at → end ≡ at + scan_len q (drop at xs) → last ≡ scan_last q (drop at xs) → Scanned bs at q end last
scanned_by bs xs at q end last s u b e f = scanned bs at q end last u b (e ∙ ap (λ x. at + scan_len q (drop at x)) s) (f ∙ ap (λ x. scan_last q (drop at x)) s)
