-- Arguments, by the bytes around them.
use Rattle.std.proofs.Common.{◌≡◌, ℕ, ◌+◌, ◌-◌, ◌<◌, ◌≤◌, true, eqb, List, [], ◌∷◌, length, get_or, take, drop, ap, sym, ◌∙◌, subst, lit<, arith}
use Rattle.std.specs.Prelude.{◌&&◌}
use Rattle.std.specs.Str.{chars, IsUtf8, IsCharBoundary}
use Rattle.std.proofs.lemmas.Bool.{and_parts, eqb-true}
use Rattle.std.proofs.lemmas.List.{get_or_past, length-drop}
use Rattle.std.proofs.lemmas.Str.{encodes-chars, IsUtf8-between}
use Rattle.css_text.specs.Forms.{begins}
use Rattle.css_text.proofs.Slices.{IsFrom, IsSlice, from_begins, from_boundary, slice_begins, slice_length}
use Rattle.selector_parse.specs.Names.{takes_args, takes_list}
use Rattle.selector_parse.proofs.KindBytes.{list-bytes}
use Rattle.selector_parse.proofs.Scanned.{ahead_of}
use Rattle.selector_parse.proofs.Rows.{byte_begins, behind}

module _ (bs : List ℕ) (at end : ℕ) (u : IsUtf8 bs) (l : at < end) (a : IsCharBoundary bs at) (b : IsCharBoundary bs end) where
  name : List ℕ
  name = chars (take (end - at) (drop at bs))

  pub name_slice : IsSlice bs at end (chars (take (end - at) (drop at bs)))
  name_slice = record { order = omega arith; fits = b.0; low = a; high = b; bytes = sym (encodes-chars (take (end - at) (drop at bs)) (IsUtf8-between bs at end u (omega arith) a b)) }

  pub list_test : takes_list (take (end - at) (drop at bs)) ≡ takes_list (chars (take (end - at) (drop at bs)))
  list_test = ap takes_list name_slice.bytes ∙ list-bytes (chars (take (end - at) (drop at bs)))

name_begins : (bs : List ℕ) (at end : ℕ) (t : List ℕ) → at < end → IsSlice bs at end t → takes_args t ≡ eqb (get_or bs at 0) 58
name_begins bs at end [] l h = absurd (omega (arith, slice_length bs at end [] h))
name_begins bs at end (c ∷ cs) l h = sym (slice_begins bs at end c cs 58 (lit< tt) h)

paren_begins : (bs : List ℕ) (end : ℕ) (cs : List ℕ) → IsFrom bs end cs → begins 40 cs ≡ eqb (get_or bs end 0) 40
paren_begins bs end [] h = let z : length bs - end ≡ 0 = sym (length-drop end bs) ∙ ap length h.text in let p : length bs ≤ end = omega arith in sym (ap (λ x. eqb x 40) (get_or_past bs end 0 p))
paren_begins bs end (c ∷ cs) h = sym (from_begins bs end c cs 40 (lit< tt) h)

pub args_test : (bs : List ℕ) (at end : ℕ) (t cs : List ℕ) → at < end → IsSlice bs at end t → IsFrom bs end cs → (takes_args t && begins 40 cs) ≡ (eqb (get_or bs at 0) 58 && eqb (get_or bs end 0) 40)
args_test bs at end t cs l h f = ap (λ x. x && begins 40 cs) (name_begins bs at end t l h) ∙ ap (λ x. eqb (get_or bs at 0) 58 && x) (paren_begins bs end cs f)

-- after a `(`
pub record Opened (bs : List ℕ) (at end : ℕ) (t : List ℕ) : Type 0 where
  pub rest : List ℕ
  pub here : IsFrom bs end (40 ∷ rest)
  pub high : IsCharBoundary bs (end + 1)
  pub args : takes_args t ≡ true

pub opened : (bs : List ℕ) (at end : ℕ) (t : List ℕ) → IsUtf8 bs → at < end → IsSlice bs at end t → (eqb (get_or bs at 0) 58 && eqb (get_or bs end 0) 40) ≡ true → Opened bs at end t
opened bs at end t u l h e =
    let p = and_parts (eqb (get_or bs at 0) 58) (eqb (get_or bs end 0) 40) e in
    let f = ahead_of bs end u h.high in
    let r = byte_begins bs end 40 f.0 (lit< tt) (lit< tt) f.1 (eqb-true (get_or bs end 0) 40 p.1) in
    let here : IsFrom bs end (40 ∷ r.0) = subst (IsFrom bs end) r.1 f.1 in
    record { rest = r.0; here = here; high = from_boundary bs (end + 1) r.0 (behind bs end 40 r.0 (lit< tt) here); args = name_begins bs at end t l h ∙ p.0 }
