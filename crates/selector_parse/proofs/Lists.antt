-- Complex selectors with commas between them.
use Rattle.std.proofs.Common.{◌≡◌, ℕ, ◌+◌, ◌-◌, ◌<◌, ◌≤◌, true, false, eqb, List, [], ◌∷◌, ◌++◌, length, get_or, drop, Some, refl, ap, sym, ◌∙◌, subst, lit<, arith}
use Rattle.std.specs.Prelude.{◌&&◌}
use Rattle.std.specs.Str.{IsUtf8, IsCharBoundary}
use Rattle.std.proofs.lemmas.Bool.{false≢true}
use Rattle.std.proofs.lemmas.List.{get_or_past, length-drop}
use Rattle.std.proofs.lemmas.Str.{encodes_same}
use Rattle.css_text.specs.Ahead.{byte_len}
use Rattle.css_text.specs.Forms.{begins}
use Rattle.css_text.proofs.Slices.{IsFrom, from_begins, from_boundary, slice_length, byte_len_some}
use Rattle.selector_parse.specs.declared.part.Complex.{Complex}
use Rattle.selector_parse.specs.declared.phase.Phase.{Phase}
use Rattle.selector_parse.specs.declared.phase.Phase.TheVariants.{Fresh}
use Rattle.selector_parse.specs.declared.reading.Gap.TheVariants.{Comments, Spaced, Symbol, One}
use Rattle.selector_parse.specs.declared.reading.Reading.{Reading}
use Rattle.selector_parse.specs.declared.reading.Reading.TheVariants.{Blank}
use Rattle.selector_parse.specs.Reading.{is_final, read, scan_len, scan_last}
use Rattle.selector_parse.specs.Tree.{Tree, none, comma, complex_before}
use Rattle.selector_parse.specs.Phases.{may_end, is_blanks, gap_read, starts}
use Rattle.selector_parse.specs.Machine.{at_start, after_run, blank_list}
use Rattle.selector_parse.specs.Row.{IsRow, IsEnded, list_parts, reads_blanks, is_blank_list, followed}
use Rattle.selector_parse.proofs.Scanned.{Scanned, scanned}
use Rattle.selector_parse.proofs.Moves.{moved, run_last, run_after, starts_open, some_same}
use Rattle.selector_parse.proofs.Rows.{row_append, byte_begins, behind, one_byte}
use Rattle.selector_parse.proofs.Arguments.{ends_comma}
use Rattle.selector_parse.proofs.Trees.{list-push}

-- a comma
pub comma_row : (bs : List ℕ) (mid depth : ℕ) (last : Phase) (cs : List ℕ) → IsFrom bs mid (44 ∷ cs) → may_end last ≡ true → IsRow bs mid depth last (comma none) Fresh (mid + 1)
comma_row bs mid depth last cs h e = let b = behind bs mid 44 cs (lit< tt) h in record {
  ahead = cs;
  fits = b.fits;
  here = b.text;
  text = h.text;
  size = ap (λ n. mid + n) (sym (one_byte 44 [] (lit< tt)));
  are = (e, refl);
  moves = λ m w k. (at_start false, (moved depth m 44 [] (depth, at_start false) (ends_comma depth last m cs e w k), tt, λ f. absurd (false≢true f)));
}

-- a complex selector more
pub ended_append : (bs : List ℕ) (start mid end depth : ℕ) (x y : Tree) → IsEnded bs start depth x mid → get_or bs mid 0 ≡ 44 → IsEnded bs (mid + 1) depth y end → IsEnded bs start depth (followed x (comma y)) end
ended_append bs start mid end depth x y a b c =
    let f : IsFrom bs mid a.row.ahead = record { fits = a.row.fits; text = a.row.here } in
    let r = byte_begins bs mid 44 a.row.ahead (lit< tt) (lit< tt) f b in
    let k = comma_row bs mid depth a.last r.0 (subst (IsFrom bs mid) r.1 f) a.ends in
    record {
      last = c.last;
      row = row_append bs start mid end depth Fresh a.last c.last x (comma y) a.row (row_append bs mid (mid + 1) end depth a.last Fresh c.last (comma none) y k c.row);
      ends = c.ends;
    }

-- after a comma
pub comma_boundary : (bs : List ℕ) (start mid depth : ℕ) (x : Tree) → IsEnded bs start depth x mid → get_or bs mid 0 ≡ 44 → IsCharBoundary bs (mid + 1)
comma_boundary bs start mid depth x a b =
    let f : IsFrom bs mid a.row.ahead = record { fits = a.row.fits; text = a.row.here } in
    let r = byte_begins bs mid 44 a.row.ahead (lit< tt) (lit< tt) f b in
    from_boundary bs (mid + 1) r.0 (behind bs mid 44 r.0 (lit< tt) (subst (IsFrom bs mid) r.1 f))

-- a list isn't empty
pub list-push_ended : (bs : List ℕ) (start depth end : ℕ) (cs : List Complex) (c : Complex) → IsEnded bs start depth (list_parts cs) end → list_parts (cs ++ c ∷ []) ≡ followed (list_parts cs) (comma (complex_before c none))
list-push_ended bs start depth end [] c h = absurd (false≢true (ap may_end h.row.are ∙ h.ends))
list-push_ended bs start depth end (d ∷ cs) c h = list-push d cs c

-- blanks up to a `)`, in characters
blanks_same : (q : Reading) → reads_blanks q ≡ is_blanks (gap_read (Some q))
blanks_same (Blank One) = refl
blanks_same (Blank Comments) = refl
blanks_same (Blank Spaced) = refl
blanks_same (Blank Symbol) = refl
blanks_same q = refl

pub close_begins : (bs : List ℕ) (end : ℕ) (cs : List ℕ) → IsFrom bs end cs → eqb (get_or bs end 0) 41 ≡ begins 41 cs
close_begins bs end [] h = let z : length bs - end ≡ 0 = sym (length-drop end bs) ∙ ap length h.text in let p : length bs ≤ end = omega arith in ap (λ x. eqb x 41) (get_or_past bs end 0 p)
close_begins bs end (c ∷ cs) h = from_begins bs end c cs 41 (lit< tt) h

pub blank_test : (bs : List ℕ) (from : ℕ) (cs : List ℕ) → IsUtf8 bs → IsFrom bs from cs → is_blank_list bs from ≡ blank_list cs
blank_test bs from cs u f =
    let e = from + scan_len (Blank Comments) (drop from bs) in
    let l = scan_last (Blank Comments) (drop from bs) in
    let h = scanned bs from (Blank Comments) e l u (from_boundary bs from cs f) refl refl in
    let same : cs ≡ h.inner ++ h.ahead = encodes_same cs (h.inner ++ h.ahead) (sym f.text ∙ h.front.text) in
    ap (λ x. x && eqb (get_or bs e 0) 41) (blanks_same l) ∙ ap (λ x. is_blanks (gap_read (Some l)) && x) (close_begins bs e h.ahead h.next)
    ∙ ap (λ q. is_blanks (gap_read (Some q)) && begins 41 h.ahead) (sym (ap (scan_last (Blank Comments)) same ∙ run_last h.inner h.ahead l h.reads h.stuck))
    ∙ ap (λ x. is_blanks (gap_read (Some (scan_last (Blank Comments) cs))) && begins 41 x) (sym (ap after_run same ∙ run_after h.inner h.ahead l h.reads h.stuck))

-- a simple selector has some text
pub simple_longer : (bs : List ℕ) (at end : ℕ) (p : Phase) (q0 last : Reading) (h : Scanned bs at q0 end last) → starts p ≡ Some q0 → is_final last ≡ true → at < end
simple_longer bs at end p q0 last h s f = go h.inner (slice_length bs at end h.inner h.slice) h.reads
  where
    go : (t : List ℕ) → at + byte_len t ≡ end → read q0 t ≡ Some last → at < end
    go [] e r = absurd (starts_open p q0 s (ap is_final (some_same q0 last r) ∙ f))
    go (c ∷ cs) e r = let b = byte_len_some c cs in omega arith
